-- Lemmas about the list of all seats' views when a view is changed or added: which facts about each view remain true,
-- and which view each thread belongs to. A seat is one thread's access to the set; its view is what it knows about the
-- run.
use Rattle.std.proofs.Common.{◌≡◌, ◌≢◌, ⊎_elim, ℕ, zero, suc, ◌<◌, true, false, List, [], ◌∷◌, ◌++◌, length, set, refl, sym, ap, ◌∙◌, subst}
use Rattle.std.proofs.lemmas.Bool.{false≢true}
use mathlib.Core.Option.{some, some-injective, some-ne-none}
use mathlib.Core.Logic.{dite}
use native.Mathlib.Decide.{ℕ_discrete}
use lib.ListN.{get_elem?}
use Rattle.atomic_table.specs.Table as table
use Rattle.atomic_table.proofs.Lists.{at_set, set_else, at_longer, at_last}
use Rattle.lset_words.specs.Words.{Opening}
use Rattle.lset_steps.specs.declared.Event.{Event}
use Rattle.lset_steps.specs.Steps.{Table}
use Rattle.lset_rule.specs.declared.view.View.{View}
use Rattle.lset_rule.specs.Runs.{StartsWith, end_of, IsRunOf}
use Rattle.lset_rule.specs.Rule.{Holds, MatchesLog, StandsIn}
use Rattle.lset_rule.specs.Views.{HasThread}

-- Lemmas about a property P of all entries of a list: all entries still have P after an entry with P replaces an entry
-- or is added.
module _ {A : Type 0} (P : ℕ → A → Type 0) where
  abbrev pub Each : List A → Type 0
  Each l = (j : ℕ) (x : A) → get_elem? l j ≡ some x → P j x

  pub each_set : (l : List A) (i : ℕ) (a : A) → P i a → ((j : ℕ) (x : A) → j ≢ i → get_elem? l j ≡ some x → P j x) → Each (set l i a)
  each_set l i a here others j x is = ⊎_elim
      (λ (t : (j ≡ i) × (a ≡ x)). subst (λ (z : ℕ × A). P z.0 z.1) (λ n. (sym t.0 n, t.1 n)) here)
      (λ (t : (j ≢ i) × (get_elem? l j ≡ some x)). others j x t.0 t.1) (at_set l i j a x is)

module _ {A : Type 0} where
  pub each_more : (P : ℕ → A → Type 0) (l : List A) (a : A) → P (length l) a → Each P l → Each P (l ++ a ∷ [])
  each_more P [] a last all zero x is = subst (P 0) (some-injective a x is) last
  each_more P [] a last all (suc j) x is = absurd (some-ne-none x (sym is))
  each_more P (y ∷ ys) a last all zero x is = all zero x is
  each_more P (y ∷ ys) a last all (suc j) x is = each_more (λ n. P (suc n)) ys a last (λ n. all (suc n)) j x is

  pub set_there : (l : List A) (i : ℕ) (a b : A) → get_elem? l i ≡ some a → get_elem? (set l i b) i ≡ some b
  set_there [] i a b e = absurd (some-ne-none a (sym e))
  set_there (x ∷ xs) zero a b e = refl
  set_there (x ∷ xs) (suc i) a b e = set_there xs i a b e

  pub set_twice : (l : List A) (i : ℕ) (a b : A) → set (set l i a) i b ≡ set l i b
  set_twice [] i a b = refl
  set_twice (x ∷ xs) zero a b = refl
  set_twice (x ∷ xs) (suc i) a b = ap (λ l. x ∷ l) (set_twice xs i a b)

-- Lemmas: thread t still belongs to view j (what a seat knows about the run) after a change of a view other than j
-- (`stands_else`), after a change of view j that keeps the thread (`stands_still`), and after the addition of a view
-- (`stands_more`).
pub stands_else : (views : List View) (id j t : ℕ) (w : View) → j ≢ id → StandsIn views j t → StandsIn (set views id w) j t
stands_else views id j t w ne st = (st.0, set_else views id j w ne ∙ st.1, st.2, st.3)

pub is_in : (views : List View) (id j t : ℕ) (v : View) → get_elem? views id ≡ some v → j ≡ id → StandsIn views j t →
    (v.spent ≡ false) × HasThread v t
is_in views id j t v at is st =
    subst (λ (x : View). (x.spent ≡ false) × HasThread x t)
    (some-injective st.0 v (sym st.1 ∙ (ap (get_elem? views) is ∙ at))) (st.2, st.3)

pub stands_still : (views : List View) (id j t : ℕ) (v w : View) → get_elem? views id ≡ some v → w.spent ≡ false →
    (HasThread v t → HasThread w t) → StandsIn views j t → StandsIn (set views id w) j t
stands_still views id j t v w at alive more st = dite (ℕ_discrete j id)
    (λ (e : j ≡ id). subst (λ n. StandsIn (set views id w) n t) (sym e)
    (w, set_there views id v w at, alive, more (is_in views id j t v at e st).1))
    (λ (ne : j ≢ id). stands_else views id j t w ne st)

pub stands_more : (views : List View) (j t : ℕ) (w : View) → StandsIn views j t → StandsIn (views ++ w ∷ []) j t
stands_more views j t w st = (st.0, at_longer views (w ∷ []) j st.0 st.1, st.2, st.3)

pub stands_last : (views : List View) (t : ℕ) (w : View) → w.spent ≡ false → HasThread w t →
    StandsIn (views ++ w ∷ []) (length views) t
stands_last views t w alive has = (w, at_last views w (length views) refl, alive, has)

-- The part of the invariant that is about view number j (what a seat knows about the run). If the view is in use, it
-- matches the events. The events that the view has seen are a prefix of all events.
abbrev pub Fits : Table → Opening → List Event → (ℕ → ℕ) → ℕ → View → Type 0
Fits m k log so j v = (v.spent ≡ false → MatchesLog m k log so j v) × StartsWith log v.seen

module _ {m : Table} {k : Opening} {log : List Event} {so : ℕ → ℕ} {j : ℕ} {v : View} where
  pub fits : MatchesLog m k log so j v → Fits m k log so j v
  fits f = ((λ _. f), (f.rest, f.is))

  pub spent_fits : v.spent ≡ true → StartsWith log v.seen → Fits m k log so j v
  spent_fits spent seen = ((λ alive. absurd (false≢true (sym alive ∙ spent))), seen)

abbrev pub St : Type 0
St = table.State (Unit {0}) View

pub each_fits : (m : Table) (k : Opening) (s : St) (h : Holds m k s) → Each (Fits m k h.log h.seat_of) s.views
each_fits m k s h j x is = (h.each j x is, h.known j x is)

abbrev pub holding : (m : Table) (k : Opening) (s : St) (log : List Event) → IsRunOf m k log → s.words ≡ (end_of m k log).words →
    (so : ℕ → ℕ) → Each (Fits m k log so) s.views → ((t : ℕ) → t < k.threads → StandsIn s.views (so t) t) → Holds m k s
holding m k s log ran words so all placed = record {
  log = log;
  ran = ran;
  words = words;
  seat_of = so;
  each = λ j x is. (all j x is).0;
  placed = placed;
  known = λ j x is. (all j x is).1;
}
