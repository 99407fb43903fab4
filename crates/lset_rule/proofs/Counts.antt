-- Proof: if a seat (one thread's access to the set) has as many threads as the set was opened with, it has every thread
-- of the set. Therefore the seat that closes the set has seen all events, which determine the words in memory.
use Rattle.std.proofs.Common.{◌≡◌, ◌≢◌, ◌⊎◌, inl, inr, ⊎_elim, ℕ, zero, suc, ◌+◌, ◌<◌, ◌≤◌, List, [], ◌∷◌, length, refl, sym, ap}
use Rattle.std.proofs.Common.{◌∙◌, subst, arith, ◌++◌, false, append-nil, length-append}
use mathlib.Core.Logic.{dite}
use native.Mathlib.Decide.{ℕ_discrete}
use Rattle.lset_rule.specs.declared.view.SpareThread.{SpareThread}
use Rattle.lset_rule.specs.declared.view.Past.{Past}
use Rattle.lset_rule.specs.declared.view.View.{View}
use Rattle.lset_words.specs.Words.{word_count, Opening, sizes, Sizes}
use Rattle.lset_steps.specs.Steps.{Table, State, Enabled, event_at, state_at}
use Rattle.lset_steps.specs.Laws.{Lawful, StateLaws}
use Rattle.lset_steps.specs.Worlds.{thread_of}
use Rattle.lset_rule.specs.Runs.{Here, end_of, at_end, IsRunOf}
use Rattle.lset_steps.specs.declared.Event.{Event}
use Rattle.lset_steps.specs.declared.Event.TheVariants.{Begin, Go}
use Rattle.atomic_table.specs.Table.{Final, Seen}
use Rattle.lset_rule.specs.Views.{Stands, HasThread, HasAside, AreIdle}
use Rattle.lset_rule.specs.Rule.{IsQuiet, Holds}
use Rattle.lset_rule.proofs.Joins.{not_own}

abbrev In : List ℕ → ℕ → Type 0
In [] t = ⊥
In (x ∷ xs) t = (t ≡ x) ⊎ In xs t

abbrev Distinct : List ℕ → Type 0
Distinct [] = Unit {0}
Distinct (x ∷ xs) = (¬ (In xs x)) × Distinct xs

dropping : (n : ℕ) (xs : List ℕ) → Distinct xs → In xs n → (ys : List ℕ) × (length xs ≡ suc (length ys)) × Distinct ys
    × ((t : ℕ) → In ys t → In xs t × (t ≢ n))
dropping n [] d h = absurd h
dropping n (x ∷ xs) d h = ⊎_elim
    (λ (e : n ≡ x). (xs, refl, d.1, λ t i. (inr i, λ (e' : t ≡ n). d.0 (subst (In xs) (e' ∙ e) i))))
    (λ (i : In xs n). let r = dropping n xs d.1 i in (
      x ∷ r.0,
      ap suc r.1,
      ((λ j. d.0 (r.3 x j).0), r.2),
      λ t j. ⊎_elim (λ (e : t ≡ x). (inl e, λ (e' : t ≡ n). d.0 (subst (In xs) (sym e' ∙ e) i))) (λ k. let q = r.3 t k in
          (inr q.0, q.1)) j,
    )) h

in_dec : (xs : List ℕ) (n : ℕ) → In xs n ⊎ (¬ (In xs n))
in_dec [] n = inr (λ x. x)
in_dec (x ∷ xs) n = dite (ℕ_discrete n x) (λ e. inl (inl e)) (λ ne. ⊎_elim (λ i. inl (inr i)) (λ out. inr (λ j. ⊎_elim ne out j))
    (in_dec xs n))

few : (n : ℕ) (xs : List ℕ) → Distinct xs → ((t : ℕ) → In xs t → t < n) → length xs ≤ n
few zero [] d b = omega arith
few zero (x ∷ xs) d b = let a = b x (inl refl) in absurd (omega arith)
few (suc n) xs d b = ⊎_elim
    (λ i. let r = dropping n xs d i in let c = few n r.0 r.2 (λ t j. let q = r.3 t j in let e = b t q.0 in let ne = q.1 in
    omega arith) in let l = r.1 in omega arith)
    (λ out. let c = few n xs d (λ t j. let e = b t j in let ne : t ≢ n = λ (e' : t ≡ n). out (subst (In xs) e' j) in omega arith)
    in omega arith) (in_dec xs n)

abbrev threads_of : List SpareThread → List ℕ
threads_of [] = []
threads_of (o ∷ os) = o.thread ∷ threads_of os

abbrev names : View → List ℕ
names v = v.thread ∷ threads_of v.others

long : (os : List SpareThread) → length (threads_of os) ≡ length os
long [] = refl
long (o ∷ os) = ap suc (long os)

in_has : (os : List SpareThread) (t : ℕ) → In (threads_of os) t → HasAside os t
in_has [] t i = i
in_has (o ∷ os) t i = ⊎_elim inl (λ j. inr (in_has os t j)) i

apart : (w : ℕ → Here) (t : ℕ) (r : Past) (os : List SpareThread) → AreIdle w t r os → Distinct (threads_of os)
apart w t r [] a = tt
apart w t r (o ∷ os) a = ((λ i. a.2 (in_has os o.thread i)), apart w t r os a.3)

module _ (m : Table) (v : View) (st : Stands m v) where
  all_apart : Distinct (names v)
  all_apart = (
    (λ i. not_own (at_end m v.shape v.seen) v.thread v.past v.others st.others (in_has v.others v.thread i)),
    apart (at_end m v.shape v.seen) v.thread v.past v.others st.others,
  )

  below : (t : ℕ) → In (names v) t → t < v.shape.threads
  below t i = st.in_range t (⊎_elim inl (λ j. inr (in_has v.others t j)) i)

  pub held_few : length v.others + 1 ≤ v.shape.threads
  held_few = let a = few v.shape.threads (names v) all_apart below in let b = long v.others in omega arith

  pub has_all : length v.others + 1 ≡ v.shape.threads → (t : ℕ) → t < v.shape.threads → HasThread v t
  has_all full t lt = ⊎_elim (λ i. ⊎_elim inl (λ j. inr (in_has v.others t j)) i)
      (λ out. let a = few v.shape.threads (t ∷ names v) (
        out,
        all_apart,
      ) (λ u i. ⊎_elim (λ (e : u ≡ t). subst (λ (z : ℕ). z < v.shape.threads) (sym e) lt) (below u) i) in let b =
      long v.others in absurd (omega arith))
      (in_dec (names v) t)

event_first : (es rest : List Event) (e : Event) → event_at (es ++ e ∷ rest) (length es) ≡ e
event_first [] rest e = refl
event_first (x ∷ es) rest e = event_first es rest e

by_small : (s : State) (e : Event) → Enabled s e → thread_of e < length s.locals
by_small s (Begin t c) en = en.0
by_small s (Go t) en = en.0

no_more : (m : Table) (law : Lawful m) (k : Opening) (v : View) (es rest : List Event) → ((t : ℕ) → t < k.threads → HasThread v t)
    → IsRunOf m k (es ++ rest) → IsQuiet v rest → rest ≡ []
no_more m law k v es [] all r quiet = refl
no_more m law k v es (e ∷ rest) all r quiet =
    let l = length-append es (e ∷ rest) in
    let s : State = state_at m k (event_at (es ++ e ∷ rest)) (length es) in
    let laws : StateLaws m.marks (sizes k) s = law.states k (length (es ++ e ∷ rest)) (length es) (event_at (es ++ e ∷ rest)) r
    (omega arith) in
    let en : Enabled s e = subst (λ z. Enabled s z) (event_first es rest e) (r.enabled (length es) (omega arith)) in
    absurd (quiet.0 (all (thread_of e) (subst (λ z. thread_of e < z) laws.locals (by_small s e en))))

pub closes : (m : Table) (law : Lawful m) (k : Opening) (id : ℕ) (v : View) (ws : List ℕ) (xs : List (Unit {0})) → v.shape ≡ k →
    v.spent ≡ false → length v.others + 1 ≡ k.threads → Final (Seen (Holds m k) id v) ws xs
    → ws ≡ (end_of m k v.seen).words
closes m law k id v ws xs shape sp full (s, seen, words, homes, slots) =
    let h = seen.0 in let f = h.each id v seen.1 sp in
    let all : (t : ℕ) → t < k.threads → HasThread v t = subst (λ (z : Opening). (t : ℕ) → t < z.threads → HasThread v t) shape
    (has_all m v f.stands (full ∙ ap (λ (z : Opening). z.threads) (sym shape))) in
    let none : f.rest ≡ [] = no_more m law k v v.seen f.rest all (subst (IsRunOf m k) f.is h.ran) f.quiet in
    sym words ∙ (h.words ∙ ap (λ l. (end_of m k l).words) (f.is ∙ (ap (λ l. v.seen ++ l) none ∙ append-nil v.seen)))

pub some_words : (sz : Sizes) (n : ℕ) → n ≡ word_count sz → 0 < n
some_words sz n is = omega arith
