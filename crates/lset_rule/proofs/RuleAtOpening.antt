-- Proof that the invariant of the shared words and all seats (each is one thread's access to the set) holds after a set
-- has been opened.
use Rattle.std.proofs.Common.{◌≡◌, ◌≢◌, inl, inr, ⊎_elim, ℕ, zero, suc, ◌+◌, ◌-◌, ◌<◌, ◌≤◌, List, [], ◌∷◌, length, None}
use Rattle.std.proofs.Common.{refl, sym, ap, ◌∙◌, subst, arith}
use mathlib.Core.Option.{some, some-injective, some-ne-none}
use mathlib.Core.Logic.{dite}
use native.Mathlib.Decide.{ℕ_discrete}
use lib.ListN.{get_elem?}
use Rattle.atomic_table.specs.Table as T
use Rattle.lset_rule.specs.declared.slots.OwnSlots.{OwnSlots}
use Rattle.lset_rule.specs.OwnSlots.{slots_of}
use Rattle.lset_rule.specs.declared.view.SpareThread.{SpareThread}
use Rattle.lset_rule.specs.declared.view.Past.{Fresh}
use Rattle.lset_rule.specs.declared.view.View.{View}
use Rattle.std.proofs.lemmas.List.FromFn.{get_or-map-range_with_len, length-map-range_with_len}
use Rattle.lset_words.specs.Words.{word_count, Opening, sizes, Opens}
use Rattle.lset_steps.specs.Steps.{Table, opening, opening_word, idle}
use Rattle.atomic_table.specs.declared.shared.Seat.{Seat}
use Rattle.atomic_table.specs.Seated.{TableId}
use Rattle.lset_steps.proofs.MoreEvents.{runs_to_opening}
use Rattle.lset_rule.specs.Runs.{here, at_end, IsRunOf, StartsWith}
use Rattle.lset_rule.specs.Rule.{Holds, MatchesLog, opener, asides_from, left_view, right_view}
use Rattle.lset_rule.specs.Views.{Stands, HasThread, HasAside, AreIdle, IsIdle}

-- Returns the view (what a seat knows about the run) of a new seat, which was just split off for thread t and has made
-- no calls.
abbrev pub fresh : Opening → ℕ → View
fresh k t = record (opener k) { thread = t; local = idle k.quota t; others = []; past = Fresh t }

-- Returns the view (what a seat knows about the run) of the first seat after all threads with numbers below t have been
-- split off.
abbrev pub spare : Opening → ℕ → View
spare k t = record (opener k) { others = asides_from k t (k.threads - 1 - t) }

-- Holds if s is a new seat (one thread's access to the set), which was just split off for thread t and has made no
-- calls.
abbrev pub IsNew : TableId → Opening → ℕ → Seat (Unit {0}) View → Type 0
IsNew z k t s = (s.table_id ≡ z) × (s.me ≡ (fresh k t, []))

between : (k : Opening) (t n u : ℕ) → HasAside (asides_from k t n) u → (t ≤ u) × (u < t + n)
between k t zero u h = absurd h
between k t (suc n) u h = ⊎_elim (λ (e : u ≡ t). (omega arith, omega arith)) (λ x. let b = between k (t + 1) n u x in let p = b.0
    in let q = b.1 in (omega arith, omega arith)) h

among : (k : Opening) (t n u : ℕ) → t ≤ u → u < t + n → HasAside (asides_from k t n) u
among k t zero u le lt = absurd (omega arith)
among k t (suc n) u le lt = dite (ℕ_discrete u t) (λ (e : u ≡ t). inl e)
    (λ (ne : u ≢ t). inr (among k (t + 1) n u (omega arith) (omega arith)))

all_there : (k : Opening) (t : ℕ) → t < k.threads → HasThread (opener k) t
all_there k t lt = dite (ℕ_discrete t (k.threads - 1)) (λ (e : t ≡ k.threads - 1). inl e)
    (λ (ne : t ≢ k.threads - 1). inr (among k 0 (k.threads - 1) t (omega arith) (omega arith)))

at_opening : (m : Table) (k : Opening) (t : ℕ) → t < k.threads → at_end m k [] t ≡ here (idle k.quota t) None []
at_opening m k t lt = λ i. here (get_or-map-range_with_len (idle k.quota) 0 k.threads t t (idle 0 0) lt (omega arith) i) None []

no_events : (m : Table) (k : Opening) → Opens k → IsRunOf m k []
no_events m k lim = (runs_to_opening m k lim).run

all_idle : (m : Table) (k : Opening) (t n : ℕ) → t + n < k.threads →
    AreIdle (at_end m k []) (k.threads - 1) (Fresh (k.threads - 1)) (asides_from k t n)
all_idle m k t zero lt = tt
all_idle m k t (suc n) lt = (
  (λ (e : t ≡ k.threads - 1). omega arith),
  at_opening m k t (omega arith),
  (λ x. let b = between k (t + 1) n t x in let p = b.0 in omega arith),
  all_idle m k (t + 1) n (omega arith),
)

pub opener_stands : (m : Table) (k : Opening) → Opens k → Stands m (opener k)
opener_stands m k lim = let some_thread : 0 < k.threads = lim.within.some in record {
  ran = no_events m k lim;
  own = at_opening m k (k.threads - 1) (omega arith);
  others = all_idle m k 0 (k.threads - 1) (omega arith);
  in_range = λ t h. ⊎_elim (λ (e : t ≡ k.threads - 1). omega arith) (λ x. let b = between k 0 (k.threads - 1) t x in let q = b.1
      in omega arith) h;
  of_thread = refl;
  apart = tt;
  named = λ u e. inl e;
  ordered = tt;
  ended = tt;
  before = tt;
}

one_view : (v x : View) (j : ℕ) → get_elem? (v ∷ []) j ≡ some x → (j ≡ 0) × (v ≡ x)
one_view v x zero e = (refl, some-injective v x e)
one_view v x (suc j) e = absurd (some-ne-none x (sym e))

pub opens : (m : Table) (k : Opening) → Opens k → Holds m k (T.opening (opening k).words [] (opener k))
opens m k lim = record {
  log = [];
  ran = no_events m k lim;
  words = refl;
  seat_of = λ _. 0;
  each = λ j x at alive. let o = one_view (opener k) x j at in
      subst (λ (z : ℕ × View). MatchesLog m k [] (λ _. 0) z.0 z.1) (λ i. (sym o.0 i, o.1 i)) record {
        shape = refl;
        rest = [];
        is = refl;
        quiet = tt;
        stands = opener_stands m k lim;
        seat = λ _ _. refl;
        ours = ([], refl);
        theirs = ([], refl);
      };
  placed = λ t lt. (opener k, refl, refl, all_there k t lt);
  known = λ j x at. subst (λ (z : View). StartsWith [] z.seen) (one_view (opener k) x j at).1 ([], refl);
}

next_aside : (k : Opening) (t : ℕ) → t + 1 < k.threads → asides_from k t (k.threads - 1 - t) ≡ record {
  thread = t;
  local = idle k.quota t;
} ∷ asides_from k (t + 1) (k.threads - 1 - (t + 1))
next_aside k t lt = let e : k.threads - 1 - t ≡ suc (k.threads - 1 - (t + 1)) = omega arith in ap (asides_from k t) e

pub cut_left : (k : Opening) (t : ℕ) → t + 1 < k.threads → left_view (spare k t) ≡ spare k (t + 1)
cut_left k t lt = ap (λ os. left_view (record (opener k) { others = os })) (next_aside k t lt)

pub cut_right : (k : Opening) (t : ℕ) → t + 1 < k.threads → right_view (spare k t) ≡ fresh k t
cut_right k t lt = ap (λ os. right_view (record (opener k) { others = os })) (next_aside k t lt)

pub spare_some : (k : Opening) (t : ℕ) → t + 1 < k.threads → 0 < length (spare k t).others
spare_some k t lt = subst (λ (os : List SpareThread). 0 < length os) (sym (next_aside k t lt)) (omega arith)

pub spare_none : (k : Opening) (t : ℕ) → t + 1 ≡ k.threads → spare k t ≡ fresh k t
spare_none k t is = let e : k.threads - 1 - t ≡ 0 = omega arith in let e' : k.threads - 1 ≡ t = omega arith in
    (λ i. record (opener k) { others = asides_from k t (e i); thread = e' i; local = idle k.quota (e' i); past = Fresh (e' i) })

pub fresh_stands : (m : Table) (k : Opening) (t : ℕ) → Opens k → t < k.threads → Stands m (fresh k t)
fresh_stands m k t lim lt = record {
  ran = no_events m k lim;
  own = at_opening m k t lt;
  others = tt;
  in_range = λ u h. ⊎_elim (λ (e : u ≡ t). omega arith) (λ x. absurd x) h;
  of_thread = refl;
  apart = tt;
  named = λ u e. inl e;
  ordered = tt;
  ended = tt;
  before = tt;
}

pub spare_all : (k : Opening) → opener k ≡ spare k 0
spare_all k =
    let e : k.threads - 1 ≡ k.threads - 1 - 0 = omega arith in
    ap (λ n. record (opener k) { others = asides_from k 0 n }) e

pub new_seat : (m : Table) (k : Opening) (t : ℕ) (me : T.Me (Unit {0}) View) → Opens k → t < k.threads → me ≡ (fresh k t, []) →
    (slots : OwnSlots) → slots ≡ slots_of (idle k.quota t)
    → IsIdle me.0 × Stands m me.0 × (slots ≡ slots_of me.0.local) × (1 ≡ length me.0.others + 1) × (me.1 ≡ [])
new_seat m k t me lim lt is slots l = (
  (ap (λ z. z.0.spent) is, ap (λ z. z.0.under) is),
  subst (λ (z : View). Stands m z) (ap (λ z. z.0) (sym is)) (fresh_stands m k t lim lt),
  l ∙ ap (λ z. slots_of z.0.local) (sym is),
  ap (λ z. length z.0.others + 1) (sym is),
  ap (λ z. z.1) is,
)

pub opening_length : (op : Opening) → length (opening op).words ≡ word_count (sizes op)
opening_length op = length-map-range_with_len (opening_word op) 0 (word_count (sizes op))
