-- Lemmas about binary search in a list of increasing moments: the result, and the number of comparisons.
use Rattle.std.proofs.Common.{rules, ◌≡◌, ◌≢◌, ℕ, zero, suc, ◌+◌, ◌-◌, ◌*◌, ◌^◌, ◌%◌, ◌<◌, ◌≤◌, ◌⊎◌, inl, inr, Bool, true, false}
use Rattle.std.proofs.Common.{not, List, [], ◌∷◌, ◌++◌, length, get_or, sym, refl, subst, ap, ◌∙◌, arith}
use Rattle.std.specs.Prelude.{◌==◌, Option, Some, None, Contains, if◌then◌else◌}
use Rattle.std.specs.List.Sorted.{IsStrictlyIncreasing}
use mathlib.Core.Bool.{beq}
use Rattle.std.proofs.Math.Nat.{pow-suc}
use Rattle.std.proofs.lemmas.Nat.{pow_pos}
use Rattle.std.proofs.lemmas.Bool.{cases_Bool, le-ltb}
use Rattle.std.proofs.lemmas.List.Elements.{All-contains, All-from_get_or, Contains-get_or}
use Rattle.std.proofs.lemmas.List.Kept.{AllPairs-from_increasing}
use Rattle.lset_words.proofs.Numbers.{below_or_not, same_number, equal_test, unequal_test}
use Rattle.lset_words.specs.SequentialSet.{has_key}
use Rattle.lset_history.proofs.FirstMoments.{first_same}
use Rattle.lset_history.proofs.Keys.{has_true, has_false}
use Rattle.lset_history.specs.Changes.{IsFirst, state_at, IsCountUpTo}
use Rattle.lset_history.proofs.ChangeLaws.{turned, state_between}

pub halved : (b low high next_low next_high : ℕ) → high - low < 2 ^ b → low < high → 2 * (next_high - next_low) ≤ high - low
    → (0 < b) × (next_high - next_low < 2 ^ (b - 1))
halved zero low high next_low next_high h l g = absurd (let k : high - low < 1 = h in omega arith)
halved (suc b) low high next_low next_high h l g =
    let k : high - low < 2 ^ b * 2 = subst (λ z. high - low < z) (pow-suc 2 b) h in
    (omega arith, subst (λ z. next_high - next_low < 2 ^ z) (let e : b ≡ suc b - 1 = omega arith in e) (omega arith))

-- Lemma: one comparison in a binary search lowers the logarithm of the range's size by at most 1. If the range has at
-- least 2^k - 1 items before the comparison, it has at least 2^(k-1) - 1 items after the comparison.
pub half_needed : (k low high next_low next_high : ℕ) → 2 ^ k ≤ high - low + 1 → high - low ≤ 2 * (next_high - next_low) + 2
    → 2 ^ (k - 1) ≤ next_high - next_low + 1
half_needed zero low high next_low next_high h l = let one : 2 ^ (zero - 1) ≡ 1 = refl in omega arith
half_needed (suc k) low high next_low next_high h l =
    let g : 2 ^ k * 2 ≤ high - low + 1 = subst (λ z. z ≤ high - low + 1) (pow-suc 2 k) h in
    subst (λ z. 2 ^ z ≤ next_high - next_low + 1) (let e : k ≡ suc k - 1 = omega arith in e) (omega arith)

pub no_look_left : (k : ℕ) → 2 ^ k ≤ 1 → k ≡ 0
no_look_left zero h = refl
no_look_left (suc k) h =
    let g : 2 ^ k * 2 ≤ 1 = subst (λ z. z ≤ 1) (pow-suc 2 k) h in
    let p : 0 < 2 ^ k = pow_pos k in omega arith

pub below_increases : (ms : List ℕ) → IsStrictlyIncreasing ms → (i j : ℕ) → i ≤ j → j < length ms → get_or ms i 0 ≤ get_or ms j 0
below_increases ms increase i j l below = elim (below_or_not i j) [
  | inl less ↦ omega (arith, AllPairs-from_increasing ms increase i j 0 less below)
  | inr same ↦ (let e : i ≡ j = omega (arith, l, same) in rw e (omega arith))
]

turned_not : (n : ℕ) (b : Bool) → turned n (not b) ≡ not (turned n b)
turned_not zero b = refl
turned_not (suc n) b = turned_not n (not b)

odd_or_even : (n : ℕ) → ((n % 2 ≡ 1) × (turned n false ≡ true)) ⊎ ((n % 2 ≡ 0) × (turned n false ≡ false))
odd_or_even zero = inr (refl, refl)
odd_or_even (suc n) = elim (odd_or_even n) [
  | inl h ↦ inr ((let a : n % 2 ≡ 1 = h.0 in omega arith), turned_not n false ∙ ap not h.1)
  | inr h ↦ inl ((let a : n % 2 ≡ 0 = h.0 in omega arith), turned_not n false ∙ ap not h.1)
]

pub turned_is : (n : ℕ) → (n % 2 == 1) ≡ turned n false
turned_is n = elim (odd_or_even n) [
  | inl h ↦ (equal_test (n % 2) 1 h.0 ∙ sym h.1)
  | inr h ↦ (unequal_test (n % 2) 1 (λ e. let a : n % 2 ≡ 0 = h.0 in omega arith) ∙ sym h.1)
]

-- Lemmas about negating a `Bool` n times. (Each change of a key negates the key's presence.)
differ : (x there : Bool) → not (beq x there) ≡ (if there then not x else x)
differ true true = refl
differ true false = refl
differ false true = refl
differ false false = refl

pub turned_from : (n : ℕ) (there : Bool) → not (beq (n % 2 == 1) there) ≡ turned n there
turned_from n true = differ (n % 2 == 1) true ∙ ap not (turned_is n) ∙ sym (turned_not n false)
turned_from n false = differ (n % 2 == 1) false ∙ turned_is n

pub same_state : (a b : Bool) → beq a b ≡ true → a ≡ b
same_state true false e = absurd (cc)
same_state false true e = absurd (cc)
same_state a b e = refl

pub other_state : (a b : Bool) → beq a b ≡ false → a ≡ b → ⊥
other_state true true e f = cc
other_state true false e f = cc
other_state false true e f = cc
other_state false false e f = cc

other_turned : (a b : Bool) → (a ≡ b → ⊥) → not a ≡ b
other_turned true false n = refl
other_turned false true n = refl
other_turned a b n = absurd (n refl)

module _ (there : Bool) (ms : List ℕ) (increase : IsStrictlyIncreasing ms) (wanted : Bool) (from to count : ℕ) (order : from ≤ to)
    (h : IsCountUpTo ms from count) where
  abbrev pub Wanted : ℕ → Type 0
  Wanted m = state_at there ms m ≡ wanted

  stays : (m : ℕ) → from ≤ m → (count < length ms → m < get_or ms count 0) → state_at there ms m ≡ turned count there
  stays m l g = state_between there ms count m h.inside
      (λ j n. let a : get_or ms j 0 ≤ from = h.upto j n in omega arith) g

  next_above : (n : count < length ms) → from < get_or ms count 0
  next_above n = h.past count (omega arith) n

  turns : (n : count < length ms) → state_at there ms (get_or ms count 0) ≡ not (turned count there)
  turns n = state_between there ms (suc count) (get_or ms count 0) (omega arith)
      (λ j k. below_increases ms increase j count (omega arith) n)
      (grind arith)
      ∙ turned_not count there

  pub found_at_once : turned count there ≡ wanted → IsFirst Wanted from to (Some from)
  found_at_once e = (omega arith, order, stays from (omega arith) next_above ∙ e, λ m a b i. absurd (omega arith))

  pub never_found : (turned count there ≡ wanted → ⊥) → (count < length ms → to < get_or ms count 0) → IsFirst Wanted from to None
  never_found n g = λ m a b i. n (sym (stays m a (λ k. let l : to < get_or ms count 0 = g k in omega arith)) ∙ i)

  pub found_next : (turned count there ≡ wanted → ⊥) → count < length ms → get_or ms count 0 ≤ to
      → IsFirst Wanted from to (Some (get_or ms count 0))
  found_next n k l = (
    (let a : from < get_or ms count 0 = next_above k in omega arith),
    l,
    turns k ∙ other_turned (turned count there) wanted n,
    λ m a b i. n (sym (stays m a (λ z. b)) ∙ i),
  )

pub state_opened : (b : Bool) (ms : List ℕ) (m : ℕ) → state_at false ((if b then 0 ∷ [] else []) ++ ms) m ≡ state_at b ms m
state_opened true ms m = rw (le-ltb m 0 (omega arith)) refl
state_opened false ms m = refl

pub increases_behind : (b : Bool) (ms : List ℕ) → IsStrictlyIncreasing ((if b then 0 ∷ [] else []) ++ ms) → IsStrictlyIncreasing ms
increases_behind true ms h i l =
    let a : get_or ms i 0 < get_or (0 ∷ ms) (suc i + 1) 0 = h (suc i) (omega arith) in grind arith
increases_behind false ms h i l = h i l

no_longer : (b : Bool) (ms : List ℕ) (n : ℕ) → length ((if b then 0 ∷ [] else []) ++ ms) ≤ n → length ms ≤ n
no_longer true ms n l = omega arith
no_longer false ms n l = l

-- ---- Bounds on the number of comparisons
at_most_20 : (n looked : ℕ) → ((b : ℕ) → b ≤ 64 → n < 2 ^ b → looked ≤ b) → n ≤ 1000000 → looked ≤ 20
at_most_20 n looked h l = h 20 (omega arith) (let e : 2 ^ 20 ≡ 1048576 = refl in omega arith)

module _ (there : Bool) (ms all : List ℕ) (is : all ≡ (if there then 0 ∷ [] else []) ++ ms) where
  pub first_of_all : (wanted : Bool) (from to : ℕ) (o : Option ℕ) → IsFirst (λ m. state_at there ms m ≡ wanted) from to o
      → IsFirst (λ m. state_at false all m ≡ wanted) from to o
  first_of_all wanted from to o h = first_same (λ m. state_at there ms m ≡ wanted) (λ m. state_at false all m ≡ wanted)
      (λ m p. ap (λ z. state_at false z m) is ∙ state_opened there ms m ∙ p)
      (λ m q. sym (state_opened there ms m) ∙ sym (ap (λ z. state_at false z m) is) ∙ q) from to o h

  pub few_looks : (looked : ℕ) → ((b : ℕ) → b ≤ 64 → length ms < 2 ^ b → looked ≤ b) → length all ≤ 1000000 → looked ≤ 20
  few_looks looked h few = at_most_20 (length ms) looked h (no_longer there ms 1000000 (subst (λ z. length z ≤ 1000000) is few))

module _ (keys : List ℕ) (key upto : ℕ) (increase : IsStrictlyIncreasing keys) (h : IsCountUpTo keys key upto) where
  has_none_equal : ((i : ℕ) → i < length keys → get_or keys i 0 ≢ key) → has_key key keys ≡ false
  has_none_equal other = has_false key keys (λ c. All-contains (λ x. x ≢ key) keys key (All-from_get_or (λ x. x ≢ key) keys 0 other) c refl)

  pub none_upto : upto ≡ 0 → has_key key keys ≡ false
  none_upto e = has_none_equal (λ i l same. let a : key < get_or keys i 0 = h.past i (omega arith) l in omega (arith, a, same))

  pub some_upto : 0 < upto → has_key key keys ≡ (get_or keys (upto - 1) 0 == key)
  some_upto some =
      let inside : upto ≤ length keys = h.inside in
      elim (cases_Bool (get_or keys (upto - 1) 0 == key)) [
        | inl e ↦ has_true key keys (subst (λ z. Contains keys z) (same_number (get_or keys (upto - 1) 0) key e)
            (Contains-get_or keys (upto - 1) 0 (omega arith))) ∙ sym e
        | inr e ↦ has_none_equal (search rules) ∙ sym e
      ]
