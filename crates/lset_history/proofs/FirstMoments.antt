-- Lemmas about the first moment when a predicate holds: how the moment is computed, that it is unique, and how it
-- depends on the end of the search.
use Rattle.std.proofs.Common.{◌≡◌, ℕ, zero, suc, ◌+◌, ◌<◌, ◌≤◌, ◌⊎◌, inl, inr, Bool, true, false, refl, ap, subst, arith}
use Rattle.std.specs.Prelude.{Option, Some, None}
use Rattle.lset_history.specs.Changes.{IsFirst, is_same, first_passing}

same_or_not : (asked b : Bool) → ((is_same asked b ≡ true) × (b ≡ asked)) ⊎ ((is_same asked b ≡ false) × (b ≡ asked → ⊥))
same_or_not true false = inr (refl, λ e. cc)
same_or_not false true = inr (refl, λ e. cc)
same_or_not asked b = inl (refl, refl)

first_or_after : (first m : ℕ) → first ≤ m → (m ≡ first) ⊎ (suc first ≤ m)
first_or_after first m a = grind arith

later_first : (P : ℕ → Type 0) (first last : ℕ) (o : Option ℕ) → (P first → ⊥) → IsFirst P (suc first) last o →
    IsFirst P first last o
later_first P first last None n h = λ m a b i. elim (first_or_after first m a) [ inl e ↦ n (subst P e i) | inr l ↦ h m l b i ]
later_first P first last (Some k) n h = (
  (let a : suc first ≤ k = h.0 in omega arith),
  h.1,
  h.2,
  λ m a b i. elim (first_or_after first m a) [ inl e ↦ n (subst P e i) | inr l ↦ h.3 m l b i ],
)

pub first_passing_is : (asked : Bool) (f : ℕ → Bool) (first n last : ℕ) → last ≡ first + n
    → IsFirst (λ m. f m ≡ asked) first last (first_passing asked f first n)
first_passing_is asked f first zero last e = elim (same_or_not asked (f first)) [
  | inl y ↦ rw y.0 (omega arith, omega arith, y.1, λ m a b i. absurd (omega arith))
  | inr n ↦ rw n.0 (λ m a b i. n.1 (let g : m ≡ first = omega arith in subst (λ z. f z ≡ asked) g i))
]
first_passing_is asked f first (suc n) last e = elim (same_or_not asked (f first)) [
  | inl y ↦ rw y.0 (omega arith, omega arith, y.1, λ m a b i. absurd (omega arith))
  | inr d ↦ rw d.0 (later_first (λ m. f m ≡ asked) first last (first_passing asked f (suc first) n) d.1
      (first_passing_is asked f (suc first) n last (omega arith)))
]

pub first_same : (P Q : ℕ → Type 0) → ((m : ℕ) → P m → Q m) → ((m : ℕ) → Q m → P m) → (first last : ℕ) (o : Option ℕ)
    → IsFirst P first last o → IsFirst Q first last o
first_same P Q to from first last None h = λ m a b q. h m a b (from m q)
first_same P Q to from first last (Some k) h = (h.0, h.1, to k h.2, λ m a b q. h.3 m a b (from m q))

pub one_first : (P : ℕ → Type 0) (first last : ℕ) (o p : Option ℕ) → IsFirst P first last o → IsFirst P first last p → o ≡ p
one_first P first last None None h g = refl
one_first P first last None (Some k) h g = absurd (h k g.0 g.1 g.2)
one_first P first last (Some j) None h g = absurd (g j h.0 h.1 h.2)
one_first P first last (Some j) (Some k) h g = elim (order j k) [
  | inl e ↦ ap Some e
  | inr d ↦ elim d [ inl l ↦ absurd (g.3 j h.0 l h.2) | inr l ↦ absurd (h.3 k g.0 l g.2) ]
]
  where
    order : (j k : ℕ) → (j ≡ k) ⊎ ((j < k) ⊎ (k < j))
    order j k = grind arith
