-- A computable test of whether a key is the smallest present key at or above a given key at a given moment. All keys
-- must be below 2^32.
use Rattle.std.proofs.Common.{rules, ◌≡◌, ℕ, ◌+◌, ◌-◌, ◌<◌, ◌≤◌, ◌⊎◌, inl, inr, true, List, refl, subst, ap, arith}
use Rattle.std.specs.Prelude.{Option, Some, None}
use Rattle.lset_words.proofs.Numbers.{same_number, equal_test}
use Rattle.lset_words.specs.Account.{Content, IsCeiling}
use Rattle.lset_history.specs.Changes.{IsFirst, is_present, IsBounded, first_passing, same_key, smallest_present, has_ceiling}
use Rattle.lset_history.proofs.FirstMoments.{first_passing_is, one_first}
use Rattle.lset_history.proofs.CeilingSearch.{CeilingAt}

same_key_is : (a b : Option ℕ) → same_key a b ≡ true → a ≡ b
same_key_is None None e = refl
same_key_is (Some a) (Some b) e = ap Some (same_number a b e)
same_key_is a b e = absurd cc

same_key_same : (a b : Option ℕ) → a ≡ b → same_key a b ≡ true
same_key_same None None e = refl
same_key_same (Some a) (Some b) e = equal_test a b (some_is a b e)
  where
    some_is : (a b : ℕ) → Some a ≡ Some b → a ≡ b
    some_is a b e = cc
same_key_same a b e = absurd cc

module _ (changes : ℕ → List ℕ) (bounded : IsBounded changes) (key : ℕ) where
  from_first : (m : ℕ) (o : Option ℕ) → IsFirst (λ j. is_present changes j m ≡ true) key (key + (4294967295 - key)) o →
      CeilingAt changes key o m
  from_first m None h = search rules
  from_first m (Some x) h = (h.0, h.2, h.3)

  smallest_is : (m : ℕ) → CeilingAt changes key (smallest_present changes key m) m
  smallest_is m = from_first m (smallest_present changes key m)
      (first_passing_is true (λ j. is_present changes j m) key (4294967295 - key) (key + (4294967295 - key)) refl)

  one_ceiling : (m : ℕ) (o p : Option ℕ) → CeilingAt changes key o m → CeilingAt changes key p m → o ≡ p
  one_ceiling m None None h g = refl
  one_ceiling m None (Some y) h g = absurd (h y g.0 g.1)
  one_ceiling m (Some x) None h g = absurd (g x h.0 h.1)
  one_ceiling m (Some x) (Some y) h g = elim (order x y) [
    | inl e ↦ ap Some e
    | inr d ↦ elim d [ inl l ↦ absurd (g.2 x h.0 l h.1) | inr l ↦ absurd (h.2 y g.0 l g.1) ]
  ]
    where
      order : (j k : ℕ) → (j ≡ k) ⊎ ((j < k) ⊎ (k < j))
      order j k = grind arith

  pub tested : (found : Option ℕ) (m : ℕ) → has_ceiling changes key found m ≡ true → CeilingAt changes key found m
  tested found m e = subst (λ o. CeilingAt changes key o m) (same_key_is (smallest_present changes key m) found e) (smallest_is m)

  pub passes_test : (found : Option ℕ) (m : ℕ) → CeilingAt changes key found m → has_ceiling changes key found m ≡ true
  passes_test found m h = same_key_same (smallest_present changes key m) found
      (one_ceiling m (smallest_present changes key m) found (smallest_is m) h)

  first_tested : (found : Option ℕ) (from to : ℕ) (o : Option ℕ) → IsFirst (CeilingAt changes key found) from to o
      → IsFirst (λ m. has_ceiling changes key found m ≡ true) from to o
  first_tested found from to None h = λ m a b p. h m a b (tested found m p)
  first_tested found from to (Some k) h =
      (h.0, h.1, passes_test found k h.2, λ m a b p. h.3 m a b (tested found m p))

  pub ceiling_search : (found : Option ℕ) (from to : ℕ) (o : Option ℕ) → from ≤ to →
      IsFirst (CeilingAt changes key found) from to o → o ≡ first_passing true (has_ceiling changes key found) from (to - from)
  ceiling_search found from to o l h =
      one_first (λ m. has_ceiling changes key found m ≡ true) from to o (first_passing true (has_ceiling changes key found) from
      (to - from))
      (first_tested found from to o h)
      (first_passing_is true (has_ceiling changes key found) from (to - from) to (omega arith))

pub ceiling_by : (P Q : Content) (k : ℕ) (o : Option ℕ) → ((j : ℕ) → P j → Q j) → ((j : ℕ) → Q j → P j) → IsCeiling P k o →
    IsCeiling Q k o
ceiling_by P Q k None f g h = λ j a q. h j a (g j q)
ceiling_by P Q k (Some x) f g h = (h.0, f x h.1, λ j a b q. h.2 j a b (g j q))
