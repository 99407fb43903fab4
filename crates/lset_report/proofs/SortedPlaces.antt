-- Proof: if the entries of an order are given by increasing call number, a stable sort by linearization point yields
-- the order that the definition [Placement] requires.
use Rattle.std.proofs.Common.{◌≡◌, ℕ, ◌<◌, ◌≤◌, ◌⊎◌, inl, inr, Bool, true, false, not, ◌&&◌, List, [], ◌∷◌, refl, sym, ◌∙◌, arith}
use Rattle.std.specs.Prelude.{◌==◌, if◌then◌else◌, AllPairs}
use Rattle.std.specs.List.{filter, AllByRecursion}
use Rattle.std.specs.List.Sorted.{IsNonDecreasingBy, IsPermutation, ties}
use Rattle.std.specs.Ordering.{nat_cmp, is_lt}
use Rattle.std.proofs.lemmas.Bool.Decides.{nat_tests}
use Rattle.std.proofs.lemmas.List.Elements.{filter_agree}
use Rattle.std.proofs.lemmas.List.Kept.{AllPairs-filter}
use Rattle.lset_words.proofs.Numbers.{same_or_not, equal_test, unequal_test}
use Rattle.lset_history.proofs.Lists.{Pairs, pairs_std, pairs_rec}
use Rattle.lset_report.specs.declared.order.Pointed.{Pointed}
use Rattle.lset_report.specs.Order.{rank_of, HasSmallerNumber, IsPlacedBefore, AreByPoints}

tie_is : (a b : ℕ) → (not (is_lt (nat_cmp a b)) && not (is_lt (nat_cmp b a))) ≡ (b == a)
tie_is a b = grind (arith, nat_tests)

module _ {X : Type 0} (rank : X → ℕ) (Less : X → X → Type 0) where
  abbrev of_rank : X → List X → List X
  of_rank x xs = filter (λ y. rank y == rank x) xs

  abbrev Before : X → X → Type 0
  Before x y = (rank x < rank y) ⊎ ((rank x ≡ rank y) × Less x y)

  behind : (x : X) (ys : List X) → AllByRecursion (λ y. rank x ≤ rank y) ys → AllByRecursion (Less x) (of_rank x ys)
      → AllByRecursion (Before x) ys
  behind x [] up a = tt
  behind x (y ∷ ys) up a = elim (same_or_not (rank y) (rank x)) [
    | inl e ↦ (let b = rw (equal_test (rank y) (rank x) e) at a in (inr (sym e, b.0), behind x ys up.1 b.1))
    | inr d ↦ (inl (omega (arith, up.0)), behind x ys up.1 (rw (unequal_test (rank y) (rank x) d) at a))
  ]

  in_order : (ys : List X) → Pairs (λ x y. rank x ≤ rank y) ys → ((x : X) → Pairs Less (of_rank x ys)) → Pairs Before ys
  in_order [] up a = tt
  in_order (x ∷ ys) up a =
      let b = rw (equal_test (rank x) (rank x) refl) at (a x) in
      (behind x ys up.0 b.0, in_order ys up.1 (λ z. later z (rank x == rank z) (a z)))
    where
      later : (z : X) (b : Bool) → Pairs Less (if b then x ∷ of_rank z ys else of_rank z ys) → Pairs Less (of_rank z ys)
      later z true p = p.1
      later z false p = p

  abbrev earlier : X → X → Bool
  earlier x y = is_lt (nat_cmp (rank x) (rank y))

  ranks_stay : (xs ys : List X) → ((x : X) → filter (ties earlier x) ys ≡ filter (ties earlier x) xs)
      → (x : X) → of_rank x ys ≡ of_rank x xs
  ranks_stay xs ys stable x =
      sym (filter_agree (ties earlier x) (λ y. rank y == rank x) (λ y. tie_is (rank x) (rank y)) ys) ∙ stable x
      ∙ filter_agree (ties earlier x) (λ y. rank y == rank x) (λ y. tie_is (rank x) (rank y)) xs

pub by_ranks : (xs ys : List Pointed) → IsPermutation xs ys → IsNonDecreasingBy rank_of ys
    → ((x : Pointed) → filter (ties (earlier rank_of HasSmallerNumber) x) ys ≡ filter (ties (earlier rank_of HasSmallerNumber) x) xs)
    → AreByPoints xs ys
by_ranks xs ys moved increase stable = record {
  moved = moved;
  increase = increase;
  stable = ranks_stay rank_of HasSmallerNumber xs ys stable;
}

pub sorted_rises : (xs ys : List Pointed) → AreByPoints xs ys → AllPairs HasSmallerNumber xs → AllPairs IsPlacedBefore ys
sorted_rises xs ys are numbers = pairs_std IsPlacedBefore ys (in_order rank_of HasSmallerNumber ys
    (pairs_rec (λ x y. rank_of x ≤ rank_of y) ys (λ i j d l m. are.increase i j d (omega arith) m))
    (λ x. rw (are.stable x)
    (pairs_rec HasSmallerNumber _ (AllPairs-filter HasSmallerNumber (λ y. rank_of y == rank_of x) xs numbers))))
