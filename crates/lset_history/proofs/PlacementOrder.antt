-- Proof: the calls of a run can be sorted by their linearization points in exactly one way.
use Rattle.std.proofs.Common.{◌≡◌, ◌<◌, ◌⊎◌, inl, inr, List, [], ◌∷◌, refl, sym, subst, ◌∙◌, arith}
use Rattle.std.specs.List.{AllByRecursion}
use Rattle.std.specs.List.Sorted.{IsPermutation}
use Rattle.std.proofs.lemmas.List.Elements.{All-from_recursion, recursion_from_All}
use Rattle.std.proofs.lemmas.List.Sorted.{IsPermutation-refl, IsPermutation-cons, IsPermutation-middle, IsPermutation-trans, IsPermutation-sym}
use Rattle.std.proofs.lemmas.List.Sorted.{All-permutation, Contains-permutation}
use Rattle.lset_history.specs.Placement.{Standing, ComesBefore}
use Rattle.lset_history.proofs.Lists.{Pairs, SomeOf, all_imply, some_contains, contains_some, some_all}

-- ---- Lemmas about sorted lists for a total strict order
module _ {X : Type 0} (R : X → X → Type 0) (chain : (x y z : X) → R x y → R y z → R x z) (only : (x y : X) → R x y → R y x → ⊥) where
  abbrev Apart : X → X → Type 0
  Apart x y = R x y ⊎ R y x

  all_moved : (P : X → Type 0) (xs ys : List X) → IsPermutation xs ys → AllByRecursion P xs → AllByRecursion P ys
  all_moved P xs ys moved a = recursion_from_All P ys (All-permutation P xs ys moved (All-from_recursion P xs a))

  put : (x : X) (ys : List X) → AllByRecursion (Apart x) ys → Pairs R ys → (zs : List X) × IsPermutation (x ∷ ys) zs × Pairs R zs
  put x [] a p = (x ∷ [], IsPermutation-refl (x ∷ []), (tt, tt))
  put x (y ∷ ys) a p = elim a.0 [
    | inl first ↦ (x ∷ y ∷ ys, IsPermutation-refl (x ∷ y ∷ ys), ((first, all_imply (R y) (R x) (λ z r. chain x y z first r) ys p.0), p))
    | inr later ↦ (let r : (zs : List X) × IsPermutation (x ∷ ys) zs × Pairs R zs = put x ys a.1 p.1 in (
      y ∷ r.0,
      IsPermutation-trans (x ∷ y ∷ ys) (y ∷ x ∷ ys) (y ∷ r.0) (IsPermutation-middle (x ∷ []) y ys) (IsPermutation-cons y (x ∷ ys) r.0 r.1),
      (all_moved (R y) (x ∷ ys) r.0 r.1 (later, p.0), r.2),
    ))
  ]

  pub in_order : (xs : List X) → Pairs Apart xs → (ys : List X) × IsPermutation xs ys × Pairs R ys
  in_order [] a = ([], IsPermutation-refl [], tt)
  in_order (x ∷ xs) a =
      let r : (ys : List X) × IsPermutation xs ys × Pairs R ys = in_order xs a.1 in
      let s : (zs : List X) × IsPermutation (x ∷ r.0) zs × Pairs R zs = put x r.0 (all_moved (Apart x) xs r.0 r.1 a.0) r.2 in
      (s.0, IsPermutation-trans (x ∷ xs) (x ∷ r.0) s.0 (IsPermutation-cons x xs r.0 r.1) s.1, s.2)

  same_order : (xs ys : List X) → Pairs R xs → Pairs R ys
      → ((z : X) → SomeOf (λ x. x ≡ z) xs → SomeOf (λ y. y ≡ z) ys) → ((z : X) → SomeOf (λ y. y ≡ z) ys → SomeOf (λ x. x ≡ z) xs) → xs ≡ ys
  same_order [] [] p q f g = refl
  same_order [] (y ∷ ys) p q f g = absurd (g y (inl refl))
  same_order (x ∷ xs) [] p q f g = absurd (f x (inl refl))
  same_order (x ∷ xs) (y ∷ ys) p q f g =
      let e : x ≡ y = heads (f x (inl refl)) (g y (inl refl)) in
      let r : xs ≡ ys = same_order xs ys p.1 q.1
      (λ z s. elim (f z (inr s)) [
        | inl i ↦ absurd (let k : R x x = subst (R x) (sym i ∙ sym e) (some_all (R x) z xs s p.0) in only x x k k)
        | inr t ↦ t
      ])
      (λ z s. elim (g z (inr s)) [
        | inl i ↦ absurd (let k : R y y = subst (R y) (sym i ∙ e) (some_all (R y) z ys s q.0) in only y y k k)
        | inr t ↦ t
      ]) in cc
    where
      heads : SomeOf (λ z. z ≡ x) (y ∷ ys) → SomeOf (λ z. z ≡ y) (x ∷ xs) → x ≡ y
      heads (inl e) b = sym e
      heads a (inl e) = e
      heads (inr a) (inr b) = absurd (only x y (some_all (R x) y xs b p.0) (some_all (R y) x ys a q.0))

  pub one_order : (xs ys zs : List X) → IsPermutation xs ys → IsPermutation xs zs → Pairs R ys → Pairs R zs → ys ≡ zs
  one_order xs ys zs a b p q = same_order ys zs p q
      (λ z s. contains_some z zs (Contains-permutation xs zs z b (Contains-permutation ys xs z (IsPermutation-sym xs ys a) (some_contains z ys s))))
      (λ z s. contains_some z ys (Contains-permutation xs ys z a (Contains-permutation zs xs z (IsPermutation-sym xs zs b) (some_contains z zs s))))

-- ---- The order of calls by their linearization points is total and strict
pub before_chain : (s r q : Standing) → ComesBefore s r → ComesBefore r q → ComesBefore s q
before_chain s r q a b = grind arith

pub before_once : (s r : Standing) → ComesBefore s r → ComesBefore r s → ⊥
before_once s r a b = grind arith

pub before_or_after : (s r : Standing) → s.number < r.number → ComesBefore s r ⊎ ComesBefore r s
before_or_after s r l = grind arith
