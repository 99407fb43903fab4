-- Proofs about the pending calls as the code stores them: a few in a vector, the others in a hash table.
use Rattle.std.proofs.Common.{◌≡◌, ◌≢◌, ℕ, ◌<◌, ◌≤◌, true, List, [], ◌∷◌, ◌++◌, refl, sym, arith, subst, length, get_or, append_assoc}
use Rattle.std.specs.Prelude.{min, All, Option, Some, None, Result, Ok, Err, OnOk, MatchOption, is_some, swap_remove}
use Rattle.std.specs.List.Sorted.{IsPermutation}
use Rattle.std.proofs.lemmas.Bool.{true≢false}
use Rattle.std.proofs.lemmas.List.{take_at, drop_at}
use Rattle.std.proofs.lemmas.List.Elements.{All-append, All-take, All-drop}
use Rattle.std.proofs.lemmas.List.Sorted.{IsPermutation-sym, IsPermutation-trans, IsPermutation-middle, IsPermutation-append_left, IsPermutation-append_right, IsPermutation-swap_remove}
use Rattle.lset_judge.specs.declared.stream.Pending.{Pending}
use Rattle.lset_judge.specs.Pending.{IsNext}

pub all_left : {X : Type 0} (P : X → Type 0) (xs ys : List X) → All P (xs ++ ys) → All P xs
all_left P xs ys all = subst (All P) (take_at xs ys (length xs) refl) (All-take P (length xs) (xs ++ ys) all)

pub all_right : {X : Type 0} (P : X → Type 0) (xs ys : List X) → All P (xs ++ ys) → All P ys
all_right P xs ys all = subst (All P) (drop_at xs ys (length xs) refl) (All-drop P (length xs) (xs ++ ys) all)

-- ---- Lemmas about removing a call that ends

pub few_next : (few many : List Pending) (i moment end first : ℕ) (p : Pending) (rest : List Pending) → i < length few
    → p ≡ get_or few i p → rest ≡ swap_remove few i p → p.end ≡ end → end < moment → All (λ (q : Pending). end ≤ q.end) few
    → first ≡ min end moment → All (λ (q : Pending). first ≤ q.end) many → IsNext moment (few ++ many) p (rest ++ many)
few_next few many i moment end first p rest low at is of early smallest near others = record {
  early = omega (arith, of, early);
  is = subst (λ (ps : List Pending). IsPermutation (few ++ many) (p ∷ (ps ++ many))) (sym is)
      (IsPermutation-append_left many few (p ∷ swap_remove few i p) (IsPermutation-swap_remove few i p low at));
  smallest = subst (λ (e : ℕ). All (λ (q : Pending). e ≤ q.end) (few ++ many)) (sym of) (All-append (λ (q : Pending). end ≤ q.end) few many smallest
      (λ i d inside. let l = others i d inside in omega (arith, l, near, early)));
}

pub many_next : (few many rest : List Pending) (moment near first : ℕ) (p : Pending) → first ≡ min near moment → IsNext first many p rest
    → All (λ (q : Pending). near ≤ q.end) few → IsNext moment (few ++ many) p (few ++ rest)
many_next few many rest moment near first p is next far = let early = next.early in record {
  early = omega (arith, is, early);
  is = IsPermutation-trans (few ++ many) (few ++ p ∷ rest) (p ∷ (few ++ rest))
      (IsPermutation-append_right few many (p ∷ rest) next.is) (IsPermutation-middle few p rest);
  smallest = All-append (λ (q : Pending). p.end ≤ q.end) few many (λ i d inside. let l = far i d inside in omega (arith, l, is, early)) next.smallest;
}

-- ---- Lemmas about inserting a call

pub few_with : (few now many : List Pending) (p : Pending) → now ≡ few ++ p ∷ [] → IsPermutation (p ∷ (few ++ many)) (now ++ many)
few_with few now many p is = subst (λ (ps : List Pending). IsPermutation (p ∷ (few ++ many)) (ps ++ many)) (sym is)
    (subst (IsPermutation (p ∷ (few ++ many))) (sym (append_assoc few (p ∷ []) many))
    (IsPermutation-sym (few ++ p ∷ many) (p ∷ (few ++ many)) (IsPermutation-middle few p many)))

pub many_with : (few many now : List Pending) (p : Pending) → IsPermutation (p ∷ many) now → IsPermutation (p ∷ (few ++ many)) (few ++ now)
many_with few many now p more = IsPermutation-trans (p ∷ (few ++ many)) (few ++ p ∷ many) (few ++ now)
    (IsPermutation-sym (few ++ p ∷ many) (p ∷ (few ++ many)) (IsPermutation-middle few p many))
    (IsPermutation-append_right few (p ∷ many) now more)

pub many_with_if : {E : Type 0} (few many now all : List Pending) (p : Pending) (r : Result (Unit {0}) E) → few ++ many ≡ all
    → OnOk r (All (λ (q : Pending). q.end ≢ p.end) many → IsPermutation (p ∷ many) now)
    → OnOk r (All (λ (q : Pending). q.end ≢ p.end) all → IsPermutation (p ∷ all) (few ++ now))
many_with_if few many now all p (Ok u) is more = λ apart. subst (λ (ps : List Pending). IsPermutation (p ∷ ps) (few ++ now)) is
    (many_with few many now p (more (all_right (λ (q : Pending). q.end ≢ p.end) few many (subst (All (λ (q : Pending). q.end ≢ p.end)) (sym is) apart))))
many_with_if few many now all p (Err e) is more = tt

-- ---- Lemmas about a property of all pending calls

pub told_of_few : {F : Type 0} (P Q : Pending → Type 0) (few others all : List Pending) (fault : Option F) → few ++ others ≡ all → is_some fault ≡ true
    → MatchOption fault (All P few × All Q few) (λ (f : F). All P few → All Q few → ⊥)
    → MatchOption fault (All P all × All Q all) (λ (f : F). All P all → All Q all → ⊥)
told_of_few P Q few others all None is e told = absurd (true≢false (sym e))
told_of_few P Q few others all (Some f) is e told = λ a b.
    told (all_left P few others (subst (All P) (sym is) a)) (all_left Q few others (subst (All Q) (sym is) b))
