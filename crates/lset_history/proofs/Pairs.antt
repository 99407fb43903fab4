-- Lemmas about predicates on two items of a list, an earlier one and a later one.
use Rattle.std.proofs.Common.{◌≡◌, ℕ, suc, zero, ◌<◌, ◌≢◌, List, ◌∷◌, length, get_or, inl, inr, ◌∙◌, arith}
use Rattle.std.specs.List.{All, AllPairs}
use Rattle.std.proofs.Math.ListN.{set}
use Rattle.std.proofs.lemmas.List.{get_or-set_same, get_or-set_other, get_or_default, length-set}
use Rattle.std.proofs.lemmas.Bool.{cases_order}

pub pairs_head : {X : Type 0} (R : X → X → Type 0) (x : X) (xs : List X) → AllPairs R (x ∷ xs) → All (R x) xs
pairs_head R x xs pairs j d b = pairs zero (suc j) d (omega arith) (omega arith)

pub pairs_tail : {X : Type 0} (R : X → X → Type 0) (x : X) (xs : List X) → AllPairs R (x ∷ xs) → AllPairs R xs
pairs_tail R x xs pairs i j d a b = pairs (suc i) (suc j) d (omega arith) (omega arith)

pub read_written : {X : Type 0} (xs : List X) (n k : ℕ) (z d : X) → k ≡ n → n < length xs → get_or (set xs n z) k d ≡ z
read_written xs n k z d e inside = rw e (get_or-set_same xs n z d inside)

pub read_other : {X : Type 0} (xs : List X) (n k : ℕ) (z d e : X) → k ≢ n → k < length xs
    → get_or (set xs n z) k d ≡ get_or xs k e
read_other xs n k z d e ne low = get_or-set_other xs n k z d ne ∙ get_or_default xs k d e low

pub pairs_set : {X : Type 0} (R : X → X → Type 0) (xs : List X) (n : ℕ) (z e : X) → n < length xs
    → ((k : ℕ) → k < n → R (get_or xs k e) z) → ((k : ℕ) → n < k → k < length xs → R z (get_or xs k e)) → AllPairs R xs
    → AllPairs R (set xs n z)
pairs_set R xs n z e inside before after pairs i j d a b =
    let short : j < length xs = omega (arith, length-set xs n z) in
    elim (cases_order i n) [
      | inl at ↦ rw (read_written xs n i z d at inside, read_other xs n j z d e (omega arith) short) (after j (omega arith) short)
      | inr ne ↦ rw (read_other xs n i z d e (omega arith) (omega arith)) (elim (cases_order j n) [
        | inl at ↦ rw (read_written xs n j z d at inside) (before i (omega arith))
        | inr both ↦ rw (read_other xs n j z d e (omega arith) short) (pairs i j e a short)
      ])
    ]
