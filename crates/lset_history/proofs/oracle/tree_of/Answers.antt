use Rattle.std.proofs.Common.{◌≡◌, ℕ, zero, suc, ◌+◌, ◌<◌, ◌≤◌, List, [], ◌∷◌, length, take, get_or, add-one, refl, ap, arith, ◌∙◌}
use Rattle.std.specs.Ordering.{nat_cmp}
use Rattle.std.specs.BTreeSet.{insert_key}
use Rattle.std.specs.List.Sorted.{IsStrictlyIncreasing}
use Rattle.lset_words.proofs.IncreasingLists.{IncreasesFrom, increases_from_increasing}
use Rattle.lset_history.proofs.KeySets.{greater}
use Rattle.lset_history.proofs.oracle.tree_of.Goals as goal

next_above : (lo : ℕ) (xs : List ℕ) (i : ℕ) → IncreasesFrom lo xs → i < length xs → lo ≤ get_or xs i 0
next_above lo [] i r l = absurd (omega arith)
next_above lo (x ∷ xs) zero r l = r.0
next_above lo (x ∷ xs) (suc i) r l = grind (arith, next_above (x + 1) xs i r.1 (omega arith))

inserted : (lo : ℕ) (xs : List ℕ) (i : ℕ) → IncreasesFrom lo xs → i < length xs
    → insert_key nat_cmp (take i xs) (get_or xs i 0) ≡ take (suc i) xs
inserted lo [] i r l = absurd (omega arith)
inserted lo (x ∷ xs) zero r l = refl
inserted lo (x ∷ xs) (suc i) r l =
    let a : x + 1 ≤ get_or xs i 0 = next_above (x + 1) xs i r.1 (omega arith) in
    rw (greater (get_or xs i 0) x (omega arith)) (ap (λ ys. x ∷ ys) (inserted (x + 1) xs i r.1 (omega arith)))

module _ (xs : List ℕ) (i : ℕ) (increasing : IsStrictlyIncreasing xs) (inside : i < length xs) where
  pub next_inserted : insert_key nat_cmp (take i xs) (get_or xs i 0) ≡ take (i + 1) xs
  next_inserted = rw add-one (inserted 0 xs i (increases_from_increasing xs increasing) inside)

pub loop-key-preserved : goal.loop-key-preserved
loop-key-preserved c = c.in_ok-insert.ensures.keys
    ∙ ap (λ ks. insert_key nat_cmp ks (get_or c.args.keys.now c.loop-key.key-index 0)) c.loop-key.invariant
    ∙ next_inserted c.args.keys.now c.loop-key.key-index c.requires c.loop-key-test.true
