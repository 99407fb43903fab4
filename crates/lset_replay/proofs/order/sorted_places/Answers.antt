use Rattle.std.proofs.Common.{ℕ, suc, ◌≤◌, List, [], ◌∷◌, Option, Some, None, arith}
use Rattle.std.specs.List.{AllByRecursion}
use Rattle.lset_history.proofs.Lists.{Pairs, all_imply, pairs_std}
use Rattle.lset_report.specs.declared.order.Pointed.{Pointed}
use Rattle.lset_report.specs.Order.{HasSmallerNumber}
use Rattle.lset_report.proofs.SortedPlaces.{sorted_rises}
use Rattle.lset_replay.specs.declared.places.Linearized.{Linearized}
use Rattle.lset_replay.specs.PlacedOrder.{pointed_from}
use Rattle.lset_replay.proofs.order.sorted_places.Goals as goal

numbers_from : (n : ℕ) (ps : List (Option Linearized)) → AllByRecursion (λ (x : Pointed). n ≤ x.placed.call) (pointed_from n ps)
numbers_from n [] = tt
numbers_from n (None ∷ ps) = all_imply (λ (x : Pointed). suc n ≤ x.placed.call) (λ (x : Pointed). n ≤ x.placed.call) (λ x l. omega arith)
    (pointed_from (suc n) ps) (numbers_from (suc n) ps)
numbers_from n (Some p ∷ ps) = (
  omega arith,
  all_imply (λ (x : Pointed). suc n ≤ x.placed.call) (λ (x : Pointed). n ≤ x.placed.call) (λ x l. omega arith)
      (pointed_from (suc n) ps) (numbers_from (suc n) ps),
)

by_numbers : (n : ℕ) (ps : List (Option Linearized)) → Pairs HasSmallerNumber (pointed_from n ps)
by_numbers n [] = tt
by_numbers n (None ∷ ps) = by_numbers (suc n) ps
by_numbers n (Some p ∷ ps) = (numbers_from (suc n) ps, by_numbers (suc n) ps)

pub returns : goal.returns
returns c =
    let placed = rw c.in_ok-pointed.ensures at c.in_ok-sort_by_points.ensures in
    record {
      moved = placed.moved;
      rises = sorted_rises _ _ placed (pairs_std HasSmallerNumber (pointed_from 0 c.args.places.now) (by_numbers 0 c.args.places.now));
    }
