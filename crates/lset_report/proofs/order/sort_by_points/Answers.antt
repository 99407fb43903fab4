use Rattle.std.proofs.Common.{rules}
use Rattle.std.proofs.lemmas.List.Sorted.{IsNonDecreasingBy-from_sort_by_key, answers_always}
use Rattle.lset_report.specs.Order.{rank_of}
use Rattle.lset_report.proofs.SortedPlaces.{by_ranks}
use Rattle.lset_report.proofs.order.sort_by_points.Goals as goal

pub returns : goal.returns
returns c = by_ranks _ _ c.sort_by_key.ensures.permutation
    (IsNonDecreasingBy-from_sort_by_key rank_of _ c.in_ok-sort_by_key.ensures.sorted (λ a r q k. search rules))
    (c.sort_by_key.ensures.stable rank_of (answers_always _ _ _ (λ f a r g h. search rules)))
