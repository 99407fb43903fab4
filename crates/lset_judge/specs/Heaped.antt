-- The heap of the moments when calls end. In contracts, a heap is the list of its moments in increasing order.
use Rattle.std.specs.Prelude.{ℕ, List, [], ◌∷◌}
use Rattle.std.specs.Ordering.{nat_cmp}
use Rattle.std.specs.declared.cmp.Ordering.{Ordering}
use Rattle.std.specs.declared.cmp.Reverse.{Reverse}
use Rattle.lset_judge.specs.Rule.{put_in}

abbrev pub increasing_of : List (Reverse ℕ) → List ℕ
increasing_of [] = []
increasing_of (x ∷ xs) = put_in x.0 (increasing_of xs)

-- Compares two moments in reverse, so that the greatest item of a heap is the earliest moment.
abbrev pub later_first : Reverse ℕ → Reverse ℕ → Ordering
later_first x y = nat_cmp y.0 x.0
