-- The calls of a run, ordered by linearization point.
use Rattle.std.specs.Prelude.{◌≡◌, ℕ, suc, List, [], ◌∷◌, Option, Some, None, AllPairs}
use Rattle.std.specs.List.Sorted.{IsPermutation}
use Rattle.lset_words.specs.declared.history.Placed.{Placed}
use Rattle.lset_words.specs.declared.history.Point.{Point}
use Rattle.lset_report.specs.declared.order.Pointed.{Pointed}
use Rattle.lset_report.specs.Order.{IsPlacedBefore, placed_in}
use Rattle.lset_replay.specs.declared.places.Linearized.{Linearized}

abbrev pub point_of : Linearized → Point
point_of p = record { moment = p.moment; change = p.change }

-- Returns an entry for each call that has a linearization point, ordered by call number.
abbrev pub pointed_from : ℕ → List (Option Linearized) → List Pointed
pointed_from number [] = []
pointed_from number (None ∷ ps) = pointed_from (suc number) ps
pointed_from number (Some p ∷ ps) =
    record { point = point_of p; placed = record { call = number; reply = p.reply } } ∷ pointed_from (suc number) ps

-- Holds if `sorted` contains the calls that have a linearization point, ordered by the moment (event number) of the
-- point. If several points have the same moment, a call that changes the set comes first, and the other calls are
-- ordered by number.
pub record AreSorted (ps : List (Option Linearized)) (sorted : List Pointed) : Type 0 where
  pub moved : IsPermutation (pointed_from 0 ps) sorted
  pub rises : AllPairs IsPlacedBefore sorted

-- Holds if `order` consists of the calls that have a linearization point, sorted by linearization point.
pub record IsOrderOf (ps : List (Option Linearized)) (order : List Placed) : Type 0 where
  pub sorted : List Pointed
  pub are : AreSorted ps sorted
  pub is : order ≡ placed_in sorted
