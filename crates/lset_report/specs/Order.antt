-- The entries of an order (a list of calls with their replies), sorted by the linearization points of the calls.
use Rattle.std.specs.Prelude.{◌≡◌, ℕ, ◌+◌, ◌*◌, ◌<◌, ◌==◌, ◌⊎◌, if◌then◌else◌, List, map, filter}
use Rattle.std.specs.List.Sorted.{IsNonDecreasingBy, IsPermutation}
use Rattle.lset_words.specs.declared.history.Placed.{Placed}
use Rattle.lset_words.specs.declared.history.Point.{Point}
use Rattle.lset_history.specs.Placement.{Standing, makes_change, placed_of}
use Rattle.lset_report.specs.declared.order.Pointed.{Pointed}

abbrev pub placed_in : List Pointed → List Placed
placed_in xs = map (λ (x : Pointed). x.placed) xs

abbrev pub points_in : List Pointed → List Point
points_in xs = map (λ (x : Pointed). x.point) xs

-- Returns the sort key of an entry. Entries are sorted by the moment (event number) when the entry's call takes effect.
-- At equal moments, a call that changes the set precedes a call that changes nothing.
abbrev pub rank_of : Pointed → ℕ
rank_of x = if x.point.change then 2 * x.point.moment else 2 * x.point.moment + 1

-- Holds if the list `ys` contains the entries in `xs`, sorted by `rank_of`. Entries with equal ranks keep their
-- relative order.
pub record AreByPoints (xs ys : List Pointed) : Type 0 where
  pub moved : IsPermutation xs ys
  pub increase : IsNonDecreasingBy rank_of ys
  pub stable : (x : Pointed) → filter (λ y. rank_of y == rank_of x) ys ≡ filter (λ y. rank_of y == rank_of x) xs

-- Holds if the call of `x` has a smaller number than the call of `y`. The definition [Placement] sorts entries by
-- `rank_of`, and entries with equal ranks by call number.
abbrev pub HasSmallerNumber : Pointed → Pointed → Type 0
HasSmallerNumber x y = x.placed.call < y.placed.call

abbrev pub IsPlacedBefore : Pointed → Pointed → Type 0
IsPlacedBefore x y = (rank_of x < rank_of y) ⊎ ((rank_of x ≡ rank_of y) × HasSmallerNumber x y)

-- Returns the entry for the call `s`, which has a linearization point.
abbrev pub pointed_of : Standing → Pointed
pointed_of s = record { point = record { moment = s.moment; change = makes_change s }; placed = placed_of s }
