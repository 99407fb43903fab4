use Rattle.std.proofs.Common.{◌+◌, ◌-◌, ◌≤◌, ◌<◌, ◌^◌, ℕ, length}
use Rattle.std.specs.Prelude.{slice_index}
use Rattle.lset_history.proofs.changes.count_upto.Given as goal

-- Loop invariant: the result is in the range from `low` to `high`, and each comparison has halved the range.
abbrev pub invariant-loop-low : goal.invariant-loop-low
invariant-loop-low l = record {
  inside : l.high ≤ length l.moments;
  ordered : l.low ≤ l.high;
  upto : (i : ℕ) → i < l.low → slice_index l.moments i ≤ l.at;
  past : (i : ℕ) → l.high ≤ i → i < length l.moments → l.at < slice_index l.moments i;
  looked : (b : ℕ) → b ≤ 64 → length l.moments < 2 ^ b → (l.looked ≤ b) × (l.high - l.low < 2 ^ (b - l.looked));
  needed : (b : ℕ) → 2 ^ b ≤ length l.moments + 1 → 2 ^ (b - l.looked) ≤ l.high - l.low + 1;
}

abbrev pub decreases-loop-low : goal.decreases-loop-low
decreases-loop-low l = l.high - l.low
