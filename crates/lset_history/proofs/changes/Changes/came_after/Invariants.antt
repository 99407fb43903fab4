use Rattle.std.proofs.Common.{ℕ, ◌-◌}
use Rattle.std.specs.Prelude.{Option, Some, None}
use Rattle.lset_history.specs.Changes.{moments_of}
use Rattle.lset_history.proofs.CeilingSearch.{IsFrom, CameUpTo}
use Rattle.lset_history.proofs.changes.Changes.came_after.Given as goal

-- Loop invariant: each key from `key` to just below `next` that is in the set after the last change was absent at
-- `moment`.
abbrev pub invariant-loop-next : goal.invariant-loop-next
invariant-loop-next l = record {
  from : IsFrom l.key l.next;
  came : CameUpTo (moments_of l.self) l.key l.next l.end l.moment;
}

-- Returns a bound on the number of keys that the loop can still examine. The bound decreases in each iteration.
abbrev keys_left : Option ℕ → ℕ
keys_left None = 0
keys_left (Some key) = 4294967297 - key

abbrev pub decreases-loop-next : goal.decreases-loop-next
decreases-loop-next l = keys_left l.next
