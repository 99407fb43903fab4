-- Conditions that hold between the parts of an `add` or `remove` on a LockFreeList (find, attempt the change). Each
-- condition names the call's next row in the list's step table (its numbered atomic steps), and the nodes in the
-- thread's private state.
use Rattle.std.specs.Prelude.{◌≡◌, ℕ, Option, Some, None}
use Rattle.lset_words.specs.declared.Reply.{Reply}
use Rattle.lset_steps.specs.declared.Fed.{Fed}
use Rattle.lset_steps.specs.Rows.{decided_on}
use Rattle.lset_lock_free.specs.LockFree.{lock_free, targets, decision_of}
use Rattle.lset_rule.specs.declared.slots.OwnSlots.{OwnSlots}
use Rattle.lset_rule.specs.Seats.{TableSeat}
use Rattle.lset_loops.specs.declared.decision.Found.{Found}
use Rattle.lset_loops.specs.Begun.{Begun}
use Rattle.lset_loops.specs.Calling.{Holds, Rest, row, StandsAfter, HasAnswered}

-- Holds if the call is about to load the link of node `x`, which it reached through the link of node `p`.
abbrev pub AtLink : Begun → OwnSlots → ℕ → ℕ → TableSeat → Type 0
AtLink b own p x s = (j : Rest) × Holds lock_free b (row own b.call 2 None p x j) s

-- Holds if the walk has stopped at the two nodes in `f`. Either the call has ended, or it continues at the row of the
-- list's step table (its numbered atomic steps) for its decision: to add or to remove.
abbrev pub StopsAt : Begun → OwnSlots → Found → TableSeat → Type 0
StopsAt b own f s = (j : Rest)
    × ((fed : Fed) → decision_of (decided_on targets f.word (row own b.call 4 None f.pred.number f.curr.number j)) ≡ fed →
    StandsAfter lock_free b fed s)

-- Holds if the call is about to start over: its next step loads the head's link.
abbrev pub AtHead : Begun → OwnSlots → TableSeat → Type 0
AtHead b own s = (p : ℕ) × (x : ℕ) × (j : Rest) × Holds lock_free b (row own b.call 1 None p x j) s

-- Holds if the call has attempted to add the key, to remove the key, or only to reply. If the attempt returned `answer`
-- (the reply and the thread's slots, which are nodes reserved for its adds), the call has ended. If the attempt
-- returned `None`, the call is about to start over.
abbrev pub HasTried : Begun → OwnSlots → Option (OwnSlots × Reply) → TableSeat → Type 0
HasTried b own (Some answer) s = HasAnswered lock_free b answer s
HasTried b own None s = AtHead b own s
