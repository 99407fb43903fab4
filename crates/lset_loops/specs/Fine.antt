-- Conditions that hold between the parts of a call on a FineList (lock the head, walk, change the set, unlock). Each
-- condition names the call's next row in the list's step table (its numbered atomic steps), and the nodes in the
-- thread's private state.
use Rattle.std.specs.Prelude.{ℕ, Some, None}
use Rattle.lset_words.specs.declared.Reply.{Reply}
use Rattle.lset_steps.specs.Rows.{decided_on}
use Rattle.lset_fine.specs.Fine.{fine, targets}
use Rattle.lset_rule.specs.declared.slots.OwnSlots.{OwnSlots}
use Rattle.lset_rule.specs.Seats.{TableSeat}
use Rattle.lset_loops.specs.declared.decision.Found.{Found}
use Rattle.lset_loops.specs.Begun.{Begun}
use Rattle.lset_loops.specs.Calling.{Holds, Rest, row}

-- Holds if the call has locked the head and is about to load the link of the head.
abbrev pub AtHead : Begun → OwnSlots → TableSeat → Type 0
AtHead b own s = (j : Rest) × Holds fine b (row own b.call 2 None 0 0 j) s

-- Holds if the call has locked node `p` and is about to lock node `x`, which it reached through the link of `p`.
abbrev pub AtLock : Begun → OwnSlots → ℕ → ℕ → TableSeat → Type 0
AtLock b own p x s = (j : Rest) × Holds fine b (row own b.call 3 None p x j) s

-- Holds if the walk has stopped at the two nodes in `f`, and both are locked. The call continues at the row of the
-- list's step table (its numbered atomic steps) for its decision: to add, to remove or to reply.
abbrev pub StopsAt : Begun → OwnSlots → Found → TableSeat → Type 0
StopsAt b own f s = (j : Rest) × Holds fine b (decided_on targets f.word (row own b.call 4 None f.pred.number f.curr.number j)) s

-- Holds if the call is about to release the locks of the two nodes in `f` and to end with a reply. `answer` consists of
-- the reply and the thread's slots (nodes reserved for its adds) after the call.
abbrev pub Leaves : Begun → Found → OwnSlots × Reply → TableSeat → Type 0
Leaves b f answer s = (j : Rest) × Holds fine b (row answer.0 b.call 12 (Some answer.1) f.pred.number f.curr.number j) s
