-- Conditions that hold between the parts of a call on a CoarseList (take the lock, walk, change the set). Each
-- condition names the call's next row in the list's step table (its numbered atomic steps), and the nodes in the
-- thread's private state.
use Rattle.std.specs.Prelude.{ℕ, Some, None}
use Rattle.lset_words.specs.declared.Reply.{Reply}
use Rattle.lset_steps.specs.Rows.{decided_on}
use Rattle.lset_coarse.specs.Coarse.{coarse, targets}
use Rattle.lset_rule.specs.declared.slots.OwnSlots.{OwnSlots}
use Rattle.lset_rule.specs.Seats.{TableSeat}
use Rattle.lset_loops.specs.declared.decision.Found.{Found}
use Rattle.lset_loops.specs.Begun.{Begun}
use Rattle.lset_loops.specs.Calling.{Holds, Rest, row}

-- Holds if the call holds the list's lock and is about to load the head's link.
abbrev pub AtHead : Begun → OwnSlots → TableSeat → Type 0
AtHead b own s = (j : Rest) × Holds coarse b (row own b.call 2 None 0 0 j) s

-- Holds if the call is about to load the key of node x, which it reached through the link of node p.
abbrev pub AtKey : Begun → OwnSlots → ℕ → ℕ → TableSeat → Type 0
AtKey b own p x s = (j : Rest) × Holds coarse b (row own b.call 3 None p x j) s

-- Holds if the walk has stopped at the two nodes in `f`. The call continues at the row of the list's step table (its
-- numbered atomic steps) for its decision: to add, to remove or to reply.
abbrev pub StopsAt : Begun → OwnSlots → Found → TableSeat → Type 0
StopsAt b own f s = (j : Rest) × Holds coarse b (decided_on targets f.word (row own b.call 3 None f.pred.number f.curr.number j))
    s

-- Holds if the call is about to release the list's lock and to end with a reply. `answer` consists of the reply and the
-- thread's slots (nodes reserved for its adds) after the call.
abbrev pub Leaves : Begun → OwnSlots × Reply → TableSeat → Type 0
Leaves b answer s = (p : ℕ) × (x : ℕ) × (j : Rest) × Holds coarse b (row answer.0 b.call 10 (Some answer.1) p x j) s
