-- Conditions that hold between the parts of an `add` or `remove` on a LazyList (walk, lock, validate, change the set).
-- Each condition names the call's next row in the list's step table (its numbered atomic steps), and the nodes in the
-- thread's private state.
use Rattle.std.specs.Prelude.{ℕ, Option, Some, None}
use Rattle.lset_words.specs.declared.Reply.{Reply}
use Rattle.lset_steps.specs.Rows.{decided_on}
use Rattle.lset_lazy.specs.Lazy.{lazy, targets}
use Rattle.lset_rule.specs.declared.slots.OwnSlots.{OwnSlots}
use Rattle.lset_rule.specs.Seats.{TableSeat}
use Rattle.lset_loops.specs.declared.node.Node.{Node}
use Rattle.lset_loops.specs.declared.decision.Found.{Found}
use Rattle.lset_loops.specs.Begun.{Begun}
use Rattle.lset_loops.specs.Calling.{Holds, Rest, row}

-- Holds if the call is about to load the key of node `x`, which it reached through the link of node `p`.
abbrev pub AtKey : Begun → OwnSlots → ℕ → ℕ → TableSeat → Type 0
AtKey b own p x s = (j : Rest) × Holds lazy b (row own b.call 2 None p x j) s

-- Holds if the walk has stopped at the two nodes in `f`, and the call is about to lock `f.pred`.
abbrev pub StopsAt : Begun → OwnSlots → Found → TableSeat → Type 0
StopsAt b own f s = (j : Rest) × Holds lazy b (row own b.call 4 None f.pred.number f.curr.number (record j { ckey = f.word })) s

-- Holds if the call has locked the two nodes in `f`, and is about to load the link of `f.pred`.
abbrev pub HasLocked : Begun → OwnSlots → Found → TableSeat → Type 0
HasLocked b own f s = (j : Rest) × Holds lazy b (row own b.call 6 None f.pred.number f.curr.number (record j { ckey = f.word })) s

-- Holds if the two nodes in `f` are locked neighbors, and the link of `f.curr` points to `n`. The call continues at the
-- row of the list's step table (its numbered atomic steps) for its decision: to add, to remove or to reply.
abbrev pub AreNeighbours : Begun → OwnSlots → Found → Node → TableSeat → Type 0
AreNeighbours b own f n s = (j : Rest)
    × Holds lazy b (decided_on targets f.word
    (row own b.call 7 None f.pred.number f.curr.number (record j { ckey = f.word; succ = n.number }))) s

-- Holds if the call is about to release the locks of the two nodes in `f`. After that, the call ends with reply `r`, or
-- starts over if `r` is `None`.
abbrev pub GivesBack : Begun → Found → OwnSlots → Option Reply → TableSeat → Type 0
GivesBack b f own r s = (j : Rest) × Holds lazy b (row own b.call 13 r f.pred.number f.curr.number j) s

abbrev pub Leaves : Begun → Found → OwnSlots × Reply → TableSeat → Type 0
Leaves b f answer s = GivesBack b f answer.0 (Some answer.1) s

-- Holds if the call has validated the two nodes in `f`. If the validation returned a node, the two nodes are neighbors.
-- If the validation returned `None`, the call is about to release the locks of the two nodes and start over.
abbrev pub HasValidated : Begun → OwnSlots → Found → Option Node → TableSeat → Type 0
HasValidated b own f (Some n) s = AreNeighbours b own f n s
HasValidated b own f None s = GivesBack b f own None s
