-- Conditions that hold between the parts of a call on an OptimisticList (walk, lock, validate, change the set). Each
-- condition names the call's next row in the list's step table (its numbered atomic steps), and the nodes in the
-- thread's private state.
use Rattle.std.specs.Prelude.{ℕ, Bool, true, false, Option, Some, None}
use Rattle.lset_words.specs.declared.Reply.{Reply}
use Rattle.lset_steps.specs.Rows.{decided_on}
use Rattle.lset_optimistic.specs.Optimistic.{optimistic, targets, at_locks}
use Rattle.lset_rule.specs.declared.slots.OwnSlots.{OwnSlots}
use Rattle.lset_rule.specs.Seats.{TableSeat}
use Rattle.lset_loops.specs.declared.node.Node.{Node}
use Rattle.lset_loops.specs.declared.decision.Found.{Found}
use Rattle.lset_loops.specs.Begun.{Begun}
use Rattle.lset_loops.specs.Calling.{Holds, Rest, row}
use Rattle.lset_loops.specs.declared.optimistic.Stopped.{Stopped}

-- Holds if the call is about to load the key of node `x`, which it reached through the link of node `p`. `before` is
-- the key of `p`.
abbrev pub AtKey : Begun → OwnSlots → ℕ → ℕ → ℕ → TableSeat → Type 0
AtKey b own p x before s = (j : Rest) × Holds optimistic b (row own b.call 2 None p x (record j { pkey = before })) s

-- Holds if the walk has stopped at the two nodes in `f`, and the call is about to lock `f.found.pred`.
abbrev pub StopsAt : Begun → OwnSlots → Stopped → TableSeat → Type 0
StopsAt b own f s = (j : Rest)
    × Holds optimistic b (row own b.call 4 None f.found.pred.number f.found.curr.number (record j {
      pkey = f.before;
      ckey = f.found.word;
    })) s

-- Holds if the call has locked the two nodes in `f`. Next, the call walks again from the head, unless `f.found.pred` is
-- the head.
abbrev pub HasLocked : Begun → OwnSlots → Stopped → TableSeat → Type 0
HasLocked b own f s = (j : Rest)
    × Holds optimistic b (at_locks (row own b.call 5 None f.found.pred.number f.found.curr.number (record j {
      pkey = f.before;
      ckey = f.found.word;
    }))) s

-- Holds if the call, on its second walk, is about to load the link of node `n`. The two nodes in `f` are locked.
abbrev pub AtNode : Begun → OwnSlots → Stopped → Node → TableSeat → Type 0
AtNode b own f n s = (j : Rest)
    × Holds optimistic b (row own b.call 6 None f.found.pred.number f.found.curr.number (record j {
      pkey = f.before;
      ckey = f.found.word;
      node = n.number;
    })) s

-- Holds if the second walk has reached `f.pred`, and the call is about to load the link of `f.pred`.
abbrev pub AtPred : Begun → OwnSlots → Found → TableSeat → Type 0
AtPred b own f s = (j : Rest) × Holds optimistic b
    (row own b.call 8 None f.pred.number f.curr.number (record j { ckey = f.word })) s

-- Holds if the two nodes in `f` are locked neighbors. The call continues at the row of the list's step table (its
-- numbered atomic steps) for its decision: to add, to remove or to reply.
abbrev pub AreNeighbours : Begun → OwnSlots → Found → TableSeat → Type 0
AreNeighbours b own f s = (j : Rest)
    × Holds optimistic b (decided_on targets f.word
    (row own b.call 8 None f.pred.number f.curr.number (record j { ckey = f.word }))) s

-- Holds if the call is about to release the locks of the two nodes in `f`. After that, the call ends with reply `r`, or
-- starts over if `r` is `None`.
abbrev pub GivesBack : Begun → Found → OwnSlots → Option Reply → TableSeat → Type 0
GivesBack b f own r s = (j : Rest) × Holds optimistic b (row own b.call 14 r f.pred.number f.curr.number j) s

abbrev pub Leaves : Begun → Found → OwnSlots × Reply → TableSeat → Type 0
Leaves b f answer s = GivesBack b f answer.0 (Some answer.1) s

-- Holds if the second walk of the call has ended. If its result is true, the walk has reached `f.pred`. If its result
-- is false, the call is about to release the locks of the two nodes in `f` and start over.
abbrev pub HasReached : Begun → OwnSlots → Found → Bool → TableSeat → Type 0
HasReached b own f true s = AtPred b own f s
HasReached b own f false s = GivesBack b f own None s

-- Holds if the call has validated the two nodes in `f`. If the result of the validation is true, the two nodes are
-- neighbors. If the result is false, the call is about to release the locks of the two nodes and start over.
abbrev pub HasValidated : Begun → OwnSlots → Found → Bool → TableSeat → Type 0
HasValidated b own f true s = AreNeighbours b own f s
HasValidated b own f false s = GivesBack b f own None s
