use Rattle.std.proofs.Common.{◌+◌, ◌-◌, drop}
use Rattle.lset_steps.specs.Steps.{Table}
use Rattle.lset_steps.specs.Worlds.{WorldState}
use Rattle.lset_replay.specs.Events.{events_from}
use Rattle.lset_replay.specs.Follows.{AreSteps, HasFollowed}
use Rattle.lset_replay.proofs.EventLists.{rest_of}
use Rattle.lset_replay.proofs.EventSteps.{IsOnWay}
use Rattle.lset_replay.proofs.replaying.follow.Given as goal

-- Invariant of the loop over the lines: if `W` executes events as a step table `T` defines, then all events of the
-- first `index` lines were executed and recorded.
abbrev pub invariant-loop-index : goal.invariant-loop-index
invariant-loop-index g l = (T : Table) (state : g.row.W.Denot → WorldState) → AreSteps T g.row.W.Denot g.W.Steps.makes state
    → HasFollowed T l.fn.recorder.history.opening (events_from l.first l.lines) 0 (state l.fn.world) l.fn.recorder
    → IsOnWay T l.fn.recorder.history.opening (events_from l.first l.lines) (events_from (l.first + l.index) (drop l.index l.lines))
    (state l.world) l.recorder

-- Invariant of the loop over the events of one line: if `W` executes events as a step table `T` defines, then all
-- events of the first `index` lines, and `_done` events of the next line, were executed and recorded.
abbrev pub invariant-loop-done : goal.invariant-loop-done
invariant-loop-done g l = (T : Table) (state : g.row.W.Denot → WorldState) → AreSteps T g.row.W.Denot g.W.Steps.makes state
    → HasFollowed T l.fn.recorder.history.opening (events_from l.first l.lines) 0 (state l.fn.world) l.fn.recorder
    → IsOnWay T l.fn.recorder.history.opening (events_from l.first l.lines)
    (rest_of l.first l.lines l.index (l.times - l._done) l.next) (state l.world) l.recorder
