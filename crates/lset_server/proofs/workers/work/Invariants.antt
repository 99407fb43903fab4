use Rattle.std.proofs.Common.{◌≡◌, ◌≤◌, ◌-◌, ◌*◌}
use Rattle.crossbeam_channel.specs.Claims.{view, IsSeatAt}
use Rattle.crossbeam_channel.specs.Ends.{receives_on}
use Rattle.lset_session.specs.declared.TheConstants.{MOST_LINES}
use Rattle.lset_server.specs.Workers.{HasWorked}
use Rattle.lset_server.proofs.workers.work.Given as goal

abbrev pub invariant-loop-sessions : goal.invariant-loop-sessions
invariant-loop-sessions g l = record {
  pass : IsSeatAt (receives_on l.from) l.pass;
  seat : l.seat.set ≡ l.set;
  worked : HasWorked l.initial.seat l.seat (view l.pass) l.sessions l.calls;
  sessions : l.sessions ≤ l.most;
  calls : l.calls ≤ MOST_LINES * l.sessions;
}

abbrev pub decreases-loop-sessions : goal.decreases-loop-sessions
decreases-loop-sessions g l = l.most - l.sessions
