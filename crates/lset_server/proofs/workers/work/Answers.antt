use Rattle.std.proofs.Common.{arith}
use Rattle.lset_server.proofs.ServeLaws.{worked_more}
use Rattle.lset_server.proofs.workers.work.Goals as goal

pub loop-sessions-preserved : goal.loop-sessions-preserved
loop-sessions-preserved g c =
    let inv = c.loop-sessions.invariant in
    let told = c.hold-calls.ensures in
    record {
      pass = c.in-Some.ensures.channel;
      seat = told.seat.0;
      worked = worked_more _ _ _ _ _ _ _ _ _ inv.worked c.in-Some.ensures.told told.seat.1 told.calls;
      sessions = omega (arith, c.loop-sessions-test.true);
      calls = omega (arith, inv.calls, told.few);
    }
