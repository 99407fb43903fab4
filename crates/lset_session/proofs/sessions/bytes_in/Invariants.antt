use Rattle.std.proofs.Common.{◌≡◌, take, None, false}
use Rattle.lset_session.specs.SessionSoFar.{Hears, IsTalk, Nearer}
use Rattle.lset_session.proofs.sessions.bytes_in.Given as goal

abbrev pub invariant-loop-byte : goal.invariant-loop-byte
invariant-loop-byte g l = record {
  heard : Hears (take l.byte-index l.bytes) None l.initial.talk l.talk (g.S.SetCalls.record_of l.initial.seat)
      (g.S.SetCalls.record_of l.seat)
      (g.W.Sink.written l.initial.writer) (g.W.Sink.written l.writer);
  talk : IsTalk l.talk;
  nearer : Nearer l.initial.talk l.talk l.byte-index;
  failed : g.W.Sink.has_failed l.writer ≡ false;
  seat : g.S.SetCalls.is_of l.set l.seat;
  held : g.S.SetCalls.held_by l.seat ≡ g.S.SetCalls.held_by l.initial.seat;
}
