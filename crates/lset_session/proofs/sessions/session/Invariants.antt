use Rattle.std.proofs.Common.{◌≡◌, ◌*◌, ◌-◌, ◌+◌, ℕ, List, false, None}
use Rattle.lset_session.specs.declared.TheConstants.{LONGEST_LINE, MOST_LINES}
use Rattle.std.specs.Io.KnownBytes.{Consumes}
use Rattle.lset_session.specs.SessionSoFar.{Heard, IsTalk, pending_of}
use Rattle.lset_session.proofs.sessions.session.Given as goal

abbrev pub invariant-loop-count : goal.invariant-loop-count
invariant-loop-count g l = record {
  heard : (bytes : List ℕ) × Consumes (g.I.Source.remaining l.initial.reader) (g.I.Source.remaining l.reader) bytes
      × Heard MOST_LINES bytes None l.talk.left (pending_of l.talk) (g.S.SetCalls.record_of l.initial.seat)
      (g.S.SetCalls.record_of l.seat)
      (g.O.Sink.written l.initial.writer) (g.O.Sink.written l.writer) 0 l.talk.calls;
  talk : IsTalk l.talk;
  reads : g.I.Source.has_failed l.reader ≡ false;
  writes : g.O.Sink.has_failed l.writer ≡ false;
  seat : g.S.SetCalls.is_of l.set l.seat;
  held : g.S.SetCalls.held_by l.seat ≡ g.S.SetCalls.held_by l.initial.seat;
}

abbrev pub decreases-loop-count : goal.decreases-loop-count
decreases-loop-count g l = (LONGEST_LINE + 1) * l.talk.left - l.talk.len
