use Rattle.std.proofs.Common.{◌+◌, None, Some, refl, ◌∙◌, arith}
use Rattle.lset_session.specs.SessionSoFar.{pending_of}
use Rattle.lset_session.proofs.TalkLaws.{heard_byte, heard_rest}
use Rattle.lset_session.proofs.sessions.bytes_in.Goals as goal

pub returns-in-Some-clause-heard : goal.returns-in-Some-clause-heard
returns-in-Some-clause-heard g c =
    let i = c.loop-byte.byte-index in
    heard_rest _ _ (pending_of c.args.talk.now) _ c.args.bytes.now (i + 1) c.in-Some.why _ _ _ _ _ _
    (heard_byte _ _ _ (pending_of c.args.talk.now) _ _ c.args.bytes.now i (Some c.in-Some.why) _ _ _ _ _ _ _ _ _
    c.loop-byte-test.true
    c.loop-byte.invariant.heard c.in-Some.ensures.heard)

pub loop-byte-preserved : goal.loop-byte-preserved
loop-byte-preserved g c =
    let i = c.loop-byte.byte-index in
    let on = c.in_default.ensures.on refl in
    record {
      heard = heard_byte _ _ _ (pending_of c.args.talk.now) _ _ c.args.bytes.now i None _ _ _ _ _ _ _ _ _ c.loop-byte-test.true
          c.loop-byte.invariant.heard c.in_default.ensures.heard;
      talk = on.0;
      nearer = omega (arith, on.1, c.loop-byte.invariant.nearer);
      failed = c.in_default.ensures.failed;
      seat = c.in_default.ensures.seat.0;
      held = c.in_default.ensures.seat.1 ∙ c.loop-byte.invariant.held;
    }
