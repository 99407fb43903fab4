use Rattle.std.proofs.Common.{◌≡◌, ◌++◌, ◌<◌, None, Some, take, length, refl, ◌∙◌, rules, [], ap, subst, append-nil}
use Rattle.std.specs.Io.KnownBytes.{Consumes}
use Rattle.std.proofs.KnownBytes.{Consumes-trans, Consumes-kept}
use Rattle.lset_session.specs.declared.sessions.EndReason.TheVariants.{End, ReadFault}
use Rattle.lset_session.specs.SessionSoFar.{pending_of}
use Rattle.lset_session.proofs.TalkLaws.{heard_then, spoken_rest, spoken_last}
use Rattle.lset_session.proofs.sessions.session.Goals as goal

pub returns-in_default-clause-session : goal.returns-in_default-clause-session
returns-in_default-clause-session g c =
    let (bytes, read, heard) = c.loop-count.invariant.heard in
    spoken_rest ReadFault bytes _ _ _ _ _ _ _ c.loop-count.invariant.talk (λ _ a. a) refl (λ bad. absurd cc)
    (Consumes-kept _ _ _ bytes read c.in_default.ensures.bytes) heard

pub returns-then-count-eq0-clause-session : goal.returns-then-count-eq0-clause-session
returns-then-count-eq0-clause-session g c =
    let (bytes, read, heard) = c.loop-count.invariant.heard in
    let room : 0 < length c.read.new.buffer = search rules in
    let none : take c.in-Some.count c.read.new.buffer ≡ [] = rw c.if-count-eq0.true refl in
    let all = Consumes-trans _ _ _ bytes _ read c.in-Some.ensures.bytes.0 in
    spoken_rest End bytes _ _ _ _ _ _ _ c.loop-count.invariant.talk (λ _ a. a) refl
    (λ _. c.in-Some.ensures.bytes.1 c.if-count-eq0.true room)
    (subst (Consumes _ _) (ap (λ b. bytes ++ b) none ∙ append-nil bytes) all) heard

pub returns-in-Some-bytes_in-clause-session : goal.returns-in-Some-bytes_in-clause-session
returns-in-Some-bytes_in-clause-session g c =
    let (bytes, read, heard) = c.loop-count.invariant.heard in
    let all = Consumes-trans _ _ _ bytes _ read c.in-Some.ensures.bytes.0 in
    let end = c.in-Some-bytes_in.why in
    let more = take c.in-Some.count c.read.new.buffer in
    spoken_last end (bytes ++ more) _ _ _ _ _ _ _ _ _ all
    (heard_then _ _ _ bytes (pending_of c.loop-count.talk) _ more (Some end) _ _ _ _ _ _ _ _ _ heard
    c.in-Some-bytes_in.ensures.heard)

pub loop-count-preserved : goal.loop-count-preserved
loop-count-preserved g c =
    let inv = c.loop-count.invariant in
    let (bytes, read, heard) = inv.heard in
    let all = Consumes-trans _ _ _ bytes _ read c.in-Some.ensures.bytes.0 in
    let more = take c.in-Some.count c.read.new.buffer in
    let end = c.in_default-bytes_in.ensures in
    let on = heard_then _ _ _ bytes (pending_of c.loop-count.talk) _ more None _ _ _ _ _ _ _ _ _ heard end.heard in
    record {
      heard = (bytes ++ more, all, on);
      talk = (end.on refl).0;
      reads = c.in-Some.ensures.failed;
      writes = end.failed;
      seat = end.seat.0;
      held = end.seat.1 ∙ inv.held;
    }
