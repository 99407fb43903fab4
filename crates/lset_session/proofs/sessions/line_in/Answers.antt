use Rattle.std.proofs.Common.{◌≡◌, [], ◌+◌, ◌<◌, ap, arith}
use Rattle.lset_session.proofs.TalkLaws.{heard_cut, heard_quit, heard_line, heard_limit}
use Rattle.lset_session.proofs.sessions.line_in.Goals as goal

pub returns-then-not-answer-clause-heard : goal.returns-then-not-answer-clause-heard
returns-then-not-answer-clause-heard g c =
    let t = c.args.talk.now in
    let (e, is, recorded, wrote) = c.if-not-answer.ensures.said in
    let count = ap (λ n. t.calls + n) c.count_of.ensures.count in
    heard_cut t c.requires.talk _ _ _ _ _ _ _ e _ c.read_request-request.ensures is recorded count wrote

pub returns-in-Quit-clause-heard : goal.returns-in-Quit-clause-heard
returns-in-Quit-clause-heard g c =
    let t = c.args.talk.now in
    let (e, is, recorded, wrote) = c.if-not-answer.ensures.said in
    let count = ap (λ n. t.calls + n) c.count_of.ensures.count in
    heard_quit t c.requires.talk _ _ _ _ _ _ _ e _ c.read_request-request.ensures is recorded count c.in-Quit.is wrote

pub returns-then-talk-eq0-clause-heard : goal.returns-then-talk-eq0-clause-heard
returns-then-talk-eq0-clause-heard g c =
    let t = c.args.talk.now in
    let (e, is, recorded, wrote) = c.if-not-answer.ensures.said in
    let count = ap (λ n. t.calls + n) c.count_of.ensures.count in
    let last : t.left ≡ 1 = omega (arith, c.requires.talk.more, c.if-talk-eq0.true) in
    let (whole, end, written, failed) = c.last_line.ensures in
    rw end (heard_limit t c.requires.talk _ _ _ _ _ _ _ e _ c.read_request-request.ensures is recorded count _ whole
    c.in_default.not-Quit last wrote written)

pub returns-clause-heard : goal.returns-clause-heard
returns-clause-heard g c =
    let t = c.args.talk.now in
    let (e, is, recorded, wrote) = c.if-not-answer.ensures.said in
    let count = ap (λ n. t.calls + n) c.count_of.ensures.count in
    let more : 1 < t.left = omega (arith, c.requires.talk.more, c.if-talk-eq0.false) in
    heard_line t c.requires.talk 0 [] _ _ _ _ _ e _ c.read_request-request.ensures is recorded count
    c.in_default.not-Quit more wrote
