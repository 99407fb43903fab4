use Rattle.std.proofs.Common.{◌≡◌, ◌<◌, [], ◌++◌, take, length, refl, ap, ◌∙◌, subst, sym, append-nil, rules}
use Rattle.std.specs.Io.KnownBytes.{Consumes}
use Rattle.std.proofs.KnownBytes.{Consumes-nil, Consumes-trans, Consumes-whole}
use Rattle.std.proofs.lemmas.Result.{err_from_is_err_and}
use Rattle.tool_base.specs.Tools.{view}
use Rattle.tool_judge.specs.Judging.{JudgesIn}
use Rattle.tool_judge.proofs.AnswerOfBytes.{of_fault, if_read}
use Rattle.tool_judge.proofs.judge_answers.judge_in.Goals as goal

pub loop-init : goal.loop-init
loop-init g c = ([], Consumes-nil _, c.new-reader.ensures)

pub returns-then-count-eq0 : goal.returns-then-count-eq0
returns-then-count-eq0 g c =
    let (bytes, read, is) = c.loop.invariant in
    let none : take c.in-Ok.count c.read.new.buf ≡ [] = rw c.if-count-eq0.true refl in
    let room : 0 < length c.read.new.buf = search rules in
    Consumes-whole _ _ bytes (λ all. JudgesIn c.args.detail all (view c.answer_of.result))
    (subst (Consumes _ _) (ap (λ t. bytes ++ t) none ∙ append-nil bytes) (Consumes-trans _ _ _ bytes _ read c.in-Ok.ensures.bytes.0))
    (c.in-Ok.ensures.bytes.1 c.if-count-eq0.true room) (c.answer_of.ensures.judges bytes is)

pub loop-preserved : goal.loop-preserved
loop-preserved g c =
    let (bytes, read, is) = c.loop.invariant in
    let piece = take c.in-Ok.count c.read.new.buf in
    (bytes ++ piece, Consumes-trans _ _ _ bytes _ read c.in-Ok.ensures.bytes.0, c.in_ok-feed.ensures.taken bytes is)

pub returns-in_err-feed : goal.returns-in_err-feed
returns-in_err-feed g c =
    let (bytes, read, is) = c.loop.invariant in
    let piece = take c.in-Ok.count c.read.new.buf in
    let e = c.in_err-feed.field-0.0 in
    let p = err_from_is_err_and c.from_residual.result c.from_residual.ensures.1 in
    if_read (g.R.Read.remaining c.args.input.now) (g.R.Read.remaining c.read.new.self) (bytes ++ piece)
    (λ all. JudgesIn c.args.detail all (view c.from_residual.result)) (Consumes-trans _ _ _ bytes _ read c.in-Ok.ensures.bytes.0) (λ more.
    let whole = (bytes ++ piece) ++ more in
    subst (λ r. JudgesIn c.args.detail whole (view r)) (sym p.1)
    (of_fault c.args.detail whole e p.0 p.2 (λ other. c.in_err-feed.ensures.refused bytes is other more)))
