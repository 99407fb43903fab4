use Rattle.std.proofs.Common.{sym, ap, ◌∙◌}
use Rattle.std.proofs.lemmas.Result.{err_from_is_err_and}
use Rattle.lset_text.specs.Parts.{cut_at}
use Rattle.lset_text.specs.Kinds.{made}
use Rattle.tool_replay.specs.declared.draft.DraftLine.TheVariants.{Plain}
use Rattle.tool_replay.proofs.DraftLines.{read_plain}
use Rattle.tool_replay.proofs.draft_text.DraftLineEventLine.read.Goals as goal

pub returns-in-Some : goal.returns-in-Some
returns-in-Some c = sym (c.in-Some.ensures c.args.version)

pub returns-in_err-read-in-None : goal.returns-in_err-read-in-None
returns-in_err-read-in-None c =
    let p = err_from_is_err_and c.from_residual.result c.from_residual.ensures.1 in
    let plain = read_plain c.args.version (cut_at 32 c.args.line.now) c.in-None.ensures in
    rw (p.1, p.2) (ap (made Plain) c.in_err-read-in-None.ensures ∙ sym plain)

pub returns-in_ok-read-in-None : goal.returns-in_ok-read-in-None
returns-in_ok-read-in-None c =
    let plain = read_plain c.args.version (cut_at 32 c.args.line.now) c.in-None.ensures in
    ap (made Plain) c.in_ok-read-in-None.ensures ∙ sym plain
