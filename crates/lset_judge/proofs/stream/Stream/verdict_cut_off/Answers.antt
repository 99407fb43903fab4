use Rattle.std.proofs.Common.{sym, subst}
use Rattle.lset_judge.specs.Stream.{stream_history, IsJudgedTo, IsStreamVerdictCutOff}
use Rattle.lset_judge.proofs.ClosingVerdict.{stream_cut_off, stream_refused}
use Rattle.lset_judge.proofs.stream.Stream.verdict_cut_off.Goals as goal

pub returns-in-Some-clause-said : goal.returns-in-Some-clause-said
returns-in-Some-clause-said c = λ threads opening calls is.
    let s = c.args.self.now in
    let so = subst (IsJudgedTo opening calls s.moment s.states) c.in-Some.is is.judged in
    subst (IsStreamVerdictCutOff (stream_history threads opening calls)) (sym c.verdict.ensures)
    (λ keys. stream_refused threads opening calls s is c.requires c.in-Some.failed so.1 so.2 keys)

pub returns-in-None-clause-said : goal.returns-in-None-clause-said
returns-in-None-clause-said c = λ threads opening calls is.
    let s = c.args.self.now in
    let so = subst (IsJudgedTo opening calls s.moment s.states) c.in-None.is is.judged in
    stream_cut_off threads opening calls s is c.requires so
