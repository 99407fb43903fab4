use Rattle.std.proofs.Common.{sym, subst}
use Rattle.lset_judge.specs.Stream.{stream_history, IsJudgedTo, IsStreamVerdict}
use Rattle.lset_judge.proofs.ClosingVerdict.{stream_closed, stream_refused}
use Rattle.lset_judge.proofs.stream.Stream.verdict.Goals as goal

pub returns-in-Some-clause-said : goal.returns-in-Some-clause-said
returns-in-Some-clause-said c = λ threads opening calls is.
    let s = c.args.self.now in
    let so = subst (IsJudgedTo opening calls s.moment s.states) c.in-Some.is is.judged in
    subst (IsStreamVerdict (stream_history threads opening calls) c.args.keys.now) (sym c.verdict.ensures)
    (stream_refused threads opening calls s is c.requires.met c.in-Some.failed so.1 so.2 c.args.keys.now)

pub returns-in-None-clause-said : goal.returns-in-None-clause-said
returns-in-None-clause-said c = λ threads opening calls is.
    let s = c.args.self.now in
    let so = subst (IsJudgedTo opening calls s.moment s.states) c.in-None.is is.judged in
    subst (IsStreamVerdict (stream_history threads opening calls) c.args.keys.now) (sym c.verdict_of_key.ensures)
    (stream_closed threads opening calls s is c.requires.met so c.args.keys.now c.requires.increase c.first_left.result c.first_left.ensures)
