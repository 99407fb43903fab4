use Rattle.lset_judge.specs.Stream.{record_of}
use Rattle.lset_judge.proofs.StreamSteps.{may_still}
use Rattle.lset_judge.proofs.stream.Stream.take.Goals as goal

pub begin-requires-clause-may : goal.begin-requires-clause-may
begin-requires-clause-may c =
    let s = c.args.self.now in let t = c.meet_before.new.self in let met = c.in_ok-meet_before.ensures in
    may_still s.pending t.pending s.moment t.moment (record_of c.args.call) c.requires met.some (met.before c.requires.begins)

pub returns-clause-taken : goal.returns-clause-taken
returns-clause-taken c = λ threads opening calls low is.
    c.in_ok-begin.ensures.begun threads opening calls low (c.in_ok-meet_before.ensures.kept threads opening calls is)
