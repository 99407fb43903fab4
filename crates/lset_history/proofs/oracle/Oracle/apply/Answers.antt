use Rattle.lset_history.proofs.oracle.Oracle.apply.Goals as goal

pub returns-in-Remove-clause-answers : goal.returns-in-Remove-clause-answers
returns-in-Remove-clause-answers c = rw c.in-Remove.is (c.remove.ensures c.args.thread)

pub returns-in-Contains-clause-answers : goal.returns-in-Contains-clause-answers
returns-in-Contains-clause-answers c = rw c.in-Contains.is (c.contains.ensures c.args.thread)

pub returns-in-Ceiling-clause-answers : goal.returns-in-Ceiling-clause-answers
returns-in-Ceiling-clause-answers c = rw c.in-Ceiling.is (c.ceiling.ensures c.args.thread)
