use Rattle.lset_steps.proofs.laws.bounded_reads.Goals as goal

pub returns : goal.returns
returns g c = g.met.M.OpenReads.reads
