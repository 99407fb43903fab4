use Rattle.lset_steps.proofs.laws.walk_was_in_chain.Goals as goal

pub returns : goal.returns
returns g c = g.met.M.OpenReads.walks
