use Rattle.lset_server.specs.Tallies.{numbers}
use Rattle.lset_server.proofs.BalanceKept.{learns}
use Rattle.lset_server.proofs.channel.balance.Goals as goal

pub learn_as-requires-clause-rule : goal.learn_as-requires-clause-rule
learn_as-requires-clause-rule g c = learns _ _ c.requires.all

pub returns-clause-told : goal.returns-clause-told
returns-clause-told g c = let (items, told) = c.learn_as.ensures.rule in (numbers items, told)
