use Rattle.lset_server.proofs.BalanceKept.{forks}
use Rattle.lset_server.proofs.channel.cut_part.Goals as goal

pub another-requires-clause-rule : goal.another-requires-clause-rule
another-requires-clause-rule g c = forks _ _ c.requires.parts
