use Rattle.lset_server.proofs.BalanceKept.{merges}
use Rattle.lset_server.proofs.channel.take_back.Goals as goal

pub absorb-requires-clause-rule : goal.absorb-requires-clause-rule
absorb-requires-clause-rule g c = merges _ _ _ _ c.requires.part
