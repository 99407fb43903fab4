use Rattle.lset_server.proofs.BalanceKept.{takes}
use Rattle.lset_server.proofs.channel.receive.Goals as goal

pub recv_as-requires-clause-rule : goal.recv_as-requires-clause-rule
recv_as-requires-clause-rule g c = (takes _ _ c.requires.part, λ items views b at. tt)
