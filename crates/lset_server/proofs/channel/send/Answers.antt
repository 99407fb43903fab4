use Rattle.lset_server.proofs.BalanceKept.{puts}
use Rattle.lset_server.proofs.channel.send.Goals as goal

pub send_as-requires-clause-rule : goal.send_as-requires-clause-rule
send_as-requires-clause-rule g c = (puts _ _ _ _ c.requires.part, λ items views b at. tt)
