use Rattle.lset_history.proofs.SetReplies.{contained}
use Rattle.lset_history.proofs.oracle.Oracle.contains.Goals as goal

pub returns : goal.returns
returns c = λ thread. rw (← c.self.view_is, c.reply_of.ensures) (contained _ thread c.args.key _ c.contains.ensures)
