use Rattle.std.proofs.Common.{arith}
use Rattle.std.proofs.lemmas.Map.Keys.{IsStrictlyIncreasing-from_sorted}
use Rattle.lset_history.proofs.SetReplies.{removed}
use Rattle.lset_history.proofs.oracle.Oracle.remove.Goals as goal

pub invariant_of-self : goal.invariant_of-self
invariant_of-self c = grind (arith, IsStrictlyIncreasing-from_sorted)

pub returns : goal.returns
returns c = λ thread.
    rw (← c.self.view_is, c.reply_of.ensures, c.remove.ensures.keys)
    (removed c.self.inside.quota (record { keys = c.self.inside.keys.keys; counts = c.self.inside.counts.items }) thread
    c.args.key _ c.remove.ensures.test c.self.invariant.increasing)
