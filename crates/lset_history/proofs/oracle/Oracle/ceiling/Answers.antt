use Rattle.lset_history.proofs.SetReplies.{ceiling_first, ceiling_nowhere}
use Rattle.lset_history.proofs.oracle.Oracle.ceiling.Goals as goal

pub returns-in-Some : goal.returns-in-Some
returns-in-Some c = λ thread. rw (← c.self.view_is) (ceiling_first _ thread c.args.key c.in-Some.found.now c.next.new.self
    c.range.result (c.range.ensures.between tt) (rw c.in-Some.is at c.next.ensures.steps))

pub returns-in-None : goal.returns-in-None
returns-in-None c = λ thread. rw (← c.self.view_is) (ceiling_nowhere _ thread c.args.key
    c.range.result (c.range.ensures.between tt) (let none = rw c.in-None.is at c.next.ensures.steps in none.0))
