use Rattle.std.proofs.Common.{rules}
use Rattle.lset_history.proofs.changes.Changes.note_after.Goals as goal

pub returns-in-Some : goal.returns-in-Some
returns-in-Some c = rw (← c.self.view_is) (search rules)

pub returns-in-None : goal.returns-in-None
returns-in-None c = rw (← c.self.view_is) (search rules)
