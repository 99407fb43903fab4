-- One step of an interpreted call: the requirements on the seat (one thread's access to the set) and on the thread's
-- state, and the result.
use Rattle.std.specs.Prelude.{◌≡◌, ℕ}
use Rattle.atomic_table.specs.Seated.{TableId}
use Rattle.lset_words.specs.Words.{Opening}
use Rattle.lset_steps.specs.declared.Local.{Local}
use Rattle.lset_steps.specs.declared.Fed.{Fed}
use Rattle.lset_steps.specs.Steps.{Table}
use Rattle.lset_steps.specs.Laws.{Occurs}
use Rattle.lset_rule.specs.Views.{IsOpen, Stands}
use Rattle.lset_rule.specs.Calls.{Goes}
use Rattle.lset_rule.specs.Seats.{TableSeat, IsOf, IsSeat}

-- The requirements for the next step of an interpreted call: the call's seat s (one thread's access to the set) belongs
-- to the table z and has a pending call, and the private state l of the seat's own thread occurs in some run.
pub record MayStep (m : Table) (z : TableId) (k : Opening) (l : Local) (s : TableSeat) : Type 0 where
  pub place : IsOf z k s
  pub under_way : IsOpen s.me.0
  pub stands : Stands m s.me.0
  pub held : l ≡ s.me.0.local
  pub occurs : Occurs m l

-- Holds if an interpreted call has taken its next step, which changed the call's seat (one thread's access to the set)
-- from s to s'. The step table computes the outcome f from the thread's private state l and the value that the step
-- saw.
pub record HasStepped (m : Table) (l : Local) (s : TableSeat) (f : Fed) (s' : TableSeat) : Type 0 where
  pub place : IsSeat s s'
  pub seen : ℕ
  pub goes : Goes m s.me.0 seen s'.me.0
  pub fed : f ≡ m.feed l seen
