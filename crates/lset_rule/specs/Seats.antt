-- The seat of a call (one thread's access to the set): the requirements of a call on its seat, and how the call changes
-- the seat.
use Rattle.std.specs.Prelude.{◌≡◌}
use Rattle.atomic_table.specs.declared.shared.Seat.{Seat}
use Rattle.atomic_table.specs.Seated.{TableId}
use Rattle.lset_words.specs.declared.Call.{Call}
use Rattle.lset_words.specs.declared.Reply.{Reply}
use Rattle.lset_words.specs.Words.{word_count, Opening, sizes}
use Rattle.lset_steps.specs.Steps.{Table}
use Rattle.lset_rule.specs.declared.slots.OwnSlots.{OwnSlots}
use Rattle.lset_rule.specs.declared.view.View.{View}
use Rattle.lset_rule.specs.OwnSlots.{slots_of}
use Rattle.lset_rule.specs.Views.{IsIdle, Stands}
use Rattle.lset_rule.specs.Calls.{Makes}

-- A seat (one thread's access to the set) together with its view (what the seat knows about the run).
abbrev pub TableSeat : Type 0
TableSeat = Seat (Unit {0}) View

-- Holds if the seat s (one thread's access to the set) belongs to the shared words z, and z has the right number of
-- words for a set that was opened with k (threads, quota, and opening keys).
abbrev pub IsOf : TableId → Opening → TableSeat → Type 0
IsOf z k s = (s.table_id ≡ z) × (s.me.0.shape ≡ k) × (z.words ≡ word_count (sizes k))

-- Holds if s and s' are the states of one seat (one thread's access to the set) before and after some steps. The view
-- of the seat (what the seat knows about the run) can differ.
abbrev pub IsSeat : TableSeat → TableSeat → Type 0
IsSeat s s' = (s'.table_id ≡ s.table_id) × (s'.id ≡ s.id) × (s'.me.1 ≡ s.me.1)

-- The requirements of a call on its seat s (one thread's access to the set): s belongs to the shared words z, and its
-- own thread has no pending call and has the slots `own` (nodes reserved for its adds).
pub record MayCall (m : Table) (z : TableId) (k : Opening) (own : OwnSlots) (s : TableSeat) : Type 0 where
  pub place : IsOf z k s
  pub idle : IsIdle s.me.0
  pub stands : Stands m s.me.0
  pub slots : own ≡ slots_of s.me.0.local

-- Holds if call c changed its seat (one thread's access to the set) from s to s', and added only itself, with its
-- reply, to the seat's record. `answer` contains the thread's slots (nodes reserved for its adds) after the call, and
-- the reply.
pub record HasCalled (m : Table) (c : Call) (s : TableSeat) (answer : OwnSlots × Reply) (s' : TableSeat) : Type 0 where
  pub place : IsSeat s s'
  pub slots : answer.0 ≡ slots_of s'.me.0.local
  pub made : Makes m c s.me.0 answer.1 s'.me.0
