-- A pending call, and its seat (per-thread handle) at the time when the call started.
use Rattle.std.specs.Prelude.{◌≡◌, ℕ, List}
use Rattle.atomic_table.specs.Seated.{TableId}
use Rattle.lset_words.specs.declared.Call.{Call}
use Rattle.lset_words.specs.Words.{Opening}
use Rattle.lset_rule.specs.declared.view.View.{View}
use Rattle.lset_rule.specs.Seats.{TableSeat}

pub record Begun : Type 0 where
  pub call : Call
  pub table_id : TableId
  pub id : ℕ
  pub me : View × List (ℕ × Unit {0})

abbrev pub begun_at : Call → TableSeat → Begun
begun_at c s = record { call = c; table_id = s.table_id; id = s.id; me = s.me }

-- Holds if the pending call `b` executes `c`, and its set has the shared words `z` and was opened with `k` (its
-- threads, the adds that each thread may make, and the keys at the start).
abbrev pub IsCall : Begun → Call → TableId → Opening → Type 0
IsCall b c z k = (b.call ≡ c) × (b.table_id ≡ z) × (b.me.0.shape ≡ k)
