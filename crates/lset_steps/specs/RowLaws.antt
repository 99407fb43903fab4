-- The behavior of single rows of a step table. Proofs use the laws of single rows instead of the whole table.
use Rattle.std.specs.Prelude.{◌≡◌, ℕ, ◌/◌, Bool, Option, None}
use Rattle.lset_words.specs.declared.Key.{Key}
use Rattle.lset_words.specs.declared.Call.{Call}
use Rattle.lset_words.specs.Words.{key_index, link_index}
use Rattle.lset_steps.specs.declared.Local.{Local}
use Rattle.lset_steps.specs.declared.Action.{Action}
use Rattle.lset_steps.specs.declared.Action.TheVariants.{Load}
use Rattle.lset_steps.specs.declared.Fed.{Fed}
use Rattle.lset_steps.specs.Steps.{Table}
use Rattle.lset_steps.specs.ReadRows.{begun_reading, continued, read_key, read_mark, ceiling_key, ceiling_mark}

-- Holds if row `pc` of a step table is described by three functions: `acts` returns the thread's next action, `feeds`
-- the state and the reply after the action, and `tells` the change of the set.
abbrev pub Does : Table → ℕ → (Local → Action) → (Local → ℕ → Fed) → (Local → ℕ → Option (Key × Bool)) → Type 0
Does T pc acts feeds tells = (l : Local) → l.pc ≡ pc
    → (T.next l ≡ acts l) × ((seen : ℕ) → (T.feed l seen ≡ feeds l seen) × (T.effect l seen ≡ tells l seen))

-- Returns `None`, the change of a step that does not change the set.
abbrev pub nothing : Local → ℕ → Option (Key × Bool)
nothing l seen = None

-- Holds if a `contains` begins at row 20 and a `ceiling` at row 23 of the step table, and rows 20 to 25 do what the
-- fields of this record state. These rows take no lock.
pub record HasReading (T : Table) : Type 0 where
  pub begins : (call : Call) (l : Local) → T.begin call l ≡ begun_reading call l
  -- Row 20 of the step table: a `contains`, which starts at the head, loads the link of a node.
  pub row_20 : Does T 20 (λ l. Load (link_index l.curr)) (λ l seen. continued (record l { pc = 21; curr = seen / 2 })) nothing
  -- Row 21 of the step table: a `contains` loads the key of the next node, and compares it with the call's own key.
  pub row_21 : Does T 21 (λ l. Load (key_index l.curr)) read_key nothing
  -- Row 22 of the step table: a `contains` that has found its key loads the node's mark, and replies.
  pub row_22 : Does T 22 (λ l. Load (link_index l.curr)) read_mark nothing
  -- Rows 23 to 25 of the step table: like a `contains` at rows 20 to 22, a `ceiling` walks along the chain and loads a
  -- mark. It also keeps the key word in its private state, and starts again from the head if the node is marked.
  pub row_23 : Does T 23 (λ l. Load (link_index l.curr)) (λ l seen. continued (record l { pc = 24; curr = seen / 2 })) nothing
  pub row_24 : Does T 24 (λ l. Load (key_index l.curr)) ceiling_key nothing
  pub row_25 : Does T 25 (λ l. Load (link_index l.curr)) ceiling_mark nothing
