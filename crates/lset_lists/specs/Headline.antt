-- [Headline, as a law]: the main theorem. Every run, of any length, is linearizable: some order of its calls explains
-- the run.
use Rattle.std.specs.Prelude.{◌≡◌, ℕ, List, map}
use Rattle.lset_words.specs.declared.history.CallRecord.{CallRecord}
use Rattle.lset_words.specs.declared.history.Placed.{Placed}
use Rattle.lset_words.specs.Words.{Opening}
use Rattle.lset_words.specs.Log.{calls_at, history_at}
use Rattle.lset_history.specs.Placement.{IsPlacement}
use Rattle.lset_words.specs.History.{IsHistory, Linearizes, answered}
use Rattle.lset_words.specs.SequentialSet.{opening_set, set_left}
use Rattle.lset_steps.specs.declared.Event.{Event}
use Rattle.lset_steps.specs.Steps.{Table, Run, log_of}
use Rattle.lset_steps.specs.Chain.{contents_of, counts_of}
use Rattle.lset_steps.specs.Laws.{views}
use Rattle.lset_steps.specs.Worlds.{IsContent}

-- Returns the final keys of a set on which the calls of `history` are made one by one in the order `order`. `op` states
-- the keys at the start and the quota (successful adds per thread).
abbrev pub keys_left : Opening → List CallRecord → List Placed → List ℕ
keys_left op history order = (set_left (opening_set op) (map (answered history) order)).keys

-- Returns the history of the first k events of a run: the calls, each with its start, end and reply.
abbrev pub history_of : Table → Opening → (ℕ → Event) → ℕ → List CallRecord
history_of T op es k = history_at (log_of T op es) k

-- Holds if `order`, an order of the run's calls, explains the first `last` events of a run: the order is a
-- linearization, and ends with the same keys as the run.
pub record ExplainsRun (T : Table) (op : Opening) (es : ℕ → Event) (last : ℕ) (order : List Placed) : Type 0 where
  -- The calls of the run form a history.
  pub history : IsHistory op.threads (history_of T op es last)
  -- The order linearizes the history, if the set initially contains the opening keys.
  pub linearizes : Linearizes op.quota (opening_set op) (history_of T op es last) order
  -- The keys of the set after the calls of the order are the final keys of the run, in increasing order.
  pub content : IsContent (views T op es last) (keys_left op (history_of T op es last) order)

-- The main theorem: every run is explained by some order of its calls.
abbrev pub RunsAreLinearizable : Table → Type 0
RunsAreLinearizable T = (op : Opening) (last : ℕ) (es : ℕ → Event) → Run T op es last
    → (order : List Placed) × ExplainsRun T op es last order

-- Holds if `order` is the [Placement] of the run: the run's calls, sorted by their linearization points.
abbrev pub IsPlacedBy : Table → Opening → (ℕ → Event) → ℕ → List Placed → Type 0
IsPlacedBy T op es k order = IsPlacement op.quota (calls_at (log_of T op es) k)
    (contents_of (views T op es)) (counts_of (views T op es)) order

-- [The placement of a run]: `order` lists the run's calls by their linearization points, and is the only order that
-- does.
pub record IsThePlacement (T : Table) (op : Opening) (es : ℕ → Event) (last : ℕ) (order : List Placed) : Type 0 where
  pub placement : IsPlacedBy T op es last order
  pub alone : (other : List Placed) → IsPlacedBy T op es last other → other ≡ order

-- The main theorem with placement: every run is explained by the order of its calls by linearization points.
abbrev pub PlacementExplainsRuns : Table → Type 0
PlacementExplainsRuns T = (op : Opening) (last : ℕ) (es : ℕ → Event) → Run T op es last
    → (order : List Placed) × ExplainsRun T op es last order × IsThePlacement T op es last order
