-- Theorems about placement: the order of a run's calls by their linearization points.
use Rattle.std.specs.Prelude.{◌≡◌, ◌↔◌, ℕ, ◌≤◌, List, map, Contains}
use Rattle.std.specs.List.Sorted.{IsStrictlyIncreasing}
use Rattle.lset_words.specs.declared.Call.{Call}
use Rattle.lset_words.specs.declared.Call.TheVariants as call
use Rattle.lset_words.specs.declared.Reply.{Reply}
use Rattle.lset_words.specs.declared.history.Placed.{Placed}
use Rattle.lset_words.specs.SequentialSet.{SetState, opening_set, count_of, reply_to, after_call, set_left}
use Rattle.lset_words.specs.History.{IsHistory, answered, Linearizes}
use Rattle.lset_words.specs.Log.{Log, TracedCall, calls_at, history_at}
use Rattle.lset_words.specs.Account.{Content, Contents, Counts, Fits, Account}
use Rattle.lset_history.specs.Placement.{IsPlacement}
use Rattle.lset_words.specs.Words.{Opening}

-- `content_of` converts a list of keys to the predicate that holds for exactly the keys in the list.
-- `contents_of_lists` converts the list of keys at each moment.
abbrev pub content_of : List ℕ → Content
content_of keys j = Contains keys j

abbrev pub contents_of_lists : (ℕ → List ℕ) → Contents
contents_of_lists lists m = content_of (lists m)

-- Holds if the set has exactly the keys in the list `content`, in strictly increasing order. No other strictly
-- increasing list has the same keys.
pub record HasKeysOf (s : SetState) (content : List ℕ) : Type 0 where
  pub increasing : IsStrictlyIncreasing s.keys
  pub members : (j : ℕ) → Contains content j ↔ Contains s.keys j
  pub alone : (keys : List ℕ) → IsStrictlyIncreasing keys → ((j : ℕ) → Contains content j ↔ Contains keys j) → s.keys ≡ keys

-- Returns the state of the set after the calls of a run, applied one by one in the given order to the set with the
-- opening keys.
abbrev pub set_of_order : Opening → Log → ℕ → List Placed → SetState
set_of_order op log last order = set_left (opening_set op) (map (answered (history_at log last)) order)

-- The placement theorem: if a run has an account, the order of the run's calls by their linearization points linearizes
-- the history, and leaves the final keys of the run. A run has an account if each event changes the keys as its call
-- allows, and each reply is correct at some moment of its call.
abbrev pub PlacementLinearizes : Type 0
PlacementLinearizes = (op : Opening) (last : ℕ) (log : Log) (lists : ℕ → List ℕ) (counts : Counts) (order : List Placed)
    → Account op last log (contents_of_lists lists) counts
    → IsPlacement op.quota (calls_at log last) (contents_of_lists lists) counts order
    → Linearizes op.quota (opening_set op) (history_at log last) order × HasKeysOf (set_of_order op log last order) (lists last)

-- If a run has an account, there is an order of the run's calls by their linearization points. The order contains each
-- call that changed the set or completed. A run has an account if each event changes the keys as its call allows, and
-- each reply is correct at some moment of its call.
abbrev pub EveryCallHasAPlace : Type 0
EveryCallHasAPlace = (op : Opening) (last : ℕ) (log : Log) (lists : ℕ → List ℕ) (counts : Counts)
    → Account op last log (contents_of_lists lists) counts
    → (order : List Placed) × IsPlacement op.quota (calls_at log last) (contents_of_lists lists) counts order

-- After each event of a run, the calls that have begun form a history, if the run has an account. A run has an account
-- if each event changes the keys as its call allows, and each reply is correct at some moment of its call.
abbrev pub LogsTellHistories : Type 0
LogsTellHistories = (op : Opening) (last : ℕ) (log : Log) (lists : ℕ → List ℕ) (counts : Counts)
    → Account op last log (contents_of_lists lists) counts → (k : ℕ) → k ≤ last → IsHistory op.threads (history_at log k)

-- Holds if the keys increase strictly, or the call is not a `Ceiling`.
abbrev pub IncreasesFor : Call → List ℕ → Type 0
IncreasesFor (call.Add k) keys = Unit {0}
IncreasesFor (call.Remove k) keys = Unit {0}
IncreasesFor (call.Contains k) keys = Unit {0}
IncreasesFor (call.Ceiling k) keys = IsStrictlyIncreasing keys

-- The predicate `Fits` agrees with the sequential set: a reply fits the keys in the set and the thread's number of
-- successful adds if and only if the set returns the reply and the call does not change the set.
abbrev pub FitsAreReplies : Type 0
FitsAreReplies = (quota thread count : ℕ) (keys : List ℕ) (s : SetState) (call : Call) (reply : Reply)
    → ((j : ℕ) → Contains keys j ↔ Contains s.keys j) → IncreasesFor call s.keys → count_of s thread ≡ count
    → Fits quota (content_of keys) count call reply
    ↔ ((reply_to quota s thread call ≡ reply) × (after_call s thread call reply ≡ s))

-- A run has at most one placement (order of its calls by their linearization points).
abbrev pub PlacementIsOneOrder : Type 0
PlacementIsOneOrder = (quota : ℕ) (calls : List TracedCall) (lists : ℕ → List ℕ) (counts : Counts)
    (order other : List Placed)
    → IsPlacement quota calls (contents_of_lists lists) counts order
    → IsPlacement quota calls (contents_of_lists lists) counts other → order ≡ other
