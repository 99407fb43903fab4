-- The consequences of the law of a machine (a list algorithm as a table of steps), each with its own name. In all of
-- them, `op` has the number of threads, the quota (successful adds per thread), and the opening keys of the set, the
-- run consists of the first `last` events of `es`, and `k` is a moment (the state after `k` events).
use Rattle.std.specs.Prelude.{◌≡◌, ◌≢◌, ℕ, zero, suc, ◌+◌, ◌%◌, ◌^◌, ◌<◌, ◌≤◌, ◌⊎◌, true, false, if◌then◌else◌, ◌==◌, List, []}
use Rattle.std.specs.Prelude.{◌∷◌, ◌++◌, map, Option, Some, Contains, slice_index}
use Rattle.std.specs.List.Sorted.{IsStrictlyIncreasing}
use Rattle.lset_words.specs.declared.Call.{Call}
use Rattle.lset_words.specs.declared.Call.TheVariants as call
use Rattle.lset_words.specs.declared.Reply.{Reply}
use Rattle.lset_words.specs.declared.Reply.TheVariants.{True}
use Rattle.lset_words.specs.Words.{word_count, node_count, Sizes, Opening, sizes}
use Rattle.lset_words.specs.Log.{Log, Entry, Change, last_call, begun_at, has_changed}
use Rattle.lset_words.specs.Log.Entry.{began, stepped}
use Rattle.lset_words.specs.Account.{Account, Contents, Counts, Same, Changes, MayChange, RightReply, count_after}
use Rattle.lset_steps.specs.declared.Local.{Local}
use Rattle.lset_steps.specs.declared.Action.{Action}
use Rattle.lset_steps.specs.declared.Action.TheVariants.{Load, Store, Exchange}
use Rattle.lset_steps.specs.declared.Event.{Event}
use Rattle.lset_steps.specs.declared.Event.TheVariants.{Begin, Go}
use Rattle.lset_steps.specs.Steps.{Table, State, Run, state_at, local_of, log_of}
use Rattle.lset_steps.specs.Chain.{View, InContent, IsChain, InChain, UnmarkedInChain, UnlinkedStays, Seen, contents_of, counts_of}
use Rattle.lset_steps.specs.Laws.{Registers, IsLockWord, LockUse, word_named, views}
use Rattle.lset_steps.specs.Worlds.{IsContent}

-- [In range]: the registers of thread `t` (the nodes and key words in its private state) are in range, and if the
-- thread has a pending call, its next step accesses one of the list's words.
pub record ThreadInRange (T : Table) (sz : Sizes) (t : ℕ) (l : Local) : Type 0 where
  pub registers : Registers sz t l
  pub action : l.pc ≢ 0 → word_named (T.next l) < word_count sz

abbrev pub InRange : Table → Type 0
InRange T = (op : Opening) (last k t : ℕ) (es : ℕ → Event) → Run T op es last → k ≤ last → t < op.threads
    → ThreadInRange T (sizes op) t (local_of (state_at T op es k) t)

-- [Sorted chain]: holds if the chain reaches the tail, and the keys along the chain, including the tail's, increase
-- strictly.
pub record ChainIsSorted (v : View) : Type 0 where
  pub nodes : List ℕ
  pub chain : IsChain v nodes
  pub increasing : IsStrictlyIncreasing (map v.key (nodes ++ 1 ∷ []))

abbrev pub SortedChain : Table → Type 0
SortedChain T = (op : Opening) (last k : ℕ) (es : ℕ → Event) → Run T op es last → k ≤ last → ChainIsSorted (views T op es k)

-- [Lock words]: returns lock word `x` after an action of thread `t`. `old` is the word before the action. A successful
-- exchange takes the lock and sets the word to `t + 1`. A store releases the lock and sets the word to 0.
abbrev pub held : ℕ → ℕ → ℕ → Action → ℕ
held x t old (Load w) = old
held x t old (Store w v) = if w == x then 0 else old
held x t old (Exchange w o v) = if w == x then (if old == 0 then t + 1 else old) else old

-- Returns lock word `x` after an event. `old` is the word before the event.
abbrev pub held_after : Table → State → ℕ → ℕ → Event → ℕ
held_after T s x old (Begin t call) = old
held_after T s x old (Go t) = held x t old (T.next (local_of s t))

-- Returns lock word `x` at each moment of a run, computed only from the actions that take and release the lock.
abbrev pub holder : Table → Opening → (ℕ → Event) → ℕ → ℕ → ℕ
holder T op es x zero = 0
holder T op es x (suc k) = held_after T (state_at T op es k) x (holder T op es x k) (es k)

abbrev pub LockWords : Table → Type 0
LockWords T = (op : Opening) (last k x : ℕ) (es : ℕ → Event) → Run T op es last → k ≤ last → IsLockWord x →
    x < word_count (sizes op)
    → slice_index (state_at T op es k).words x ≡ holder T op es x k

-- Holds if in each step, an exchange on a lock word is an attempt to take the lock, and a store to a lock word stores 0
-- and is made by the thread that holds the lock.
abbrev pub LockUses : Table → Type 0
LockUses T = (op : Opening) (last k t : ℕ) (es : ℕ → Event) → Run T op es last → k < last → es k ≡ Go t
    → LockUse (state_at T op es k).words t (T.next (local_of (state_at T op es k) t))

-- [Unlinked stays]: compares a node i, which is published at moment j (has been in the chain), at j and at a later
-- moment k. At k, the node has the same key. If the node is unlinked at j, it is unlinked at k and has the same link.
-- In a list that marks nodes, a node that is marked at j has the same link at k.
abbrev pub UnlinkedNodesStay : Table → Type 0
UnlinkedNodesStay T = (op : Opening) (last j k i : ℕ) (es : ℕ → Event) → Run T op es last → j ≤ k → k ≤ last
    → (views T op es j).published i → UnlinkedStays T.marks (views T op es j) (views T op es k) i

-- [Frozen]: holds if the link word of node i does not change from moment k to the end of the run.
abbrev pub IsFrozen : Table → Opening → ℕ → (ℕ → Event) → ℕ → ℕ → Type 0
IsFrozen T op last es k i = (later : ℕ) → k ≤ later → later ≤ last → (views T op es later).link i ≡ (views T op es k).link i

-- Holds if a node's link is frozen as soon as the node is unlinked or, in a list that marks nodes, as soon as it is
-- marked.
pub record Freezes (T : Table) (op : Opening) (last : ℕ) (es : ℕ → Event) (k i : ℕ) : Type 0 where
  pub unlinked : (InChain (views T op es k) i → ⊥) → IsFrozen T op last es k i
  pub marked : T.marks ≡ true → (views T op es k).link i % 2 ≡ 1 → IsFrozen T op last es k i

abbrev pub FrozenNodes : Table → Type 0
FrozenNodes T = (op : Opening) (last k i : ℕ) (es : ℕ → Event) → Run T op es last → k ≤ last → (views T op es k).published i
    → Freezes T op last es k i

-- [Seen in the past]: if a node is in the chain at moment j, and has a certain link word at a later moment k, then at
-- some moment from j to k, the node is in the chain with that link word.
abbrev pub SeenInThePast : Table → Type 0
SeenInThePast T = (op : Opening) (last j k b : ℕ) (es : ℕ → Event) → Run T op es last → j ≤ k → k ≤ last
    → InChain (views T op es j) b → Seen (views T op es) j k b ((views T op es k).link b)

-- [Unmarked in chain]: in a list that marks nodes, every published node (one that has been in the chain) stays in the
-- chain until it is marked. In a list that does not mark nodes, no published node is marked.
abbrev pub UnmarkedNodesInChain : Table → Type 0
UnmarkedNodesInChain T = (op : Opening) (last k : ℕ) (es : ℕ → Event) → Run T op es last → k ≤ last
    → UnmarkedInChain T.marks (views T op es k)

-- Holds if, in a list that does not mark nodes, no node ever has a mark, not even before its first use.
abbrev pub NoLinkIsMarked : Table → Type 0
NoLinkIsMarked T = (op : Opening) (last k i : ℕ) (es : ℕ → Event) → Run T op es last → k ≤ last → T.marks ≡ false →
    i < node_count (sizes op)
    → (views T op es k).link i % 2 ≡ 0

-- [Named change]: states how event k of a run (counted from 0) changes the keys of the set and each thread's number of
-- successful adds. Only a step of a pending call can make a change, and each call makes at most one change.
abbrev pub ChangeIsNamed : ℕ → ℕ → Log → Contents → Counts → ℕ → Entry → Type 0
ChangeIsNamed threads quota log contents counts k (began t call) =
    Same (contents k) (contents (suc k))
    × ((u : ℕ) → u < threads → counts (suc k) u ≡ counts k u)
ChangeIsNamed threads quota log contents counts k (stepped t change reply) =
    Changes change (contents k) (contents (suc k))
    × MayChange quota (counts k t) (last_call log t k) (has_changed log t k) change
    × (counts (suc k) t ≡ count_after change (counts k t))
    × ((u : ℕ) → u < threads → u ≢ t → counts (suc k) u ≡ counts k u)

abbrev pub NamedChange : Table → Type 0
NamedChange T = (op : Opening) (last k : ℕ) (es : ℕ → Event) → Run T op es last → k < last
    → ChangeIsNamed op.threads op.quota (log_of T op es) (contents_of (views T op es)) (counts_of (views T op es)) k
    (log_of T op es k)

-- [Replies fit]: if event k of a run (counted from 0) ends a call, the call's reply is correct. The reply is `True` if
-- the call has changed the set, and otherwise it is correct for the keys of the set at some moment of the call.
abbrev pub RepliesFit : Table → Type 0
RepliesFit T = (op : Opening) (last k t : ℕ) (es : ℕ → Event) (change : Option Change) (reply : Reply) → Run T op es last →
    k < last
    → log_of T op es k ≡ stepped t change (Some reply)
    → RightReply (has_changed (log_of T op es) t (suc k)) op.quota (contents_of (views T op es)) (counts_of (views T op es))
    (begun_at (log_of T op es) t k) (suc k) t (last_call (log_of T op es) t k) (Some reply)

abbrev pub IsContains : Call → Type 0
IsContains (call.Contains k) = Unit {0}
IsContains call = ⊥

abbrev pub IsRead : Call → Type 0
IsRead (call.Add k) = ⊥
IsRead (call.Remove k) = ⊥
IsRead (call.Contains k) = Unit {0}
IsRead (call.Ceiling k) = Unit {0}

-- Holds if only a `contains` can reply `True` without having changed the set.
abbrev pub TrueMeansChange : Table → Type 0
TrueMeansChange T = (op : Opening) (last k t : ℕ) (es : ℕ → Event) (change : Option Change) → Run T op es last → k < last
    → log_of T op es k ≡ stepped t change (Some True)
    → (has_changed (log_of T op es) t (suc k) ≡ true) ⊎ IsContains (last_call (log_of T op es) t k)

-- Holds if every run has an account, in which each event changes the keys of the set as its call allows, and each reply
-- is correct at some moment of its call. An account mentions no nodes and no locks.
abbrev pub HasAccount : Table → Type 0
HasAccount T = (op : Opening) (last : ℕ) (es : ℕ → Event) → Run T op es last
    → Account op last (log_of T op es) (contents_of (views T op es)) (counts_of (views T op es))

-- Holds if the keys of the unmarked nodes along the chain form a strictly increasing list of exactly the keys of the
-- set, all of them below 2^32.
pub record ContentIsListed (v : View) : Type 0 where
  pub keys : List ℕ
  pub increasing : IsContent v keys
  pub member : (k : ℕ) → InContent v k → Contains keys k
  pub only : (k : ℕ) → Contains keys k → InContent v k
  pub low : (k : ℕ) → InContent v k → k < 2 ^ 32

abbrev pub ListedContent : Table → Type 0
ListedContent T = (op : Opening) (last k : ℕ) (es : ℕ → Event) → Run T op es last → k ≤ last → ContentIsListed (views T op es k)
