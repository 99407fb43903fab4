-- Laws of progress, in Herlihy and Shavit's terms, which state when calls end. The laws hold after each event of every
-- run, under every schedule.
use Rattle.std.specs.Prelude.{◌≡◌, ◌≢◌, ℕ, zero, suc, ◌+◌, ◌*◌, ◌%◌, ◌<◌, ◌≤◌, ◌⊎◌, Bool, true, false, Some, slice_index}
use Rattle.lset_words.specs.declared.Call.{Call}
use Rattle.lset_words.specs.declared.Call.TheVariants as call
use Rattle.lset_words.specs.declared.Reply.{Reply}
use Rattle.lset_words.specs.Words.{node_count, word_count, Sizes, Opening, sizes}
use Rattle.lset_steps.specs.declared.Action.TheVariants.{Exchange}
use Rattle.lset_steps.specs.declared.Event.{Event}
use Rattle.lset_steps.specs.declared.Event.TheVariants.{Begin, Go}
use Rattle.lset_steps.specs.Steps.{Table, State, Run, Enabled, state_at, after, told, local_of}
use Rattle.lset_steps.specs.Chain.{View, InChain}
use Rattle.lset_steps.specs.Laws.{IsLockWord, views}

-- Holds if thread t has a pending call.
abbrev pub IsPending : State → ℕ → Type 0
IsPending s t = (local_of s t).pc ≢ 0

-- Holds if thread t holds the lock at word x.
pub record Holds (sz : Sizes) (s : State) (t x : ℕ) : Type 0 where
  pub is_lock : IsLockWord x
  pub inside : x < word_count sz
  pub mine : slice_index s.words x ≡ t + 1

-- Holds if no thread other than t holds a lock.
abbrev pub NoOtherHolds : Sizes → State → ℕ → Type 0
NoOtherHolds sz s t = (u x : ℕ) → u < sz.threads → u ≢ t → Holds sz s u x → ⊥

-- Holds if the next step of thread t ends its call.
abbrev pub Answers : Table → State → ℕ → Type 0
Answers T s t = (reply : Reply) × ((told T s (Go t)).answer ≡ Some reply)

-- [Ends alone]: holds if the call of thread t ends within n steps when only t takes steps.
abbrev pub EndsAlone : Table → State → ℕ → ℕ → Type 0
EndsAlone T s t zero = ⊥
EndsAlone T s t (suc n) = Enabled s (Go t) × (Answers T s t ⊎ EndsAlone T (after T s (Go t)) t n)

-- [Calls end alone]: in a list with locks, a call ends within `most` steps if its thread runs alone and no other
-- thread holds a lock (solo termination).
abbrev pub CallsEndAlone : Table → (Sizes → ℕ) → Type 0
CallsEndAlone T most = (op : Opening) (k t : ℕ) (es : ℕ → Event) → Run T op es k → t < op.threads
    → IsPending (state_at T op es k) t → NoOtherHolds (sizes op) (state_at T op es k) t
    → EndsAlone T (state_at T op es k) t (most (sizes op))

abbrev pub IsCeiling : Call → Type 0
IsCeiling (call.Ceiling k) = Unit {0}
IsCeiling call = ⊥

abbrev pub NoMarkInChain : View → Type 0
NoMarkInChain v = (b : ℕ) → InChain v b → v.link b % 2 ≡ 0

-- [Calls end unhindered]: in a list without locks, a call ends within `most` steps if its thread runs alone, whatever
-- state the other threads are in (obstruction freedom). For a `ceiling`, which starts again at a marked node and does
-- not unlink the node, the law requires that the chain has no marked node.
abbrev pub CallsEndUnhindered : Table → (Sizes → ℕ) → Type 0
CallsEndUnhindered T most = (op : Opening) (k t : ℕ) (es : ℕ → Event) → Run T op es k → t < op.threads
    → IsPending (state_at T op es k) t
    → (IsCeiling (local_of (state_at T op es k) t).call → NoMarkInChain (views T op es k))
    → EndsAlone T (state_at T op es k) t (most (sizes op))

-- [A ceiling that never ends]: at some moment of some run, a `ceiling` is pending and all other threads are idle. The
-- `ceiling` does not end, however many steps its thread takes alone.
pub record SomeCeilingNeverEnds (T : Table) : Type 0 where
  pub opening : Opening
  pub events : ℕ → Event
  pub moment : ℕ
  pub thread : ℕ
  pub run : Run T opening events moment
  pub in_threads : thread < opening.threads
  pub pending : IsPending (state_at T opening events moment) thread
  pub is_ceiling : IsCeiling (local_of (state_at T opening events moment) thread).call
  pub others_idle : (u : ℕ) → u < opening.threads → u ≢ thread → (local_of (state_at T opening events moment) u).pc ≡ 0
  pub never : (n : ℕ) → EndsAlone T (state_at T opening events moment) thread n → ⊥

-- Holds if thread t has a pending call whose next step is not a failed attempt to take a lock.
pub record GetsOn (T : Table) (s : State) (t : ℕ) : Type 0 where
  pub enabled : Enabled s (Go t)
  pub tries : (x old new : ℕ) → IsLockWord x → T.next (local_of s t) ≡ Exchange x old new → slice_index s.words x ≡ old

-- [Some thread gets on]: whenever a call is pending, some pending call has a next step that is not a failed attempt to
-- take a lock.
abbrev pub SomeThreadGetsOn : Table → Type 0
SomeThreadGetsOn T = (op : Opening) (k t : ℕ) (es : ℕ → Event) → Run T op es k → t < op.threads
    → IsPending (state_at T op es k) t
    → (u : ℕ) × (u < op.threads) × GetsOn T (state_at T op es k) u

-- Returns 1 if the steps of the call are counted, and 0 otherwise. The steps of an `add` or a `remove` are counted. The
-- steps of a `contains` are counted if `reads` is true. The steps of a `ceiling` are not counted.
abbrev pub counted : Bool → Call → ℕ
counted reads (call.Add k) = 1
counted reads (call.Remove k) = 1
counted true (call.Contains k) = 1
counted false (call.Contains k) = 0
counted reads (call.Ceiling k) = 0

abbrev pub steps_of : Bool → State → Event → ℕ
steps_of reads s (Begin t call) = 0
steps_of reads s (Go t) = counted reads (local_of s t).call

-- Returns how many of the n events after the first k events are counted steps. `count` returns 1 for a counted step,
-- and 0 for any other event.
abbrev pub steps_among : (State → Event → ℕ) → Table → Opening → (ℕ → Event) → ℕ → ℕ → ℕ
steps_among count T op es k zero = 0
steps_among count T op es k (suc n) = count (state_at T op es k) (es k) + steps_among count T op es (suc k) n

-- Holds if one of the n events after the first k events is a counted step that ends its call. `count` returns 1 for a
-- counted step, and 0 for any other event.
pub record SomeEnds (count : State → Event → ℕ) (T : Table) (op : Opening) (es : ℕ → Event) (k n : ℕ) : Type 0 where
  pub at : ℕ
  pub from : k ≤ at
  pub before : at < k + n
  pub thread : ℕ
  pub own : es at ≡ Go thread
  pub counts : count (state_at T op es at) (es at) ≡ 1
  pub ends : Answers T (state_at T op es at) thread

-- Holds if, among any `most` successive counted steps of a run, at least one ends its call. `count` returns 1 for a
-- counted step, and 0 for any other event.
abbrev pub EndsAmong : (State → Event → ℕ) → Table → (Sizes → ℕ) → Type 0
EndsAmong count T most = (op : Opening) (k n : ℕ) (es : ℕ → Event) → Run T op es (k + n)
    → most (sizes op) ≤ steps_among count T op es k n → SomeEnds count T op es k n

-- [Lock freedom]: among any `most` successive steps of `add` and `remove`, at least one ends its call, whichever
-- threads take the steps and whatever other events happen between the steps. The law also holds for the steps of `add`,
-- `remove`, and `contains`.
abbrev pub IsLockFree : Table → (Sizes → ℕ) → Type 0
IsLockFree T most = (reads : Bool) → EndsAmong (steps_of reads) T most

-- Returns an upper bound on the number of steps of a call that runs alone, for a CoarseList. `node_count` is the number
-- of nodes: the head, the tail, the slots (nodes reserved for adds) of all threads, and the nodes of the opening keys.
abbrev pub coarse_steps : Sizes → ℕ
coarse_steps sz = 2 * node_count sz + 3

-- Returns an upper bound on the number of steps of a call that runs alone, for a FineList.
abbrev pub fine_steps : Sizes → ℕ
fine_steps sz = 4 * node_count sz + 3

-- Returns an upper bound on the number of steps of a call that runs alone, for an OptimisticList.
abbrev pub optimistic_steps : Sizes → ℕ
optimistic_steps sz = 8 * node_count sz + 9

-- Returns an upper bound on the number of steps of a call that runs alone, for a LockFreeList.
abbrev pub lock_free_steps : Sizes → ℕ
lock_free_steps sz = 4 * node_count sz + 5

-- Returns an upper bound on the number of counted steps until a call of a LockFreeList ends. Each thread takes at most
-- the steps of its pending call and, after each successful exchange that ends no call, the steps of one additional
-- walk. The number of successful exchanges that end no call is bounded, because each thread marks at most one node, and
-- each node is unlinked at most once.
abbrev pub lock_free_window : Sizes → ℕ
lock_free_window sz =
    sz.threads * (2 * node_count sz + 2) * (node_count sz + sz.threads) + sz.threads * lock_free_steps sz

-- Returns an upper bound on the number of steps of a call that runs alone, for a LazyList.
abbrev pub lazy_steps : Sizes → ℕ
lazy_steps sz = 4 * node_count sz + 15
