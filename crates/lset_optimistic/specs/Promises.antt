-- Laws of OptimisticList, in addition to the laws of all lists. In each law, `op` states the threads, the quota
-- (successful adds per thread) and the keys at the start, and `es` are the events of a run of `last` events. `t` is a
-- thread, and moment `k` is the state after `k` events.
use Rattle.std.specs.Prelude.{◌≡◌, ℕ, ◌+◌, ◌/◌, ◌<◌, ◌≤◌, ◌⊎◌, false, Some}
use Rattle.lset_words.specs.Words.{lock_index, Opening}
use Rattle.lset_words.specs.declared.Call.{Call}
use Rattle.lset_words.specs.declared.Reply.{Reply}
use Rattle.lset_words.specs.Log.{begun_at, has_changed}
use Rattle.lset_steps.specs.declared.Local.{Local}
use Rattle.lset_steps.specs.declared.Action.TheVariants.{Store}
use Rattle.lset_steps.specs.declared.Event.{Event}
use Rattle.lset_steps.specs.declared.Event.TheVariants.{Go}
use Rattle.lset_steps.specs.Steps.{Run, state_at, local_of, told, log_of}
use Rattle.lset_steps.specs.Chain.{View, InChain, FitsIn}
use Rattle.lset_steps.specs.Laws.{views}
use Rattle.lset_optimistic.specs.Optimistic.{optimistic}

-- Returns the private state of thread `t` at moment `k` (after `k` events).
abbrev pub held_at : Opening → (ℕ → Event) → ℕ → ℕ → Local
held_at op es k t = local_of (state_at optimistic op es k) t

-- Returns the nodes and locks of the list at moment `k` (after `k` events).
abbrev pub world_at : Opening → (ℕ → Event) → ℕ → View
world_at op es k = views optimistic op es k

-- Holds if the second walk of a call is in progress: the walk has reached `node`, and next loads the link of `node`
-- (row 6 of the step table) or the key of `node` (row 7).
abbrev pub IsWalking : Local → Type 0
IsWalking l = (l.pc ≡ 6) ⊎ (l.pc ≡ 7)

-- Holds if the second walk of a call has arrived at pred, the first locked node, and the thread has not yet released
-- pred's lock. The thread is then at one of the rows 7 (the load of pred's key) to 14 (the release of pred's lock) of
-- the step table. After a failed second walk, a thread is also at row 14, but its walk is not at pred.
pub record HasArrived (l : Local) : Type 0 where
  pub from : 7 ≤ l.pc
  pub upto : l.pc ≤ 14
  pub there : l.node ≡ l.pred

-- Holds if event number `i` (counted from 0) is a step in which thread `t` releases the lock of node `a` by storing 0.
pub record GivesBack (op : Opening) (es : ℕ → Event) (i t a : ℕ) : Type 0 where
  pub step : es i ≡ Go t
  pub stores : optimistic.next (held_at op es i t) ≡ Store (lock_index a) 0

-- Holds if node `a` is in the chain (the nodes reachable from the head) and thread `t` holds the lock of node `a`.
pub record IsLockedInChain (v : View) (t a : ℕ) : Type 0 where
  pub in_chain : InChain v a
  pub mine : v.lock a ≡ t + 1

-- Holds if node `a` was in the chain (the nodes reachable from the head) at some moment from `first` to `now` (a moment
-- is the number of events so far), and thread `t` has held the lock of node `pred` since that moment. Node `a` itself
-- can have left the chain in the meantime.
pub record WasInChain (vs : ℕ → View) (first now t pred a : ℕ) : Type 0 where
  pub at : ℕ
  pub from : first ≤ at
  pub upto : at ≤ now
  pub in_chain : InChain (vs at) a
  pub locked : (i : ℕ) → at ≤ i → i ≤ now → (vs i).lock pred ≡ t + 1

-- The properties of all second walks that thread t makes in a run.
pub record WalksAreValid (op : Opening) (last t : ℕ) (es : ℕ → Event) : Type 0 where
  -- A second walk can pass nodes that are being unlinked. But each node that the walk reaches was in the chain
  -- (reachable from the head) at some moment during the call, and the thread has held the lock of pred, the first
  -- locked node, since that moment.
  pub passes : (k : ℕ) → k ≤ last → IsWalking (held_at op es k t)
      → WasInChain (views optimistic op es) (begun_at (log_of optimistic op es) t k) k t (held_at op es k t).pred
      (held_at op es k t).node
  -- If a second walk has arrived at pred, the first locked node, after `j` events, then pred is in the chain (reachable
  -- from the head) and the thread holds pred's lock until the thread releases the lock.
  pub arrives : (j k : ℕ) → j ≤ k → k ≤ last → HasArrived (held_at op es j t)
      → ((i : ℕ) → j ≤ i → i < k → GivesBack op es i t (held_at op es j t).pred → ⊥)
      → IsLockedInChain (world_at op es k) t (held_at op es j t).pred
  -- A thread is at one of the rows 8 to 13 of the step table, where a call decides, adds or removes, only after the
  -- thread's second walk has arrived at pred.
  pub decides : (k : ℕ) → k ≤ last → 8 ≤ (held_at op es k t).pc → (held_at op es k t).pc ≤ 13 → HasArrived (held_at op es k t)

-- [Validated walk]: once the second walk has arrived at pred, the first locked node, pred is in the chain (reachable
-- from the head) until the thread releases pred's lock, even if the walk has passed nodes that were being unlinked.
abbrev pub ValidatedWalk : Type 0
ValidatedWalk = (op : Opening) (last t : ℕ) (es : ℕ → Event) → Run optimistic op es last → t < op.threads →
    WalksAreValid op last t es

-- Holds if, at some moment from `first` to just before `now` (a moment is the number of events so far), thread `t`
-- loaded pred's link at row 8 of the step table and found that the link points to curr, and the reply was correct at
-- that moment.
pub record FitsAtALoad (op : Opening) (es : ℕ → Event) (first now t : ℕ) (call : Call) (reply : Reply) : Type 0 where
  pub at : ℕ
  pub from : first ≤ at
  pub before : at < now
  pub step : es at ≡ Go t
  pub row : (held_at op es at t).pc ≡ 8
  pub leads : (world_at op es at).link (held_at op es at t).pred / 2 ≡ (held_at op es at t).curr
  pub fits : FitsIn op.quota (world_at op es at) t call reply

-- [Optimistic replies fit]: if a call ends without having changed the set, its reply is correct at some moment during
-- the call. At that moment, after its second walk had arrived at pred, the thread saw that pred's link points to curr
-- (row 8 of the step table).
abbrev pub OptimisticRepliesFit : Type 0
OptimisticRepliesFit = (op : Opening) (last k t : ℕ) (es : ℕ → Event) (reply : Reply) → Run optimistic op es last → k < last →
    t < op.threads
    → es k ≡ Go t → (told optimistic (state_at optimistic op es k) (Go t)).answer ≡ Some reply
    → has_changed (log_of optimistic op es) t k ≡ false
    → FitsAtALoad op es (begun_at (log_of optimistic op es) t k) k t (held_at op es k t).call reply
