-- Freedom from deadlock, as Herlihy and Shavit define it: in a fair run (one in which every thread with a pending call
-- takes another step later), whenever a call is pending, some call ends later.
--
-- The definitions have a parameter `calls`, which is 1 for the calls that a law is about, and 0 for all other calls.
-- The proof uses two laws that hold in every run. `SomeThreadGetsOn`: whenever a call is pending, some thread can take
-- a step that is not a failed attempt to take a lock. `IsLivelockFree`: among sufficiently many counted steps (steps of
-- calls with `calls` equal to 1 that are not failed attempts to take a lock), at least one ends its call.
use Rattle.std.specs.Prelude.{◌≡◌, ℕ, ◌+◌, ◌*◌, ◌%◌, ◌<◌, ◌≤◌, nat_lt, ◌==◌, if◌then◌else◌, Bool, true, false, List, slice_index}
use Rattle.lset_words.specs.declared.Call.{Call}
use Rattle.lset_words.specs.Words.{Sizes, Opening}
use Rattle.lset_steps.specs.declared.Action.{Action}
use Rattle.lset_steps.specs.declared.Action.TheVariants.{Load, Store, Exchange}
use Rattle.lset_steps.specs.declared.Event.{Event}
use Rattle.lset_steps.specs.declared.Event.TheVariants.{Begin, Go}
use Rattle.lset_steps.specs.Steps.{Table, State, Run, state_at, local_of}
use Rattle.lset_progress.specs.Progress.{IsPending, SomeEnds, EndsAmong}

-- Returns whether word x is a lock: word 0 (the lock of CoarseList), or the lock word of a node.
abbrev pub is_lock_word : ℕ → Bool
is_lock_word x = if x == 0 then true else if nat_lt x 5 then false else if x % 3 == 2 then true else false

-- Returns 0 if the action is an attempt to take a lock that is not free, and n otherwise. `ws` are the shared words.
abbrev pub unless_failed : List ℕ → Action → ℕ → ℕ
unless_failed ws (Load w) n = n
unless_failed ws (Store w v) n = n
unless_failed ws (Exchange w old new) n = if slice_index ws w == old then n else if is_lock_word w then 0 else n

-- Returns 1 if the event is a counted step, and 0 otherwise. A step of a call is counted if `calls` is 1 for the call
-- and the step is not a failed attempt to take a lock.
abbrev pub moves : (Call → ℕ) → Table → State → Event → ℕ
moves calls T s (Begin t call) = 0
moves calls T s (Go t) = unless_failed s.words (T.next (local_of s t)) (calls (local_of s t).call)

-- [Livelock freedom]: among any `most` successive counted steps, at least one ends its call, whichever threads take the
-- steps and whatever other events happen between the steps. A step of a call is counted if `calls` is 1 for the call
-- and the step is not a failed attempt to take a lock.
abbrev pub IsLivelockFree : (Call → ℕ) → Table → (Sizes → ℕ) → Type 0
IsLivelockFree calls T most = EndsAmong (moves calls T) T most

abbrev pub each_call : Call → ℕ
each_call call = 1

-- [Fair run]: the events are an infinite run in which every thread with a pending call takes another step later.
pub record IsFair (T : Table) (op : Opening) (es : ℕ → Event) : Type 0 where
  pub run : (n : ℕ) → Run T op es n
  pub goes_on : (k t : ℕ) → t < op.threads → IsPending (state_at T op es k) t → (j : ℕ) × (k ≤ j) × (es j ≡ Go t)

-- [Deadlock freedom]: in a fair run, whenever a call with `calls` equal to 1 is pending, a call with `calls` equal to 1
-- ends later (minimal progress).
abbrev pub IsDeadlockFree : (Call → ℕ) → Table → Type 0
IsDeadlockFree calls T = (op : Opening) (k t : ℕ) (es : ℕ → Event) → IsFair T op es → t < op.threads
    → IsPending (state_at T op es k) t → calls (local_of (state_at T op es k) t).call ≡ 1
    → (n : ℕ) × SomeEnds (moves calls T) T op es k n

-- Returns an upper bound on the number of counted steps until one of n threads ends its call. A step is counted if it
-- is not a failed attempt to take a lock. After a call has decided what to change, it takes at most 5 steps. Between
-- two steps that threads take after their decisions, each thread takes at most `most` steps, the bound for a call that
-- runs alone.
abbrev pub lock_window : (Sizes → ℕ) → Sizes → ℕ
lock_window most sz = sz.threads * most sz * (5 * sz.threads + 1)
