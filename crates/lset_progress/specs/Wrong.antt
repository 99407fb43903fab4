-- [Wrong machines]: broken lists. Each broken list has one or two wrong rows in its step table, and breaks a law of
-- progress.
use Rattle.std.specs.Prelude.{ℕ, ◌+◌, ◌*◌, if◌then◌else◌, ◌==◌, Bool, Option, Some, None}
use Rattle.lset_words.specs.declared.Call.{Call}
use Rattle.lset_words.specs.declared.Call.TheVariants as call
use Rattle.lset_words.specs.declared.Reply.{Reply}
use Rattle.lset_words.specs.Words.{lock_index, Sizes}
use Rattle.lset_steps.specs.declared.Action.{Action}
use Rattle.lset_steps.specs.declared.Action.TheVariants.{Load, Store, Exchange}
use Rattle.lset_steps.specs.declared.Fed.{Fed}
use Rattle.lset_steps.specs.declared.Local.{Local}
use Rattle.lset_steps.specs.Steps.{Table}
use Rattle.lset_steps.specs.ReadRows.{continued}
use Rattle.lset_optimistic.specs.Optimistic.{optimistic}
use Rattle.lset_lazy.specs.Lazy.{lazy}
use Rattle.lset_lock_free.specs.LockFree.{lock_free}
use Rattle.lset_progress.specs.DeadlockFreedom.{IsLivelockFree}
use Rattle.lset_progress.specs.Progress.{CallsEndAlone, CallsEndUnhindered, EndsAmong, steps_of}

-- The next two definitions make up `spinning`, a broken LockFreeList. After a failed exchange at row 3 of the step
-- table, the walk repeats the exchange instead of starting again from the head.
abbrev pub spins_on : Local → ℕ → Fed
spins_on l seen = if seen == 2 * l.curr then continued (record l { pc = 2; curr = l.succ }) else continued l

abbrev pub spinning : Table
spinning = record {
  marks = lock_free.marks;
  begin = lock_free.begin;
  next = lock_free.next;
  feed = λ l seen. if l.pc == 3 then spins_on l seen else lock_free.feed l seen;
  effect = lock_free.effect;
}

-- The next four definitions make up `claiming`, a broken LockFreeList. Before an `add` links its new node after `pred`,
-- it writes its thread's number into the lock word of `pred` (row 11 of the step table), and then reads the lock word
-- (row 12). The `add` continues if it reads its own number, and otherwise writes the number again.
abbrev pub claims_first : Fed → Fed
claims_first f = record { local = if f.local.pc == 5 then record f.local { pc = 11 } else f.local; answer = f.answer }

abbrev pub claiming_next : Local → Action
claiming_next l =
    if l.pc == 11 then Store (lock_index l.pred) (l.thread + 1)
    else if l.pc == 12 then Load (lock_index l.pred)
    else lock_free.next l

abbrev pub claiming_feed : Local → ℕ → Fed
claiming_feed l seen =
    if l.pc == 4 then claims_first (lock_free.feed l seen)
    else if l.pc == 11 then continued (record l { pc = 12 })
    else if l.pc == 12 then (if seen == l.thread + 1 then continued (record l { pc = 5 }) else continued (record l { pc = 11 }))
    else lock_free.feed l seen

abbrev pub claiming : Table
claiming = record {
  marks = lock_free.marks;
  begin = lock_free.begin;
  next = claiming_next;
  feed = claiming_feed;
  effect = lock_free.effect;
}

-- The next three definitions make up `keeping`, a broken OptimisticList. If validation fails, a call does not release
-- the lock of `pred`: it skips row 14 of the step table and continues at row 15.
abbrev pub keeps_pred : Option Reply → Local → Local
keeps_pred None l = record l { pc = 15 }
keeps_pred (Some r) l = l

abbrev pub keeps_a_lock : Fed → Fed
keeps_a_lock f = record { local = if f.local.pc == 14 then keeps_pred f.local.reply f.local else f.local; answer = f.answer }

abbrev pub keeping : Table
keeping = record {
  marks = optimistic.marks;
  begin = optimistic.begin;
  next = optimistic.next;
  feed = λ l seen. keeps_a_lock (optimistic.feed l seen);
  effect = optimistic.effect;
}

-- The next four definitions make up `crossed`, a broken LazyList. Its `remove` locks `curr` before `pred`, but its
-- `add` locks `pred` before `curr`.
abbrev pub first_lock : Call → Local → ℕ
first_lock (call.Remove k) l = l.curr
first_lock c l = l.pred

abbrev pub second_lock : Call → Local → ℕ
second_lock (call.Remove k) l = l.pred
second_lock c l = l.curr

abbrev pub crossed_next : Local → Action
crossed_next l =
    if l.pc == 4 then Exchange (lock_index (first_lock l.call l)) 0 (l.thread + 1)
    else if l.pc == 5 then Exchange (lock_index (second_lock l.call l)) 0 (l.thread + 1)
    else lazy.next l

abbrev pub crossed : Table
crossed = record {
  marks = lazy.marks;
  begin = lazy.begin;
  next = crossed_next;
  feed = lazy.feed;
  effect = lazy.effect;
}

-- The next four definitions make up `yielding`, a broken LazyList. Its `remove` locks `curr` before `pred`, but its
-- `add` locks `pred` before `curr`. Before a thread attempts to take its second lock, it reads whether the lock is free
-- (row 16 of the step table). If the second lock is not free, the thread releases its first lock (row 15) and starts
-- again.
abbrev pub looks_first : Fed → Fed
looks_first f = record { local = if f.local.pc == 5 then record f.local { pc = 16 } else f.local; answer = f.answer }

abbrev pub yielding_next : Local → Action
yielding_next l =
    if l.pc == 16 then Load (lock_index (second_lock l.call l))
    else if l.pc == 15 then Store (lock_index (first_lock l.call l)) 0
    else crossed_next l

abbrev pub yielding_feed : Local → ℕ → Fed
yielding_feed l seen =
    if l.pc == 4 then looks_first (lazy.feed l seen)
    else if l.pc == 16 then (if seen == 0 then continued (record l { pc = 5 }) else continued (record l { pc = 15 }))
    else if l.pc == 15 then continued (record l { pc = 1 })
    else lazy.feed l seen

abbrev pub yielding : Table
yielding = record {
  marks = lazy.marks;
  begin = lazy.begin;
  next = yielding_next;
  feed = yielding_feed;
  effect = lazy.effect;
}

-- Holds if the law `CallsEndAlone` is false for the step table T, however many steps are allowed.
abbrev pub NoCallsEndAlone : Table → Type 0
NoCallsEndAlone T = (most : Sizes → ℕ) → CallsEndAlone T most → ⊥

-- Holds if the law `CallsEndUnhindered` is false for the step table T, however many steps are allowed.
abbrev pub NoCallsEndUnhindered : Table → Type 0
NoCallsEndUnhindered T = (most : Sizes → ℕ) → CallsEndUnhindered T most → ⊥

-- Holds if T is not lock-free, however many steps are allowed, and whether or not the steps of `contains` are counted.
abbrev pub NotLockFree : Table → Type 0
NotLockFree T = (reads : Bool) (most : Sizes → ℕ) → EndsAmong (steps_of reads) T most → ⊥

-- Holds if T is not free from livelock, however many steps are allowed. Only the steps of calls with `calls` equal to 1
-- are counted.
abbrev pub NotLivelockFree : (Call → ℕ) → Table → Type 0
NotLivelockFree calls T = (most : Sizes → ℕ) → IsLivelockFree calls T most → ⊥
