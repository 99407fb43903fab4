-- The conditions on a single view, whatever the shared words and the other seats are. The view of a seat (one thread's
-- access to the set) is what the seat knows about the run: the events that the seat has seen, and the state of each
-- thread of the seat after those events.
use Rattle.std.specs.Prelude.{◌≡◌, ◌≢◌, ◌⊎◌, ℕ, ◌+◌, ◌<◌, false, List, [], ◌∷◌, length, Option, Some, None}
use Rattle.lset_rule.specs.declared.view.PendingCall.{PendingCall}
use Rattle.lset_rule.specs.declared.view.SpareThread.{SpareThread}
use Rattle.lset_rule.specs.declared.view.Past.{Past}
use Rattle.lset_rule.specs.declared.view.View.{View}
use Rattle.lset_steps.specs.Steps.{Table}
use Rattle.lset_rule.specs.Pasts.{root, calls_of, Before, InOrder, Apart, IsIn}
use Rattle.lset_rule.specs.Runs.{Here, here, at_end, IsRunOf}

abbrev pub HasAside : List SpareThread → ℕ → Type 0
HasAside [] t = ⊥
HasAside (o ∷ os) t = (t ≡ o.thread) ⊎ HasAside os t

-- Holds if thread t belongs to the seat with view v (what the seat knows about the run): t is the seat's own thread, or
-- one of its spare threads.
abbrev pub HasThread : View → ℕ → Type 0
HasThread v t = (t ≡ v.thread) ⊎ HasAside v.others t

-- Holds if the spare threads of a seat (one thread's access to the set) are idle, distinct, and different from t, and
-- the record r contains exactly the calls that each spare thread has completed. `ends` returns the state of a thread.
abbrev pub AreIdle : (ℕ → Here) → ℕ → Past → List SpareThread → Type 0
AreIdle ends t r [] = Unit {0}
AreIdle ends t r (o ∷ os) = (o.thread ≢ t) × (ends o.thread ≡ here o.local None (calls_of o.thread r))
    × (¬ (HasAside os o.thread)) × AreIdle ends t r os

-- Holds if each call in the record r ended before the pending call started.
abbrev pub InTime : Option PendingCall → Past → Type 0
InTime None r = Unit {0}
InTime (Some u) r = Before u.begun r

-- Holds if the view v (what a seat knows about the run) is correct: what v states about the seat's threads is true
-- after the events that v has seen.
pub record Stands (m : Table) (v : View) : Type 0 where
  -- The events that the view (what a seat knows about the run) has seen are a run. At the end of the run, the seat's
  -- own thread has the private state, the pending call, and the completed calls that the view stores.
  pub ran : IsRunOf m v.shape v.seen
  pub own : at_end m v.shape v.seen v.thread ≡ here v.local v.under (calls_of v.thread v.past)
  -- Each spare thread is idle, and has the private state that the view (what a seat knows about the run) stores.
  pub others : AreIdle (at_end m v.shape v.seen) v.thread v.past v.others
  pub in_range : (t : ℕ) → HasThread v t → t < v.shape.threads
  -- The record of calls belongs to the thread that makes the calls of the seat (one thread's access to the set). The
  -- seat's record and the records that were merged into it belong to different threads. The seat has all these threads.
  pub of_thread : root v.past ≡ v.thread
  pub apart : Apart v.past
  pub named : (u : ℕ) → IsIn u v.past → HasThread v u
  -- If another record was merged into the record before a call by the record's own thread, all calls in the merged
  -- record ended before the call started. The condition also applies inside each merged record.
  pub ordered : InOrder v.past
  -- All calls in the record have ended, and they ended before the pending call started.
  pub ended : Before (length v.seen + 1) v.past
  pub before : InTime v.under v.past

-- Holds if the view v (what a seat knows about the run) is in use, and the seat's own thread has a pending call.
abbrev pub IsOpen : View → Type 0
IsOpen v = (v.spent ≡ false) × ((u : PendingCall) × (v.under ≡ Some u))

-- Holds if the view v (what a seat knows about the run) is in use, and the seat's own thread has no pending call.
abbrev pub IsIdle : View → Type 0
IsIdle v = (v.spent ≡ false) × (v.under ≡ None)
