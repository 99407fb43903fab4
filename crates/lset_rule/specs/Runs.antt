-- The run of a list of events, computed from the opening state one event at a time. A run consists of the state after
-- the last event and, for each thread, its private state, its pending call, and its completed calls. Events are
-- numbered from 1.
use Rattle.std.specs.Prelude.{◌≡◌, ℕ, zero, suc, ◌+◌, ◌==◌, if◌then◌else◌, List, [], ◌∷◌, ◌++◌, length, Option, Some, None}
use Rattle.lset_words.specs.declared.Reply.{Reply}
use Rattle.lset_words.specs.declared.history.CallRecord.{CallRecord}
use Rattle.lset_words.specs.Log.{Log, Entry, LastCall, last_at, history_at}
use Rattle.lset_words.specs.Log.Entry.{began, stepped}
use Rattle.lset_steps.specs.declared.Local.{Local}
use Rattle.lset_steps.specs.declared.Event.{Event}
use Rattle.lset_steps.specs.Steps.{Table, State, Run, state_at, event_at, local_of, log_of}
use Rattle.lset_rule.specs.declared.view.OwnCall.{OwnCall}
use Rattle.lset_rule.specs.declared.view.PendingCall.{PendingCall}
use Rattle.lset_words.specs.Words.{Opening}

abbrev pub StartsWith : List Event → List Event → Type 0
StartsWith log seen = (rest : List Event) × (log ≡ seen ++ rest)

-- The state of a thread after some events: its private state, its pending call, and its completed calls.
pub record Here : Type 0 where
  pub local : Local
  pub under : Option PendingCall
  pub done : List OwnCall

abbrev pub here : Local → Option PendingCall → List OwnCall → Here
here l u d = record { local = l; under = u; done = d }

-- Returns the completed call that results when event n ends the pending call u with the reply r.
abbrev pub own : PendingCall → Reply → ℕ → OwnCall
own u r n = record { call = u.call; reply = r; begun = u.begun; ended = n }

-- Returns the pending call of a thread after one of the thread's steps, or `None` if the step ended the call with a
-- reply.
abbrev pub under_after : Option Reply → Option PendingCall → Option PendingCall
under_after (Some r) u = None
under_after None None = None
under_after None (Some u) = Some (record u { steps = u.steps + 1 })

-- Returns a list that contains only the call that event n ends, or the empty list if the event ends no call.
abbrev pub ending : Option Reply → Option PendingCall → ℕ → List OwnCall
ending (Some r) (Some u) n = own u r n ∷ []
ending (Some r) None n = []
ending None u n = []

-- Returns the completed calls of thread t after event n. `open_now` is the thread's pending call before the event.
abbrev pub done_next : ℕ → Entry → ℕ → Option PendingCall → List OwnCall → List OwnCall
done_next n (began u c) t open_now before = before
done_next n (stepped u change answer) t open_now before = if u == t then before ++ ending answer open_now n else before

-- Returns the pending call of a thread whose last call is x. Returns `None` if x is completed, or if the thread has
-- made no calls.
abbrev pub pending_of : LastCall → Option PendingCall
pending_of x = if x.pending then Some (record { call = x.call; begun = x.begun; steps = x.steps }) else None

-- Returns the pending call of thread t after the first k events in a log.
abbrev pub under_at : Log → ℕ → ℕ → Option PendingCall
under_at log t k = pending_of (last_at log t k)

-- Returns the completed calls of thread t after the first k events in a log, oldest first.
abbrev pub done_at : Log → ℕ → ℕ → List OwnCall
done_at log t zero = []
done_at log t (suc k) = done_next (suc k) (log k) t (under_at log t k) (done_at log t k)

-- Returns the private state, the pending call, and the completed calls of thread t after the first k events of a run.
abbrev pub here_at : Table → Opening → (ℕ → Event) → ℕ → ℕ → Here
here_at T op es t k = here (local_of (state_at T op es k) t) (under_at (log_of T op es) t k) (done_at (log_of T op es) t k)

-- Returns the state at the end of the run of the events `es`.
abbrev pub end_of : Table → Opening → List Event → State
end_of T k es = state_at T k (event_at es) (length es)

-- Returns the private state, the pending call, and the completed calls of thread t at the end of the run of the events
-- `es`.
abbrev pub at_end : Table → Opening → List Event → ℕ → Here
at_end T k es t = here_at T k (event_at es) t (length es)

-- Holds if the events `es` are a run: each event was enabled when it occurred.
abbrev pub IsRunOf : Table → Opening → List Event → Type 0
IsRunOf T k es = Run T k (event_at es) (length es)

-- Returns the history of the run of the events `es`: all calls with their starts, ends, and replies.
abbrev pub history_of : Table → Opening → List Event → List CallRecord
history_of T k es = history_at (log_of T k (event_at es)) (length es)
