-- The log of a run, and the calls in the log. Entry k of a log (counted from 0) is event number k. Moment k is the
-- state after the first k events. An entry records the part of an event that a user of the set can see: the start of a
-- call, the change of a key, or a reply. An entry mentions no nodes and no locks.
use Rattle.std.specs.Prelude.{ℕ, zero, suc, ◌+◌, ◌==◌, ◌||◌, ◌&&◌, Bool, true, false, if◌then◌else◌, List, [], ◌∷◌, ◌++◌, map, Option}
use Rattle.std.specs.Prelude.{Some, None, is_none}
use Rattle.lset_words.specs.declared.Key.{Key}
use Rattle.lset_words.specs.declared.Call.{Call}
use Rattle.lset_words.specs.declared.Call.TheVariants.{Contains}
use Rattle.lset_words.specs.declared.Reply.{Reply}
use Rattle.lset_words.specs.declared.history.CallRecord.{CallRecord}

-- A change of the set: the key, and `true` if it is added or `false` if it is removed.
abbrev pub Change : Type 0
Change = Key × Bool

-- An event: a thread begins a call, or takes a step. A step can change the set, and can end the call with a reply.
pub data Entry : Type 0 where
  began : (thread : ℕ) → Call → Entry
  stepped : (thread : ℕ) → Option Change → Option Reply → Entry

abbrev pub Log : Type 0
Log = ℕ → Entry

-- A call of a run. `begun`, `changed`, and `ended` are moments: how many events had happened just after the call began,
-- changed the set, and ended. `changed` is `None` until the call changes the set. `ended` is `None` until the call
-- ends.
pub record TracedCall : Type 0 where
  pub thread : ℕ
  pub call : Call
  pub begun : ℕ
  pub changed : Option ℕ
  pub ended : Option (ℕ × Reply)

-- Returns whether the call `x` is pending and was made by `thread`.
abbrev pub is_under_way : ℕ → TracedCall → Bool
is_under_way thread x = x.thread == thread && is_none x.ended

abbrev pub changed_by : ℕ → Option Change → Option ℕ → Option ℕ
changed_by moment None before = before
changed_by moment (Some change) before = Some moment

abbrev pub ended_by : ℕ → Option Reply → Option (ℕ × Reply)
ended_by moment None = None
ended_by moment (Some reply) = Some (moment, reply)

-- Returns the call `x` after a step of its thread. `moment` is the number of events up to and including the step.
abbrev pub traced_on : ℕ → Option Change → Option Reply → TracedCall → TracedCall
traced_on moment change reply x = record x { changed = changed_by moment change x.changed; ended = ended_by moment reply }

abbrev pub calls_after : ℕ → Entry → List TracedCall → List TracedCall
calls_after moment (began t call) xs = xs ++ record { thread = t; call = call; begun = moment; changed = None; ended = None } ∷ []
calls_after moment (stepped t change reply) xs = map (λ x. if is_under_way t x then traced_on moment change reply x else x) xs

-- Returns the calls that begin in the first k events, ordered by start. Each call has the state that it is in after
-- those k events.
abbrev pub calls_at : Log → ℕ → List TracedCall
calls_at log zero = []
calls_at log (suc k) = calls_after (suc k) (log k) (calls_at log k)

-- Returns the record of the call `x` in a history. The record omits the moment when the call changes the set.
abbrev pub record_of : TracedCall → CallRecord
record_of x = record { thread = x.thread; call = x.call; begun = x.begun; ended = x.ended }

-- Returns the history of the first k events.
abbrev pub history_at : Log → ℕ → List CallRecord
history_at log k = map record_of (calls_at log k)

abbrev pub is_change : Option Change → Bool
is_change None = false
is_change (Some change) = true

-- The last call of a thread, pending or completed. `begun` is the number of events up to and including the call's
-- start. `changed` is true if the call has changed the set. `steps` is the number of the call's steps.
pub record LastCall : Type 0 where
  pub call : Call
  pub begun : ℕ
  pub changed : Bool
  pub pending : Bool
  pub steps : ℕ

-- Returns the thread that makes an event.
abbrev pub maker : Entry → ℕ
maker (began t call) = t
maker (stepped t change reply) = t

-- Returns the last call of a thread after a log entry made by the thread. `moment` is the number of entries up to and
-- including the new one.
abbrev pub last_after : ℕ → Entry → LastCall → LastCall
last_after moment (began t call) x = record { call = call; begun = moment; changed = false; pending = true; steps = 0 }
last_after moment (stepped t change reply) x =
    record x { changed = x.changed || is_change change; pending = x.pending && is_none reply; steps = x.steps + 1 }

-- Returns the last call of thread `t` after the first k events. If `t` has not made a call yet, returns a placeholder
-- that is not pending.
abbrev pub last_at : Log → ℕ → ℕ → LastCall
last_at log t zero = record { call = Contains (record { 0 = 0 }); begun = 0; changed = false; pending = false; steps = 0 }
last_at log t (suc k) = if maker (log k) == t then last_after (suc k) (log k) (last_at log t k) else last_at log t k

abbrev pub last_call : Log → ℕ → ℕ → Call
last_call log t k = (last_at log t k).call

abbrev pub begun_at : Log → ℕ → ℕ → ℕ
begun_at log t k = (last_at log t k).begun

abbrev pub is_open : Log → ℕ → ℕ → Bool
is_open log t k = (last_at log t k).pending

abbrev pub has_changed : Log → ℕ → ℕ → Bool
has_changed log t k = (last_at log t k).changed
