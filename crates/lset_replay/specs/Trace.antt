-- The content of a recorder, which collects the calls of a run, computed from the effects of the events.
use Rattle.std.specs.Prelude.{◌≡◌, ℕ, zero, suc, ◌-◌, ◌<◌, ◌≤◌, Bool, true, false, not, List, [], ◌∷◌, ◌++◌, length, replicate}
use Rattle.std.specs.Prelude.{Option, Some, None, slice_index_or, slice_set, IsSomeAnd}
use Rattle.lset_words.specs.declared.Call.{Call}
use Rattle.lset_words.specs.declared.Call.TheVariants as call
use Rattle.lset_words.specs.declared.Reply.{Reply}
use Rattle.lset_words.specs.declared.Reply.TheVariants as reply
use Rattle.lset_words.specs.declared.history.CallRecord.{CallRecord}
use Rattle.lset_words.specs.History.{call_numbered}
use Rattle.lset_words.specs.Log.{Log, Entry, Change}
use Rattle.lset_words.specs.Log.Entry.{began, stepped}
use Rattle.lset_words.specs.Words.{Opening}
use Rattle.lset_history.specs.History.{HistoryValue, MayBegin, MayEnd, ended_with}
use Rattle.lset_history.specs.Changes.{moments_of, opened_moments, is_present, is_present_now, with_change, IsLaterThanAll}
use Rattle.lset_history.specs.Changes.{first_passing, has_ceiling}
use Rattle.lset_steps.specs.declared.Event.{Event}
use Rattle.lset_steps.specs.declared.Event.TheVariants as event
use Rattle.lset_steps.specs.declared.Told.{Told}
use Rattle.lset_replay.specs.declared.places.OpenCall.{OpenCall}
use Rattle.lset_replay.specs.declared.places.Linearized.{Linearized}
use Rattle.lset_replay.specs.declared.recorder.Recorder.{Recorder}

-- ---- The reply of a pending call

-- Returns `true` if the reply of a call that changed nothing requires the call's key to be present, and `false` if the
-- reply requires the key to be absent. Always `true` for a `ceiling`, because `shows` tests the whole reply of a
-- `ceiling`.
abbrev pub needs_key : Call → Reply → Bool
needs_key (call.Add k) reply.False = true
needs_key (call.Contains k) reply.True = true
needs_key (call.Ceiling k) r = true
needs_key c r = false

-- Returns the key in the reply of a `ceiling`, or `None` if the reply is `Nothing`.
abbrev pub found_in : Reply → Option ℕ
found_in (reply.At k) = Some k.0
found_in reply.Nothing = None
found_in reply.True = None
found_in reply.False = None
found_in reply.Full = None

-- Returns a function that tests a moment (an event number): whether the call's key is present at the moment or, for a
-- `ceiling`, whether the reply is correct at the moment.
abbrev pub shows : (ℕ → List ℕ) → Call → Reply → ℕ → Bool
shows changes (call.Add k) r = λ m. is_present changes k.0 m
shows changes (call.Remove k) r = λ m. is_present changes k.0 m
shows changes (call.Contains k) r = λ m. is_present changes k.0 m
shows changes (call.Ceiling k) r = has_ceiling changes k.0 (found_in r)

-- Returns the first moment (event number) when `reply` is correct, from the start of the call up to `last`. The call
-- must not change the set.
abbrev pub fit : (ℕ → List ℕ) → OpenCall → Reply → ℕ → Option ℕ
fit changes o reply last = first_passing (needs_key o.call reply) (shows changes o.call reply) o.begun (last - o.begun)

-- ---- Linearization points

abbrev pub changed_at : ℕ → Linearized
changed_at moment = record { moment = moment; reply = reply.True; change = true }

-- Returns the linearization point of a call that changes nothing: the first moment (event number) during the call when
-- the call's reply is correct. Each call on a list has such a moment. If a call on a broken list (a list with one check
-- removed) has none, the linearization point is the end of the call.
abbrev pub read_at : Option ℕ → ℕ → Reply → Linearized
read_at None end reply = record { moment = end; reply = reply; change = false }
read_at (Some moment) end reply = record { moment = moment; reply = reply; change = false }

-- Returns the linearization point of a completed call: the known point `p` if the call changed the set, otherwise the
-- point that `read_at` returns.
abbrev pub settled : Option Linearized → Option ℕ → ℕ → Reply → Option Linearized
settled (Some p) moment end reply = Some p
settled None moment end reply = Some (read_at moment end reply)

-- ---- The content of a recorder

pub record Trace : Type 0 where
  pub calls : List CallRecord
  pub under_way : List (Option OpenCall)
  pub places : List (Option Linearized)
  pub changes : ℕ → List ℕ

abbrev pub open_call_at : List (Option OpenCall) → ℕ → Option OpenCall
open_call_at os thread = slice_index_or os thread None

abbrev pub place_at : List (Option Linearized) → ℕ → Option Linearized
place_at ps number = slice_index_or ps number None

abbrev pub number_of : Option OpenCall → ℕ
number_of None = 0
number_of (Some o) = o.number

abbrev pub fit_of : (ℕ → List ℕ) → Option OpenCall → Reply → ℕ → Option ℕ
fit_of changes None reply last = None
fit_of changes (Some o) reply last = fit changes o reply last

abbrev pub begun_on : ℕ → ℕ → Call → Trace → Trace
begun_on moment thread call s = record {
  calls = s.calls ++ record { thread = thread; call = call; begun = moment; ended = None } ∷ [];
  under_way = slice_set s.under_way thread (Some (record { number = length s.calls; call = call; begun = moment }));
  places = s.places ++ None ∷ [];
  changes = s.changes;
}

abbrev pub changed_on : ℕ → ℕ → Option Change → Trace → Trace
changed_on moment thread None s = s
changed_on moment thread (Some (k, present)) s = record {
  calls = s.calls;
  under_way = s.under_way;
  places = slice_set s.places (number_of (open_call_at s.under_way thread)) (Some (changed_at moment));
  changes = with_change s.changes k.0 moment;
}

abbrev pub ended_by : ℕ → ℕ → Reply → Option OpenCall → Trace → Trace
ended_by moment thread reply o s = record {
  calls = slice_set s.calls (number_of o) (ended_with (call_numbered s.calls (number_of o)) (moment, reply));
  under_way = slice_set s.under_way thread None;
  places = slice_set s.places (number_of o) (settled (place_at s.places (number_of o)) (fit_of s.changes o reply moment) moment reply);
  changes = s.changes;
}

abbrev pub ended_on : ℕ → ℕ → Option Reply → Trace → Trace
ended_on moment thread None s = s
ended_on moment thread (Some reply) s = ended_by moment thread reply (open_call_at s.under_way thread) s

abbrev pub trace_after : ℕ → Entry → Trace → Trace
trace_after moment (began thread call) s = begun_on moment thread call s
trace_after moment (stepped thread change reply) s = ended_on moment thread reply (changed_on moment thread change s)

abbrev pub no_trace : Opening → Trace
no_trace op = record { calls = []; under_way = replicate op.threads None; places = []; changes = opened_moments op.keys }

abbrev pub trace_at : Opening → Log → ℕ → Trace
trace_at op log zero = no_trace op
trace_at op log (suc k) = trace_after (suc k) (log k) (trace_at op log k)

-- ---- Conditions for recording an event

abbrev pub number_at : List (Option OpenCall) → ℕ → ℕ
number_at os thread = number_of (open_call_at os thread)

abbrev pub begun_call : ℕ → Call → ℕ → CallRecord
begun_call thread call moment = record { thread = thread; call = call; begun = moment; ended = None }

abbrev pub trace_of : Recorder → Trace
trace_of r = record {
  calls = r.history.calls;
  under_way = r.under_way.items;
  places = r.places.items;
  changes = λ k. moments_of r.changes k;
}

abbrev pub entry_told : Event → Told → Entry
entry_told (event.Begin thread call) told = began thread call
entry_told (event.Go thread) told = stepped thread told.change told.answer

-- Holds if the thread has a pending call that can change the set or end at the given moment (event number).
pub record MayStep (h : HistoryValue) (under_way : List (Option OpenCall)) (places : List (Option Linearized))
    (thread moment : ℕ) : Type 0 where
  pub of_a_thread : thread < length under_way
  pub goes : IsSomeAnd (open_call_at under_way thread) (λ o.
      (o.number < length places) × (o.begun ≤ moment) × MayEnd h o.number moment)

-- Holds if a change can be recorded: its moment (event number) is after every recorded change, and it adds an absent
-- key or removes a present key.
abbrev pub MayChange : (ℕ → List ℕ) → ℕ → Option Change → Type 0
MayChange changes moment None = Unit {0}
MayChange changes moment (Some (k, present)) =
    IsLaterThanAll changes moment × (present ≡ not (is_present_now changes k.0))

abbrev pub MayRecord : Recorder → ℕ → Event → Told → Type 0
MayRecord r moment (event.Begin thread call) told = MayBegin r.history thread moment × (thread < length r.under_way.items)
MayRecord r moment (event.Go thread) told =
    MayStep r.history r.under_way.items r.places.items thread moment × MayChange (moments_of r.changes) moment told.change
