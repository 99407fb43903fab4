-- A stream judges the calls of a recording one after another. The file defines the state of a stream and the meaning of
-- a stream's verdict.
use Rattle.std.specs.Prelude.{◌≡◌, ◌≢◌, ℕ, ◌<◌, ◌≤◌, ◌^◌, ◌⊎◌, true, false, List, length, Option, Some, None, All}
use Rattle.std.specs.Prelude.{AllPairs, Contains, IfSome, ◌-◌}
use Rattle.std.specs.List.Sorted.{IsStrictlyIncreasing}
use Rattle.std.specs.Bool.{nat_eq}
use Rattle.std.specs.declared.hash.BuildHasherDefault.{BuildHasherDefault}
use Rattle.std.specs.declared.hash.FoldHasher.{FoldHasher}
use Rattle.std.specs.HashMap.{HashMap, get}
use Rattle.lset_words.specs.declared.Reply.{Reply}
use Rattle.lset_words.specs.declared.history.CallRecord.{CallRecord}
use Rattle.lset_words.specs.Words.{key_of}
use Rattle.lset_words.specs.SequentialSet.{has_key}
use Rattle.lset_words.specs.History.{IsHistory, call_numbered, no_call}
use Rattle.lset_history.specs.History.{HistoryValue}
use Rattle.lset_judge.specs.declared.rule.KeyState.{KeyState}
use Rattle.lset_judge.specs.declared.stream.StreamCall.{StreamCall}
use Rattle.lset_judge.specs.declared.stream.StreamVerdict.{StreamVerdict}
use Rattle.lset_judge.specs.declared.stream.StreamVerdict.TheVariants.{Linearizable, NotLinearizable}
use Rattle.lset_judge.specs.declared.stream.Failed.{Failed}
use Rattle.lset_judge.specs.declared.stream.Pending.{Pending}
use Rattle.lset_judge.specs.declared.stream.Stream.{Stream}
use Rattle.lset_judge.specs.Rule.{Event, State, opened, found, entered, state_after}
use Rattle.lset_judge.specs.Code.{state_of}
use Rattle.lset_judge.specs.Events.{kind_if, until_if, end_event, event_at}
use Rattle.lset_judge.specs.Verdict.{IsPlain, IsExplained, IsUnexplained, IsRefusedBy, is_plain, with_quota}

-- Converts a recorded call to a call in a history.
abbrev pub record_of : StreamCall → CallRecord
record_of x = record { thread = x.thread; call = x.call; begun = x.begun; ended = x.ended }

-- Converts a call in a history to a recorded call.
abbrev pub call_of : CallRecord → StreamCall
call_of x = record { thread = x.thread; call = x.call; begun = x.begun; ended = x.ended }

-- Returns the history of the recorded calls on a set whose quota (the number of successful `add`s that one thread can
-- make) is the number of calls, and therefore is never used up.
abbrev pub stream_history : ℕ → List ℕ → List CallRecord → HistoryValue
stream_history threads opening calls = record {
  opening = record { threads = threads; quota = length calls; keys = opening };
  calls = calls;
}

-- ---- State of a stream

-- The smallest number that is greater than every moment.
abbrev pub behind_all : ℕ
behind_all = 2 ^ 63

-- The stored states of the keys, indexed by key. The state of a key without calls is stored only if the set opened with
-- the key.
abbrev pub States : Type 0
States = HashMap ℕ KeyState (BuildHasherDefault FoldHasher)

-- Returns the stored state of a key, or the state of an absent key if none is stored.
abbrev pub state_or : Option KeyState → State
state_or None = opened false
state_or (Some s) = state_of s

abbrev pub state_for : States → ℕ → State
state_for states k = state_or (get nat_eq states k)

-- Converts a call to a pending call. The field `end` is the moment when the call ends, or a moment after all others if
-- the call never ends.
abbrev pub pending_of : CallRecord → Pending
pending_of x = record {
  end = until_if behind_all x.begun x.ended;
  call = call_of x;
}

abbrev pub key_in : Pending → ℕ
key_in p = (key_of p.call.call).0

-- Returns the event for the end of a pending call.
abbrev pub event_of : Pending → Event
event_of p = end_event (kind_if p.call.call p.call.ended) p.call.begun

-- Holds if a call has ended by `moment`.
abbrev pub IsOver : ℕ → CallRecord → Type 0
IsOver moment x = (end : ℕ × Reply) × (x.ended ≡ Some end) × (end.0 ≤ moment)

-- Holds if the start and the end (if any) of a call are valid moments of a recording.
abbrev pub IsBefore : CallRecord → Type 0
IsBefore x = (x.begun < behind_all) × IfSome x.ended (λ (end : ℕ × Reply). end.0 < behind_all)

-- Holds if `pending` lists the calls that have not ended by `moment`, and no two of them end at the same moment.
pub record ArePending (calls : List CallRecord) (moment : ℕ) (pending : List Pending) : Type 0 where
  pub known : All (λ (p : Pending). (n : ℕ) × (n < length calls) × (p ≡ pending_of (call_numbered calls n))) pending
  pub kept : (n : ℕ) → n < length calls → IsOver moment (call_numbered calls n) ⊎ Contains pending (pending_of (call_numbered calls n))
  pub apart : AllPairs (λ (p q : Pending). p.end ≢ q.end) pending
  pub later : All (λ (p : Pending). moment < p.end) pending

-- `None`: holds if the stored states of the keys after `moment` are the states that the judge's test computes, and no
-- key has failed the test. `Some f`: holds if the key `f.key` failed the test at `f.moment`, and no key failed the test
-- earlier. (A key fails if the test shows that no order explains the key's calls.)
abbrev pub IsJudgedTo : List ℕ → List CallRecord → ℕ → States → Option Failed → Type 0
IsJudgedTo opening calls moment states None =
    (k : ℕ) → state_after (event_at behind_all k calls) (has_key k opening) moment ≡ Some (state_for states k)
IsJudgedTo opening calls moment states (Some f) = (f.moment ≤ moment)
    × (state_after (event_at behind_all f.key.0 calls) (has_key f.key.0 opening) f.moment ≡ None)
    × ((k m : ℕ) → state_after (event_at behind_all k calls) (has_key k opening) m ≡ None → f.moment ≤ m)

-- Holds if the stream s (a judge of calls in sequence) has judged `calls`, which were made on a set with the opening
-- keys `opening`. No call starts after the stream's current moment.
pub record IsStreamOf (threads : ℕ) (opening : List ℕ) (calls : List CallRecord) (s : Stream) : Type 0 where
  pub opens : IsStrictlyIncreasing opening
  pub history : IsHistory threads calls
  pub plain : IsPlain calls
  pub before : All IsBefore calls
  pub begun : All (λ (x : CallRecord). x.begun ≤ s.moment) calls
  pub moment : s.moment < behind_all
  pub pending : ArePending calls s.moment s.pending
  pub judged : IsJudgedTo opening calls s.moment s.states s.failed

-- `moment_of` returns the current moment of a stream (a judge of calls in sequence). `pending_in` returns the stream's
-- pending calls.
abbrev pub moment_of : Stream → ℕ
moment_of s = s.moment

abbrev pub pending_in : Stream → List Pending
pending_in s = s.pending

-- Holds if the call x can be the next call of a stream (a judge of calls in sequence) with the pending calls `pending`.
pub record MayCome (pending : List Pending) (moment : ℕ) (x : CallRecord) : Type 0 where
  pub begins : moment < x.begun
  pub ends : IfSome x.ended (λ (end : ℕ × Reply). x.begun < end.0)
  pub before : IsBefore x
  pub plain : IfSome x.ended (λ (end : ℕ × Reply). is_plain x.call end.1 ≡ true)
  -- No pending call ends at the moment when the call x starts or ends.
  pub apart : All (λ (p : Pending). (p.end ≢ x.begun) × IfSome x.ended (λ (end : ℕ × Reply). p.end ≢ end.0)) pending
  -- When the call x starts, no other call of its thread is pending.
  pub free : All (λ (p : Pending). p.call.thread ≡ x.thread → p.end ≤ x.begun) pending

-- ---- The meaning of a verdict

-- Holds if, by the moment `moment`, the judge's test shows that no order explains the calls on key k.
abbrev pub HasFailed : HistoryValue → ℕ → ℕ → Type 0
HasFailed h k moment = state_after (event_at behind_all k h.calls) (has_key k h.opening.keys) moment ≡ None

-- Holds if `key` is the first key to fail the judge's test, and fails at `moment`. (A key fails if the test shows that
-- no order explains the key's calls.) If `moment` is None, holds if no key fails the test: then only the final state of
-- `key` is wrong (see `IsRefusedBy`).
abbrev pub FailsFirst : HistoryValue → ℕ → Option ℕ → Type 0
FailsFirst h key None = (k m : ℕ) → HasFailed h k m → ⊥
FailsFirst h key (Some moment) = HasFailed h key moment × ((k m : ℕ) → HasFailed h k m → moment ≤ m)

-- Holds if a verdict is correct. Linearizable: some order explains the calls and leaves the final keys.
-- NotLinearizable: no order does, with any quota, and the calls on the key that `refusal` (the reason) names are
-- sufficient proof (`IsRefusedBy`). If the reason has a moment, the key fails the judge's test at this moment, and no
-- key fails the test earlier. Otherwise no key fails the test, and only the key's final state is wrong.
abbrev pub IsStreamVerdict : HistoryValue → List ℕ → StreamVerdict → Type 0
IsStreamVerdict h keys Linearizable = IsExplained h keys
IsStreamVerdict h keys (NotLinearizable refusal) =
    ((quota : ℕ) → IsUnexplained (with_quota quota h) keys) × IsRefusedBy h keys refusal.key.0 refusal.moment
    × FailsFirst h refusal.key.0 refusal.moment

-- Holds if the verdict on a cut-off recording (one that does not contain the final keys) is correct: Linearizable is
-- correct for some final keys, or NotLinearizable is correct for all final keys.
abbrev pub IsStreamVerdictCutOff : HistoryValue → StreamVerdict → Type 0
IsStreamVerdictCutOff h Linearizable = (keys : List ℕ) × IsStreamVerdict h keys Linearizable
IsStreamVerdictCutOff h (NotLinearizable refusal) = (keys : List ℕ) → IsStreamVerdict h keys (NotLinearizable refusal)

-- ---- Definitions that only one contract uses

abbrev pub no_pending : Pending
no_pending = record { end = 0; call = call_of no_call }

-- Holds if an event of a key at a moment changes the stored states of the keys correctly, or if the event shows that no
-- order explains the calls on the key, and the stream records this failure. After a failure, the condition does not
-- apply to the stored states.
abbrev pub IsMetBy : States → ℕ → ℕ → Event → States → Option Failed → Option Failed → Type 0
IsMetBy before key moment event after (Some f) failed = failed ≡ Some f
IsMetBy before key moment event after None None =
    (entered event (found (moment - 1) event (state_for before key)) ≡ Some (state_for after key))
    × ((k : ℕ) → k ≢ key → state_for after k ≡ state_for before k)
IsMetBy before key moment event after None (Some f) = (f.key.0 ≡ key) × (f.moment ≡ moment)
    × (entered event (found (moment - 1) event (state_for before key)) ≡ None)

pub record IsMet (old : Stream) (key moment : ℕ) (event : Event) (new : Stream) : Type 0 where
  pub pending : new.pending ≡ old.pending
  pub at_moment : new.moment ≡ moment
  pub by : IsMetBy old.states key moment event new.states old.failed new.failed

abbrev pub failed_verdict : Failed → StreamVerdict
failed_verdict f = NotLinearizable (record { key = f.key; moment = Some f.moment })

abbrev pub verdict_of_key : Option ℕ → StreamVerdict
verdict_of_key None = Linearizable
verdict_of_key (Some k) = NotLinearizable (record { key = record { 0 = k }; moment = None })

-- Holds if the verdict agrees with the judge's test. If the test shows that no order explains the calls on a key, the
-- verdict names the key and the moment when the test failed. Otherwise, the reason of a verdict NotLinearizable has no
-- moment.
abbrev pub IsToldBy : Option Failed → StreamVerdict → Type 0
IsToldBy None Linearizable = Unit {0}
IsToldBy None (NotLinearizable refusal) = refusal.moment ≡ None
IsToldBy (Some f) verdict = verdict ≡ failed_verdict f
