-- The facts that the judge stores about the calls on each key. The judge uses the facts to find a clash: two calls on
-- the key that contradict each other.
use Rattle.std.specs.Prelude.{◌≡◌, ◌≢◌, ℕ, ◌<◌, ◌≤◌, ◌⊎◌, max, if◌then◌else◌, Bool, true, false, List, ◌++◌, All, Option, Some, None, IfSome, IsSomeAnd}
use Rattle.std.specs.Bool.{nat_eq}
use Rattle.std.specs.HashMap.{get}
use Rattle.lset_words.specs.declared.Call.{Call}
use Rattle.lset_words.specs.declared.Call.TheVariants.{Add, Remove, Contains}
use Rattle.lset_words.specs.declared.Key.{Key}
use Rattle.lset_words.specs.declared.Reply.{Reply}
use Rattle.lset_words.specs.declared.Reply.TheVariants.{True, False}
use Rattle.lset_words.specs.declared.history.CallRecord.{CallRecord}
use Rattle.lset_words.specs.declared.effect.Presence.{Presence}
use Rattle.lset_words.specs.declared.effect.Presence.TheVariants.{Present, Absent}
use Rattle.lset_words.specs.Effects.{presence}
use Rattle.lset_words.specs.Words.{key_of}
use Rattle.lset_words.specs.History.{Precedes}
use Rattle.lset_words.specs.SequentialSet.{has_key}
use Rattle.lset_judge.specs.declared.stream.StreamCall.{StreamCall}
use Rattle.lset_judge.specs.declared.stream.Failed.{Failed}
use Rattle.lset_judge.specs.declared.stream.Pending.{Pending}
use Rattle.lset_judge.specs.declared.stream.Refusal.{Refusal}
use Rattle.lset_judge.specs.declared.stream.Stream.{Stream}
use Rattle.lset_judge.specs.declared.rule.KeyState.{KeyState}
use Rattle.lset_judge.specs.declared.rule.Kept.{Kept}
use Rattle.lset_judge.specs.declared.rule.Kept.TheVariants.{Opening, Change, Refused, Look}
use Rattle.lset_judge.specs.declared.clash.Clash.{Clash}
use Rattle.lset_judge.specs.Rule.{Event, begins, ends, looks, leaves, idle}
use Rattle.lset_judge.specs.Events.{kind_if, until_if}
use Rattle.lset_judge.specs.Rest.{turns_to}
use Rattle.lset_judge.specs.Verdict.{is_plain}
use Rattle.lset_judge.specs.Stream.{States, behind_all, record_of, IsStreamOf}
use Rattle.lset_judge.specs.Clash.{record_if, other, leaves_if, needs_if, since_of, EndsBefore, HasNoClash, IsOf, WasSo, Clashes, IsClash}

-- The facts that the judge stores about the calls on a key. The judge stores one completed call, which left the key in
-- the state `was`. `kept` is the kind of the stored call; `thread`, `begun` and `ended` are its thread, start and end.
-- If `kept` is `Opening`, no call is stored, and the set opened with the key in the state `was`. All changes that make
-- the key present end by `puts_until`, and all changes that make the key absent end by `takes_until`. A pending change
-- counts as ending after all moments.
pub record Facts : Type 0 where
  pub was : Presence
  pub kept : Kept
  pub thread : ℕ
  pub begun : ℕ
  pub ended : ℕ
  pub puts_until : ℕ
  pub takes_until : ℕ

abbrev pub facts_of : KeyState → Facts
facts_of s = record {
  was = s.was;
  kept = s.kept;
  thread = s.thread;
  begun = s.begun;
  ended = s.ended;
  puts_until = s.changes.puts_until;
  takes_until = s.changes.takes_until;
}

-- `word_kept` returns the call of kind `kept` that leaves the key in the state `was`. `reply_kept` returns the reply of
-- the call that `word_kept` returns.
abbrev pub word_kept : Kept → Presence → Key → Call
word_kept Look was key = Contains key
word_kept kept Present key = Add key
word_kept kept Absent key = Remove key

abbrev pub reply_kept : Kept → Presence → Reply
reply_kept Change was = True
reply_kept Refused was = False
reply_kept kept Present = True
reply_kept kept Absent = False

abbrev pub call_kept : ℕ → Facts → StreamCall
call_kept key f = record {
  thread = f.thread;
  call = word_kept f.kept f.was (record { 0 = key });
  begun = f.begun;
  ended = Some (f.ended, reply_kept f.kept f.was);
}

abbrev pub is_call : Kept → Bool
is_call Opening = false
is_call Change = true
is_call Refused = true
is_call Look = true

-- Returns the completed call in the facts `f` about a key, which left the key in the state `f.was`. Returns None if `f`
-- contains no call: the set then opened with the key in the state `f.was`.
abbrev pub first_of : ℕ → Facts → Option StreamCall
first_of key f = if is_call f.kept then Some (call_kept key f) else None

-- Returns the moment that the facts `f` store for the state `there`: the moment by which all calls that change the key
-- to this state have ended.
abbrev pub until_of : Presence → Facts → ℕ
until_of Present f = f.puts_until
until_of Absent f = f.takes_until

abbrev pub facts_opened : Presence → Facts
facts_opened there = record { was = there; kept = Opening; thread = 0; begun = 0; ended = 0; puts_until = 0; takes_until = 0 }

abbrev pub facts_or : Option KeyState → Facts
facts_or None = facts_opened Absent
facts_or (Some s) = facts_of s

abbrev pub facts_for : States → ℕ → Facts
facts_for states k = facts_or (get nat_eq states k)

-- Returns the facts about a key after the start of a call on the key. Only the start of an `add` or `remove` changes
-- the facts. (For the end of a call, see `IsEnded`.)
abbrev pub begun_by : Event → Facts → Facts
begun_by (begins w end) f = record f {
  puts_until = if w then max f.puts_until end else f.puts_until;
  takes_until = if w then f.takes_until else max f.takes_until end;
}
begun_by (ends w) f = f
begun_by (looks w since) f = f
begun_by (leaves w) f = f
begun_by idle f = f

-- Holds if the facts `new` about a key store the completed call `call` in place of the call that the facts `old` store.
-- `call` left the key in the state `new.was`, and all changes to the opposite state had ended when `call` started. The
-- call in `old` is less useful: it left the key in the opposite state, or started before these changes had ended.
-- `puts_until` and `takes_until` are unchanged.
pub record IsKept (call : StreamCall) (old new : Facts) : Type 0 where
  pub first : first_of (key_of call.call).0 new ≡ Some call
  pub leaves : leaves_if call.call call.ended ≡ Some new.was
  pub puts : new.puts_until ≡ old.puts_until
  pub takes : new.takes_until ≡ old.takes_until
  pub standing : until_of (other new.was) old ≤ call.begun
  pub better : old.was ≡ new.was → until_of (other new.was) old ≤ old.begun → ⊥

-- Holds if the call stored in the facts `f` is at least as useful as `call` for finding two calls that contradict each
-- other: if all changes to the state opposite to the one that `call` left had ended when `call` started, then the
-- stored call left the key in the same state as `call`, and those changes had also ended when the stored call started.
abbrev pub ServesAsWell : StreamCall → Facts → Type 0
ServesAsWell call f = IfSome call.ended (λ (e : ℕ × Reply). is_plain call.call e.1 ≡ true) → (p : Presence) → leaves_if call.call call.ended ≡ Some p
    → until_of (other p) f ≤ call.begun → (f.was ≡ p) × (until_of (other p) f ≤ f.begun)

-- Holds if the end of `call` does not change the facts about the key, because the call that the facts already contain
-- is at least as useful as `call` for finding contradictions.
pub record IsUnchanged (call : StreamCall) (old new : Facts) : Type 0 where
  pub same : new ≡ old
  pub serves : ServesAsWell call old

-- Holds if the end of `call` changes the facts about its key correctly. Either the facts are unchanged, or `call`
-- replaces the call that they contain.
abbrev pub IsEnded : StreamCall → Facts → Facts → Type 0
IsEnded call old new = IsUnchanged call old new ⊎ IsKept call old new

-- ---- The meaning of the stored facts about a key

-- Holds if all calls that change the key to the state `there` have ended by `moment`. A pending change counts as ending
-- after all moments.
abbrev pub AreOverBy : List CallRecord → ℕ → Presence → ℕ → Type 0
AreOverBy calls key there moment = All (λ (x : CallRecord). (key_of x.call).0 ≡ key → turns_to there (kind_if x.call x.ended) ≡ true
    → until_if behind_all x.begun x.ended ≤ moment) calls

-- Holds if the facts f about a key are correct. If f contains a call, the call is one of `calls` and left the key in
-- the state `f.was`. If f contains no call, the set opened with the key in the state `f.was`. All changes that make the
-- key present end by `f.puts_until`, and all changes that make the key absent end by `f.takes_until`.
pub record AreFacts (opening : List ℕ) (calls : List CallRecord) (key : ℕ) (f : Facts) : Type 0 where
  pub was : WasSo calls key (presence (has_key key opening)) f.was (record_if (first_of key f))
  pub over : (there : Presence) → AreOverBy calls key there (until_of there f)

-- Holds if c is a clash on the key: no order can contain both calls of c, whatever calls start after `moment`.
abbrev pub IsClashBy : List ℕ → List CallRecord → ℕ → ℕ → Clash → Type 0
IsClashBy opening calls moment key c = (later : List CallRecord) → All (λ (z : CallRecord). moment < z.begun) later
    → IsClash (calls ++ later) key (presence (has_key key opening)) None c.was (record_if c.first) (record_if c.second)

-- Holds if the facts about each key are correct. After the judge has found a key with calls that no order explains,
-- only the facts about this key must be correct. After the judge has found a clash (two calls on the key that
-- contradict each other), only the clash must be correct.
abbrev pub AreKnownBy : List ℕ → List CallRecord → ℕ → States → Option Failed → Option Clash → Type 0
AreKnownBy opening calls moment states None clash = (k : ℕ) → AreFacts opening calls k (facts_for states k)
AreKnownBy opening calls moment states (Some f) None = AreFacts opening calls f.key.0 (facts_for states f.key.0)
AreKnownBy opening calls moment states (Some f) (Some c) = IsClashBy opening calls moment f.key.0 c

-- ---- The stored facts about a key suffice to find a clash

-- Holds if `moment` is 0, or if a call that changes the key to the state `there` ends at `moment`.
abbrev pub IsLatest : List CallRecord → ℕ → Presence → ℕ → Type 0
IsLatest calls key there moment = (moment ≡ 0)
    ⊎ ((x : CallRecord) × IsOf calls key x × (turns_to there (kind_if x.call x.ended) ≡ true) × (moment ≡ until_if behind_all x.begun x.ended))

-- Holds if the call, if any, has ended by `moment`.
abbrev pub IsPast : ℕ → Option CallRecord → Type 0
IsPast moment None = Unit {0}
IsPast moment (Some x) = IfSome x.ended (λ (e : ℕ × Reply). e.0 ≤ moment)

-- Holds if the call that the facts f store is at least as useful as `first` for finding a clash (two calls that
-- contradict each other). The stored call left the key in the state p, as `first` did. All changes to the opposite
-- state had ended when the stored call started. If `first` had ended before a moment, the stored call had ended before
-- this moment too.
pub record IsAsGood (key : ℕ) (f : Facts) (p : Presence) (first : Option CallRecord) : Type 0 where
  pub was : f.was ≡ p
  pub standing : until_of (other p) f ≤ f.begun
  pub early : (moment : ℕ) → EndsBefore first moment → EndsBefore (record_if (first_of key f)) moment

-- Holds if the facts f about a key suffice to find contradictions: whenever a completed call or the key's opening state
-- can contradict a call that ends later, the call that f stores can contradict the later call too.
pub record AreComplete (opening : List ℕ) (calls : List CallRecord) (moment key : ℕ) (f : Facts) : Type 0 where
  pub latest : (there : Presence) → IsLatest calls key there (until_of there f)
  pub since : f.begun ≡ since_of (record_if (first_of key f))
  pub past : IsPast moment (record_if (first_of key f))
  pub best : (p : Presence) (first : Option CallRecord) → WasSo calls key (presence (has_key key opening)) p first → IsPast moment first
      → until_of (other p) f ≤ since_of first → IsAsGood key f p first

-- Holds if the judge has missed no clash (two calls that contradict each other) among the calls on the key that have
-- ended by `moment`. No call that has ended by `moment` contradicts the key's opening state, or a call that had ended
-- before it started.
abbrev pub NoneMissed : List ℕ → List CallRecord → ℕ → ℕ → Type 0
NoneMissed opening calls moment key = (p : Presence) (first : Option CallRecord) (y : CallRecord) → EndsBefore first y.begun
    → Clashes calls key (presence (has_key key opening)) None p first (Some y) → IsPast moment (Some y) → ⊥

abbrev pub AreCompleteBy : List ℕ → List CallRecord → ℕ → States → Option Failed → Option Clash → Type 0
AreCompleteBy opening calls moment states None clash = (k : ℕ) → AreComplete opening calls moment k (facts_for states k)
AreCompleteBy opening calls moment states (Some f) None =
    AreComplete opening calls moment f.key.0 (facts_for states f.key.0) × NoneMissed opening calls moment f.key.0
AreCompleteBy opening calls moment states (Some f) (Some c) = Unit {0}

-- Holds if the stream s (a judge of calls in sequence) has judged `calls`. The facts that s stores about the keys are
-- correct (see `AreKnownBy`), and suffice to find two calls that contradict each other (see `AreCompleteBy`).
pub record IsStreamKept (threads : ℕ) (opening : List ℕ) (calls : List CallRecord) (s : Stream) : Type 0 where
  pub stream : IsStreamOf threads opening calls s
  pub known : AreKnownBy opening calls s.moment s.states s.failed s.clash
  pub complete : AreCompleteBy opening calls s.moment s.states s.failed s.clash

-- ---- Definitions that only one contract uses

-- Holds if all changes of the key away from the state `f.was` had ended when the call that the facts f store started.
-- If f stores no call, holds if no change away from the state `f.was` has started.
abbrev pub IsStanding : ℕ → Facts → Type 0
IsStanding key f = until_of (other f.was) f ≤ since_of (record_if (first_of key f))

-- Holds if both calls have ended, and the first call ended no later than the second.
abbrev pub EndsBy : Option (ℕ × Reply) → Option (ℕ × Reply) → Type 0
EndsBy first second = IsSomeAnd first (λ (d : ℕ × Reply). IsSomeAnd second (λ (e : ℕ × Reply). d.0 ≤ e.0))

-- Holds if the facts f about a key show that the calls x and y also contradict each other in the opposite order: y
-- first, then x.
pub record ClashTurned (f : Facts) (x y : StreamCall) : Type 0 where
  pub apart : x.begun ≢ y.begun
  pub left : Presence
  pub leaves : leaves_if y.call y.ended ≡ Some left
  pub needs : needs_if x.call x.ended ≡ Some (other left)
  pub since : until_of (other left) f ≤ y.begun
  pub ends : EndsBy x.ended y.ended

abbrev pub ComesAfter : Facts → Option StreamCall → StreamCall → Type 0
ComesAfter f None second = Unit {0}
ComesAfter f (Some x) second = Precedes (record_of x) (record_of second) ⊎ ClashTurned f x second

-- Holds if the facts f about a key show that `call` contradicts the call that f stores, so that no order can contain
-- both. If f stores no call, holds if f shows that `call` contradicts the key's opening state.
pub record IsClashing (f : Facts) (call : StreamCall) : Type 0 where
  pub needs : needs_if call.call call.ended ≡ Some (other f.was)
  pub standing : IsStanding (key_of call.call).0 f
  pub order : ComesAfter f (first_of (key_of call.call).0 f) call

abbrev pub clash_with : ℕ → Facts → Option StreamCall → Clash
clash_with key f second = record { was = f.was; first = first_of key f; second = second }

-- Holds if the facts f about a key show that c is a clash (two calls that contradict each other), and `call` is the
-- second call of c.
pub record IsFound (f : Facts) (call : StreamCall) (c : Clash) : Type 0 where
  pub is : c ≡ clash_with (key_of call.call).0 f (Some call)
  pub clashing : IsClashing f call

-- Holds if the facts f about a key show that c is a clash with the key's final state `left`: no order can contain the
-- call that f stores and leave the key in the state `left`. If f stores no call, the clash is between the key's opening
-- state and `left`.
pub record IsFoundLeft (key : ℕ) (f : Facts) (left : Presence) (c : Clash) : Type 0 where
  pub is : c ≡ clash_with key f None
  pub is_other : left ≡ other f.was
  pub standing : IsStanding key f

-- Holds if the start of a call changes the facts about the keys correctly: as `begun_by` describes for the key of the
-- call, and not at all for other keys. After the judge has found a key with calls that no order explains, only the
-- facts about this key must be correct. After the judge has found a clash (two calls that contradict each other),
-- nothing is required.
abbrev pub BeginIsKnown : States → ℕ → Event → States → Option Failed → Option Clash → Type 0
BeginIsKnown before key event after None clash = (facts_for after key ≡ begun_by event (facts_for before key))
    × ((k : ℕ) → k ≢ key → facts_for after k ≡ facts_for before k)
BeginIsKnown before key event after (Some f) None = (facts_for after f.key.0 ≡ begun_by event (facts_for before f.key.0)) × (f.key.0 ≡ key)
    ⊎ ((facts_for after f.key.0 ≡ facts_for before f.key.0) × (f.key.0 ≢ key))
BeginIsKnown before key event after (Some f) (Some c) = Unit {0}

-- Holds if the end of `call` changes the facts about its key as `IsEnded` describes. If the judge finds a clash (two
-- calls that contradict each other) when `call` ends, the facts before the end show the clash, and `call` is its second
-- call.
pub record EndIsKept (before : States) (call : StreamCall) (after : States) (clash : Option Clash) : Type 0 where
  pub facts : IsEnded call (facts_for before (key_of call.call).0) (facts_for after (key_of call.call).0)
  pub found : IfSome clash (IsFound (facts_for before (key_of call.call).0) call)

abbrev pub EndIsKnown : States → StreamCall → States → Option Failed → Option Clash → Option Clash → Type 0
EndIsKnown before call after None was clash = EndIsKept before call after clash
    × ((k : ℕ) → k ≢ (key_of call.call).0 → facts_for after k ≡ facts_for before k)
EndIsKnown before call after (Some f) None clash = (EndIsKept before call after clash × (f.key.0 ≡ (key_of call.call).0))
    ⊎ ((facts_for after f.key.0 ≡ facts_for before f.key.0) × (clash ≡ None) × (f.key.0 ≢ (key_of call.call).0))
EndIsKnown before call after (Some f) (Some c) clash = clash ≡ Some c

abbrev pub clash_met : Option Failed → Option Clash → Option Clash
clash_met None clash = None
clash_met (Some f) clash = clash

-- Holds if c is a clash (two calls that contradict each other) in every list of calls that leads to the state s of the
-- stream. Both calls of c are on the key that `refusal`, the reason of the verdict, names.
abbrev pub ClashesStream : List ℕ → Refusal → Option Presence → Stream → Clash → Type 0
ClashesStream opening refusal left s c = (threads : ℕ) (calls : List CallRecord) → IsStreamKept threads opening calls s
    → IsClash calls refusal.key.0 (presence (has_key refusal.key.0 opening)) left c.was (record_if c.first) (record_if c.second)

-- Holds if, once the ends of all completed calls have been processed, no call on the key that `refusal` names
-- contradicts a later call (see `HasNoClash`). `refusal` is the reason of the verdict.
abbrev pub HasNone : List ℕ → Refusal → Option Presence → Stream → Type 0
HasNone opening refusal left s = (threads : ℕ) (calls : List CallRecord) → IsStreamKept threads opening calls s
    → All (λ (p : Pending). behind_all ≤ p.end) s.pending → HasNoClash calls refusal.key.0 (presence (has_key refusal.key.0 opening)) left
