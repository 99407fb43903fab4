-- A clash: two calls on a key that contradict each other, so that no order can contain both. The key's opening state
-- can take the place of the first call, and its final state can take the place of the second.
use Rattle.std.specs.Prelude.{◌≡◌, ◌≢◌, ◌<◌, ℕ, ◌⊎◌, ◌||◌, not, nat_lt, Bool, true, List, Option, Some, None, map, All, IfSome, IsSomeAnd, Contains as Has}
use Rattle.lset_words.specs.declared.Call.{Call}
use Rattle.lset_words.specs.declared.Reply.{Reply}
use Rattle.lset_words.specs.declared.history.CallRecord.{CallRecord}
use Rattle.lset_words.specs.declared.effect.Presence.{Presence}
use Rattle.lset_words.specs.declared.effect.Presence.TheVariants.{Present, Absent}
use Rattle.lset_words.specs.declared.effect.Effect.{Effect}
use Rattle.lset_words.specs.declared.effect.Effect.TheVariants.{Changes, Sees, Other}
use Rattle.lset_words.specs.Effects.{effect_of, is_there}
use Rattle.lset_words.specs.Words.{key_of}
use Rattle.lset_words.specs.History.{Precedes, IsHistory}
use Rattle.lset_words.specs.SequentialSet.{has_key}
use Rattle.lset_history.specs.History.{HistoryValue}
use Rattle.lset_judge.specs.Verdict.{IsUnexplained}
use Rattle.lset_judge.specs.declared.stream.StreamCall.{StreamCall}
use Rattle.lset_judge.specs.Events.{kind_if}
use Rattle.lset_judge.specs.Rest.{alone, has_ended, key_if, turns_to}
use Rattle.lset_judge.specs.Stream.{record_of}

abbrev pub other : Presence → Presence
other Present = Absent
other Absent = Present

-- `left_so` returns the state in which a call with the given effect leaves its key. `needed_by` returns the state that
-- the key must have before the call.
abbrev pub left_so : Effect → Option Presence
left_so (Changes p) = Some p
left_so (Sees p) = Some p
left_so Other = None

abbrev pub needed_by : Effect → Option Presence
needed_by (Changes p) = Some (other p)
needed_by (Sees p) = Some p
needed_by Other = None

-- `leaves_if` returns the state in which a call leaves its key. `needs_if` returns the state that the key must have
-- before the call. Both return None for a pending call.
abbrev pub leaves_if : Call → Option (ℕ × Reply) → Option Presence
leaves_if c None = None
leaves_if c (Some e) = left_so (effect_of c e.1)

abbrev pub needs_if : Call → Option (ℕ × Reply) → Option Presence
needs_if c None = None
needs_if c (Some e) = needed_by (effect_of c e.1)

-- Holds if x is in the list `calls` and is a call on the key `key`.
pub record IsOf (calls : List CallRecord) (key : ℕ) (x : CallRecord) : Type 0 where
  pub known : Has calls x
  pub own : (key_of x.call).0 ≡ key

-- Holds if the key was in the state `was`: either the set opened with the key in this state (None), or the call x left
-- the key in this state (Some x).
abbrev pub WasSo : List CallRecord → ℕ → Presence → Presence → Option CallRecord → Type 0
WasSo calls key there was None = there ≡ was
WasSo calls key there was (Some x) = IsOf calls key x × (leaves_if x.call x.ended ≡ Some was)

-- Holds if the key must be in the state `need`: either `need` is the key's final state (None), or the call y needs the
-- key in the state `need` (Some y).
abbrev pub HasToBe : List CallRecord → ℕ → Option Presence → Presence → Option CallRecord → Type 0
HasToBe calls key left need None = left ≡ Some need
HasToBe calls key left need (Some y) = IsOf calls key y × (needs_if y.call y.ended ≡ Some need)

-- `since_of` returns the start of the first call of a clash, or 0 if the key's opening state takes the place of this
-- call. A clash is a pair of calls on a key that contradict each other. No call can change the key to the state that
-- the second call needs between the start of the first call and the end of the second.
abbrev pub since_of : Option CallRecord → ℕ
since_of None = 0
since_of (Some x) = x.begun

abbrev pub is_before_end : ℕ → Option (ℕ × Reply) → Bool
is_before_end begun None = true
is_before_end begun (Some e) = nat_lt begun e.0

abbrev pub is_before : ℕ → Option CallRecord → Bool
is_before begun None = true
is_before begun (Some y) = is_before_end begun y.ended

-- Holds if each call on `key` that can change the key to the state `there` has ended by the moment `since`, or starts
-- no earlier than the call `second` ends.
abbrev pub NothingTurns : List CallRecord → ℕ → Presence → ℕ → Option CallRecord → Type 0
NothingTurns calls key there since second = All (λ (x : CallRecord). (key_of x.call).0 ≡ key → turns_to there (kind_if x.call x.ended) ≡ true
    → is_before x.begun second ≡ true → has_ended since x.ended ≡ true) calls

-- Returns whether the call x cannot change its key to the state `there` between the moment `since` and the end of the
-- call `second`.
abbrev pub is_apart : Presence → ℕ → Option CallRecord → CallRecord → Bool
is_apart there since second x = not (turns_to there (kind_if x.call x.ended)) || (not (is_before x.begun second) || has_ended since x.ended)

-- Holds if the call `second` cannot follow the call `first` in any order: `first` leaves the key in the state `was`,
-- `second` needs the opposite state, and no call can change the key to the opposite state between them.
pub record Clashes (calls : List CallRecord) (key : ℕ) (there : Presence) (left : Option Presence) (was : Presence) (first second : Option CallRecord) : Type 0 where
  pub was_so : WasSo calls key there was first
  pub needed : HasToBe calls key left (other was) second
  pub nothing : NothingTurns calls key (other was) (since_of first) second

-- Holds if the second call starts after the first has ended, or if the two calls also contradict each other in the
-- opposite order. Always holds if the key's opening state takes the place of the first call, or the key's final state
-- takes the place of the second.
abbrev pub InOrder : List CallRecord → ℕ → Presence → Option Presence → Option CallRecord → Option CallRecord → Type 0
InOrder calls key there left (Some x) (Some y) =
    Precedes x y ⊎ ((x.begun ≢ y.begun) × ((v : Presence) × Clashes calls key there left v (Some y) (Some x)))
InOrder calls key there left None second = Unit {0}
InOrder calls key there left (Some x) None = Unit {0}

-- Holds if the calls `first` and `second` on a key contradict each other, so that no order can contain both. If `first`
-- is None, the key's opening state takes its place. If `second` is None, the key's final state takes its place.
abbrev pub IsClash : List CallRecord → ℕ → Presence → Option Presence → Presence → Option CallRecord → Option CallRecord → Type 0
IsClash calls key there left was first second =
    Clashes calls key there left was first second × InOrder calls key there left first second

-- `EndsBefore`: the call ends before `moment`. `ComesFirst`: the first call ends before the second call starts. Both
-- hold if the key's opening state takes the place of the first call. `ComesFirst` also holds if the key's final state
-- takes the place of the second call.
abbrev pub EndsBefore : Option CallRecord → ℕ → Type 0
EndsBefore None moment = Unit {0}
EndsBefore (Some x) moment = IsSomeAnd x.ended (λ (e : ℕ × Reply). e.0 < moment)

abbrev pub ComesFirst : Option CallRecord → Option CallRecord → Type 0
ComesFirst first None = Unit {0}
ComesFirst first (Some y) = EndsBefore first y.begun

-- Holds if no call on the key contradicts an earlier call (one that ended before the later call started). The key's
-- opening state can take the place of the earlier call, and the key's final state can take the place of the later call.
abbrev pub HasNoClash : List CallRecord → ℕ → Presence → Option Presence → Type 0
HasNoClash calls key there left = (was : Presence) (first second : Option CallRecord) → ComesFirst first second
    → IsClash calls key there left was first second → ⊥

-- If two calls of the history h contradict each other, so that no order can contain both, no order explains h and
-- leaves the final keys `keys`.
abbrev pub ClashesExcludeOrders : Type 0
ClashesExcludeOrders = (h : HistoryValue) (keys : List ℕ) (key : ℕ) (there : Presence) (left : Option Presence) (was : Presence)
    (first second : Option CallRecord) → IsHistory h.opening.threads h.calls → has_key key h.opening.keys ≡ is_there there
    → IfSome left (λ (l : Presence). has_key key keys ≡ is_there l) → IsClash h.calls key there left was first second → IsUnexplained h keys

abbrev pub records : List StreamCall → List CallRecord
records calls = map record_of calls

-- Holds if no order explains `calls`, the calls on a key, and leaves the key in the state `left`. If `left` is None, no
-- order explains `calls`, whatever the key's final state is. `there` is the key's opening state.
abbrev pub HaveNone : ℕ → ℕ → Presence → Option Presence → List CallRecord → Type 0
HaveNone threads key there left calls = (quota : ℕ) (keys : List ℕ) → IfSome left (λ (l : Presence). keys ≡ key_if (is_there l) key)
    → IsUnexplained (alone threads quota (is_there there) key calls) keys

abbrev pub record_if : Option StreamCall → Option CallRecord
record_if None = None
record_if (Some x) = Some (record_of x)
