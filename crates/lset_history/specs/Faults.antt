-- Defines when an order of calls explains a history and its final keys, and which error is reported if the order does
-- not explain them.
use Rattle.std.specs.Prelude.{◌≡◌, ◌≢◌, ℕ, ◌<◌, ◌≤◌, ◌⊎◌, List, map, take, length, All, IsSome, IsSomeAnd, slice_index_or}
use Rattle.std.specs.List.Sorted.{IsStrictlyIncreasing}
use Rattle.lset_words.specs.declared.Reply.{Reply}
use Rattle.lset_words.specs.declared.Reply.TheVariants.{True}
use Rattle.lset_words.specs.declared.history.CallRecord.{CallRecord}
use Rattle.lset_words.specs.declared.history.Placed.{Placed}
use Rattle.lset_words.specs.SequentialSet.{SetState, opening_set, reply_to, set_left}
use Rattle.lset_words.specs.History.{call_numbered, Precedes, answered, Linearizes}
use Rattle.lset_history.specs.declared.fault.OrderFault.{OrderFault}
use Rattle.lset_history.specs.declared.fault.OrderFault.TheVariants.{Unknown, Twice, Missing, WrongReply, TooEarly, WrongSet}
use Rattle.lset_history.specs.declared.fault.OrderFault.TheVariants.{Memory}
use Rattle.lset_history.specs.History.{HistoryValue}

-- Returns the state of a set after the calls of an order. `start` is the state before the first call.
abbrev pub set_left_by : SetState → List CallRecord → List Placed → SetState
set_left_by start calls order = set_left start (map (answered calls) order)

-- Holds if the order explains the history and the final keys: the order linearizes the history, and `keys` are the keys
-- of the set after the order's calls, in strictly increasing order.
pub record Explains (h : HistoryValue) (order : List Placed) (keys : List ℕ) : Type 0 where
  pub linearizes : Linearizes h.opening.quota (opening_set h.opening) h.calls order
  pub keys_left : keys ≡ (set_left_by (opening_set h.opening) h.calls order).keys
  pub increasing : IsStrictlyIncreasing keys

-- Returns the item at index `i` (from 0) of the order. An index past the end returns a default, on which no definition
-- depends.
abbrev pub place_at : List Placed → ℕ → Placed
place_at order i = slice_index_or order i (record { call = 0; reply = True })

-- Returns the call of the history that is at index `i` of the order.
abbrev pub placed_call : List CallRecord → List Placed → ℕ → CallRecord
placed_call calls order i = call_numbered calls (place_at order i).call

-- Holds if the history has no call with the number at index `i` of the order.
abbrev pub IsUnknown : List CallRecord → List Placed → ℕ → Type 0
IsUnknown calls order i = length calls ≤ (place_at order i).call

-- Holds if the call at index `i` of the order is also at an earlier index.
abbrev pub IsTwice : List Placed → ℕ → Type 0
IsTwice order i = (earlier : ℕ) × (earlier < i) × ((place_at order earlier).call ≡ (place_at order i).call)

-- Holds if the reply at index `i` of the order is wrong: it differs from the reply in the history, or from the
-- sequential set's reply after the preceding calls of the order.
abbrev pub HasWrongReply : ℕ → SetState → List CallRecord → List Placed → ℕ → Type 0
HasWrongReply quota start calls order i =
    let x = placed_call calls order i in
    let reply = (place_at order i).reply in
    IsSomeAnd x.ended (λ (end : ℕ × Reply). end.1 ≢ reply)
    ⊎ (reply_to quota (set_left_by start calls (take i order)) x.thread x.call ≢ reply)

-- Holds if the call at index `i` of the order is too early, because a call at a later index had ended before the call
-- at index `i` began.
abbrev pub IsTooEarly : List CallRecord → List Placed → ℕ → Type 0
IsTooEarly calls order i =
    (later : ℕ) × (i < later) × (later < length order) × Precedes (placed_call calls order later) (placed_call calls order i)

-- Holds if the call numbered `number` is completed but not in the order.
pub record IsMissing (calls : List CallRecord) (order : List Placed) (number : ℕ) : Type 0 where
  pub known : number < length calls
  pub ended : IsSome (call_numbered calls number).ended
  pub absent : All (λ (p : Placed). p.call ≢ number) order

-- Holds if a check finds no error at any index of the order. `Refuses i` holds if the check finds an error at index
-- `i`.
abbrev pub Passes : (ℕ → Type 0) → List Placed → Type 0
Passes Refuses order = (place : ℕ) → place < length order → Refuses place → ⊥

-- Holds if `number` is the number of the first call in the order that fails a check.
pub record RefusesFirst (Refuses : ℕ → Type 0) (order : List Placed) (number : ℕ) : Type 0 where
  pub place : ℕ
  pub inside : place < length order
  pub names : (place_at order place).call ≡ number
  pub refused : Refuses place
  pub first : (earlier : ℕ) → earlier < place → Refuses earlier → ⊥

abbrev pub MissesNone : List CallRecord → List Placed → Type 0
MissesNone calls order = (number : ℕ) → IsMissing calls order number → ⊥

pub record MissesFirst (calls : List CallRecord) (order : List Placed) (number : ℕ) : Type 0 where
  pub missing : IsMissing calls order number
  pub smallest : (smaller : ℕ) → smaller < number → IsMissing calls order smaller → ⊥

-- Holds if the fault is the error to report: no earlier check finds an error, and the fault is the first error that its
-- own check finds. `Missing` names the smallest number of a missing call. `Memory`, a failed allocation, can always be
-- reported.
abbrev pub IsFault : HistoryValue → List Placed → List ℕ → OrderFault → Type 0
IsFault h order keys (Unknown number) = RefusesFirst (IsUnknown h.calls order) order number
IsFault h order keys (Twice number) = Passes (IsUnknown h.calls order) order × RefusesFirst (IsTwice order) order number
IsFault h order keys (Missing number) =
    Passes (IsUnknown h.calls order) order × Passes (IsTwice order) order × MissesFirst h.calls order number
IsFault h order keys (WrongReply number) =
    Passes (IsUnknown h.calls order) order × Passes (IsTwice order) order × MissesNone h.calls order
    × RefusesFirst (HasWrongReply h.opening.quota (opening_set h.opening) h.calls order) order number
IsFault h order keys (TooEarly number) =
    Passes (IsUnknown h.calls order) order × Passes (IsTwice order) order × MissesNone h.calls order
    × Passes (HasWrongReply h.opening.quota (opening_set h.opening) h.calls order) order
    × RefusesFirst (IsTooEarly h.calls order) order number
IsFault h order keys WrongSet =
    Passes (IsUnknown h.calls order) order × Passes (IsTwice order) order × MissesNone h.calls order
    × Passes (HasWrongReply h.opening.quota (opening_set h.opening) h.calls order) order × Passes (IsTooEarly h.calls order) order
    × (keys ≢ (set_left_by (opening_set h.opening) h.calls order).keys)
IsFault h order keys Memory = Unit {0}
