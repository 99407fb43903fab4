-- Definitions of the checks of an order of calls, for the contracts of the checker's functions.
use Rattle.std.specs.Prelude.{◌≡◌, ◌≢◌, ℕ, ◌<◌, ◌==◌, ◌⊎◌, Bool, true, false, List, map, length, get_or, min, Option, Some, None}
use Rattle.std.specs.Prelude.{take, is_some, All, IfSome, IsSomeAnd}
use Rattle.std.specs.List.{list_any}
use Rattle.lset_words.specs.declared.Reply.{Reply}
use Rattle.lset_words.specs.declared.history.CallRecord.{CallRecord}
use Rattle.lset_words.specs.declared.history.Placed.{Placed}
use Rattle.lset_words.specs.SequentialSet.{reply_to, after_call, IsLegal}
use Rattle.lset_words.specs.History.{call_numbered, answered}
use Rattle.lset_history.specs.Oracle.{OracleValue, PutsIn}
use Rattle.lset_history.specs.Faults.{placed_call, set_left_by}

-- Holds if every call in the order is a call of the history.
abbrev pub HasKnownCalls : List CallRecord → List Placed → Type 0
HasKnownCalls calls order = All (λ (p : Placed). p.call < length calls) order

-- Returns whether the call numbered `number` is in the order.
abbrev pub stands : List Placed → ℕ → Bool
stands order number = list_any (λ p. p.call == number) order

-- Returns whether the call numbered `number` has a mark. `marks` has one item for each call of the history. The checker
-- marks the calls that are in the order.
abbrev pub is_marked : List Bool → ℕ → Bool
is_marked marks number = get_or marks number false

-- Holds if a call is marked if and only if it is in the order.
abbrev pub MarksCalls : List Bool → List Placed → Type 0
MarksCalls marks order = (number : ℕ) → is_marked marks number ≡ stands order number

-- Holds if the call numbered `number` is completed but not marked. The checker marks the calls that are in the order.
pub record IsLeftOut (calls : List CallRecord) (marks : List Bool) (number : ℕ) : Type 0 where
  pub known : number < length calls
  pub ended : is_some (call_numbered calls number).ended ≡ true
  pub absent : is_marked marks number ≡ false

abbrev pub LeavesNoneOut : List CallRecord → List Bool → Type 0
LeavesNoneOut calls marks = (number : ℕ) → IsLeftOut calls marks number → ⊥

-- Holds if `number` is the smallest number of a completed call without a mark. The checker marks the calls that are in
-- the order.
abbrev pub LeavesOutFirst : List CallRecord → List Bool → ℕ → Type 0
LeavesOutFirst calls marks number =
    IsLeftOut calls marks number × ((smaller : ℕ) → smaller < number → IsLeftOut calls marks smaller → ⊥)

-- Holds if `reply` is correct: the sequential set returns `reply` and, if the call is completed, the history records
-- `reply` for the call.
pub record HasReply (o : OracleValue) (x : CallRecord) (reply : Reply) : Type 0 where
  pub recorded : IfSome x.ended (λ (end : ℕ × Reply). end.1 ≡ reply)
  pub given : reply_to o.quota o.state x.thread x.call ≡ reply

abbrev pub HasOtherReply : OracleValue → CallRecord → Reply → Type 0
HasOtherReply o x reply =
    IsSomeAnd x.ended (λ (end : ℕ × Reply). end.1 ≢ reply) ⊎ (reply_to o.quota o.state x.thread x.call ≢ reply)

abbrev pub after_reply : OracleValue → CallRecord → Reply → OracleValue
after_reply o x reply = record o { state = after_call o.state x.thread x.call reply }

-- Holds if every reply in the order is correct: the sequential set returns the reply after the preceding calls of the
-- order and, if the call is completed, the history records the reply for the call.
pub record HasReplies (o : OracleValue) (calls : List CallRecord) (order : List Placed) : Type 0 where
  pub recorded : All (λ (p : Placed). IfSome (call_numbered calls p.call).ended (λ (end : ℕ × Reply). end.1 ≡ p.reply)) order
  pub legal : IsLegal o.quota o.state (map (answered calls) order)

-- Returns the sequential set `o` after the calls in `order`.
abbrev pub after_order : OracleValue → List CallRecord → List Placed → OracleValue
after_order o calls order = record o { state = set_left_by o.state calls order }

-- Holds if some call in the order adds its key to the sequential set. No other calls allocate.
abbrev pub PutsInSome : OracleValue → List CallRecord → List Placed → Type 0
PutsInSome o calls order = (place : ℕ) × (place < length order)
    × PutsIn (after_order o calls (take place order)) (placed_call calls order place).thread (placed_call calls order place).call

-- Returns the earlier of `smallest` and the moment when a call ends. Either can be absent (`None`).
abbrev pub smallest_with : Option ℕ → Option (ℕ × Reply) → Option ℕ
smallest_with smallest None = smallest
smallest_with None (Some end) = Some end.0
smallest_with (Some smallest) (Some end) = Some (min smallest end.0)
