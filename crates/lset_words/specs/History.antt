-- Histories of calls, and the definition of a linearization: an order of the calls of a history (Herlihy and Wing). A
-- linearization can leave out a pending call, or complete it with a reply.
use Rattle.std.specs.Prelude.{◌≡◌, ◌≢◌, ℕ, ◌<◌, List, map, length, Some, None, Contains, All, AllPairs, IfSome}
use Rattle.std.specs.Prelude.{IsSomeAnd, slice_index_or}
use Rattle.lset_words.specs.declared.Call.TheVariants as call
use Rattle.lset_words.specs.declared.Reply.{Reply}
use Rattle.lset_words.specs.declared.history.CallRecord.{CallRecord}
use Rattle.lset_words.specs.declared.history.Placed.{Placed}
use Rattle.lset_words.specs.SequentialSet.{SetState, Answered, IsLegal}

-- A placeholder: the call that `call_numbered` returns for a number outside the history.
abbrev pub no_call : CallRecord
no_call = record { thread = 0; call = call.Contains (record { 0 = 0 }); begun = 0; ended = None }

-- Returns call number `number` of a history, counted from 0.
abbrev pub call_numbered : List CallRecord → ℕ → CallRecord
call_numbered history number = slice_index_or history number no_call

-- The conditions on a single call of a history.
pub record IsCall (threads : ℕ) (x : CallRecord) : Type 0 where
  pub of_a_thread : x.thread < threads
  pub counted : 0 < x.begun
  pub ends_later : IfSome x.ended (λ (e : ℕ × Reply). x.begun < e.0)

-- The conditions on a call `x` of a history and a call `y` that comes before `x` in the history.
pub record Follows (y x : CallRecord) : Type 0 where
  -- `y` begins before `x`.
  pub increasing : y.begun < x.begun
  -- The moments at which `x` and `y` begin and end are all different.
  pub begins_alone : IfSome y.ended (λ (e : ℕ × Reply). e.0 ≢ x.begun)
  pub ends_alone : IfSome x.ended (λ (e : ℕ × Reply). (e.0 ≢ y.begun) × IfSome y.ended (λ (d : ℕ × Reply). e.0 ≢ d.0))
  -- If one thread makes both calls, `y` ends before `x` begins.
  pub none_open : y.thread ≡ x.thread → IsSomeAnd y.ended (λ (e : ℕ × Reply). e.0 < x.begun)

-- The conditions for appending call `x` to the calls `earlier` of a history.
pub record MayFollow (threads : ℕ) (earlier : List CallRecord) (x : CallRecord) : Type 0 where
  pub call : IsCall threads x
  pub follows : All (λ y. Follows y x) earlier

-- [History]: a list of calls, numbered in the order of their starts. No two starts or ends happen at the same moment.
pub record IsHistory (threads : ℕ) (calls : List CallRecord) : Type 0 where
  pub each : All (IsCall threads) calls
  pub pairs : AllPairs Follows calls

-- Holds if the call `earlier` ends before the call `later` begins.
abbrev pub Precedes : CallRecord → CallRecord → Type 0
Precedes earlier later = IsSomeAnd earlier.ended (λ (e : ℕ × Reply). e.0 < later.begun)

-- Returns an element of an order as a completed call: the call, the thread that made the call, and the call's reply in
-- the order.
abbrev pub answered : List CallRecord → Placed → Answered
answered history p = record {
  thread = (call_numbered history p.call).thread;
  call = (call_numbered history p.call).call;
  reply = p.reply;
}

-- Holds if `order` is a linearization of `history`, when the set starts in state `start`.
pub record Linearizes (quota : ℕ) (start : SetState) (history : List CallRecord) (order : List Placed) : Type 0 where
  -- The order contains only calls of the history.
  pub known : All (λ (p : Placed). p.call < length history) order
  -- Each call occurs in the order at most once.
  pub once : AllPairs (λ (p r : Placed). p.call ≢ r.call) order
  -- Each completed call occurs in the order, with its reply.
  pub ended : (number : ℕ) (end : ℕ) (reply : Reply) → number < length history
      → (call_numbered history number).ended ≡ Some (end, reply)
      → Contains order (record { call = number; reply = reply })
  -- If the calls are made in the given order, the sequential set returns the replies of the order.
  pub legal : IsLegal quota start (map (answered history) order)
  -- If a call of the history ends before another call begins, the first call also precedes the second in the order.
  pub in_time : AllPairs (λ (p r : Placed). Precedes (call_numbered history r.call) (call_numbered history p.call) → ⊥) order
