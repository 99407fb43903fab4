-- The value of the Rust type `History`, and the conditions for the start and the end of a call in a history. A moment
-- is a number that dates the start or the end of a call.
use Rattle.std.specs.Prelude.{◌≡◌, ℕ, ◌<◌, ◌≤◌, ◌^◌, ◌==◌, ◌&&◌, max, Bool, true, false, List, [], ◌∷◌, ◌++◌, length, Option}
use Rattle.std.specs.Prelude.{Some, None, is_none, All, IfSome, slice_index_or, slice_set}
use Rattle.std.specs.List.{list_any}
use Rattle.lset_words.specs.declared.Reply.{Reply}
use Rattle.lset_words.specs.declared.history.CallRecord.{CallRecord}
use Rattle.lset_words.specs.Words.{Opening, Opens}
use Rattle.lset_words.specs.History.{IsHistory, call_numbered}
use Rattle.lset_history.specs.declared.fault.HistoryFault.{HistoryFault}
use Rattle.lset_history.specs.declared.fault.HistoryFault.TheVariants.{NoThread, Busy, NotOpen, Time, Memory}

-- The value of a history: the calls, indexed by number, and the number of threads, the quota (the number of successful
-- adds that one thread can make) and the opening keys of the set.
pub record HistoryValue : Type 0 where
  pub opening : Opening
  pub calls : List CallRecord

-- Returns whether `thread` has a pending call.
abbrev pub has_open : List CallRecord → ℕ → Bool
has_open calls thread = list_any (λ x. x.thread == thread && is_none x.ended) calls

-- Holds if the moment `at` is at least 1, and after the start and the end of every call.
pub record IsLater (calls : List CallRecord) (at : ℕ) : Type 0 where
  pub counted : 0 < at
  pub begins : All (λ (x : CallRecord). x.begun < at) calls
  pub ends : All (λ (x : CallRecord). IfSome x.ended (λ (e : ℕ × Reply). e.0 < at)) calls

-- Holds if `thread` can begin a call at the moment `at`: the thread exists and has no pending call, and `at` is after
-- all moments in the history.
pub record MayBegin (h : HistoryValue) (thread at : ℕ) : Type 0 where
  pub of_a_thread : thread < h.opening.threads
  pub idle : has_open h.calls thread ≡ false
  pub later : IsLater h.calls at

-- Holds if the fault is the first reason why `thread` cannot begin a call. `Memory`, a failed allocation, is a reason
-- only if the call could otherwise begin.
abbrev pub CannotBegin : HistoryValue → ℕ → ℕ → HistoryFault → Type 0
CannotBegin h thread at NoThread = h.opening.threads ≤ thread
CannotBegin h thread at Busy = (thread < h.opening.threads) × (has_open h.calls thread ≡ true)
CannotBegin h thread at NotOpen = ⊥
CannotBegin h thread at Time = (thread < h.opening.threads) × (has_open h.calls thread ≡ false) × (IsLater h.calls at → ⊥)
CannotBegin h thread at Memory = MayBegin h thread at

abbrev pub with_begun : HistoryValue → CallRecord → HistoryValue
with_begun h x = record h { calls = h.calls ++ x ∷ [] }

-- Holds if the history has a call numbered `number`, and the call is pending.
pub record IsOpen (calls : List CallRecord) (number : ℕ) : Type 0 where
  pub known : number < length calls
  pub not_ended : (call_numbered calls number).ended ≡ None

pub record MayEnd (h : HistoryValue) (number at : ℕ) : Type 0 where
  pub open_call : IsOpen h.calls number
  pub later : IsLater h.calls at

-- Holds if the fault is the first reason why the call cannot end. `Memory` is never a reason, since ending a call does
-- not allocate.
abbrev pub CannotEnd : HistoryValue → ℕ → ℕ → HistoryFault → Type 0
CannotEnd h number at NotOpen = IsOpen h.calls number → ⊥
CannotEnd h number at Time = IsOpen h.calls number × (IsLater h.calls at → ⊥)
CannotEnd h number at NoThread = ⊥
CannotEnd h number at Busy = ⊥
CannotEnd h number at Memory = ⊥

-- Returns the call `x`, completed with the moment and reply in `end`.
abbrev pub ended_with : CallRecord → ℕ × Reply → CallRecord
ended_with x end = record x { ended = Some end }

abbrev pub with_ended : HistoryValue → ℕ → ℕ × Reply → HistoryValue
with_ended h number end = record h { calls = slice_set h.calls number (ended_with (call_numbered h.calls number) end) }

-- Returns the moment when a call ends, or 0 if the call is pending.
abbrev pub moment_of : Option (ℕ × Reply) → ℕ
moment_of None = 0
moment_of (Some end) = end.0

-- Returns the last moment of a call: its end or, if the call is pending, its start.
abbrev pub last_moment : CallRecord → ℕ
last_moment x = max x.begun (moment_of x.ended)

-- Returns the latest moment when a call begins or ends, or 0 if there are no calls.
abbrev pub latest_moment : List CallRecord → ℕ
latest_moment [] = 0
latest_moment (x ∷ xs) = max (last_moment x) (latest_moment xs)

pub record IsKept (h : HistoryValue) (busy : List Bool) (latest : ℕ) : Type 0 where
  pub opens : Opens h.opening
  pub history : IsHistory h.opening.threads h.calls
  pub flags : h.opening.threads ≤ length busy
  pub busy_if_open : (t : ℕ) → t < h.opening.threads → slice_index_or busy t false ≡ has_open h.calls t
  pub latest_is : latest ≡ latest_moment h.calls
  pub numbered : length h.calls ≤ latest
  pub fits : latest < 2 ^ 32
