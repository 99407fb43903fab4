-- The verdict on a history and its final keys, and the histories that the judge decides.
use Rattle.std.specs.Prelude.{◌≡◌, ℕ, ◌≤◌, ◌==◌, ◌&&◌, nat_le, if◌then◌else◌, Bool, true, false, List, [], ◌∷◌, filter, length}
use Rattle.std.specs.Prelude.{Option, Some, None, All, IfSome, count_by}
use Rattle.lset_words.specs.declared.Call.{Call}
use Rattle.lset_words.specs.declared.Call.TheVariants.{Ceiling}
use Rattle.lset_words.specs.declared.Reply.{Reply}
use Rattle.lset_words.specs.declared.Reply.TheVariants.{True, False}
use Rattle.lset_words.specs.declared.history.CallRecord.{CallRecord}
use Rattle.lset_words.specs.declared.history.Placed.{Placed}
use Rattle.lset_words.specs.Words.{key_of}
use Rattle.lset_words.specs.SequentialSet.{has_key}
use Rattle.lset_history.specs.History.{HistoryValue, latest_moment}
use Rattle.lset_judge.specs.Events.{Kind, changes, sees, nothing, kind_if}
use Rattle.lset_history.specs.Faults.{Explains}

abbrev pub IsExplained : HistoryValue → List ℕ → Type 0
IsExplained h keys = (order : List Placed) × Explains h order keys

abbrev pub IsUnexplained : HistoryValue → List ℕ → Type 0
IsUnexplained h keys = (order : List Placed) → Explains h order keys → ⊥

abbrev pub is_truth : Reply → Bool
is_truth True = true
is_truth False = true
is_truth r = false

-- Returns whether the judge can decide a completed call with its reply: an `add`, a `remove` or a `contains` that
-- returned true or false.
abbrev pub is_plain : Call → Reply → Bool
is_plain (Ceiling k) r = false
is_plain c r = is_truth r

-- Returns whether a call of the given kind is an `add` that either returned true or is still pending.
abbrev pub puts_in : Kind → Bool
puts_in (changes w) = w
puts_in (sees w) = false
puts_in nothing = false

abbrev pub may_add : Call → Option (ℕ × Reply) → Bool
may_add c ended = puts_in (kind_if c ended)

-- Returns how many `add`s of the thread either returned true or are still pending.
abbrev pub adds_of : ℕ → List CallRecord → ℕ
adds_of thread calls = count_by (λ (x : CallRecord). may_add x.call x.ended && x.thread == thread) calls

-- Holds if each completed call is an `add`, a `remove` or a `contains` that returned true or false.
abbrev pub IsPlain : List CallRecord → Type 0
IsPlain calls = All (λ (x : CallRecord). IfSome x.ended (λ (e : ℕ × Reply). is_plain x.call e.1 ≡ true)) calls

-- Holds if the judge decides the history h. Each completed call must be an `add`, a `remove` or a `contains` that
-- returned true or false. The quota (the number of successful `add`s that one thread can make) must cover all `add`s of
-- each thread that returned true or are pending.
pub record IsJudged (h : HistoryValue) : Type 0 where
  pub plain : IsPlain h.calls
  pub room : (thread : ℕ) → adds_of thread h.calls ≤ h.opening.quota

abbrev pub with_quota : ℕ → HistoryValue → HistoryValue
with_quota quota h = record {
  opening = record { threads = h.opening.threads; quota = quota; keys = h.opening.keys };
  calls = h.calls;
}

-- ---- Meaning of a refusal (the reason why no order explains the calls)

-- Returns the calls on the key that start at `moment` or earlier, with their ends and replies.
abbrev pub calls_by : ℕ → ℕ → List CallRecord → List CallRecord
calls_by key moment calls = filter (λ (x : CallRecord). (key_of x.call).0 == key && nat_le x.begun moment) calls

-- Returns the history of the calls on the key that start at `moment` or earlier. The set opens with the key if the set
-- of the history h does.
abbrev pub of_key : ℕ → ℕ → HistoryValue → HistoryValue
of_key key moment h = record {
  opening = record {
    threads = h.opening.threads;
    quota = h.opening.quota;
    keys = if has_key key h.opening.keys then key ∷ [] else [];
  };
  calls = calls_by key moment h.calls;
}

-- Holds if the reason of a verdict is correct: the reason why no order explains the calls, with any quota. If the
-- reason has a moment, no order explains the calls on the key that start at this moment or earlier, whatever the final
-- keys are. Otherwise, no order explains all calls on the key and leaves the key in its final state.
abbrev pub IsRefusedBy : HistoryValue → List ℕ → ℕ → Option ℕ → Type 0
IsRefusedBy h keys key (Some moment) = (quota : ℕ) (left : List ℕ) → IsUnexplained (of_key key moment (with_quota quota h)) left
IsRefusedBy h keys key None = (quota : ℕ) (left : List ℕ) → has_key key left ≡ has_key key keys
    → IsUnexplained (of_key key (latest_moment h.calls) (with_quota quota h)) left

-- Returns the history h with the number of its calls as the quota (the number of successful `add`s that one thread can
-- make). The quota is therefore never used up.
abbrev pub without_quota : HistoryValue → HistoryValue
without_quota h = with_quota (length h.calls) h
