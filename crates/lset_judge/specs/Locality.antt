-- Splits a recording into parts. Each key belongs to one part. A part consists of the calls on its keys.
use Rattle.std.specs.Prelude.{◌↔◌, ℕ, ◌<◌, ◌==◌, List, filter}
use Rattle.std.specs.List.Sorted.{IsStrictlyIncreasing}
use Rattle.lset_words.specs.declared.history.CallRecord.{CallRecord}
use Rattle.lset_words.specs.History.{IsHistory}
use Rattle.lset_words.specs.Words.{key_of}
use Rattle.lset_history.specs.History.{HistoryValue}
use Rattle.lset_judge.specs.Verdict.{IsExplained, IsJudged}

-- Returns the keys that belong to part i. `part` maps each key to the number of its part.
abbrev pub keys_in : (ℕ → ℕ) → ℕ → List ℕ → List ℕ
keys_in part i keys = filter (λ (k : ℕ). part k == i) keys

-- Returns the calls on the keys that belong to part i.
abbrev pub calls_in : (ℕ → ℕ) → ℕ → List CallRecord → List CallRecord
calls_in part i calls = filter (λ (x : CallRecord). part (key_of x.call).0 == i) calls

-- Returns part i of the history h: the calls on the keys that belong to part i, and the opening keys that belong to
-- part i.
abbrev pub part_of : (ℕ → ℕ) → ℕ → HistoryValue → HistoryValue
part_of part i h = record {
  opening = record { threads = h.opening.threads; quota = h.opening.quota; keys = keys_in part i h.opening.keys };
  calls = calls_in part i h.calls;
}

-- Locality: calls on different keys do not influence each other's verdict. If a history that the judge can decide is
-- split by keys, some order explains the history if and only if, for each part, some order explains the part and leaves
-- the part's final keys.
abbrev pub KeysAreApart : Type 0
KeysAreApart = (h : HistoryValue) (keys : List ℕ) (part : ℕ → ℕ) (parts : ℕ)
    → IsHistory h.opening.threads h.calls → IsStrictlyIncreasing h.opening.keys → IsStrictlyIncreasing keys → IsJudged h
    → ((key : ℕ) → part key < parts)
    → IsExplained h keys ↔ ((i : ℕ) → i < parts → IsExplained (part_of part i h) (keys_in part i keys))

-- The quota (the number of successful `add`s that one thread can make) does not matter in a history that the judge can
-- decide. If some order explains the history with another quota, some order explains it with the quota of the history.
abbrev pub QuotasDoNotMatter : Type 0
QuotasDoNotMatter = (h : HistoryValue) (keys : List ℕ) (quota : ℕ)
    → IsHistory h.opening.threads h.calls → IsStrictlyIncreasing h.opening.keys → IsStrictlyIncreasing keys → IsJudged h
    → IsExplained (record {
      opening = record { threads = h.opening.threads; quota = quota; keys = h.opening.keys };
      calls = h.calls;
    }) keys
    → IsExplained h keys
