-- The calls that a `Judge` has judged, and the meaning of the judge's verdict.
use Rattle.std.specs.Prelude.{◌≡◌, ℕ, List, Option, Some, None, IfSome}
use Rattle.lset_words.specs.declared.effect.Presence.{Presence}
use Rattle.lset_words.specs.Effects.{presence}
use Rattle.lset_words.specs.SequentialSet.{has_key}
use Rattle.lset_words.specs.declared.history.CallRecord.{CallRecord}
use Rattle.lset_judge.specs.declared.stream.StreamVerdict.TheVariants.{Linearizable, NotLinearizable}
use Rattle.lset_judge.specs.Stream.{stream_history, IsStreamVerdict, IsStreamVerdictCutOff}
use Rattle.lset_judge.specs.declared.set_judge.Verdict.{Verdict}
use Rattle.lset_judge.specs.declared.set_judge.Verdict.TheVariants as verdict
use Rattle.lset_judge.specs.declared.set_judge.Judge.{Judge}
use Rattle.lset_judge.specs.declared.clash.Clash.{Clash}
use Rattle.lset_judge.specs.Clash.{record_if, HasNoClash, IsClash}
use Rattle.lset_judge.specs.Facts.{IsStreamKept}

-- Holds if the judge j has judged `calls`, which were made on a set with the opening keys `opening`.
abbrev pub IsJudgeOf : ℕ → List ℕ → List CallRecord → Judge → Type 0
IsJudgeOf threads opening calls j = IsStreamKept threads opening calls j.stream

-- ---- The meaning of a verdict

-- Returns the final state of a key if the reason of a verdict is about the final keys. Returns None if the reason is
-- about the calls up to a moment.
abbrev pub left_by : List ℕ → ℕ → Option ℕ → Option Presence
left_by keys key (Some moment) = None
left_by keys key None = Some (presence (has_key key keys))

-- Holds if c is a clash: two calls on the key `key` that contradict each other. The key's opening state can take the
-- place of the first call, and its final state `left` can take the place of the second.
abbrev pub ClashesIn : List ℕ → List CallRecord → ℕ → Option Presence → Clash → Type 0
ClashesIn opening calls key left c =
    IsClash calls key (presence (has_key key opening)) left c.was (record_if c.first) (record_if c.second)

-- Holds if no call on the key contradicts an earlier call (one that ended before the later call started). The key's
-- opening state can take the place of the earlier call, and the key's final state can take the place of the later call.
abbrev pub HasNoClashIn : List ℕ → List CallRecord → ℕ → Option Presence → Type 0
HasNoClashIn opening calls key left = HasNoClash calls key (presence (has_key key opening)) left

-- Holds if a verdict is correct. If the verdict includes a clash (two calls that contradict each other), both calls are
-- on the key that the reason `refusal` names. The key's final state can take the place of the second call only if the
-- reason is about the final keys. If the verdict includes no clash, no call on the key contradicts a later call, the
-- key's opening state, or the key's final state.
abbrev pub IsVerdict : ℕ → List ℕ → List CallRecord → List ℕ → Verdict → Type 0
IsVerdict threads opening calls keys verdict.Linearizable = IsStreamVerdict (stream_history threads opening calls) keys Linearizable
IsVerdict threads opening calls keys (verdict.NotLinearizable refusal clash) =
    IsStreamVerdict (stream_history threads opening calls) keys (NotLinearizable refusal)
    × IfSome clash (ClashesIn opening calls refusal.key.0 (left_by keys refusal.key.0 refusal.moment))
    × (clash ≡ None → HasNoClashIn opening calls refusal.key.0 (left_by keys refusal.key.0 refusal.moment))

abbrev pub IsVerdictCutOff : ℕ → List ℕ → List CallRecord → Verdict → Type 0
IsVerdictCutOff threads opening calls verdict.Linearizable = IsStreamVerdictCutOff (stream_history threads opening calls) Linearizable
IsVerdictCutOff threads opening calls (verdict.NotLinearizable refusal clash) =
    IsStreamVerdictCutOff (stream_history threads opening calls) (NotLinearizable refusal)
    × IfSome clash (ClashesIn opening calls refusal.key.0 None)
    × (clash ≡ None → HasNoClashIn opening calls refusal.key.0 None)
