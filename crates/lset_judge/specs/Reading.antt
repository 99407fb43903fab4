-- Converts each completed call to a call that returns true or false, because the judge decides only such calls.
-- `ceiling` returns the smallest key not less than its argument. A `ceiling` that returned a key becomes a `contains`
-- of the key with the reply true. A `ceiling` that found no key, or an `add` that returned full, becomes a `contains`
-- of its argument with the reply false. A pending call is unchanged. If no order explains the converted calls, no order
-- explains the recorded calls.
use Rattle.std.specs.Prelude.{ℕ, List, map, Option, Some, None}
use Rattle.lset_words.specs.declared.Call.{Call}
use Rattle.lset_words.specs.declared.Call.TheVariants.{Add, Contains, Ceiling}
use Rattle.lset_words.specs.declared.Reply.{Reply}
use Rattle.lset_words.specs.declared.Reply.TheVariants.{True, False, Full, At}
use Rattle.lset_words.specs.declared.history.CallRecord.{CallRecord}
use Rattle.lset_history.specs.History.{HistoryValue}
use Rattle.lset_judge.specs.Verdict.{IsPlain, IsExplained, IsUnexplained, with_quota, without_quota}
use Rattle.lset_judge.specs.declared.set_judge.Verdict.TheVariants as verdict
use Rattle.lset_judge.specs.declared.judged_history.Judged.{Judged}
use Rattle.lset_judge.specs.declared.judged_history.Judged.TheVariants as judged
use Rattle.lset_judge.specs.Judge.{IsVerdict}

abbrev pub call_as : Call → Reply → Call
call_as (Add k) Full = Contains k
call_as (Ceiling k) (At x) = Contains x
call_as (Ceiling k) r = Contains k
call_as c r = c

abbrev pub reply_as : Call → Reply → Reply
reply_as c True = True
reply_as (Ceiling k) (At x) = True
reply_as c r = False

abbrev pub call_if : Call → Option (ℕ × Reply) → Call
call_if c None = c
call_if c (Some e) = call_as c e.1

abbrev pub end_as : Call → Option (ℕ × Reply) → Option (ℕ × Reply)
end_as c None = None
end_as c (Some e) = Some (e.0, reply_as c e.1)

abbrev pub read_as : CallRecord → CallRecord
read_as x = record { thread = x.thread; call = call_if x.call x.ended; begun = x.begun; ended = end_as x.call x.ended }

-- Holds if a verdict on a history is correct. Linearizable: some order explains the history without a quota and leaves
-- the final keys `keys`. NotLinearizable: no order does, with any quota, and the reason is correct for the converted
-- calls (each completed call returns true or false). Undecided: some order explains the converted calls, but a
-- completed call is a `ceiling` or returned neither true nor false.
abbrev pub IsJudged : HistoryValue → List ℕ → Judged → Type 0
IsJudged h keys judged.Linearizable = IsExplained (without_quota h) keys
IsJudged h keys (judged.NotLinearizable refusal clash) = ((quota : ℕ) → IsUnexplained (with_quota quota h) keys)
    × IsVerdict h.opening.threads h.opening.keys (map read_as h.calls) keys (verdict.NotLinearizable refusal clash)
IsJudged h keys judged.Undecided = (IsPlain h.calls → ⊥)
    × IsVerdict h.opening.threads h.opening.keys (map read_as h.calls) keys verdict.Linearizable
