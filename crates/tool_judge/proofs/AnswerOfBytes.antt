-- The answers of `judge` are correct for the bytes of an input.
use Rattle.std.proofs.Common.{◌≡◌, ◌≢◌, ◌⊎◌, ℕ, inl, inr, List, ◌++◌, length, Ok, Err, Option, Some, None, sym, subst, ◌∙◌}
use Rattle.std.specs.Prelude.{IfSome}
use Rattle.std.specs.Io.KnownBytes.{Consumes}
use Rattle.lset_judge.specs.declared.set_judge.Verdict.{Verdict}
use Rattle.lset_text.specs.declared.causes.Cause.{Cause}
use Rattle.lset_text.specs.declared.causes.Cause.TheVariants as wrong
use Rattle.lset_text.specs.declared.causes.LineFault.{LineFault}
use Rattle.lset_recording.specs.declared.recording_judge.RecordingAnswer.{RecordingAnswer}
use Rattle.lset_text.specs.Causes.{fault}
use Rattle.lset_recording.specs.Reading.{Says}
use Rattle.lset_recording.specs.Texts.{Recording}
use Rattle.lset_recording.specs.Kept.{IsAnswered}
use Rattle.lset_recording.proofs.TextFound.{text_found}
use Rattle.tool_base.specs.declared.trouble.Trouble.{Trouble}
use Rattle.tool_base.specs.Tools.{AnswerValue}
use Rattle.tool_base.specs.Trouble.{of_line_fault, of_line}
use Rattle.tool_judge.specs.Judging.{IsAnswerTo, JudgesIn, shown_in}
use Rattle.tool_judge.specs.declared.judge_answers.Detail.{Detail}

pub of_fault : (d : Detail) (bytes : List ℕ) (e : LineFault) (t : Trouble) → t ≡ of_line_fault e
    → (e.cause ≢ wrong.Memory → Says bytes (Err e)) → JudgesIn d bytes (Err t)
of_fault d bytes e t is says = by e.line e.cause is says
  where
    by : (line : ℕ) (cause : Cause) → t ≡ of_line line cause
        → (cause ≢ wrong.Memory → Says bytes (Err (fault line cause))) → JudgesIn d bytes (Err t)
    by line wrong.Memory is says = inr (inl is)
    by line cause is says = inr (inr (fault line cause, says (λ bad. absurd cc), is))

pub answered : (d : Detail) (bytes : List ℕ) (c : Recording) (said shown : RecordingAnswer) (a : AnswerValue) → Says bytes (Ok c)
    → IsAnswered c said → shown.verdict ≡ shown_in d said.verdict → shown.calls ≡ said.calls → IsAnswerTo shown.verdict shown.calls a
    → JudgesIn d bytes (Ok a)
answered d bytes c said shown a says is shows calls made = (
  c,
  says,
  text_found bytes c says,
  record {
    recording = is.recording;
    verdict = said.verdict;
    verdict_is = is.verdict;
    answer_is = subst (λ (v : Verdict). IsAnswerTo v (length c.calls) a) shows
        (subst (λ (n : ℕ). IsAnswerTo shown.verdict n a) (calls ∙ is.calls) made);
  },
)

-- Lemma: if a property holds for every extension of the bytes that were read, it holds for the whole input.
pub if_read : (all rest : Option (List ℕ)) (bytes : List ℕ) (P : List ℕ → Type 0) → Consumes all rest bytes
    → ((more : List ℕ) → P (bytes ++ more)) → IfSome all P
if_read None rest bytes P read each = tt
if_read (Some xs) None bytes P read each = absurd read
if_read (Some xs) (Some ys) bytes P read each = subst P (sym read) (each ys)
