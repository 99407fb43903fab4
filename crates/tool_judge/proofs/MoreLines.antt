-- Proof that an answer about a recording stays correct if lines are appended to the answer's text.
use Rattle.std.proofs.Common.{◌≡◌, ℕ, length, Bool, true, false, List, ◌++◌, Ok, ap, ◌∙◌, append_assoc}
use Rattle.std.specs.Prelude.{if◌then◌else◌}
use Rattle.lset_judge.specs.declared.set_judge.Verdict.{Verdict}
use Rattle.lset_judge.specs.declared.set_judge.Verdict.TheVariants.{Linearizable, NotLinearizable}
use Rattle.tool_judge.specs.Judging.{Begins, IsAnswerTo, JudgesIn, ok_line, refused_text, shown_in}
use Rattle.tool_judge.specs.declared.judge_answers.Detail.{Detail}

begins : (head text more : List ℕ) → Begins head text → Begins head (text ++ more)
begins head text more is = (is.0 ++ more, ap (λ t. t ++ more) is.1 ∙ simp append_assoc)

answers : (v : Verdict) (calls : ℕ) (text more : List ℕ) (status : ℕ)
    → IsAnswerTo v calls (record { text = text; status = status }) → IsAnswerTo v calls (record { text = text ++ more; status = status })
answers Linearizable calls text more status is = (begins (ok_line calls) text more is.0, is.1)
answers (NotLinearizable refusal clash) calls text more status is = (begins (refused_text refusal clash) text more is.0, is.1)

with_more : (d : Detail) (bytes text more : List ℕ) (status : ℕ) → JudgesIn d bytes (Ok (record { text = text; status = status }))
    → JudgesIn d bytes (Ok (record { text = text ++ more; status = status }))
with_more d bytes text more status (c, says, reads, is) = (
  c,
  says,
  reads,
  record {
    recording = is.recording;
    verdict = is.verdict;
    verdict_is = is.verdict_is;
    answer_is = answers (shown_in d is.verdict) (length c.calls) text more status is.answer_is;
  },
)

pub if_added : (d : Detail) (b : Bool) (bytes text more : List ℕ) (status : ℕ)
    → JudgesIn d bytes (Ok (record { text = text; status = status }))
    → JudgesIn d bytes (Ok (record { text = if b then text ++ more else text; status = status }))
if_added d true bytes text more status is = with_more d bytes text more status is
if_added d false bytes text more status is = is
