-- Proof that the answers of `judge` are exact: an answer states whether some order of the calls explains the recording.
use Rattle.std.proofs.Common.{◌≡◌, ◌⊎◌, ℕ, inl, inr, None, subst, Bool, true, false, Option, List, ◌++◌, length, codes, Result, Ok, Err, ◌∙◌}
use Rattle.std.proofs.Common.{append_assoc}
use Rattle.std.specs.Fmt.{decimal}
use Rattle.lset_judge.specs.declared.set_judge.Verdict.{Verdict}
use Rattle.lset_judge.specs.declared.set_judge.Verdict.TheVariants.{Linearizable, NotLinearizable}
use Rattle.lset_judge.specs.declared.stream.Refusal.{Refusal}
use Rattle.lset_judge.specs.declared.clash.Clash.{Clash}
use Rattle.lset_text.specs.declared.causes.LineFault.{LineFault}
use Rattle.lset_recording.specs.Texts.{Recording}
use Rattle.lset_recording.specs.Reading.{IsVerdictIf, Says, first_line, nothing_told}
use Rattle.lset_text.specs.Parts.{cut_at}
use Rattle.tool_base.specs.Tools.{AnswerValue, Made}
use Rattle.tool_judge.specs.Judging.{Begins, IsAnswerTo, JudgesIn, clash_text, extent, refused_text, shown_in}
use Rattle.tool_judge.specs.declared.judge_answers.Detail.{Detail}
use Rattle.tool_judge.specs.declared.judge_answers.Detail.TheVariants.{Whole, Brief}
use Rattle.tool_judge.specs.Exact.{HasOrderIf, IsRight, JudgesRightly, SaysOnly}
use Rattle.tool_judge.proofs.OneReading.{one_reading}

only : (bytes : List ℕ) (read : Result Recording LineFault) → Says bytes read → SaysOnly bytes read
only bytes read says = (says, λ other also. one_reading first_line nothing_told (cut_at 10 bytes) other read also says)

none_has : (b : Bool) (c : Recording) (refusal : Refusal) (clash : _) → IsVerdictIf b c (NotLinearizable refusal clash) → HasOrderIf b c → ⊥
none_has true c refusal clash is has = (is.0 has.0).0 (length c.calls) has.1.0 has.1.1
none_has false c refusal clash is has = is.0.0 (length c.calls) has.0 has.1

some_has : (b : Bool) (c : Recording) → IsVerdictIf b c Linearizable → HasOrderIf b c
some_has true c is = is
some_has false c is = is

begins_so : (r : Refusal) (clash : Option Clash) (text : List ℕ) → Begins (refused_text r clash) text → Begins (codes "not linearizable\n") text
begins_so r clash text begins = (
  codes "no order explains the calls of key " ++ decimal r.key.0 ++ extent r.moment ++ clash_text r.key.0 clash ++ begins.0,
  begins.1 ∙ simp append_assoc,
)

told : (c : Recording) (v : Verdict) (answer : AnswerValue) → IsVerdictIf c.cut_off c v → IsAnswerTo v (length c.calls) answer → IsRight c answer
told c Linearizable answer is made = inl (some_has c.cut_off c is, made.1, made.0)
told c (NotLinearizable refusal clash) answer is made =
    inr (none_has c.cut_off c refusal clash is, made.1, begins_so refusal clash answer.text made.0)

told_in : (d : Detail) (c : Recording) (v : Verdict) (answer : AnswerValue) → IsVerdictIf c.cut_off c v
    → IsAnswerTo (shown_in d v) (length c.calls) answer → IsRight c answer
told_in Whole c v answer is made = told c v answer is made
told_in Brief c Linearizable answer is made = told c Linearizable answer is made
told_in Brief c (NotLinearizable refusal clash) answer is made =
    inr (none_has c.cut_off c refusal clash is, made.1, begins_so refusal None answer.text made.0)

pub right : (d : Detail) (bytes : List ℕ) (made : Made) → JudgesIn d bytes made → JudgesRightly bytes made
right d bytes (Ok answer) (c, says, text, is) = (c, only bytes (Ok c) says, told_in d c is.verdict answer is.verdict_is is.answer_is)
right d bytes (Err t) (inl read) = inl read
right d bytes (Err t) (inr (inl memory)) = inr (inl memory)
right d bytes (Err t) (inr (inr (fault, says, is))) = inr (inr (fault, only bytes (Err fault) says, is))
