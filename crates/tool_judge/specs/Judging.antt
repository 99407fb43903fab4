-- The answers of the command `judge` for the bytes of an input.
use Rattle.std.specs.Prelude.{◌≡◌, ℕ, ◌⊎◌, List, [], ◌++◌, codes, length, Option, Some, None, Ok, Err}
use Rattle.std.specs.Fmt.{decimal}
use Rattle.lset_judge.specs.declared.stream.Refusal.{Refusal}
use Rattle.lset_judge.specs.declared.set_judge.Verdict.{Verdict}
use Rattle.lset_judge.specs.declared.set_judge.Verdict.TheVariants.{Linearizable, NotLinearizable}
use Rattle.lset_text.specs.declared.causes.LineFault.{LineFault}
use Rattle.lset_recording.specs.Texts.{Recording, IsRecording, recording_text}
use Rattle.lset_recording.specs.Reading.{Says, IsVerdictOnRecording}
use Rattle.tool_base.specs.declared.trouble.Trouble.TheVariants.{CannotRead, Memory}
use Rattle.tool_base.specs.Trouble.{of_line_fault}
use Rattle.tool_base.specs.Tools.{AnswerValue, Made}
use Rattle.lset_judge.specs.declared.clash.Clash.{Clash}
use Rattle.tool_judge.specs.Clashes.{clash_lines}
use Rattle.tool_judge.specs.declared.judge_answers.Detail.{Detail}
use Rattle.tool_judge.specs.declared.judge_answers.Detail.TheVariants.{Whole, Brief}

-- ---- The text of an answer

abbrev pub ok_line : ℕ → List ℕ
ok_line calls = codes "ok " ++ decimal calls ++ codes " calls\n"

abbrev pub calls_of_key : ℕ → List ℕ
calls_of_key key = codes "not linearizable\nno order explains the calls of key " ++ decimal key

abbrev pub extent : Option ℕ → List ℕ
extent (Some moment) = codes " up to moment " ++ decimal moment ++ codes "\n"
extent None = codes " and leaves it as it was left\n"

abbrev pub refused_lines : Refusal → List ℕ
refused_lines r = calls_of_key r.key.0 ++ extent r.moment

abbrev pub clash_text : ℕ → Option Clash → List ℕ
clash_text key None = []
clash_text key (Some c) = clash_lines key c

-- Returns the two lines of the answer if no order explains the recording, followed by the three lines of a
-- contradiction if one was found.
abbrev pub refused_text : Refusal → Option Clash → List ℕ
refused_text r clash = refused_lines r ++ clash_text r.key.0 clash

-- Holds if the text begins with `head`.
abbrev pub Begins : List ℕ → List ℕ → Type 0
Begins head text = (more : List ℕ) × (text ≡ head ++ more)

-- Holds if `judge` can print `answer` for a verdict on `calls` calls. The text begins with the lines of the verdict,
-- and further lines can follow. The status is 0 for `Linearizable` and 1 for `NotLinearizable`.
abbrev pub IsAnswerTo : Verdict → ℕ → AnswerValue → Type 0
IsAnswerTo Linearizable calls answer = Begins (ok_line calls) answer.text × (answer.status ≡ 0)
IsAnswerTo (NotLinearizable refusal clash) calls answer = Begins (refused_text refusal clash) answer.text × (answer.status ≡ 1)

-- Returns the verdict without its contradiction.
abbrev pub without_clash : Verdict → Verdict
without_clash Linearizable = Linearizable
without_clash (NotLinearizable refusal clash) = NotLinearizable refusal None

-- Returns the verdict as an answer prints it. A brief answer leaves out the contradiction.
abbrev pub shown_in : Detail → Verdict → Verdict
shown_in Whole verdict = verdict
shown_in Brief verdict = without_clash verdict

-- Holds if the answer states a correct verdict on the recording `c`. A brief answer leaves out the contradiction.
pub record IsAnswerOn (detail : Detail) (c : Recording) (answer : AnswerValue) : Type 0 where
  pub recording : IsRecording c
  pub verdict : Verdict
  pub verdict_is : IsVerdictOnRecording c verdict
  pub answer_is : IsAnswerTo (shown_in detail verdict) (length c.calls) answer

-- Holds if `judge` can return the result `made` for the bytes of an input. The result is a correct answer for the
-- recording in the bytes, the error of the first wrong line with its cause, `CannotRead` for a failed read, or `Memory`
-- for a failed allocation.
abbrev pub JudgesIn : Detail → List ℕ → Made → Type 0
JudgesIn detail bytes (Ok answer) = (c : Recording) × Says bytes (Ok c) × (bytes ≡ recording_text c) × IsAnswerOn detail c answer
JudgesIn detail bytes (Err t) = (t ≡ CannotRead) ⊎ ((t ≡ Memory) ⊎ ((fault : LineFault) × Says bytes (Err fault) × (t ≡ of_line_fault fault)))

-- Holds if `judge` can return the result `made` for the bytes of an input. An answer `not linearizable` must show the
-- contradiction if the judge found one.
abbrev pub Judges : List ℕ → Made → Type 0
Judges bytes made = JudgesIn Whole bytes made

-- Holds if `judge --brief` can return the result `made` for the bytes of an input. An answer `not linearizable` begins
-- with its first two lines, and need not show a contradiction.
abbrev pub JudgesBriefly : List ℕ → Made → Type 0
JudgesBriefly bytes made = JudgesIn Brief bytes made
