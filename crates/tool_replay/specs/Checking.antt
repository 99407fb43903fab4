-- The contract of the command `check`: the correct answer for each input.
use Rattle.std.specs.Prelude.{◌≡◌, ◌≢◌, ℕ, ◌⊎◌, List, [], ◌++◌, codes, Option, Some, None, Result, Ok, Err}
use Rattle.std.specs.Fmt.{decimal}
use Rattle.lset_history.specs.declared.fault.OrderFault.{OrderFault}
use Rattle.lset_history.specs.declared.fault.OrderFault.TheVariants.{Unknown, Twice, Missing, WrongReply, TooEarly, WrongSet}
use Rattle.lset_history.specs.declared.fault.OrderFault.TheVariants.{Memory}
use Rattle.lset_history.specs.Faults.{Explains, IsFault}
use Rattle.lset_text.specs.declared.causes.LineFault.{LineFault}
use Rattle.lset_report.specs.Report.{ReportValue}
use Rattle.lset_report.specs.Texts.{report_text}
use Rattle.lset_report.specs.ReportReading.{IsReport, reading}
use Rattle.tool_base.specs.declared.trouble.Trouble.{Trouble}
use Rattle.tool_base.specs.Trouble.{of_line_fault}
use Rattle.tool_base.specs.declared.trouble.Trouble.TheVariants as trouble
use Rattle.tool_base.specs.Tools.{AnswerValue, Made, OnInput}

-- Holds if the order in the report does not explain the history, and `fault` is the order's first error, not a failed
-- allocation.
pub record IsRefused (r : ReportValue) (fault : OrderFault) : Type 0 where
  pub first_fault : IsFault r.history r.order r.keys fault
  pub of_the_order : fault ≢ Memory
  pub not_explained : Explains r.history r.order r.keys → ⊥

-- Holds if a verdict on a report is correct. `None` is correct if the order explains the history and leaves exactly the
-- final keys. `Some` must contain the order's first error.
abbrev pub IsVerdict : ReportValue → Option OrderFault → Type 0
IsVerdict r None = Explains r.history r.order r.keys
IsVerdict r (Some fault) = IsRefused r fault

-- Returns the line that `check` prints for a refused order. The line is empty for a failed allocation, which `check`
-- reports as an error.
abbrev pub refusal_text : OrderFault → List ℕ
refusal_text (Unknown number) = codes "refused Unknown " ++ decimal number ++ codes "\n"
refusal_text (Twice number) = codes "refused Twice " ++ decimal number ++ codes "\n"
refusal_text (Missing number) = codes "refused Missing " ++ decimal number ++ codes "\n"
refusal_text (WrongReply number) = codes "refused WrongReply " ++ decimal number ++ codes "\n"
refusal_text (TooEarly number) = codes "refused TooEarly " ++ decimal number ++ codes "\n"
refusal_text WrongSet = codes "refused WrongSet\n"
refusal_text Memory = []

-- Returns the text that `check` prints for a verdict, and the exit status.
abbrev pub answer_of : Option OrderFault → AnswerValue
answer_of None = record { text = codes "ok\n"; status = 0 }
answer_of (Some fault) = record { text = refusal_text fault; status = 1 }

-- Holds if the answer of `check` states a correct verdict on the report `r`.
abbrev pub IsAnswerOn : ReportValue → AnswerValue → Type 0
IsAnswerOn r answer = (verdict : Option OrderFault) × IsVerdict r verdict × (answer ≡ answer_of verdict)

-- Holds if the first argument, the result of reading a text as a report, is an error, and `t` is the program's error
-- for it.
abbrev pub IsFirstFault : Result ReportValue LineFault → Trouble → Type 0
IsFirstFault (Err fault) t = t ≡ of_line_fault fault
IsFirstFault (Ok r) t = ⊥

-- Holds if a result of `check` for a text is correct: the answer for the report in the text, the first error of the
-- text, or a failed allocation.
abbrev pub ChecksText : List ℕ → Made → Type 0
ChecksText bytes (Ok answer) = (r : ReportValue) × IsReport r × (bytes ≡ report_text r) × IsAnswerOn r answer
ChecksText bytes (Err t) = (t ≡ trouble.Memory) ⊎ IsFirstFault (reading bytes) t

abbrev pub Checks : List ℕ → Made → Type 0
Checks bytes made = OnInput ChecksText bytes made
