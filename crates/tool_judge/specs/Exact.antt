-- The answers of `judge` are exact: `judge` prints `ok` if and only if some order of the calls explains the recording.
use Rattle.std.specs.Prelude.{◌≡◌, ℕ, ◌⊎◌, Bool, true, false, List, codes, length, Result, Ok, Err}
use Rattle.lset_history.specs.History.{HistoryValue}
use Rattle.lset_judge.specs.Verdict.{IsExplained}
use Rattle.lset_judge.specs.Stream.{stream_history}
use Rattle.lset_text.specs.declared.causes.LineFault.{LineFault}
use Rattle.lset_recording.specs.Texts.{Recording, all_threads}
use Rattle.lset_recording.specs.Reading.{Says}
use Rattle.tool_base.specs.declared.trouble.Trouble.TheVariants.{CannotRead, Memory}
use Rattle.tool_base.specs.Trouble.{of_line_fault}
use Rattle.tool_base.specs.Tools.{AnswerValue, Made}
use Rattle.tool_judge.specs.Judging.{Begins, JudgesIn, ok_line}
use Rattle.tool_judge.specs.declared.judge_answers.Detail.{Detail}

abbrev pub history_of : Recording → HistoryValue
history_of c = stream_history all_threads c.opening c.calls

abbrev pub HasOrderIf : Bool → Recording → Type 0
HasOrderIf true c = (keys : List ℕ) × IsExplained (history_of c) keys
HasOrderIf false c = IsExplained (history_of c) c.keys

-- Holds if some order explains the calls of a recording and leaves the recording's final keys. If the recording was cut
-- off, the order can leave any keys.
abbrev pub HasOrder : Recording → Type 0
HasOrder c = HasOrderIf c.cut_off c

-- Holds if some order explains the recording `c` and the answer begins with `ok N calls` and has status 0, or if no
-- order does and the answer begins with `not linearizable` and has status 1.
abbrev pub IsRight : Recording → AnswerValue → Type 0
IsRight c answer = (HasOrder c × (answer.status ≡ 0) × Begins (ok_line (length c.calls)) answer.text)
    ⊎ ((HasOrder c → ⊥) × (answer.status ≡ 1) × Begins (codes "not linearizable\n") answer.text)

-- Holds if `read` is the only possible result of reading the bytes.
abbrev pub SaysOnly : List ℕ → Result Recording LineFault → Type 0
SaysOnly bytes read = Says bytes read × ((other : Result Recording LineFault) → Says bytes other → other ≡ read)

-- Holds if a result of `judge` for the bytes is correct: an exact answer about the recording, the error of the first
-- wrong line with its cause, `CannotRead` for a failed read, or `Memory` for a failed allocation.
abbrev pub JudgesRightly : List ℕ → Made → Type 0
JudgesRightly bytes (Ok answer) = (c : Recording) × SaysOnly bytes (Ok c) × IsRight c answer
JudgesRightly bytes (Err t) =
    (t ≡ CannotRead) ⊎ ((t ≡ Memory) ⊎ ((fault : LineFault) × SaysOnly bytes (Err fault) × (t ≡ of_line_fault fault)))

abbrev pub AnswersAreRight : Type 0
AnswersAreRight = (detail : Detail) (bytes : List ℕ) (made : Made) → JudgesIn detail bytes made → JudgesRightly bytes made
