-- How a command can end: with an output, a line on stderr, and an exit status.
use Rattle.std.specs.Prelude.{◌≡◌, ◌⊎◌, ℕ, ◌<◌, ◌≤◌, List, [], ◌++◌, length, Option, Result, Ok, Err}
use Rattle.std.specs.Io.KnownBytes.{Appends, Keeps}
use Rattle.tool_base.specs.declared.answer.Answer.{Answer}
use Rattle.tool_base.specs.declared.input.TheConstants.{LONGEST}
use Rattle.tool_base.specs.declared.trouble.Trouble.{Trouble}
use Rattle.tool_base.specs.declared.trouble.Trouble.TheVariants.{CannotRead, TooLong, CannotWrite, Memory}
use Rattle.tool_base.specs.Trouble.{trouble_text}
use Rattle.tool_base.specs.Trouble as trouble

-- An answer as a mathematical value: the bytes of the answer's text, and its exit status.
pub record AnswerValue : Type 0 where
  pub text : List ℕ
  pub status : ℕ

-- The result of a command: an answer or an error.
abbrev pub Made : Type 0
Made = Result AnswerValue Trouble

abbrev pub view : Result Answer Trouble → Made
view (Ok answer) = Ok (record { text = answer.text.items; status = answer.status })
view (Err t) = Err t

-- The outcome of writing a result: the exit status if an answer was written, otherwise the error for stderr.
abbrev pub Outcome : Type 0
Outcome = Result ℕ Trouble

-- Holds if writing the result of a command to an output can have the given outcome. The two lists of bytes, if known,
-- are the contents of the output before and after the write.
abbrev pub Delivers : Made → Option (List ℕ) → Option (List ℕ) → Outcome → Type 0
-- If no write fails, the whole text of an answer is written.
Delivers (Ok answer) old new (Ok status) = (status ≡ answer.status) × Appends old new answer.text
-- If a write fails, a prefix of the answer's text is written.
Delivers (Ok answer) old new (Err t) =
    (t ≡ CannotWrite) × (front : List ℕ) × (rest : List ℕ) × (answer.text ≡ front ++ rest) × Appends old new front
-- If the result is an error, nothing is written to the output.
Delivers (Err made) old new (Ok status) = ⊥
Delivers (Err made) old new (Err t) = (t ≡ made) × Keeps old new

abbrev pub status_of : Outcome → ℕ
status_of (Ok status) = status
status_of (Err t) = trouble.status_of t

-- Returns the line that an outcome prints on stderr. The line is empty if there is no error.
abbrev pub line_of : Outcome → List ℕ
line_of (Ok status) = []
line_of (Err t) = trouble_text t

abbrev pub AppendsFront : Option (List ℕ) → Option (List ℕ) → List ℕ → Type 0
AppendsFront old new text = (front : List ℕ) × (rest : List ℕ) × (text ≡ front ++ rest) × Appends old new front

-- Holds if a command delivers its result with the given exit status. The text of an answer is written to the output. An
-- error, or a failed write to the output, is printed as one line on stderr. If a write fails, only a prefix is written.
abbrev pub IsDelivered : Made → Option (List ℕ) → Option (List ℕ) → Option (List ℕ) → Option (List ℕ) → ℕ → Type 0
IsDelivered made output_old output_new faults_old faults_new status =
    (outcome : Outcome) × Delivers made output_old output_new outcome
    × AppendsFront faults_old faults_new (line_of outcome) × (status ≡ status_of outcome)

-- Holds if a command computes a result that satisfies `IsMade`, and delivers that result.
abbrev pub Ends : (Made → Type 0) → Option (List ℕ) → Option (List ℕ) → Option (List ℕ) → Option (List ℕ) → ℕ → Type 0
Ends IsMade output_old output_new faults_old faults_new status =
    (made : Made) × IsMade made × IsDelivered made output_old output_new faults_old faults_new status

-- Holds if the input is not longer than the maximum.
abbrev pub IsTaken : List ℕ → Type 0
IsTaken bytes = length bytes ≤ LONGEST

-- Holds if the input is longer than the maximum, and `t` is the error `TooLong`.
abbrev pub IsTooLong : List ℕ → Trouble → Type 0
IsTooLong bytes t = (t ≡ TooLong) × (LONGEST < length bytes)

-- Holds if the result `made` is correct for a text. If the text is too long, the result must be the error `TooLong`.
-- Otherwise `Makes` must hold for the text and the result.
abbrev pub OnText : (List ℕ → Made → Type 0) → List ℕ → Made → Type 0
OnText Makes bytes made = ((t : Trouble) × (made ≡ Err t) × IsTooLong bytes t) ⊎ (IsTaken bytes × Makes bytes made)

-- Holds if the result `made` is correct for an input: the result is `CannotRead` or `Memory`, or it is correct for the
-- bytes of the input.
abbrev pub OnInput : (List ℕ → Made → Type 0) → List ℕ → Made → Type 0
OnInput Makes bytes made = (made ≡ Err CannotRead) ⊎ ((made ≡ Err Memory) ⊎ OnText Makes bytes made)

-- Holds if an input with the bytes `all` can be read as `read`: completely or, if the input has more than `LONGEST`
-- bytes, with more than `LONGEST` bytes in `read`.
abbrev pub IsReadOf : List ℕ → List ℕ → Type 0
IsReadOf read all = (read ≡ all) ⊎ ((LONGEST < length read) × (LONGEST < length all))
