-- The invariant of a reader of a recording: the state of the reader after some bytes of the text.
use Rattle.std.specs.Prelude.{◌≡◌, ◌≢◌, ℕ, ◌+◌, ◌<◌, ◌≤◌, ◌^◌, ◌⊎◌, Bool, true, false, List, [], ◌++◌, length, Option, Some, None, Contains, ◌==◌, not, count_by}
use Rattle.std.specs.Prelude.{Result, Err}
use Rattle.std.specs.List.Sorted.{IsStrictlyIncreasing}
use Rattle.lset_words.specs.declared.history.CallRecord.{CallRecord}
use Rattle.lset_text.specs.Parts.{cut_at, Lacks}
use Rattle.lset_text.specs.Openings.{is_above}
use Rattle.lset_judge.specs.declared.set_judge.Judge.{Judge}
use Rattle.lset_judge.specs.Judge.{IsJudgeOf}
use Rattle.lset_judge.specs.Stream.{moment_of}
use Rattle.lset_text.specs.declared.causes.Cause.TheVariants as wrong
use Rattle.lset_text.specs.declared.causes.LineFault.{LineFault}
use Rattle.lset_recording.specs.declared.recording_lines.Section.{Section}
use Rattle.lset_recording.specs.declared.recording_lines.Section.TheVariants as part
use Rattle.lset_recording.specs.declared.recording_lines.TheConstants.{LONGEST_LINE}
use Rattle.lset_recording.specs.declared.kept.Judging.{Judging}
use Rattle.lset_recording.specs.declared.recording_judge.RecordingAnswer.{RecordingAnswer}
use Rattle.lset_recording.specs.declared.reader.RecordingReader.{RecordingReader}
use Rattle.lset_recording.specs.Texts.{Recording, IsRecording, all_threads}
use Rattle.lset_recording.specs.Reading.{SoFar, Reads, Says, first_line, is_done, is_title, IsVerdictOnRecording}

-- Holds if `moment` is 0 or the start of a call in `calls`.
abbrev pub IsLatest : List CallRecord → ℕ → Type 0
IsLatest calls moment = (moment ≡ 0) ⊎ ((x : CallRecord) × Contains calls x × (moment ≡ x.begun))

-- Holds if the judge has judged exactly the calls in `calls`, and its current moment is 0 or the start of one of these
-- calls, and is at least the number of calls. If there is no judge (`None`), holds if `calls` is empty.
abbrev pub IsJudgeKept : List ℕ → List CallRecord → Option Judge → Type 0
IsJudgeKept opening calls None = calls ≡ []
IsJudgeKept opening calls (Some j) =
    IsJudgeOf all_threads opening calls j × IsLatest calls (moment_of j.stream) × (length calls ≤ moment_of j.stream)

-- Holds if `keys` increases strictly, has at most 2^32 elements, and has at most k elements for each key k that can be
-- appended.
pub record AreKeys (keys : List ℕ) : Type 0 where
  pub increase : IsStrictlyIncreasing keys
  pub below : (k : ℕ) → is_above keys k ≡ true → length keys ≤ k
  pub few : length keys ≤ 2 ^ 32

abbrev pub count_if : Bool → ℕ
count_if true = 1
count_if false = 0

-- Returns how many lines the reader has accepted.
abbrev pub lines_of : SoFar → ℕ
lines_of s = count_if (not (is_title s.section)) + length s.told.opening + length s.told.calls + length s.told.keys + count_if (is_done s.section)

-- Holds if the stored fields of a reader agree with c, the recording read so far.
pub record IsKept (c : Recording) (j : Judging) : Type 0 where
  pub opening : j.opening.items ≡ c.opening
  pub opens : AreKeys c.opening
  pub judge : IsJudgeKept c.opening c.calls j.judge
  pub calls : j.calls ≡ length c.calls
  pub keys : j.keys.items ≡ c.keys
  pub left : AreKeys c.keys
  pub cut_off : j.cut_off ≡ c.cut_off

-- Holds if the reader has no judge yet, or is in a section of the recording after the opening keys.
abbrev pub IsFirst : Section → Option Judge → Type 0
IsFirst part.Title judge = judge ≡ None
IsFirst part.Opening judge = judge ≡ None
IsFirst part.Calls judge = Unit {0}
IsFirst part.Keys judge = Unit {0}
IsFirst part.Done judge = Unit {0}

-- Holds if the reader's state j is correct after lines that led to the state s: the section, the recording, and the
-- number of the next line agree with s.
pub record IsJudging (s : SoFar) (j : Judging) : Type 0 where
  pub kept : IsKept s.told j
  pub section : j.section ≡ s.section
  pub first : IsFirst s.section j.judge
  pub number : j.number ≡ first_line + lines_of s

-- `false`: holds if `kept`, the bytes that the reader has stored, are all bytes `held` of an incomplete line. `true`:
-- holds if the incomplete line `held` is too long.
abbrev pub IsHeld : List ℕ → List ℕ → Bool → Type 0
IsHeld held kept false = held ≡ kept
IsHeld held kept true = LONGEST_LINE < length held

-- Returns the number of newlines in `bytes`.
abbrev pub newlines : List ℕ → ℕ
newlines bytes = count_by (λ (b : ℕ). b == 10) bytes

-- Holds if the reader r is in a correct state after `bytes`: however the text continues, reading the rest from the
-- state of r has the same result as reading the whole text.
pub record IsRead (bytes : List ℕ) (r : RecordingReader) : Type 0 where
  pub told : SoFar
  pub judging : IsJudging told r.judging
  pub held : List ℕ
  pub lacks : Lacks 10 held
  pub line : IsHeld held r.line.items r.is_long
  pub goes : (more : List ℕ) (read : Result Recording LineFault) → Reads r.judging.number told (cut_at 10 (held ++ more)) read
      → Says (bytes ++ more) read
  pub counted : r.judging.number ≡ first_line + newlines bytes
  pub sound : r.failed ≡ None

-- Holds if line number `line` ends in `piece` (its newline is in `piece`), when `piece` follows `bytes` in the text.
abbrev pub IsLineOf : List ℕ → List ℕ → ℕ → Type 0
IsLineOf bytes piece line = (first_line + newlines bytes ≤ line) × (line < first_line + newlines (bytes ++ piece))

-- Holds if the reader r has failed with the error e.
abbrev pub HasFailed : RecordingReader → LineFault → Type 0
HasFailed r e = r.failed ≡ Some e

-- Holds if every text that begins with `bytes` has the error e, unless e is a failed allocation.
abbrev pub IsRefusedAt : List ℕ → LineFault → Type 0
IsRefusedAt bytes e = e.cause ≢ wrong.Memory → (more : List ℕ) → Says (bytes ++ more) (Err e)

-- Holds if the reader's answer for the recording c is correct: the verdict, the number of calls, and whether the
-- recording was cut off.
pub record IsAnswered (c : Recording) (answer : RecordingAnswer) : Type 0 where
  pub recording : IsRecording c
  pub verdict : IsVerdictOnRecording c answer.verdict
  pub calls : answer.calls ≡ length c.calls
  pub cut_off : answer.cut_off ≡ c.cut_off
