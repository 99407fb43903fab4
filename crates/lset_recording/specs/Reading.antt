-- How the text of a recording is read, line by line. The result is the recording or the first error.
use Rattle.std.specs.Prelude.{◌≡◌, ℕ, ◌+◌, ◌<◌, ◌^◌, nat_lt, Bool, true, false, List, [], ◌∷◌, ◌++◌, length, codes, Option, Some, None, ◌⊎◌, IfSome}
use Rattle.std.specs.Prelude.{Result, Ok, Err, if◌then◌else◌}
use Rattle.std.specs.Str.{bytes_eq}
use Rattle.lset_words.specs.declared.Reply.{Reply}
use Rattle.lset_words.specs.declared.Reply.TheVariants as reply
use Rattle.lset_words.specs.History.{MayFollow}
use Rattle.lset_text.specs.declared.causes.Cause.{Cause}
use Rattle.lset_text.specs.declared.causes.Cause.TheVariants as wrong
use Rattle.lset_text.specs.declared.causes.LineFault.{LineFault}
use Rattle.lset_text.specs.Causes.{fault}
use Rattle.lset_text.specs.declared.words.CallWord.{CallWord}
use Rattle.lset_text.specs.declared.words.Version.TheVariants.{One}
use Rattle.lset_text.specs.Parts.{cut_at}
use Rattle.lset_text.specs.Spellings.{with_key}
use Rattle.lset_text.specs.Forms.{Form, Piece}
use Rattle.lset_text.specs.Forms as piece
use Rattle.lset_text.specs.Kinds.{LineKind, line_in}
use Rattle.lset_text.specs.Headers.{number_form}
use Rattle.lset_text.specs.Numbers.{max_number}
use Rattle.lset_text.specs.Openings.{opening_form, is_above}
use Rattle.lset_judge.specs.declared.stream.TheConstants.{LAST_MOMENT}
use Rattle.lset_judge.specs.declared.set_judge.Verdict.{Verdict}
use Rattle.lset_judge.specs.Verdict.{is_plain}
use Rattle.lset_judge.specs.Stream.{record_of, IsBefore}
use Rattle.lset_judge.specs.Judge.{IsVerdict, IsVerdictCutOff}
use Rattle.lset_recording.specs.declared.recording_lines.Line.{Line as RecordingLine}
use Rattle.lset_recording.specs.declared.recording_lines.Line.TheVariants as told
use Rattle.lset_recording.specs.declared.recording_lines.Section.{Section}
use Rattle.lset_recording.specs.declared.recording_lines.Section.TheVariants as section
use Rattle.lset_recording.specs.declared.recording_lines.TheConstants.{LONGEST_LINE}
use Rattle.lset_recording.specs.Texts.{Recording, all_threads, dash, recording_text, title}

-- ---- The lines allowed in each section

abbrev pub opening_kind : LineKind RecordingLine
opening_kind = (opening_form, λ t. told.Opening t.1.0)

abbrev pub moment : Piece
moment = piece.number 1 LAST_MOMENT

-- The field `-`. It appears twice in the line of a pending call: in place of the moment when the call ends, and in
-- place of the reply.
abbrev pub none : Piece
none = piece.word dash

-- Returns the call in a line. `t` has the call's thread, name, key, and start. `end` has the moment when the call ends
-- and the reply, or is `None` for a pending call.
abbrev pub call_told : {X : Type 0} → ℕ × (CallWord × (ℕ × (ℕ × X))) → Option (ℕ × Reply) → RecordingLine
call_told t end = told.Call (record {
  thread = t.0;
  call = with_key t.1.0 (record { 0 = t.1.1.0 });
  begun = t.1.1.1.0;
  ended = end;
})

-- Returns the form (the sequence of fields) of a call's line. `end` is the form of the last fields: the moment when the
-- call ends, and the reply.
abbrev pub call_form : Form → Form
call_form end = piece.word (codes "call") ∷ piece.any ∷ piece.call ∷ piece.any ∷ moment ∷ end

-- The kind of line for a pending call. `true_kind` and `false_kind` are the kinds for calls that returned true or
-- false.
abbrev pub open_kind : LineKind RecordingLine
open_kind = (call_form (none ∷ none ∷ []), λ t. call_told t.1 None)

abbrev pub true_kind : LineKind RecordingLine
true_kind = (call_form (moment ∷ piece.word (codes "true") ∷ []), λ t. call_told t.1 (Some (t.1.1.1.1.1.0, reply.True)))

abbrev pub false_kind : LineKind RecordingLine
false_kind = (call_form (moment ∷ piece.word (codes "false") ∷ []), λ t. call_told t.1 (Some (t.1.1.1.1.1.0, reply.False)))

abbrev pub key_kind : LineKind RecordingLine
key_kind = (number_form (codes "key") 0 max_number, λ t. told.Key t.1.0)

abbrev pub end_kind : LineKind RecordingLine
end_kind = (piece.word (codes "end") ∷ [], λ t. told.End)

abbrev pub cut_kind : LineKind RecordingLine
cut_kind = (piece.word (codes "cut") ∷ [], λ t. told.Cut)

-- `from_keys` has the kinds of lines that can follow a final key. `from_calls` has the kinds of lines that can follow a
-- call. A recording that was cut off has no final keys, so the line `cut` cannot follow a final key.
abbrev pub from_keys : List (LineKind RecordingLine)
from_keys = key_kind ∷ end_kind ∷ []

abbrev pub call_kinds : List (LineKind RecordingLine)
call_kinds = open_kind ∷ true_kind ∷ false_kind ∷ []

abbrev pub from_calls : List (LineKind RecordingLine)
from_calls = call_kinds ++ cut_kind ∷ from_keys

-- Returns the kinds of lines that can be next when the reader is in the given section of the recording.
abbrev pub kinds : Section → List (LineKind RecordingLine)
kinds section.Title = []
kinds section.Opening = opening_kind ∷ from_calls
kinds section.Calls = from_calls
kinds section.Keys = from_keys
kinds section.Done = []

abbrev pub is_title : Section → Bool
is_title section.Title = true
is_title section.Opening = false
is_title section.Calls = false
is_title section.Keys = false
is_title section.Done = false

-- Reads the first line of a recording, which must be the title.
abbrev pub title_told : List ℕ → Result RecordingLine Cause
title_told line = if bytes_eq line title then Ok told.Title else Err wrong.Header

-- Reads a line after the title, in section s of the recording. A line with more than `LONGEST_LINE` bytes is an error.
abbrev pub line_behind_title : Section → List ℕ → Result RecordingLine Cause
line_behind_title s line = if nat_lt LONGEST_LINE (length line) then Err wrong.Line else line_in One wrong.Line (kinds s) line

-- Reads a line in section s of the recording.
abbrev pub line_told : Section → List ℕ → Result RecordingLine Cause
line_told s line = if is_title s then title_told line else line_behind_title s line

-- Returns the cause to report if a line in section s of the recording is too long.
abbrev pub cause_if_long : Section → Cause
cause_if_long s = if is_title s then wrong.Header else wrong.Line

-- ---- Extending the recording by a line

abbrev pub section_after : RecordingLine → Section
section_after told.Title = section.Opening
section_after (told.Opening k) = section.Opening
section_after (told.Call x) = section.Calls
section_after (told.Key k) = section.Keys
section_after told.End = section.Done
section_after told.Cut = section.Done

abbrev pub with_line : Recording → RecordingLine → Recording
with_line c told.Title = c
with_line c (told.Opening k) = record c { opening = c.opening ++ k ∷ [] }
with_line c (told.Call x) = record c { calls = c.calls ++ record_of x ∷ [] }
with_line c (told.Key k) = record c { keys = c.keys ++ k ∷ [] }
with_line c told.End = c
with_line c told.Cut = record c { cut_off = true }

-- The state of the reader after some lines: the section that the reader is in, and the recording read so far.
pub record SoFar : Type 0 where
  pub section : Section
  pub told : Recording

abbrev pub with_told : SoFar → RecordingLine → SoFar
with_told s l = record { section = section_after l; told = with_line s.told l }

abbrev pub nothing_told : SoFar
nothing_told = record {
  section = section.Title;
  told = record { opening = []; calls = []; keys = []; cut_off = false };
}

-- Holds if a line is consistent with the recording read so far: with the line, the keys still increase, and the calls
-- are still a history, ordered by start.
abbrev pub GoesOn : Recording → RecordingLine → Type 0
GoesOn c told.Title = Unit {0}
GoesOn c (told.Opening k) = is_above c.opening k ≡ true
GoesOn c (told.Call x) = MayFollow all_threads c.calls (record_of x)
GoesOn c (told.Key k) = is_above c.keys k ≡ true
GoesOn c told.End = Unit {0}
GoesOn c told.Cut = Unit {0}

-- Returns the cause to report if a line is inconsistent with the recording read so far.
abbrev pub cause_of : RecordingLine → Cause
cause_of (told.Call x) = wrong.History
cause_of l = wrong.Opening

-- Holds if the numbers in a line are in range, and a completed call is not a `ceiling` and returned true or false.
abbrev pub IsFormed : RecordingLine → Type 0
IsFormed told.Title = Unit {0}
IsFormed (told.Opening k) = k < 2 ^ 32
IsFormed (told.Call x) = (x.thread < all_threads) × IsBefore (record_of x)
    × IfSome x.ended (λ (end : ℕ × Reply). is_plain x.call end.1 ≡ true)
IsFormed (told.Key k) = k < 2 ^ 32
IsFormed told.End = Unit {0}
IsFormed told.Cut = Unit {0}

-- Holds if a line of the given kind can be next when the reader is in the given section of the recording.
abbrev pub Comes : Section → RecordingLine → Type 0
Comes section.Title told.Title = Unit {0}
Comes section.Title l = ⊥
Comes section.Opening told.Title = ⊥
Comes section.Opening l = Unit {0}
Comes section.Calls told.Title = ⊥
Comes section.Calls (told.Opening k) = ⊥
Comes section.Calls l = Unit {0}
Comes section.Keys (told.Key k) = Unit {0}
Comes section.Keys told.End = Unit {0}
Comes section.Keys l = ⊥
Comes section.Done l = ⊥

-- Holds if a reader in state s accepts `line`, and is then in state t.
abbrev pub IsTaken : SoFar → List ℕ → SoFar → Type 0
IsTaken s line t = (l : RecordingLine) × (line_told s.section line ≡ Ok l) × GoesOn s.told l × (t ≡ with_told s l)

-- Holds if a reader in state s refuses `line` with the cause `cause`.
abbrev pub IsRefused : SoFar → List ℕ → Cause → Type 0
IsRefused s line cause = (line_told s.section line ≡ Err cause)
    ⊎ ((l : RecordingLine) × (line_told s.section line ≡ Ok l) × (GoesOn s.told l → ⊥) × (cause ≡ cause_of l))

-- ---- Reading whole texts

-- Returns whether the text can end in the given section: the last line was `end` or `cut`.
abbrev pub is_done : Section → Bool
is_done section.Title = false
is_done section.Opening = false
is_done section.Calls = false
is_done section.Keys = false
is_done section.Done = true

-- Returns the cause to report if the text ends while the reader is in section s of the recording.
abbrev pub cause_at_end : Section → Cause
cause_at_end s = if is_title s then wrong.Header else wrong.NotEnded

-- Returns the result of reading if the text ends in state s. The last argument has the bytes after the last newline,
-- which must be empty.
abbrev pub ending : ℕ → SoFar → List ℕ → Result Recording LineFault
ending line s [] = if is_done s.section then Ok s.told else Err (fault line (cause_at_end s.section))
ending line s (b ∷ bs) = Err (fault line wrong.NotEnded)

-- Holds if `read` is the result of reading the rest of a text: the reader accepts every line, or `read` is the error of
-- the first line that the reader refuses. The rest is a list of the complete lines and, as the last item, the bytes
-- after the last newline. `line` is the number of the first line in the list, and `s` is the reader's state before the
-- first line.
abbrev pub Reads : ℕ → SoFar → List (List ℕ) → Result Recording LineFault → Type 0
Reads line s [] read = ⊥
Reads line s (rest ∷ []) read = read ≡ ending line s rest
Reads line s (x ∷ y ∷ more) read =
    ((next : SoFar) × IsTaken s x next × Reads (line + 1) next (y ∷ more) read)
    ⊎ ((cause : Cause) × IsRefused s x cause × (read ≡ Err (fault line cause)))

-- The number of the first line in a text.
abbrev pub first_line : ℕ
first_line = 1

-- Holds if `read` is the result of reading `bytes` as a recording: the recording or the first error.
abbrev pub Says : List ℕ → Result Recording LineFault → Type 0
Says bytes read = Reads first_line nothing_told (cut_at 10 bytes) read

-- Holds if bytes that are read as a recording are always the text of that recording. Therefore each recording has only
-- one text.
abbrev pub RecordingsAreRead : Type 0
RecordingsAreRead = (bytes : List ℕ) (c : Recording) → Says bytes (Ok c) → bytes ≡ recording_text c

-- Holds if the verdict is correct. The first argument is true if the recording was cut off and its final keys are
-- therefore unknown.
abbrev pub IsVerdictIf : Bool → Recording → Verdict → Type 0
IsVerdictIf true c verdict = IsVerdictCutOff all_threads c.opening c.calls verdict
IsVerdictIf false c verdict = IsVerdict all_threads c.opening c.calls c.keys verdict

-- Holds if the verdict on a recording is correct. If the recording was cut off, its final keys are unknown.
abbrev pub IsVerdictOnRecording : Recording → Verdict → Type 0
IsVerdictOnRecording c verdict = IsVerdictIf c.cut_off c verdict

-- ---- Tests of what a section of a recording allows

abbrev pub takes_opening : Section → Bool
takes_opening section.Title = false
takes_opening section.Opening = true
takes_opening section.Calls = false
takes_opening section.Keys = false
takes_opening section.Done = false

abbrev pub takes_calls : Section → Bool
takes_calls section.Title = false
takes_calls section.Opening = true
takes_calls section.Calls = true
takes_calls section.Keys = false
takes_calls section.Done = false

-- Returns whether a reader in the given section of the recording accepts a final key or the line `end` next.
abbrev pub takes_keys : Section → Bool
takes_keys section.Title = false
takes_keys section.Opening = true
takes_keys section.Calls = true
takes_keys section.Keys = true
takes_keys section.Done = false
