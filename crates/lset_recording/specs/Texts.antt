-- [Recording] and its text: the calls that threads made to a set, ordered by start.
use Rattle.std.specs.Prelude.{ℕ, ◌^◌, Bool, if◌then◌else◌, List, [], ◌∷◌, ◌++◌, map, codes, Option, Some, None, All}
use Rattle.std.specs.Fmt.{decimal}
use Rattle.std.specs.List.Sorted.{IsStrictlyIncreasing}
use Rattle.lset_words.specs.declared.Reply.{Reply}
use Rattle.lset_words.specs.declared.history.CallRecord.{CallRecord}
use Rattle.lset_words.specs.Words.{key_of}
use Rattle.lset_words.specs.History.{IsHistory}
use Rattle.lset_text.specs.Parts.{line_of, text_of}
use Rattle.lset_text.specs.Spellings.{call_text, reply_text}
use Rattle.lset_text.specs.Headers.{number_line}
use Rattle.lset_text.specs.Openings.{opening_lines}
use Rattle.lset_judge.specs.Verdict.{IsPlain}
use Rattle.lset_judge.specs.Stream.{IsBefore}

pub record Recording : Type 0 where
  -- `opening` has the keys of the set when it was opened, `calls` has the calls, and `keys` has the keys of the set
  -- after all calls.
  pub opening : List ℕ
  pub calls : List CallRecord
  pub keys : List ℕ
  -- True if the recording was cut off and its final keys are therefore unknown.
  pub cut_off : Bool

-- The number of possible threads. Threads are numbered from 0, and every number below 2^32 is a thread.
abbrev pub all_threads : ℕ
all_threads = 2 ^ 32

-- Holds if c is a valid recording: its opening keys and its final keys increase strictly, its calls are a history with
-- moments below 2^63, and each completed call is an `add`, `remove`, or `contains` that returned true or false.
pub record IsRecording (c : Recording) : Type 0 where
  pub opening : IsStrictlyIncreasing c.opening
  pub calls : IsHistory all_threads c.calls
  pub plain : IsPlain c.calls
  pub before : All IsBefore c.calls
  pub keys : IsStrictlyIncreasing c.keys

-- ---- The text of a recording

-- The first line of the text of a recording.
abbrev pub title : List ℕ
title = codes "listset-calls 1"

-- The field `-`. It appears twice in the line of a pending call: in place of the moment when the call ends, and in
-- place of the reply.
abbrev pub dash : List ℕ
dash = codes "-"

-- Returns the last two fields of a call's line: the moment when the call ends, and the reply. For a pending call, both
-- fields are `-`.
abbrev pub end_pieces : Option (ℕ × Reply) → List (List ℕ)
end_pieces None = dash ∷ dash ∷ []
end_pieces (Some end) = decimal end.0 ∷ reply_text end.1 ∷ []

abbrev pub call_pieces : CallRecord → List (List ℕ)
call_pieces x = codes "call" ∷ decimal x.thread ∷ call_text x.call ∷ decimal ((key_of x.call).0) ∷ decimal x.begun ∷ end_pieces x.ended

abbrev pub call_line : CallRecord → List ℕ
call_line x = line_of (call_pieces x)

abbrev pub key_line : ℕ → List ℕ
key_line key = number_line (codes "key") key

-- Returns the last line of the text: `cut` if the recording was cut off, and `end` otherwise.
abbrev pub end_line : Bool → List ℕ
end_line cut_off = if cut_off then codes "cut" else codes "end"

abbrev pub lines : Recording → List (List ℕ)
lines c = title ∷ opening_lines c.opening ++ map call_line c.calls ++ map key_line c.keys ++ end_line c.cut_off ∷ []

-- [Recording text]: the lines of a recording, each followed by a newline.
abbrev pub recording_text : Recording → List ℕ
recording_text c = text_of (lines c)
