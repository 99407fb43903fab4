-- The grammar of reports. It defines the report that a text represents, or the first error in the text. Lines are
-- checked one by one, and each line is checked in a fixed order.
use Rattle.std.specs.Prelude.{◌≡◌, ◌≢◌, ◌⊎◌, ℕ, ◌+◌, ◌<◌, ◌≤◌, ◌^◌, ◌==◌, ◌&&◌, ◌||◌, not, nat_lt, Bool, true, false, List, []}
use Rattle.std.specs.Prelude.{◌∷◌, ◌++◌, length, codes, Option, Some, None, Result, Ok, Err, if◌then◌else◌, slice_index_or}
use Rattle.std.specs.List.{list_any, list_all, AllByRecursion}
use Rattle.lset_words.specs.declared.Reply.{Reply}
use Rattle.lset_words.specs.declared.history.CallRecord.{CallRecord}
use Rattle.lset_words.specs.declared.history.Placed.{Placed}
use Rattle.lset_words.specs.Words.{key_of, Opening, Opens, empty}
use Rattle.lset_words.specs.declared.TheConstants.{MOST_OPENING}
use Rattle.lset_words.specs.History.{IsHistory}
use Rattle.lset_history.specs.History.{HistoryValue}
use Rattle.lset_text.specs.declared.words.CallWord.{CallWord}
use Rattle.lset_text.specs.declared.headers.Header.{Header as HeaderTold}
use Rattle.lset_text.specs.declared.causes.Cause.{Cause}
use Rattle.lset_text.specs.declared.causes.Cause.TheVariants as wrong
use Rattle.lset_text.specs.declared.causes.LineFault.{LineFault}
use Rattle.lset_text.specs.Parts.{cut_at}
use Rattle.lset_text.specs.Spellings.{with_key, HasCall, HasReply}
use Rattle.lset_text.specs.declared.words.Version.{Version}
use Rattle.lset_text.specs.declared.words.Version.TheVariants.{One, Two}
use Rattle.lset_text.specs.Results.{◌>>=◌}
use Rattle.lset_text.specs.Forms.{Form}
use Rattle.lset_text.specs.Forms as piece
use Rattle.lset_text.specs.Kinds.{LineKind, made, line_in}
use Rattle.lset_text.specs.Lines.{Grammar, IsFaultlessTo}
use Rattle.lset_text.specs.Texts.{TextGrammar, last_of_header, versioned_from}
use Rattle.lset_text.specs.Headers.{version_in}
use Rattle.lset_text.specs.Openings.{opening_form, HasOpening, is_above}
use Rattle.lset_report.specs.declared.report.TheConstants.{MOST_CALLS, MOST_PLACES, MOST_KEYS, MOST_KEYS_OPENED}
use Rattle.lset_report.specs.declared.reading.report_lines.Line.{Line as ReportLine}
use Rattle.lset_report.specs.declared.reading.report_lines.Line.TheVariants as told
use Rattle.lset_report.specs.declared.reading.report_lines.Section.{Section}
use Rattle.lset_report.specs.declared.reading.report_lines.Section.TheVariants as section
use Rattle.lset_report.specs.Report.{ReportValue}
use Rattle.lset_report.specs.Texts.{title, last_line, report_text}

-- ---- Limits on the numbers in a report

-- Holds if a call is pending, or if the moment of its end is at most 4294967295 and the format version allows its
-- reply.
abbrev pub IsEnd : Version → Option (ℕ × Reply) → Type 0
IsEnd version None = Unit {0}
IsEnd version (Some end) = (end.0 < 2 ^ 32) × HasReply version end.1

abbrev pub IsCall : Version → CallRecord → Type 0
IsCall version x = (x.begun < 2 ^ 32) × ((key_of x.call).0 < 2 ^ 32) × IsEnd version x.ended × HasCall version x.call

abbrev pub IsPlace : Version → Placed → Type 0
IsPlace version p = (p.call < 2 ^ 32) × HasReply version p.reply

-- Returns the maximum number of final keys. A set that opens with keys can contain more keys than a set that opens
-- empty.
abbrev pub most_keys : Version → ℕ
most_keys One = MOST_KEYS
most_keys Two = MOST_KEYS_OPENED

-- Holds if the report can be written as text. A set can open with the report's thread count, quota (successful adds per
-- thread) and opening keys (the keys at the start). The report's calls are a history. The report's format version
-- allows the opening keys, the calls and the replies. All numbers are within their limits, and so are the counts of
-- calls, entries of the order, and final keys. The order and the final keys can be arbitrary.
pub record IsReport (r : ReportValue) : Type 0 where
  pub opens : Opens r.history.opening
  pub opening : HasOpening r.version r.history.opening.keys
  pub history : IsHistory r.history.opening.threads r.history.calls
  pub calls : AllByRecursion (IsCall r.version) r.history.calls
  pub places : AllByRecursion (IsPlace r.version) r.order
  pub keys : AllByRecursion (λ k. k < 2 ^ 32) r.keys
  pub few_calls : length r.history.calls ≤ MOST_CALLS
  pub few_places : length r.order ≤ MOST_PLACES
  pub few_keys : length r.keys ≤ most_keys r.version

-- ---- The lines after the header

abbrev pub opening_kind : LineKind ReportLine
opening_kind = (opening_form, λ t. told.Opening t.1.0)

-- Returns the line of a call with the given number, thread, operation, key, start and end.
abbrev pub call_told : {X : Type 0} → ℕ × (ℕ × (CallWord × (ℕ × (ℕ × X)))) → Option (ℕ × Reply) → ReportLine
call_told t end = told.Call t.0
    (record { thread = t.1.0; call = with_key t.1.1.0 (record { 0 = t.1.1.1.0 }); begun = t.1.1.1.1.0; ended = end })

-- Returns the form (the sequence of fields) of a call's line. `end` is the form of the fields after the call's start.
abbrev pub call_form : Form → Form
call_form end = piece.word (codes "call") ∷ piece.any ∷ piece.any ∷ piece.call ∷ piece.any ∷ piece.moment ∷ end

abbrev pub open_kind : LineKind ReportLine
open_kind = (call_form (piece.word (codes "open") ∷ []), λ t. call_told t.1 None)

abbrev pub ended_kind : LineKind ReportLine
ended_kind = (
  call_form (piece.moment ∷ piece.reply ∷ []),
  λ t. call_told t.1 (Some (t.1.1.1.1.1.1.0, t.1.1.1.1.1.1.1.0)),
)

abbrev pub place_kind : LineKind ReportLine
place_kind = (
  piece.word (codes "place") ∷ piece.any ∷ piece.reply ∷ [],
  λ t. told.Place (record { call = t.1.0; reply = t.1.1.0 }),
)

abbrev pub key_kind : LineKind ReportLine
key_kind = (piece.word (codes "key") ∷ piece.any ∷ [], λ t. told.Key t.1.0)

abbrev pub end_kind : LineKind ReportLine
end_kind = (piece.word (codes "end") ∷ [], λ t. told.End)

-- Returns the kinds of lines that can come next in the section of the final keys: another key, or the last line `end`.
-- (The sections of a report have a fixed order, and any section can be empty.)
abbrev pub from_keys : List (LineKind ReportLine)
from_keys = key_kind ∷ end_kind ∷ []

-- Returns the kinds of lines that can come next in the section of the order: another entry of the order, or a line of a
-- later section.
abbrev pub from_order : List (LineKind ReportLine)
from_order = place_kind ∷ from_keys

-- Returns the kinds of lines that can come next in the section of the calls: another call, pending or ended, or a line
-- of a later section.
abbrev pub from_calls : List (LineKind ReportLine)
from_calls = open_kind ∷ ended_kind ∷ from_order

-- Returns the kinds of lines that can come next in the section of opening keys (the keys at the start): in version 2
-- another opening key, and in either version a line of a later section.
abbrev pub from_opening : Version → List (LineKind ReportLine)
from_opening One = from_calls
from_opening Two = opening_kind ∷ from_calls

-- Returns the kinds of lines that can come next when the reader has reached the given section.
abbrev pub kinds : Version → Section → List (LineKind ReportLine)
kinds version section.Opening = from_opening version
kinds version section.Calls = from_calls
kinds version section.Order = from_order
kinds version section.Keys = from_keys
kinds version section.Done = []

-- ---- The condition that a line can follow the previous lines

-- Returns whether a call with the given end ended at `moment` (a position in the history). A pending call has the end
-- `None`.
abbrev pub ends_at : ℕ → Option (ℕ × Reply) → Bool
ends_at moment None = false
ends_at moment (Some end) = end.0 == moment

abbrev pub is_entry : ℕ → CallRecord → Bool
is_entry moment y = y.begun == moment || ends_at moment y.ended

abbrev pub is_taken : List CallRecord → ℕ → Bool
is_taken calls moment = list_any (is_entry moment) calls

-- Returns whether the given moment (a position in the history) is at least 1, and every call in the list started before
-- it.
abbrev pub begins_later : List CallRecord → ℕ → Bool
begins_later calls moment = nat_lt 0 moment && list_all (λ y. nat_lt y.begun moment) calls

-- Returns whether a call with the given end ended before `moment` (a position in the history). A pending call has the
-- end `None`.
abbrev pub ended_before : ℕ → Option (ℕ × Reply) → Bool
ended_before moment None = false
ended_before moment (Some end) = nat_lt end.0 moment

abbrev pub is_idle : List CallRecord → ℕ → ℕ → Bool
is_idle calls thread moment = list_all (λ y. not (y.thread == thread) || ended_before moment y.ended) calls

-- Returns whether a call that started at moment `begun` can have the given end. The call must be pending, or must end
-- after `begun`, at a moment (a position in the history) when no call in the list starts or ends.
abbrev pub ends_later : List CallRecord → ℕ → Option (ℕ × Reply) → Bool
ends_later calls begun None = true
ends_later calls begun (Some end) = nat_lt begun end.0 && not (is_taken calls end.0)

-- Returns whether the call `x` can be appended to the calls of a history. The call must start after all previous calls
-- have started, and after all previous calls of its thread have ended. The end of the call, if any, must be after its
-- start. No other call can start or end at the moments (positions in the history) when `x` starts and ends.
abbrev pub may_follow : ℕ → List CallRecord → CallRecord → Bool
may_follow threads calls x =
    nat_lt x.thread threads
    && (begins_later calls x.begun
    && (ends_later calls x.begun x.ended
    && (not (is_taken calls x.begun)
    && is_idle calls x.thread x.begun)))

-- Returns the line if its section has fewer than `most` lines so far, otherwise the error `TooMany`.
abbrev pub counted : ℕ → ℕ → ReportLine → Result ReportLine Cause
counted most count l = if nat_lt count most then Ok l else Err wrong.TooMany

abbrev pub is_next : ReportValue → ℕ → CallRecord → Bool
is_next r number x = number == length r.history.calls && may_follow r.history.opening.threads r.history.calls x

abbrev pub following : ReportValue → ℕ → CallRecord → ReportLine → Result ReportLine Cause
following r number x l = if is_next r number x then Ok l else Err wrong.History

abbrev pub increasing : ReportValue → ℕ → ReportLine → Result ReportLine Cause
increasing r k l = if is_above r.history.opening.keys k then Ok l else Err wrong.Opening

-- Returns the line if it can follow the lines of the report `r`. Otherwise returns the cause: `TooMany` if the line's
-- section is full, `Opening` if an opening key (a key at the start) is not greater than the previous one, or `History`
-- if a call cannot follow the previous calls.
abbrev pub judged : ReportValue → ReportLine → Result ReportLine Cause
judged r (told.Opening k) = counted MOST_OPENING (length r.history.opening.keys) (told.Opening k) >>= increasing r k
judged r (told.Call number x) = counted MOST_CALLS (length r.history.calls) (told.Call number x) >>= following r number x
judged r (told.Place p) = counted MOST_PLACES (length r.order) (told.Place p)
judged r (told.Key k) = counted (most_keys r.version) (length r.keys) (told.Key k)
judged r told.End = Ok told.End

-- Parses a line and checks whether it can follow the lines before it.
abbrev pub line_after : Section → ReportValue → List ℕ → Result ReportLine Cause
line_after s r line = line_in r.version wrong.Line (kinds r.version s) line >>= judged r

abbrev pub section_after : ReportLine → Section
section_after (told.Opening k) = section.Opening
section_after (told.Call number x) = section.Calls
section_after (told.Place p) = section.Order
section_after (told.Key k) = section.Keys
section_after told.End = section.Done

abbrev pub with_key_opened : Opening → ℕ → Opening
with_key_opened o k = record o { keys = o.keys ++ k ∷ [] }

abbrev pub with_opening : HistoryValue → ℕ → HistoryValue
with_opening h k = record h { opening = with_key_opened h.opening k }

abbrev pub with_call : HistoryValue → CallRecord → HistoryValue
with_call h x = record h { calls = h.calls ++ x ∷ [] }

abbrev pub with_line : ReportValue → ReportLine → ReportValue
with_line r (told.Opening k) = record r { history = with_opening r.history k }
with_line r (told.Call number x) = record r { history = with_call r.history x }
with_line r (told.Place p) = record r { order = r.order ++ p ∷ [] }
with_line r (told.Key k) = record r { keys = r.keys ++ k ∷ [] }
with_line r told.End = r

-- ---- The result of reading a text that was cut into lines

-- The state of a reader after some lines: its current section, and the report read so far.
pub record SoFar : Type 0 where
  pub section : Section
  pub report : ReportValue

abbrev pub with_told : SoFar → ReportLine → SoFar
with_told s l = record { section = section_after l; report = with_line s.report l }

abbrev pub step : SoFar → List ℕ → Result SoFar Cause
step s line = made (with_told s) (line_after s.section s.report line)

-- Returns whether the line `end`, which completes the text, was read.
abbrev pub is_done : Section → Bool
is_done section.Opening = false
is_done section.Calls = false
is_done section.Order = false
is_done section.Keys = false
is_done section.Done = true

abbrev pub ends : SoFar → Result SoFar Cause
ends s = if is_done s.section then Ok s else Err wrong.NotEnded

-- The grammar of the lines after a report's header.
abbrev pub grammar : Grammar SoFar
grammar = record { step = step; ends = ends }

abbrev pub no_lines : Version → HeaderTold → ReportValue
no_lines version h = record {
  version = version;
  kind = h.kind;
  history = record { opening = empty h.threads h.quota; calls = [] };
  order = [];
  keys = [];
}

abbrev pub nothing_told : Version → HeaderTold → SoFar
nothing_told version h = record { section = section.Opening; report = no_lines version h }

-- Returns the format version of a report: version 2 if the first line is the title of version 2, otherwise version 1.
abbrev pub version_told : List (List ℕ) → Version
version_told parts = version_in (title Two) parts

-- The grammar of whole reports of the given version: the title, the initial state, and the lines.
abbrev pub text : Version → TextGrammar SoFar
text version = record { title = title version; start = nothing_told version; lines = grammar }

abbrev pub report_of : List (List ℕ) → Result ReportValue LineFault
report_of parts = versioned_from text parts >>= λ last. Ok last.report

abbrev pub reading : List ℕ → Result ReportValue LineFault
reading bytes = report_of (cut_at 10 bytes)

-- Reading inverts writing: if a text can be read as a report, it is the text of that report, and reading the text of a
-- report yields that report.
abbrev pub ReportsReadBack : Type 0
ReportsReadBack = (r : ReportValue) (bytes : List ℕ)
    → (IsReport r → reading (report_text r) ≡ Ok r)
    × (reading bytes ≡ Ok r → IsReport r × (bytes ≡ report_text r))

-- ---- Errors from failed allocations

-- Holds if reading can fail with the error `e` because an allocation failed. The error must be `Memory`, at a line that
-- passed all other checks. `parts` are the lines of the text from line `first` on, followed by the bytes after the last
-- newline. `read` is the result if no allocation fails.
pub record RunsOut (first : ℕ) (parts : List (List ℕ)) (read : Result ReportValue LineFault) (e : LineFault) : Type 0 where
  pub cause : e.cause ≡ wrong.Memory
  -- An allocation can fail at the last line of the header or at a later line. Earlier lines need no memory.
  pub after_header : last_of_header ≤ e.line
  -- The line that caused the failed allocation is complete: it ends with a newline.
  pub index : ℕ
  pub line_is : e.line ≡ first + index
  pub whole : index + 1 < length parts
  -- The line that caused the failed allocation is not `end`, which needs no memory.
  pub asks : slice_index_or parts index [] ≢ last_line
  -- Neither the line that caused the failed allocation nor any line before it has another error.
  pub good : IsFaultlessTo e.line read

-- Holds if the result is the report whose text is given, the first error in the text, or `Memory` for a failed
-- allocation.
abbrev pub Gives : {X : Type 0} → (X → ReportValue) → Result X LineFault → List ℕ → Type 0
Gives view (Ok x) bytes = reading bytes ≡ Ok (view x)
Gives view (Err e) bytes = (reading bytes ≡ Err e) ⊎ RunsOut 1 (cut_at 10 bytes) (reading bytes) e
