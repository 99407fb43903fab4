-- The result of reading a schedule: its value, or the first error. Lines are read from the first to the last, and each
-- line is checked in a fixed order.
use Rattle.std.specs.Prelude.{◌≡◌, ◌≢◌, ℕ, ◌+◌, ◌<◌, ◌≤◌, nat_lt, List, [], ◌∷◌, ◌++◌, length, map, codes, Result, Ok, Err}
use Rattle.std.specs.Prelude.{if◌then◌else◌, ◌⊎◌}
use Rattle.std.specs.List.{sum_by}
use Rattle.lset_words.specs.declared.TheConstants.{MOST_OPENING}
use Rattle.lset_schedule.specs.declared.TheConstants.{MOST_EVENTS, MOST_STEPS}
use Rattle.lset_text.specs.declared.headers.Header.{Header}
use Rattle.lset_text.specs.declared.causes.Cause.{Cause}
use Rattle.lset_text.specs.declared.causes.Cause.TheVariants.{Event, TooMany, Opening, Memory}
use Rattle.lset_text.specs.declared.causes.LineFault.{LineFault}
use Rattle.lset_text.specs.declared.words.Version.{Version}
use Rattle.lset_text.specs.declared.words.Version.TheVariants.{One, Two}
use Rattle.lset_text.specs.Parts.{cut_at}
use Rattle.lset_text.specs.Forms.{word, number, call, any}
use Rattle.lset_text.specs.Kinds.{LineKind, kind_as, line_in}
use Rattle.lset_text.specs.Lines.{Grammar}
use Rattle.lset_text.specs.Lines as lines
use Rattle.lset_text.specs.Spellings.{with_key}
use Rattle.lset_text.specs.Results.{◌>>=◌}
use Rattle.lset_text.specs.Headers.{version_in}
use Rattle.lset_text.specs.Texts.{TextGrammar, last_of_header, text_from}
use Rattle.lset_text.specs.Openings.{opening_form, is_above}
use Rattle.lset_schedule.specs.declared.value.Line.{Line}
use Rattle.lset_schedule.specs.declared.value.Line.TheVariants.{Begin, Go}
use Rattle.lset_schedule.specs.declared.content.Body.{Body as TextBody}
use Rattle.lset_schedule.specs.Plan.{Plan, planned, IsSchedule, title, schedule_text, event_count}

-- ---- Reading the opening keys and the event lines

-- A kind of text with event lines: the patterns of the event lines, and the number of events that each line counts as.
pub record EventLines (L : Type 0) : Type 0 where
  pub kinds : List (LineKind L)
  pub count : L → ℕ

-- The content of a schedule or draft: its header, its opening keys (the keys at the start) and its event lines.
pub record BodyValue (L : Type 0) : Type 0 where
  pub header : Header
  pub keys : List ℕ
  pub lines : List L

abbrev pub no_lines : {L : Type 0} → Header → BodyValue L
no_lines h = record { header = h; keys = []; lines = [] }

-- The content of one line after the header: an opening key (a key at the start) or an event line.
pub data Item (L : Type 0) : Type 0 where
  opens : ℕ → Item L
  event : L → Item L

abbrev pub opening_kind : {L : Type 0} → LineKind (Item L)
opening_kind = (opening_form, λ t. opens t.1.0)

-- Returns the possible patterns of the line that follows the event lines `ls`. An opening key (a key at the start) is
-- possible only in version 2, and only before all event lines.
abbrev pub kinds_after : {L : Type 0} → EventLines L → Version → List L → List (LineKind (Item L))
kinds_after text One ls = map (kind_as event) text.kinds
kinds_after text Two [] = opening_kind ∷ map (kind_as event) text.kinds
kinds_after text Two (l ∷ ls) = map (kind_as event) text.kinds

-- Returns the content of a text after one more line, or the error in the line. Each opening key (key at the start) must
-- be greater than the previous opening key. The numbers of opening keys and events are limited.
abbrev pub with_item : {L : Type 0} → EventLines L → BodyValue L → Item L → Result (BodyValue L) Cause
with_item text s (opens k) =
    if nat_lt (length s.keys) MOST_OPENING then (if is_above s.keys k then Ok (record s { keys = s.keys ++ k ∷ [] }) else Err Opening)
    else Err TooMany
with_item text s (event l) =
    if nat_lt MOST_EVENTS (sum_by text.count s.lines + text.count l) then Err TooMany
    else Ok (record s { lines = s.lines ++ l ∷ [] })

abbrev pub with_line : {L : Type 0} → EventLines L → Version → BodyValue L → List ℕ → Result (BodyValue L) Cause
with_line text version s line = line_in version Event (kinds_after text version s.lines) line >>= with_item text s

abbrev pub grammar : {L : Type 0} → EventLines L → Version → Grammar (BodyValue L)
grammar text version = record { step = with_line text version; ends = Ok }

-- Returns the grammar for texts of the given version. The first line of such a text is `title`.
abbrev pub texts : {L : Type 0} → EventLines L → Version → List ℕ → TextGrammar (BodyValue L)
texts text version title = record { title = title; start = no_lines; lines = grammar text version }

-- ---- Reading a schedule

abbrev pub begin_kind : LineKind Line
begin_kind = (word (codes "begin") ∷ any ∷ call ∷ any ∷ [], λ t. Begin t.1.0 (with_key t.1.1.0 (record { 0 = t.1.1.1.0 })))

abbrev pub go_kind : LineKind Line
go_kind = (word (codes "go") ∷ any ∷ number 1 MOST_STEPS ∷ [], λ t. Go t.1.0 t.1.1.0)

abbrev pub events : EventLines Line
events = record { kinds = begin_kind ∷ go_kind ∷ []; count = event_count }

abbrev pub schedules : Version → TextGrammar (BodyValue Line)
schedules version = texts events version (title version)

-- Reads the lines of a text as a schedule of the given version.
abbrev pub plan_in : Version → List (List ℕ) → Result Plan LineFault
plan_in version parts = text_from (schedules version) parts >>= λ told. Ok (planned version told.header told.keys told.lines)

-- Returns the format version of a schedule: version 2 if the first line of the text is the title of version 2, else
-- version 1. A title of version 2 without a newline counts as version 2. Either version rejects a text that consists of
-- a title without a newline, with the same error.
abbrev pub version_told : List (List ℕ) → Version
version_told parts = version_in (title Two) parts

abbrev pub plan_of : List (List ℕ) → Result Plan LineFault
plan_of parts = plan_in (version_told parts) parts

abbrev pub reading : List ℕ → Result Plan LineFault
reading bytes = plan_of (cut_at 10 bytes)

-- Reading inverts writing: if a text can be read as a schedule, it is the text of that schedule, and reading the text
-- of a schedule yields that schedule.
abbrev pub SchedulesReadBack : Type 0
SchedulesReadBack = (p : Plan) (bytes : List ℕ)
    → (IsSchedule p → reading (schedule_text p) ≡ Ok p)
    × (reading bytes ≡ Ok p → IsSchedule p × (bytes ≡ schedule_text p))

-- Holds if a function returned the result `read`, or if an allocation failed. `view` converts the function's value to
-- the value in `read`.
abbrev pub Gives : {X Y : Type 0} → (X → Y) → Result X LineFault → Result Y LineFault → Type 0
Gives view (Ok x) read = read ≡ Ok (view x)
Gives view (Err e) read = e.cause ≢ Memory → read ≡ Err e

-- Holds if `line` is a complete line after the header, and neither `line` nor any line before it has an error.
abbrev pub IsGoodAfterHeader : {X : Type 0} → List ℕ → Result X LineFault → ℕ → Type 0
IsGoodAfterHeader bytes read line = (last_of_header < line) × lines.IsGoodLine 1 (cut_at 10 bytes) read line

abbrev pub IsGoodLine : List ℕ → ℕ → Type 0
IsGoodLine bytes line = IsGoodAfterHeader bytes (reading bytes) line

-- ---- The state of a function that reads the lines of a text

abbrev pub told : {L : Type 0} → TextBody L → BodyValue L
told t = record { header = t.header; keys = t.opening.items; lines = t.lines.items }

-- Holds if the reader's count of events is correct and within the limit.
abbrev pub Counts : {L : Type 0} → EventLines L → TextBody L → Type 0
Counts text t = (t.total ≡ sum_by text.count t.lines.items) × (t.total ≤ MOST_EVENTS)

-- Holds if a reader has processed a line as the grammar demands: the reader has extended its content, has returned the
-- error in the line, or has failed to allocate memory for a line without errors.
abbrev pub Takes : {L X : Type 0} → Result (BodyValue L) Cause → BodyValue L → Result X Cause → Type 0
Takes next now (Ok x) = next ≡ Ok now
Takes {L = L} next now (Err cause) = (next ≡ Err cause) ⊎ ((cause ≡ Memory) × (s : BodyValue L) × (next ≡ Ok s))
