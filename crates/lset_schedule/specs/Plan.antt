-- Schedules and their texts. Each schedule has exactly one text.
use Rattle.std.specs.Prelude.{ℕ, ◌+◌, ◌<◌, ◌≤◌, ◌^◌, List, [], ◌∷◌, ◌++◌, length, map, codes}
use Rattle.std.specs.Fmt.{decimal}
use Rattle.std.specs.List.{sum_by, AllByRecursion}
use Rattle.lset_schedule.specs.declared.TheConstants.{MOST_EVENTS, MOST_STEPS}
use Rattle.lset_words.specs.declared.Kind.{Kind}
use Rattle.lset_words.specs.Words.{Opening, Opens, key_of}
use Rattle.lset_text.specs.declared.headers.Header.{Header}
use Rattle.lset_text.specs.Parts.{line_of, text_of}
use Rattle.lset_text.specs.Spellings.{call_text, HasCall}
use Rattle.lset_text.specs.declared.words.Version.{Version}
use Rattle.lset_text.specs.declared.words.Version.TheVariants.{One, Two}
use Rattle.lset_text.specs.Headers.{header_lines}
use Rattle.lset_text.specs.Texts.{first_line}
use Rattle.lset_text.specs.Openings.{HasOpening, opening_lines}
use Rattle.lset_schedule.specs.declared.value.Line.{Line}
use Rattle.lset_schedule.specs.declared.value.Line.TheVariants.{Begin, Go}
use Rattle.lset_schedule.specs.declared.value.Schedule.{Schedule}

-- A schedule as a mathematical value, for use in contracts.
pub record Plan : Type 0 where
  pub version : Version
  pub kind : Kind
  pub threads : ℕ
  pub quota : ℕ
  pub opening : List ℕ
  pub lines : List Line

-- Returns the schedule with the given version, header, opening keys (keys at the start) and lines.
abbrev pub planned : Version → Header → List ℕ → List Line → Plan
planned v h keys lines = record {
  version = v;
  kind = h.kind;
  threads = h.threads;
  quota = h.quota;
  opening = keys;
  lines = lines;
}

abbrev pub view : Schedule → Plan
view s = planned s.version (record { kind = s.kind; threads = s.threads; quota = s.quota }) s.opening.items s.lines.items

abbrev pub header_in : Plan → Header
header_in p = record { kind = p.kind; threads = p.threads; quota = p.quota }

-- Returns the arguments that open the set of a schedule: the number of threads, the quota (the maximum number of
-- successful adds per thread), and the opening keys (the keys at the start).
abbrev pub opening_in : Plan → Opening
opening_in p = record { threads = p.threads; quota = p.quota; keys = p.opening }

-- ---- The text of a schedule

abbrev pub pieces_of : Line → List (List ℕ)
pieces_of (Begin thread call) = codes "begin" ∷ decimal thread ∷ call_text call ∷ decimal ((key_of call).0) ∷ []
pieces_of (Go thread steps) = codes "go" ∷ decimal thread ∷ decimal steps ∷ []

abbrev pub line_text : Line → List ℕ
line_text l = line_of (pieces_of l)

abbrev pub title : Version → List ℕ
title One = codes "listset-schedule 1"
title Two = codes "listset-schedule 2"

abbrev pub schedule_lines : Plan → List (List ℕ)
schedule_lines p = header_lines (title p.version) (header_in p) ++ (opening_lines p.opening ++ map line_text p.lines)

abbrev pub schedule_text : Plan → List ℕ
schedule_text p = text_of (schedule_lines p)

-- Returns the line number of the first event in the text of a schedule. Lines are numbered from 1.
abbrev pub first_event_line : Plan → ℕ
first_event_line p = first_line + length p.opening

-- ---- The limits of a schedule

-- Returns the number of events that a line counts as: the number of steps for a `go` line, otherwise 1.
abbrev pub event_count : Line → ℕ
event_count (Begin thread call) = 1
event_count (Go thread steps) = steps

abbrev pub IsLine : Version → Line → Type 0
IsLine version (Begin thread call) = (thread < 2 ^ 32) × ((key_of call).0 < 2 ^ 32) × HasCall version call
IsLine version (Go thread steps) = (thread < 2 ^ 32) × (1 ≤ steps) × (steps ≤ MOST_STEPS)

-- The limits of a schedule. Every schedule that is read from a text satisfies them.
pub record IsSchedule (p : Plan) : Type 0 where
  pub opens : Opens (opening_in p)
  pub opening : HasOpening p.version p.opening
  pub lines : AllByRecursion (IsLine p.version) p.lines
  pub few : sum_by event_count p.lines ≤ MOST_EVENTS

-- ---- The calls that each version of the format allows

abbrev pub HasCallOfLine : Version → Line → Type 0
HasCallOfLine version (Begin thread call) = HasCall version call
HasCallOfLine version (Go thread steps) = Unit {0}

-- Holds if the format version of a schedule allows all calls that the schedule begins.
abbrev pub HasCallsOfVersion : Plan → Type 0
HasCallsOfVersion p = AllByRecursion (HasCallOfLine p.version) p.lines

-- Holds if a schedule can be written in its format version. The version must allow all calls that the schedule begins,
-- and the opening keys (keys at the start), if there are any. Every schedule that satisfies `IsSchedule` can be written
-- (see proofs/VersionLaws.antt).
abbrev pub HasWordsOfVersion : Plan → Type 0
HasWordsOfVersion p = HasOpening p.version p.opening × HasCallsOfVersion p
