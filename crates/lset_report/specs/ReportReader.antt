-- The state of a report reader in contracts: the part of the report that has been read.
use Rattle.std.specs.Prelude.{◌≡◌, ◌≢◌, ◌⊎◌, ◌≤◌, ◌+◌, ℕ, List, [], length, slice_index_or, Result, Ok, Err}
use Rattle.lset_text.specs.declared.causes.Cause.{Cause}
use Rattle.lset_text.specs.declared.causes.Cause.TheVariants.{Memory}
use Rattle.lset_text.specs.declared.causes.LineFault.{LineFault}
use Rattle.lset_text.specs.Causes.{fault}
use Rattle.lset_text.specs.Lines.{IsGoodLine}
use Rattle.lset_text.specs.Texts.{first_line}
use Rattle.lset_report.specs.declared.reading.Reader.{Reader}
use Rattle.lset_report.specs.Report.{ReportValue}
use Rattle.lset_report.specs.declared.reading.report_lines.Line.{Line}
use Rattle.lset_report.specs.declared.reading.report_lines.Line.TheVariants.{End}
use Rattle.lset_report.specs.Texts.{last_line}
use Rattle.lset_report.specs.ReportReading.{line_after, SoFar, step}

-- Returns the part of the report that the reader has read.
abbrev pub so_far : Reader → ReportValue
so_far s = record {
  version = s.version;
  kind = s.header.kind;
  history = record {
    opening = record s.calls.history.opening { keys = s.opening.items };
    calls = s.calls.history.calls;
  };
  order = s.order.items;
  keys = s.keys.items;
}

-- Returns the section that the reader has reached, and the part of the report that the reader has read.
abbrev pub state : Reader → SoFar
state s = record { section = s.section; report = so_far s }

-- Holds if an allocation failed at a complete line other than `end`, and neither the line nor any earlier line has an
-- error.
abbrev pub IsFull : List (List ℕ) → Result SoFar LineFault → LineFault → Type 0
IsFull parts read e = (index : ℕ) × (e ≡ fault (first_line + index) Memory)
    × IsGoodLine first_line parts read (first_line + index) × (slice_index_or parts index [] ≢ last_line)

-- Holds if reading the lines after the header returned the result `read`, which the grammar defines, or if an
-- allocation failed.
abbrev pub GoesOn : {X : Type 0} → SoFar → Result X LineFault → List (List ℕ) → Result SoFar LineFault → Type 0
GoesOn s (Ok x) parts read = read ≡ Ok s
GoesOn s (Err e) parts read = (read ≡ Err e) ⊎ IsFull parts read e

-- Holds if reading `line` returned the result that the grammar defines for it, or if an allocation failed.
abbrev pub ReadsLine : {X : Type 0} → Reader → Reader → ℕ → List ℕ → Result X LineFault → Type 0
ReadsLine s t number line (Ok x) = step (state s) line ≡ Ok (state t)
ReadsLine s t number line (Err e) = ((cause : Cause) × (step (state s) line ≡ Err cause) × (e ≡ fault number cause))
    ⊎ ((l : Line) × (line_after s.section (so_far s) line ≡ Ok l) × (l ≢ End) × (e ≡ fault number Memory))
