-- The event lines of a draft. A draft is a schedule with one addition: a line can state where a thread stops.
use Rattle.std.specs.Prelude.{◌≡◌, ℕ, false, List, [], ◌∷◌, map, codes, Result}
use Rattle.lset_text.specs.declared.words.Version.{Version}
use Rattle.lset_text.specs.declared.causes.Cause.{Cause}
use Rattle.lset_text.specs.declared.causes.Cause.TheVariants.{Event}
use Rattle.lset_text.specs.Forms.{word, number, any, have_form}
use Rattle.lset_text.specs.Kinds.{LineKind, kind_as, first_of}
use Rattle.lset_schedule.specs.Plan.{event_count}
use Rattle.lset_schedule.specs.ScheduleReading.{EventLines, events}
use Rattle.tool_replay.specs.declared.draft.TheConstants.{MOST_ROW}
use Rattle.tool_replay.specs.declared.draft.DraftLine.{DraftLine}
use Rattle.tool_replay.specs.declared.draft.DraftLine.TheVariants.{Plain, Out, To}

abbrev pub out_kind : LineKind DraftLine
out_kind = (word (codes "go") ∷ any ∷ word (codes "out") ∷ [], λ t. Out t.1.0)

abbrev pub to_kind : LineKind DraftLine
to_kind = (word (codes "go") ∷ any ∷ word (codes "to") ∷ number 1 MOST_ROW ∷ [], λ t. To t.1.0 t.1.1.1.0)

-- Returns the smallest number of events that can result when a line of a draft is expanded into a line of a schedule.
abbrev pub smallest_count : DraftLine → ℕ
smallest_count (Plain line) = event_count line
smallest_count (Out thread) = 1
smallest_count (To thread row) = 1

abbrev pub drafts : EventLines DraftLine
drafts = record { kinds = out_kind ∷ to_kind ∷ map (kind_as Plain) events.kinds; count = smallest_count }

-- Holds if a line with the fields `fields` has neither the form `go T out` nor the form `go T to ROW`. Only these two
-- forms state where a thread stops.
abbrev pub IsPlain : List (List ℕ) → Type 0
IsPlain fields = (v : Version) → (have_form v out_kind.0 fields ≡ false) × (have_form v to_kind.0 fields ≡ false)

-- Holds if `read` is the result of reading a draft's line with the fields `fields`, whatever the version of the format.
abbrev pub Stops : List (List ℕ) → Result DraftLine Cause → Type 0
Stops fields read = (v : Version) → first_of v Event drafts.kinds fields ≡ read
