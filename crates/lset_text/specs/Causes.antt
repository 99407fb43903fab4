-- Errors in the lines of a file, and the names of their causes.
use Rattle.std.specs.Prelude.{ℕ, List, codes}
use Rattle.lset_text.specs.declared.causes.Cause.{Cause}
use Rattle.lset_text.specs.declared.causes.Cause.TheVariants as cause
use Rattle.lset_text.specs.declared.causes.LineFault.{LineFault}

abbrev pub fault : ℕ → Cause → LineFault
fault line cause = record { line = line; cause = cause }

-- Returns the error for a line that has bytes but no newline.
abbrev pub unended : ℕ → LineFault
unended line = fault line cause.NotEnded

abbrev pub name_of : Cause → List ℕ
name_of cause.Header = codes "Header"
name_of cause.Kind = codes "Kind"
name_of cause.Threads = codes "Threads"
name_of cause.Quota = codes "Quota"
name_of cause.Event = codes "Event"
name_of cause.Line = codes "Line"
name_of cause.Number = codes "Number"
name_of cause.TooMany = codes "TooMany"
name_of cause.Opening = codes "Opening"
name_of cause.History = codes "History"
name_of cause.NotEnded = codes "NotEnded"
name_of cause.NoThread = codes "NoThread"
name_of cause.Busy = codes "Busy"
name_of cause.Idle = codes "Idle"
name_of cause.Lost = codes "Lost"
name_of cause.Waits = codes "Waits"
name_of cause.Memory = codes "Memory"
