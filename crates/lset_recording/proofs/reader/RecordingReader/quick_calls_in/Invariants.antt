use Rattle.std.proofs.Common.{◌≡◌, ℕ, List, [], ◌++◌, length, true, false}
use Rattle.lset_recording.specs.Reading.{takes_calls}
use Rattle.lset_recording.specs.Kept.{IsRead}
use Rattle.lset_recording.proofs.reader.RecordingReader.quick_calls_in.Given as goal

-- Loop invariant: the reader has read some complete lines from the start of `piece`, and `rest` contains the remaining
-- bytes of `piece`.
abbrev pub invariant-loop-call : goal.invariant-loop-call
invariant-loop-call l =
    (done : List ℕ) × (l.piece ≡ done ++ l.rest)
    × ((bytes : List ℕ) → IsRead bytes l.fn.self → IsRead (bytes ++ done) l.self × (takes_calls l.self.judging.section ≡ true))
    × (l.self.line.items ≡ []) × (l.self.is_long ≡ false)

abbrev pub decreases-loop-call : goal.decreases-loop-call
decreases-loop-call l = length l.rest
