use Rattle.std.proofs.Common.{◌≡◌, ℕ, List, ◌++◌, length}
use Rattle.lset_recording.specs.Kept.{IsRead}
use Rattle.lset_recording.proofs.reader.RecordingReader.bytes_in.Given as goal

-- Loop invariant: the reader has read some bytes from the start of `piece`, and `rest` contains the remaining bytes of
-- `piece`.
abbrev pub invariant-loop-line : goal.invariant-loop-line
invariant-loop-line l =
    (done : List ℕ) × (l.piece ≡ done ++ l.rest) × ((bytes : List ℕ) → IsRead bytes l.fn.self → IsRead (bytes ++ done) l.self)

abbrev pub decreases-loop-line : goal.decreases-loop-line
decreases-loop-line l = length l.rest
