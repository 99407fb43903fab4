use Rattle.std.proofs.Common.{◌≡◌, ◌++◌, ℕ, List, length, false}
use Rattle.std.specs.Io.KnownBytes.{Appends}
use Rattle.lset_session.proofs.devices.write_all.Given as goal

abbrev pub invariant-loop-rest : goal.invariant-loop-rest
invariant-loop-rest g l =
    ((done : List ℕ) × (l.text ≡ done ++ l.rest) × Appends (g.W.Sink.written l.initial.sink) (g.W.Sink.written l.sink) done)
    × (g.W.Sink.has_failed l.sink ≡ false)

abbrev pub decreases-loop-rest : goal.decreases-loop-rest
decreases-loop-rest g l = length l.rest
