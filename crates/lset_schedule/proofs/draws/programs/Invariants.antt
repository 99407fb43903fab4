use Rattle.std.proofs.Common.{◌≡◌, map}
use Rattle.std.specs.List.{range_with_len}
use Rattle.lset_schedule.specs.Draws.{program_of}
use Rattle.lset_schedule.proofs.draws.programs.Given as goal

abbrev pub invariant-loop-thread : goal.invariant-loop-thread
invariant-loop-thread l =
    map (λ p. p.items) l.all.items ≡ map (program_of l.calls l.keys l.seed) (range_with_len 0 l.thread)
