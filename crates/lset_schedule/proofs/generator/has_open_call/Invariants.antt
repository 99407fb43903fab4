use Rattle.std.proofs.Common.{◌≡◌, ℕ, ◌<◌}
use Rattle.lset_steps.specs.Steps.{local_of}
use Rattle.lset_schedule.proofs.generator.has_open_call.Given as goal

abbrev pub invariant-loop-thread : goal.invariant-loop-thread
invariant-loop-thread g l = (t : ℕ) → t < l.thread → (local_of l.world.state t).pc ≡ 0
