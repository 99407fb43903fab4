use Rattle.std.proofs.Common.{◌-◌, List}
use Rattle.lset_schedule.specs.declared.TheConstants.{MOST_TURNS}
use Rattle.lset_schedule.specs.declared.value.Line.{Line}
use Rattle.lset_schedule.specs.Drawing.{before_turns, AreDrawn}
use Rattle.lset_schedule.proofs.Drafts.{IsDraft}
use Rattle.lset_schedule.proofs.generator.generated_lines.Given as goal

abbrev pub invariant-loop : goal.invariant-loop
invariant-loop g l = record {
  draft : IsDraft g.M.Machine.table l.fn.layout.threads l.fn.layout.quota l.calls l.keys l.counter l.left l.lines.items l.world;
  drawn : (lines : List Line) → AreDrawn g.M.Machine.table l.fn.layout.threads l.keys (MOST_TURNS - l.counter)
      (record { state = l.world.state; left = l.left; lines = l.lines.items; answers = g.R.Rng.stream l.rng }) lines
      → AreDrawn g.M.Machine.table l.fn.layout.threads l.keys MOST_TURNS
      (before_turns l.fn.layout.threads l.fn.layout.quota l.calls (g.R.Rng.stream l.initial.rng)) lines;
}
