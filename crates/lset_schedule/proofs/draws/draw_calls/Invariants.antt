use Rattle.std.proofs.Common.{◌≡◌, ◌-◌}
use Rattle.lset_schedule.specs.Draws.{drawn_calls}
use Rattle.lset_schedule.proofs.DrawLaws.{with_others}
use Rattle.lset_schedule.proofs.draws.draw_calls.Given as goal

abbrev pub invariant-loop : goal.invariant-loop
invariant-loop g l = with_others l.keys (l.calls - l.counter) l.drawn.items (g.R.Rng.stream l.rng)
    ≡ drawn_calls l.keys l.calls (g.R.Rng.stream l.initial.rng)
