use Rattle.std.proofs.Common.{◌<◌, ◌^◌, length, refl}
use Rattle.lset_live.proofs.ListsHandedOn.{moved_more, all_rest}
use Rattle.lset_work.proofs.room.with_room.Goals as goal

pub loop-calls-preserved : goal.loop-calls-preserved
loop-calls-preserved c =
    let inv = c.loop-calls.invariant in
    let step = c.in-Some.ensures.steps.0 in
    record {
      programs = moved_more _ c.loop-calls.all.items _ _ _ _ _ c.in-Some.calls c.in-Ok.ensures.items refl step inv.programs;
      short = (all_rest _ _ c.in-Some.calls (λ p. length p.items < 2 ^ 32) step inv.short).1;
    }
