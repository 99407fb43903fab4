use Rattle.std.proofs.Common.{◌≡◌, ap, arith, length, ◌∷◌, map}
use Rattle.std.proofs.lemmas.Grind.{common_steps}
use Rattle.std.specs.Vec.Iter.{into_iter_items}
use Rattle.lset_live.proofs.ListsHandedOn.{moved_more, all_rest, all_more}
use Rattle.lset_work.proofs.program_threads.Shared.start_all.Goals as goal

pub loop-seat-preserved : goal.loop-seat-preserved
loop-seat-preserved g c =
    let inv = c.loop-seat.invariant in
    let step = c.in-Some.ensures.steps.0 in
    let next : into_iter_items c.loop-seat.programs ≡ c.in-Some-next.program ∷ into_iter_items c.next-in-loop-seat.new.self =
    c.in-Some-next.ensures.items in
    let grown = c.in-Ok.ensures.items in
    let w = c.in_ok-worker.worker in
    let told = c.in_ok-worker.ensures in
    record {
      seats = moved_more _ c.loop-seat.workers.items _ w _ _ _ c.in-Some.seat grown told.2 step inv.seats;
      programs = moved_more _ c.loop-seat.workers.items _ w _ _ _ c.in-Some-next.program.calls.items grown
          (ap (λ v. v.items) told.3) (ap (map (λ p. p.calls.items)) next) inv.programs;
      same = omega (arith, inv.same, ap (λ l. length l) step, ap (λ l. length l) next);
      of = (all_rest _ _ c.in-Some.seat (λ s. s.set ≡ c.args.self.now.set.now) step inv.of).1;
      started = all_more c.loop-seat.workers.items _ w (λ x. x.promise.set.value ≡ c.args.self.now.set.now) grown inv.started told.0;
      gated = all_more c.loop-seat.workers.items _ w (λ x. x.promise.gate.value ≡ c.args.self.now.gate.now) grown inv.gated told.1;
      room = grind (arith, common_steps);
    }
