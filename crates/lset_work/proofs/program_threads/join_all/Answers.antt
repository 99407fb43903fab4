use Rattle.std.proofs.Common.{◌≡◌, arith, rules}
use Rattle.std.proofs.lemmas.Grind.{common_steps}
use Rattle.std.specs.Vec.Iter.{into_iter_items}
use Rattle.lset_work.specs.Programs.{IsMadeOn}
use Rattle.lset_live.proofs.ListsHandedOn.{all_rest}
use Rattle.lset_work.proofs.ProgramLaws.{none_yet, one_more}
use Rattle.lset_work.proofs.program_threads.join_all.Goals as goal

pub loop-worker-init : goal.loop-worker-init
loop-worker-init g c =
    let e : into_iter_items c.into_iter-worker-iterator.result ≡ c.args.workers.items =
    c.into_iter-worker-iterator.ensures.into_iter_gives.0 in
    record {
      so_far = none_yet _ _ _ _ _ _ _ e c.requires.room.0;
      started = rw e c.requires.set;
      gated = rw e c.requires.gate;
      room = rw (e, c.requires.room.0) (omega (arith, c.requires.room.1));
    }

pub loop-worker-preserved : goal.loop-worker-preserved
loop-worker-preserved g c =
    let inv = c.loop-worker.invariant in
    let step = c.in-Some.ensures.steps.0 in
    let w = c.in-Some.worker in
    let back = c.join-done.ensures in
    let told = c.gather_onto.ensures in
    let made : IsMadeOn w.promise.seat.value.past w.promise.program.value.items c.in_ok-done.field-0.items
    c.join-done.result.seat.past = search rules in
    record {
      so_far = one_more _ _ _ _ _ _ _ w c.loop-worker.seat c.loop-worker.replies.items _ c.in_ok-done.field-0
          c.join-done.result.seat _ step c.in-Ok.ensures.items inv.so_far made back.1 told.record told.held told.seat back.3
          told.events.0 told.events.1;
      started = (all_rest _ _ w (λ x. x.promise.set.value ≡ c.args.set.now) step inv.started).1;
      gated = (all_rest _ _ w (λ x. x.promise.gate.value ≡ c.args.gate.now) step inv.gated).1;
      room = grind (arith, common_steps);
    }
