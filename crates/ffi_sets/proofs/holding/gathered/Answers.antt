use Rattle.std.proofs.Common.{◌≡◌, length, refl, ap, arith}
use Rattle.std.specs.Vec.Iter.{into_iter_items}
use Rattle.lset_live.proofs.ListsHandedOn.{all_rest}
use Rattle.ffi_sets.proofs.holding.gathered.Goals as goal

pub loop-other-init : goal.loop-other-init
loop-other-init g c =
    let e : into_iter_items c.into_iter-other-iterator.result ≡ c.args.spare.items =
    c.into_iter-other-iterator.ensures.into_iter_gives.0 in
    record {
      into = c.requires.seat;
      spare = rw e c.requires.spare;
      held = rw e refl;
    }

pub gather-requires-clause-from : goal.gather-requires-clause-from
gather-requires-clause-from g c =
    (all_rest _ _ c.in-Some.other (λ s. (s.set ≡ c.args.set.now) × (s.held ≡ 1)) c.in-Some.ensures.steps.0 c.loop-other.invariant.spare).0.0

pub loop-other-preserved : goal.loop-other-preserved
loop-other-preserved g c =
    let step = c.in-Some.ensures.steps.0 in
    let all = all_rest _ _ c.in-Some.other (λ s. (s.set ≡ c.args.set.now) × (s.held ≡ 1)) step c.loop-other.invariant.spare in
    let one = all.0.1 in
    let more = c.gather.ensures.held in
    let before = c.loop-other.invariant.held in
    let len = ap length step in
    record {
      into = c.gather.ensures.seat;
      spare = all.1;
      held = omega arith;
    }
