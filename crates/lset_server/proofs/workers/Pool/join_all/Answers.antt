use Rattle.std.proofs.Common.{◌≡◌, ◌*◌, length, ap, refl, arith, rules}
use Rattle.crossbeam_channel.specs.Ends.{sends_on, receives_on}
use Rattle.std.specs.Vec.Iter.{into_iter_items}
use Rattle.lset_session.specs.declared.TheConstants.{MOST_LINES}
use Rattle.lset_live.proofs.ListsHandedOn.{all_rest, held_next}
use Rattle.lset_server.proofs.ServeLaws.{joined_none, joined_next, bound_none, bound_next, bound_next'}
use Rattle.lset_server.proofs.workers.Pool.join_all.Goals as goal

pub loop-worker-init : goal.loop-worker-init
loop-worker-init g c =
    let e : into_iter_items c.into_iter-worker-iterator.result ≡ c.args.workers.items =
    c.into_iter-worker-iterator.ensures.into_iter_gives.0 in
    let many = ap (λ l. length l) e in
    record {
      joined = joined_none _ _ _ _ e;
      held = rw e (omega arith);
      seat = search rules;
      owed = rw e c.requires.owed;
      pass = c.requires.pass.0;
      sessions = bound_none c.args.self.now.sessions _ _ many;
      calls = bound_none MOST_LINES _ _ (ap (λ n. c.args.self.now.sessions * n) many);
    }

pub loop-worker-preserved : goal.loop-worker-preserved
loop-worker-preserved g c =
    let inv = c.loop-worker.invariant in
    let step = c.in-Some.ensures.steps.0 in
    let h = c.in-Some.worker in
    let back = c.join-back.ensures in
    let (mine, others) = all_rest _ _ h
    (λ x. (receives_on x.promise.from.value ≡ sends_on c.args.self.now.to) × (x.promise.set.value ≡ c.args.self.now.set.now)
    × (x.promise.most ≡ c.args.self.now.sessions)) step inv.owed in
    let one = ap (λ l. length l) step in
    record {
      joined = joined_next _ _ _ _ h _ _ _ _ _ _ _ _ _ _ _ _ step inv.joined refl back.2 c.take_back.ensures.told
          c.gather_onto.ensures.record;
      held = held_next _ _ _ h _ _ _ _ step inv.held c.gather_onto.ensures.held back.2.held;
      seat = c.gather_onto.ensures.seat;
      owed = others;
      pass = c.take_back.ensures.channel;
      sessions = bound_next _ _ c.args.self.now.sessions _ _ _ inv.sessions (omega (arith, one)) (omega (arith, back.3, mine.2));
      calls = bound_next' _ _ c.args.self.now.sessions _ _ _ inv.calls (omega (arith, one)) (omega (arith, back.4, mine.2));
    }
