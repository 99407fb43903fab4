use Rattle.std.proofs.Common.{◌≡◌, length, ap, ◌∙◌, [], ◌∷◌, length-append}
use Rattle.crossbeam_channel.specs.Ends.{sends_on, receives_on}
use Rattle.crossbeam_channel.specs.Claims.{view}
use Rattle.lset_live.proofs.ListsHandedOn.{all_more, all_rest, moved_more}
use Rattle.lset_server.proofs.ServeLaws.{part_more}
use Rattle.lset_server.proofs.workers.Pool.start_all.Goals as goal

pub loop-seat-preserved : goal.loop-seat-preserved
loop-seat-preserved g c =
    let inv = c.loop-seat.invariant in
    let step = c.in-Some.ensures.steps.0 in
    let grown = c.in-Ok-push.ensures.items in
    let h = c.in-Some-start.worker in
    let told = c.in-Some-start.ensures in
    record {
      seats = moved_more _ c.loop-seat.workers.items _ h _ _ _ c.in-Some.seat grown told.seat step inv.seats;
      of = (all_rest _ _ c.in-Some.seat (λ s. s.set ≡ c.args.self.now.set.now) step inv.of).1;
      owed = all_more c.loop-seat.workers.items _ h
          (λ x. (receives_on x.promise.from.value ≡ sends_on c.args.self.now.to) × (x.promise.set.value ≡ c.args.self.now.set.now)
          × (x.promise.most ≡ c.args.self.now.sessions))
          grown inv.owed (told.owed.0 ∙ c.requires.pass.1, told.owed.1, told.owed.2);
      pass = c.cut_part-part.ensures.channel.0;
      view = part_more (view c.args.pass.now) _ _ (length c.loop-seat.workers.items) _ inv.view c.cut_part-part.ensures.told.0
          (ap (λ l. length l) grown ∙ length-append c.loop-seat.workers.items (h ∷ []));
    }
