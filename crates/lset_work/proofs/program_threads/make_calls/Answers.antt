use Rattle.std.proofs.Common.{◌∙◌, ap, arith, length, [], ◌∷◌, length-append}
use Rattle.std.proofs.lemmas.Grind.{common_steps}
use Rattle.lset_live.proofs.Receipts.{answered_on, starts_on}
use Rattle.lset_work.proofs.ProgramLaws.{call_at}
use Rattle.lset_work.proofs.program_threads.make_calls.Goals as goal

pub loop-number-preserved : goal.loop-number-preserved
loop-number-preserved g c =
    let inv = c.loop-number.invariant in
    let items = c.args.calls.now in
    let told = c.call-reply.ensures in
    record {
      set = told.of_set;
      held = told.held ∙ inv.held;
      later = starts_on _ c.loop-number.seat.events _ (answered_on _ _ _ _ _ _ _ told.answered) inv.later;
      each = omega (
        arith,
        inv.each,
        ap (λ l. length l) c.in-Ok.ensures.items,
        length-append c.loop-number.replies.items (c.call-reply.result ∷ []),
      );
      room = grind (arith, common_steps);
      made = call_at _ _ _ items c.loop-number.replies.items _ c.loop-number.number _ _ c.loop-number-test.true inv.each
          c.in-Ok.ensures.items inv.made told.past;
    }
