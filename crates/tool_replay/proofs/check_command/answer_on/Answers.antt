use Rattle.std.proofs.Common.{Some, sym, refl}
use Rattle.tool_replay.proofs.check_command.answer_on.Goals as goal

-- Lemma: `check_order` returns the first error of the order, and the printed line names that error.
pub returns-in_ok-refusal_text-in-Err-clause-judged :
    goal.returns-in_ok-refusal_text-in-Err-clause-judged
returns-in_ok-refusal_text-in-Err-clause-judged c =
    let order = c.deref.ensures.value in
    let keys = c.deref-2.ensures.value in
    let of_the_order = c.in_ok-refusal_text-in-Err.ensures.of_the_order in (
      Some c.in-Err.fault,
      record {
        first_fault = rw (sym order) (rw (sym keys) c.in-Err.ensures.first_fault);
        of_the_order = of_the_order;
        not_explained = λ explains. c.in-Err.ensures.not_explained of_the_order (rw order (rw keys explains));
      },
      rw c.in_ok-refusal_text-in-Err.ensures.line refl,
    )
