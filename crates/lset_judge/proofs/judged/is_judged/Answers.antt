use Rattle.lset_judge.specs.Verdict.{IsJudged}
use Rattle.lset_judge.proofs.judged.is_judged.Goals as goal

pub returns-then-is_plain : goal.returns-then-is_plain
returns-then-is_plain c = (
  λ has. record { plain = c.is_plain.ensures.0 c.if-is_plain.true; room = c.has_room.ensures.0 has },
  λ (j : IsJudged c.args.history.now). c.has_room.ensures.1 j.room,
)
