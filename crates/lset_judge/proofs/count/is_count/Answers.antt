use Rattle.std.proofs.Common.{length, ap, arith}
use Rattle.lset_words.proofs.Numbers.{lower_number}
use Rattle.lset_judge.proofs.CountOfKey.{is_count_if}
use Rattle.lset_judge.proofs.count.is_count.Goals as goal

pub returns-then-need_turns : goal.returns-then-need_turns
returns-then-need_turns c h =
    let few = lower_number c.len.result c.turns.result h in
    let turns = c.turns.ensures in
    let many = c.len.ensures in
    let same = ap length c.deref-counted.ensures.value in
    is_count_if c.args.calls.now c.args.there c.args.left c.args.count.now c.deref-counted.result.now c.deref-counted.ensures.value c.requires
    (c.all_known.ensures c.if-not-all_known.false) (c.all_begin.ensures c.if-not-all_begin.false) (c.all_end.ensures c.if-not-all_end.false)
    (c.opens_so.ensures c.if-not-opens_so.false) (c.left_otherwise.ensures c.if-not-left_otherwise.false) (c.need_turns.ensures c.if-need_turns.true)
    (omega (arith, few, turns, many, same))
