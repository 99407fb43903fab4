use Rattle.std.proofs.Common.{◌+◌, ◌∙◌, ap, arith, subst, sym}
use Rattle.std.specs.Str.Parse.{digits_value, AllDigits}
use Rattle.std.proofs.lemmas.List.{take_all}
use Rattle.lset_text.proofs.NumberLaws.{not_a_digit, too_high, is_spelled, value_more, digit_more}
use Rattle.lset_text.proofs.numbers.number.Goals as goal
use Rattle.lset_text.proofs.numbers.number.Goals.{then-piece-gt1, else-piece-gt1}

pub returns-then-not-is_ascii_digit : goal.returns-then-not-is_ascii_digit
returns-then-not-is_ascii_digit c =
    let other = sym c.is_ascii_digit.ensures.value ∙ c.if-not-is_ascii_digit.true in
    not_a_digit c.args.low c.args.high c.args.piece.now c.loop-b.b-index c.loop-b-test.true other

pub returns-then-value-from : goal.returns-then-value-from
returns-then-value-from c =
    let digit = sym c.is_ascii_digit.ensures.value ∙ c.if-not-is_ascii_digit.false in
    let more = value_more c.args.piece.now c.loop-b.b-index c.loop-b.value c.loop-b-test.true digit c.loop-b.invariant.value in
    too_high c.args.low c.args.high c.args.piece.now (c.loop-b.b-index + 1)
    (omega (arith, more, c.if-value-from.true, c.from-in-loop-b.ensures, c.from.ensures))

pub loop-b-preserved : goal.loop-b-preserved
loop-b-preserved c =
    let digit = sym c.is_ascii_digit.ensures.value ∙ c.if-not-is_ascii_digit.false in
    let more = value_more c.args.piece.now c.loop-b.b-index c.loop-b.value c.loop-b-test.true digit c.loop-b.invariant.value in
    record {
      value = omega (arith, more, c.from.ensures);
      digits = digit_more c.args.piece.now c.loop-b.b-index c.loop-b-test.true digit c.loop-b.invariant.digits;
      small = omega (arith, c.if-value-from.false, c.from-in-loop-b.ensures);
    }

pub returns : goal.returns
returns c =
    let whole = take_all c.loop-b.b-index c.args.piece.now c.loop-b-test.false in
    is_spelled c.args.low c.args.high c.args.piece.now c.loop-b.value
    (c.loop-b.invariant.value ∙ ap (digits_value 10) whole)
    (grind arith)
    (subst (AllDigits 10) whole c.loop-b.invariant.digits)
    (λ many zero. elim c.if-piece-gt1.branch [ then-piece-gt1 w ↦ grind arith | else-piece-gt1 w ↦ grind arith ])
    (omega (arith, c.if-value-from-2.false, c.from-2.ensures))
    c.loop-b.invariant.small
