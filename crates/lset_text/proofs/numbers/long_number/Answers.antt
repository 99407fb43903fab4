use Rattle.std.proofs.Common.{◌+◌, ◌∙◌, ap, arith, subst, sym}
use Rattle.std.specs.Str.Parse.{digits_value, AllDigits}
use Rattle.std.proofs.lemmas.List.{take_all}
use Rattle.lset_text.proofs.NumberLaws.{not_a_digit, too_high, is_spelled, value_more, digit_more}
use Rattle.lset_text.proofs.numbers.long_number.Goals as goal
use Rattle.lset_text.proofs.numbers.long_number.Goals.{then-piece-gt1, else-piece-gt1}

pub returns-then-not-is_ascii_digit-clause-value : goal.returns-then-not-is_ascii_digit-clause-value
returns-then-not-is_ascii_digit-clause-value c =
    let other = sym c.is_ascii_digit.ensures.value ∙ c.if-not-is_ascii_digit.true in
    not_a_digit c.args.low c.args.high c.args.piece.now c.loop-b.b-index c.loop-b-test.true other

pub returns-then-value-last-clause-value : goal.returns-then-value-last-clause-value
returns-then-value-last-clause-value c =
    let digit = sym c.is_ascii_digit.ensures.value ∙ c.if-not-is_ascii_digit.false in
    let more = value_more c.args.piece.now c.loop-b.b-index c.loop-b.value c.loop-b-test.true digit c.loop-b.invariant.value in
    too_high c.args.low c.args.high c.args.piece.now (c.loop-b.b-index + 1) (omega (arith, more, c.if-value-last.true))

pub returns-then-digit-high-clause-value : goal.returns-then-digit-high-clause-value
returns-then-digit-high-clause-value c =
    let digit = sym c.is_ascii_digit.ensures.value ∙ c.if-not-is_ascii_digit.false in
    let more = value_more c.args.piece.now c.loop-b.b-index c.loop-b.value c.loop-b-test.true digit c.loop-b.invariant.value in
    too_high c.args.low c.args.high c.args.piece.now (c.loop-b.b-index + 1)
    (omega (arith, more, c.if-digit-high.true, c.from-digit.ensures))

pub loop-b-preserved : goal.loop-b-preserved
loop-b-preserved c =
    let digit = sym c.is_ascii_digit.ensures.value ∙ c.if-not-is_ascii_digit.false in
    let more = value_more c.args.piece.now c.loop-b.b-index c.loop-b.value c.loop-b-test.true digit c.loop-b.invariant.value in
    record {
      value = omega (arith, more, c.from-digit.ensures);
      digits = digit_more c.args.piece.now c.loop-b.b-index c.loop-b-test.true digit c.loop-b.invariant.digits;
      small = omega (arith, c.if-digit-high.false);
    }

pub returns-clause-value : goal.returns-clause-value
returns-clause-value c =
    let whole = take_all c.loop-b.b-index c.args.piece.now c.loop-b-test.false in
    is_spelled c.args.low c.args.high c.args.piece.now c.loop-b.value
    (c.loop-b.invariant.value ∙ ap (digits_value 10) whole)
    (grind arith)
    (subst (AllDigits 10) whole c.loop-b.invariant.digits)
    (λ many zero. elim c.if-piece-gt1.branch [ then-piece-gt1 w ↦ grind arith | else-piece-gt1 w ↦ grind arith ])
    (omega (arith, c.if-value-low.false))
    c.loop-b.invariant.small
