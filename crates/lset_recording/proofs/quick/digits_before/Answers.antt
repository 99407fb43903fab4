use Rattle.std.proofs.Common.{◌<◌, ◌≤◌, min, length, get_or, sym, ◌∙◌, arith}
use Rattle.lset_recording.proofs.NumbersBefore.{no_digits, one_more_digit, digit_few, small_before, small_number, is_within, number_at_space}
use Rattle.lset_recording.proofs.quick.digits_before.Goals as goal
use Rattle.lset_recording.proofs.quick.digits_before.Goals.{else-text-le48-via-then-text-le48+else-i-ne1, else-text-le48-via-else-text-le48}

pub loop-i-init : goal.loop-i-init
loop-i-init c = (omega arith, no_digits c.args.text.now)

pub overflow_mul-value : goal.overflow_mul-value
overflow_mul-value c =
    let less = c.loop-i-test.true in
    let most = c.min-most.ensures in
    let low : c.loop-i.i < min (length c.args.text.now) 19 = omega (arith, less, most) in
    let small = small_before c.args.text.now c.loop-i.i c.loop-i.value low c.loop-i.invariant.1 in
    omega (arith, small)

pub overflow_add-value : goal.overflow_add-value
overflow_add-value c =
    let less = c.loop-i-test.true in
    let most = c.min-most.ensures in
    let low : c.loop-i.i < min (length c.args.text.now) 19 = omega (arith, less, most) in
    let small = small_before c.args.text.now c.loop-i.i c.loop-i.value low c.loop-i.invariant.1 in
    let few = digit_few (get_or c.args.text.now c.loop-i.i 0) (sym c.is_ascii_digit.ensures.value ∙ c.if-is_ascii_digit.true) in
    let digit = c.from.ensures in
    omega (arith, small, few, digit)

pub loop-i-preserved : goal.loop-i-preserved
loop-i-preserved c =
    let less = c.loop-i-test.true in
    let most = c.min-most.ensures in (
      omega (arith, less),
      one_more_digit c.args.text.now c.loop-i.i c.loop-i.value c.from.result (omega (arith, less, most))
          (sym c.is_ascii_digit.ensures.value ∙ c.if-is_ascii_digit.true) c.from.ensures c.loop-i.invariant.1,
    )

pub bounds-text-i-else-i-text : goal.bounds-text-i-else-i-text
bounds-text-i-else-i-text c =
    let low = c.loop-i.invariant.0 in
    let most = c.min-most.ensures in
    is_within c.loop-i.i (length c.args.text.now) (omega (arith, low, most)) c.if-i-text.false

pub returns : goal.returns
returns c =
    let low = c.loop-i.invariant.0 in
    let most = c.min-most.ensures in
    let within : c.loop-i.i ≤ min (length c.args.text.now) 19 = omega (arith, low, most) in
    number_at_space c.args.text.now c.loop-i.i c.loop-i.value (is_within c.loop-i.i (length c.args.text.now) within c.if-i-text.false)
    c.if-text-i-ne32.false
    (λ other. elim c.else-text-le48.branch [
      | else-text-le48-via-then-text-le48+else-i-ne1 w ↦ absurd (other w.if-i-ne1.false)
      | else-text-le48-via-else-text-le48 w ↦ (let above = w.if-text-le48.false in omega (arith, above))
    ])
    (small_number c.args.text.now c.loop-i.i c.loop-i.value within c.loop-i.invariant.1) c.loop-i.invariant.1
