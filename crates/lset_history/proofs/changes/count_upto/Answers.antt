use Rattle.std.proofs.Common.{◌≡◌, ◌+◌, ◌-◌, ◌/◌, ◌^◌, ◌<◌, ◌≤◌, length, get_or, subst, arith, rules}
use Rattle.lset_history.proofs.MomentSearch.{halved, half_needed, no_look_left, below_increases}
use Rattle.lset_history.proofs.changes.count_upto.Goals as goal
use Rattle.lset_history.proofs.changes.count_upto.Goals.{then-moments-middle, else-moments-middle}

pub overflow_add-looked : goal.overflow_add-looked
overflow_add-looked c =
    let a : c.loop-low.looked ≤ 64 = (c.loop-low.invariant.looked 64 (omega arith) (search rules)).0 in
    omega arith

pub loop-low-preserved : goal.loop-low-preserved
loop-low-preserved c =
    let low : c.loop-low.low < c.loop-low.high = c.loop-low-test.true in
    let inside : c.loop-low.high ≤ length c.args.moments.now = c.loop-low.invariant.inside in
    elim c.if-moments-middle.branch [
      | then-moments-middle w ↦ (
          let middle : c.if-moments-middle.low ≡ c.loop-low.low + (c.loop-low.high - c.loop-low.low) / 2 + 1 = w.low-is in
          let top : c.if-moments-middle.high ≡ c.loop-low.high = w.high-is in
          let test : get_or c.args.moments.now (c.loop-low.low + (c.loop-low.high - c.loop-low.low) / 2) 0 ≤ c.args.at = search rules in
          record {
            inside = omega arith;
            ordered = omega arith;
            upto = grind (arith, below_increases);
            past = λ i l m. c.loop-low.invariant.past i (omega arith) m;
            looked = λ b l m. let old = c.loop-low.invariant.looked b l m in
                let few : c.loop-low.looked ≤ b = old.0 in
                let h = halved (b - c.loop-low.looked) c.loop-low.low c.loop-low.high c.if-moments-middle.low
                c.if-moments-middle.high old.1 low (omega arith) in grind arith;
            needed = λ b m. subst (λ z. 2 ^ z ≤ c.if-moments-middle.high - c.if-moments-middle.low + 1)
                (let e : b - c.loop-low.looked - 1 ≡ b - (c.loop-low.looked + 1) = omega arith in e)
                (half_needed (b - c.loop-low.looked) c.loop-low.low c.loop-low.high c.if-moments-middle.low
                c.if-moments-middle.high (c.loop-low.invariant.needed b m) (omega arith));
          })
      | else-moments-middle w ↦ (
          let middle : c.if-moments-middle.low ≡ c.loop-low.low = w.low-is in
          let top : c.if-moments-middle.high ≡ c.loop-low.low + (c.loop-low.high - c.loop-low.low) / 2 = w.high-is in
          let test : c.args.at < get_or c.args.moments.now (c.loop-low.low + (c.loop-low.high - c.loop-low.low) / 2) 0 = search rules in
          record {
            inside = omega arith;
            ordered = omega arith;
            upto = λ i l. c.loop-low.invariant.upto i (omega arith);
            past = grind (arith, below_increases);
            looked = λ b l m. let old = c.loop-low.invariant.looked b l m in
                let few : c.loop-low.looked ≤ b = old.0 in
                let h = halved (b - c.loop-low.looked) c.loop-low.low c.loop-low.high c.if-moments-middle.low
                c.if-moments-middle.high old.1 low (omega arith) in grind arith;
            needed = λ b m. subst (λ z. 2 ^ z ≤ c.if-moments-middle.high - c.if-moments-middle.low + 1)
                (let e : b - c.loop-low.looked - 1 ≡ b - (c.loop-low.looked + 1) = omega arith in e)
                (half_needed (b - c.loop-low.looked) c.loop-low.low c.loop-low.high c.if-moments-middle.low
                c.if-moments-middle.high (c.loop-low.invariant.needed b m) (omega arith));
          })
    ]

pub returns-clause-needed : goal.returns-clause-needed
returns-clause-needed c = grind (arith, no_look_left)
