use Rattle.std.proofs.Common.{◌<◌, ◌≤◌, refl, arith}
use Rattle.lset_words.specs.Words.{target}
use Rattle.lset_words.proofs.Numbers.{if_below, if_not_below}
use Rattle.lset_loops.proofs.StepsOfCall.{moved, step, to_curr}
use Rattle.lset_loops.proofs.lazy.walk.Goals as goal

pub returns-then-word-key : goal.returns-then-word-key
returns-then-word-key g c = let ge : target c.args.caller.now.origin.call ≤ c.load_key-word.result =
    omega (arith, c.args.caller.now.is_key) in (
      c.loop-round.invariant.0,
      moved (c.load_key-word.ensures.leads _ c.loop-round.invariant.1)
          (if_not_below c.load_key-word.result (target c.args.caller.now.origin.call) ge _ _),
    )

pub loop-round-preserved : goal.loop-round-preserved
loop-round-preserved g c = let lt : c.load_key-word.result < target c.args.caller.now.origin.call = omega (arith, c.args.caller.now.is_key) in
    let at = moved (c.load_key-word.ensures.leads _ c.loop-round.invariant.1) (if_below c.load_key-word.result (target c.args.caller.now.origin.call)
    lt _ _) in
    (_, to_curr c.behind-curr.ensures (c.load_link-link.ensures.leads _ at))

pub load_link-link-requires : goal.load_link-link-requires
load_link-link-requires g c = let lt : c.load_key-word.result < target c.args.caller.now.origin.call =
    omega (arith, c.args.caller.now.is_key) in
    let at = moved (c.load_key-word.ensures.leads _ c.loop-round.invariant.1) (if_below c.load_key-word.result (target c.args.caller.now.origin.call)
    lt _ _) in
    step at refl (λ n. refl)
