use Rattle.std.proofs.Common.{◌<◌, ◌≤◌, arith}
use Rattle.lset_words.specs.Words.{target}
use Rattle.lset_words.proofs.Numbers.{if_below, if_not_below}
use Rattle.lset_loops.proofs.StepsOfCall.{moved, to_curr}
use Rattle.lset_loops.proofs.coarse.walk.Goals as goal

pub returns-then-word-key : goal.returns-then-word-key
returns-then-word-key g c = let ge : target c.args.caller.now.origin.call ≤ c.load_key-word.result =
    omega (arith, c.args.caller.now.is_key) in (
      _,
      moved (c.load_key-word.ensures.leads _ c.loop-round.invariant.1) (if_not_below c.load_key-word.result (target c.args.caller.now.origin.call)
          ge _ _),
    )

pub loop-round-preserved : goal.loop-round-preserved
loop-round-preserved g c = let lt : c.load_key-word.result < target c.args.caller.now.origin.call = omega (arith, c.args.caller.now.is_key) in
    let at = moved (c.load_key-word.ensures.leads _ c.loop-round.invariant.1) (if_below c.load_key-word.result (target c.args.caller.now.origin.call)
    lt _ _) in
    (_, to_curr c.behind-curr-in-loop-round.ensures (c.load_link-link.ensures.leads _ at))
