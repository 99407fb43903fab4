use Rattle.std.proofs.Common.{◌≢◌, ◌/◌, ◌<◌, ◌≤◌, None, sym, ap, ◌∙◌, arith}
use Rattle.lset_words.proofs.Numbers.{if_below, if_not_below, if_same, if_other}
use Rattle.lset_loops.specs.Calling.{row}
use Rattle.lset_loops.proofs.StepsOfCall.{moved}
use Rattle.lset_loops.proofs.optimistic.reaches.Goals as goal

pub returns-then-pred-eq-HEAD : goal.returns-then-pred-eq-HEAD
returns-then-pred-eq-HEAD g c = (
  record c.requires.0 { node = 0; pkey = c.args.stopped.before },
  moved c.requires.1 (if_same c.args.stopped.found.pred.number 0 c.if-pred-eq-HEAD.true _ _),
)

pub returns-then-word-before : goal.returns-then-word-before
returns-then-word-before g c = let at = c.load_key-word.ensures.leads _ (c.load_link-link.ensures.leads _ c.loop-round.invariant.1) in
    let lt : c.args.stopped.before < c.load_key-word.result = omega arith in
    (_, moved at (if_below c.args.stopped.before c.load_key-word.result lt _ _))

pub returns-then-node-pred : goal.returns-then-node-pred
returns-then-node-pred g c =
    let at = c.load_key-word.ensures.leads _ (c.load_link-link.ensures.leads _ c.loop-round.invariant.1) in
    let low : c.load_key-word.result ≤ c.args.stopped.before = omega arith in
    let at' = moved at (if_not_below _ _ low _ _) in (
      record c.loop-round.invariant.0 { node = c.load_link-link.result / 2; pkey = c.args.stopped.before },
      moved at' (if_same (c.load_link-link.result / 2) _ (sym c.behind-node.ensures ∙ c.if-node-pred.true) _ _),
    )

pub loop-round-preserved : goal.loop-round-preserved
loop-round-preserved g c =
    let at = c.load_key-word.ensures.leads _ (c.load_link-link.ensures.leads _ c.loop-round.invariant.1) in
    let low : c.load_key-word.result ≤ c.args.stopped.before = omega arith in
    let at' = moved at (if_not_below c.args.stopped.before c.load_key-word.result low _ _) in
    let ne : c.load_link-link.result / 2 ≢ c.args.stopped.found.pred.number =
    λ e. c.if-node-pred.false (c.behind-node.ensures ∙ e) in
    let at6 = moved at' (if_other (c.load_link-link.result / 2) c.args.stopped.found.pred.number ne _ _) in (
      c.loop-round.invariant.0,
      moved at6 (ap (λ n. row c.args.caller.now.slots c.args.caller.now.origin.call 6 None
          c.args.stopped.found.pred.number c.args.stopped.found.curr.number
          (record c.loop-round.invariant.0 { pkey = c.args.stopped.before; ckey = c.args.stopped.found.word; node = n }))
          (sym c.behind-node.ensures)),
    )
