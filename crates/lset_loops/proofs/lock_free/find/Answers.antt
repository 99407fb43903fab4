use Rattle.std.proofs.Common.{◌*◌, ◌/◌, ◌%◌, ◌<◌, ◌≤◌, refl, ap, ◌∙◌, arith}
use Rattle.lset_words.specs.Words.{target, link_index}
use Rattle.lset_words.proofs.Numbers.{if_below, if_not_below, if_same, if_other}
use Rattle.lset_steps.specs.declared.Action.TheVariants.{Load, Exchange}
use Rattle.lset_steps.specs.declared.Fed.{Fed}
use Rattle.lset_loops.proofs.StepsOfCall.{asks, moved, step, to_curr, to_pred}
use Rattle.lset_loops.proofs.lock_free.find.Goals as goal

pub exchange-requires : goal.exchange-requires
exchange-requires g c = let at = moved (c.load_link-link.ensures.leads _ c.loop-round.invariant.1)
    (ap (λ (f : Fed). f.local) (if_other (c.load_link-link.result % 2) 0 c.if-link-ne0.true _ _)) in
    asks at (ap (λ n. Exchange (link_index c.loop-round.pred.number) (2 * c.loop-round.curr.number) (2 * n)) c.behind-succ.ensures)

pub loop-round-preserved-then-exchange : goal.loop-round-preserved-then-exchange
loop-round-preserved-then-exchange g c = let at = moved (c.load_link-link.ensures.leads _ c.loop-round.invariant.1)
    (ap (λ (f : Fed). f.local) (if_other (c.load_link-link.result % 2) 0 c.if-link-ne0.true _ _)) in
    let made = rw c.if-exchange.true at c.exchange.ensures in
    let on = made _ at _ (if_same (2 * c.loop-round.curr.number) (2 * c.loop-round.curr.number) refl _ _) in
    (_, to_curr c.behind-succ.ensures on)

pub load_link-requires : goal.load_link-requires
load_link-requires g c = let at = moved (c.load_link-link.ensures.leads _ c.loop-round.invariant.1)
    (ap (λ (f : Fed). f.local) (if_other (c.load_link-link.result % 2) 0 c.if-link-ne0.true _ _)) in
    let lost = rw c.if-exchange.false at c.exchange.ensures in
    step (lost.2 _ at _ (if_other lost.0 (2 * c.loop-round.curr.number) lost.1 _ _)) (ap (λ n. Load (link_index n)) c.head-pred-then-link-ne0.ensures) (λ n. refl)

pub loop-round-preserved-then-link-ne0 : goal.loop-round-preserved-then-link-ne0
loop-round-preserved-then-link-ne0 g c = let at = moved (c.load_link-link.ensures.leads _ c.loop-round.invariant.1)
    (ap (λ (f : Fed). f.local) (if_other (c.load_link-link.result % 2) 0 c.if-link-ne0.true _ _)) in
    let lost = rw c.if-exchange.false at c.exchange.ensures in
    let on = lost.2 _ at _ (if_other lost.0 (2 * c.loop-round.curr.number) lost.1 _ _) in
    (_, to_pred c.head-pred-then-link-ne0.ensures (to_curr c.behind-curr.ensures (c.load_link.ensures.leads _ on)))

pub returns-then-word-key : goal.returns-then-word-key
returns-then-word-key g c = let at = moved (c.load_link-link.ensures.leads _ c.loop-round.invariant.1)
    (ap (λ (f : Fed). f.local) (if_same (c.load_link-link.result % 2) 0 c.if-link-ne0.false _ _)) in
    let ge : target c.args.caller.now.origin.call ≤ c.look_at_key-word.result = omega (arith, c.args.caller.now.is_key) in (
      record c.loop-round.invariant.0 { succ = c.load_link-link.result / 2 },
      λ fed is. c.look_at_key-word.ensures.told _ at fed
          (if_not_below c.look_at_key-word.result (target c.args.caller.now.origin.call) ge _ _ ∙ is),
    )

pub loop-round-preserved : goal.loop-round-preserved
loop-round-preserved g c = let at = moved (c.load_link-link.ensures.leads _ c.loop-round.invariant.1)
    (ap (λ (f : Fed). f.local) (if_same (c.load_link-link.result % 2) 0 c.if-link-ne0.false _ _)) in
    let lt : c.look_at_key-word.result < target c.args.caller.now.origin.call = omega (arith, c.args.caller.now.is_key) in
    let on = c.look_at_key-word.ensures.told _ at _ (if_below c.look_at_key-word.result (target c.args.caller.now.origin.call) lt _ _) in
    (_, to_curr c.behind-succ.ensures on)
