use Rattle.std.proofs.Common.{◌*◌, refl, ap}
use Rattle.lset_words.specs.Words.{link_index}
use Rattle.lset_words.proofs.Numbers.{if_same, if_other}
use Rattle.lset_steps.specs.declared.Action.TheVariants.{Exchange}
use Rattle.lset_lock_free.specs.LockFree.{targets, decision_of}
use Rattle.lset_loops.proofs.StepsOfCall.{asks, step, stores, to_succ}
use Rattle.lset_loops.proofs.lock_free.attempt.Goals as goal

pub fill_slot-node-requires : goal.fill_slot-node-requires
fill_slot-node-requires g c =
    let at = c.requires.1 _ (ap decision_of (c.in-PutIn.ensures.deed targets _ c.args.caller.now.is_call.0 refl refl)) in
    stores at c.args.caller.now.is_key (refl, λ n. refl, (refl, λ n. refl, tt))

pub exchange-requires : goal.exchange-requires
exchange-requires g c =
    let at = c.requires.1 _ (ap decision_of (c.in-PutIn.ensures.deed targets _ c.args.caller.now.is_call.0 refl refl)) in
    asks (c.fill_slot-node.ensures.stored.leads _ at) (ap (λ n. Exchange (link_index c.args.found.pred.number) (2 * c.args.found.curr.number) (2 * n)) c.fill_slot-node.ensures.node)

pub returns-then-not-exchange : goal.returns-then-not-exchange
returns-then-not-exchange g c =
    let at = c.requires.1 _ (ap decision_of (c.in-PutIn.ensures.deed targets _ c.args.caller.now.is_call.0 refl refl)) in
    let lost = rw c.if-not-exchange.true at c.exchange.ensures in
    let on = lost.2 _ (c.fill_slot-node.ensures.stored.leads _ at) _ (if_other lost.0 (2 * c.args.found.curr.number) lost.1 _ _) in
    (_, _, _, on)

pub returns-else-not-exchange : goal.returns-else-not-exchange
returns-else-not-exchange g c =
    let at = c.requires.1 _ (ap decision_of (c.in-PutIn.ensures.deed targets _ c.args.caller.now.is_call.0 refl refl)) in
    let made = rw c.if-not-exchange.false at c.exchange.ensures in (
      _,
      made _ (c.fill_slot-node.ensures.stored.leads _ at) _
          (if_same (2 * c.args.found.curr.number) (2 * c.args.found.curr.number) refl _ _),
      c.one_more.ensures,
    )

pub load_link-requires : goal.load_link-requires
load_link-requires g c =
    let at = c.requires.1 _ (ap decision_of (c.in-TakeOut.ensures.deed targets _ c.args.caller.now.is_call.0 refl refl)) in
    step at refl (λ n. refl)

pub exchange-requires-in-TakeOut : goal.exchange-requires-in-TakeOut
exchange-requires-in-TakeOut g c =
    let at = c.requires.1 _ (ap decision_of (c.in-TakeOut.ensures.deed targets _ c.args.caller.now.is_call.0 refl refl)) in
    asks (to_succ c.behind-succ.ensures (c.load_link.ensures.leads _ at)) refl

pub returns-then-not-exchange-2 : goal.returns-then-not-exchange-2
returns-then-not-exchange-2 g c =
    let at = c.requires.1 _ (ap decision_of (c.in-TakeOut.ensures.deed targets _ c.args.caller.now.is_call.0 refl refl)) in
    let lost = rw c.if-not-exchange-2.true at c.exchange-in-TakeOut.ensures in
    let on = lost.2 _ (to_succ c.behind-succ.ensures (c.load_link.ensures.leads _ at)) _
    (if_other lost.0 (2 * c.behind-succ.result.number) lost.1 _ _) in
    (_, _, _, on)

pub exchange_last-requires : goal.exchange_last-requires
exchange_last-requires g c =
    let at = c.requires.1 _ (ap decision_of (c.in-TakeOut.ensures.deed targets _ c.args.caller.now.is_call.0 refl refl)) in
    let made = rw c.if-not-exchange-2.false at c.exchange-in-TakeOut.ensures in
    asks (made _ (to_succ c.behind-succ.ensures (c.load_link.ensures.leads _ at)) _ (if_same (2 * c.behind-succ.result.number) (2 * c.behind-succ.result.number) refl _ _)) refl

pub returns-else-not-exchange-2 : goal.returns-else-not-exchange-2
returns-else-not-exchange-2 g c =
    let at = c.requires.1 _ (ap decision_of (c.in-TakeOut.ensures.deed targets _ c.args.caller.now.is_call.0 refl refl)) in
    let made = rw c.if-not-exchange-2.false at c.exchange-in-TakeOut.ensures in (
      _,
      c.exchange_last.ensures _
          (made _ (to_succ c.behind-succ.ensures (c.load_link.ensures.leads _ at)) _
          (if_same (2 * c.behind-succ.result.number) (2 * c.behind-succ.result.number) refl _ _)) _ refl,
      refl,
    )

pub returns-in-Answer : goal.returns-in-Answer
returns-in-Answer g c =
    let at = c.requires.1 _ (ap decision_of (c.in-Answer.ensures.deed targets _ c.args.caller.now.is_call.0 refl refl)) in
    (_, at, refl)
