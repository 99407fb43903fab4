use Rattle.std.proofs.Common.{◌*◌, refl, ap}
use Rattle.lset_words.specs.Words.{link_index}
use Rattle.lset_steps.specs.declared.Action.TheVariants.{Store}
use Rattle.lset_optimistic.specs.Optimistic.{targets}
use Rattle.lset_loops.proofs.StepsOfCall.{moved, step, stores, to_slots}
use Rattle.lset_loops.proofs.optimistic.act.Goals as goal

pub put_in-requires : goal.put_in-requires
put_in-requires g c = let at = moved c.requires.1 (c.in-PutIn.ensures.deed targets _ c.args.caller.now.is_call.0 refl refl) in
    stores at c.args.caller.now.is_key (refl, λ n. refl, (refl, λ n. refl, (refl, λ n. refl, tt)))

pub returns-in-PutIn : goal.returns-in-PutIn
returns-in-PutIn g c = let at = moved c.requires.1 (c.in-PutIn.ensures.deed targets _ c.args.caller.now.is_call.0 refl refl) in
    (_, to_slots c.one_more.ensures (c.put_in.ensures.leads _ at))

pub load_link-link-requires : goal.load_link-link-requires
load_link-link-requires g c =
    step (moved c.requires.1 (c.in-TakeOut.ensures.deed targets _ c.args.caller.now.is_call.0 refl refl)) refl (λ n. refl)

pub store_link-requires : goal.store_link-requires
store_link-requires g c = let at = moved c.requires.1 (c.in-TakeOut.ensures.deed targets _ c.args.caller.now.is_call.0 refl refl)
    in
    step (c.load_link-link.ensures.leads _ at) (ap (λ n. Store (link_index c.args.found.pred.number) (2 * n)) c.behind.ensures) (λ n. refl)

pub returns-in-TakeOut : goal.returns-in-TakeOut
returns-in-TakeOut g c =
    let at = moved c.requires.1 (c.in-TakeOut.ensures.deed targets _ c.args.caller.now.is_call.0 refl refl) in
    (_, c.store_link.ensures.leads _ (c.load_link-link.ensures.leads _ at))

pub returns-in-Answer : goal.returns-in-Answer
returns-in-Answer g c =
    let at = moved c.requires.1 (c.in-Answer.ensures.deed targets _ c.args.caller.now.is_call.0 refl refl) in
    (_, at)
