use Rattle.std.proofs.Common.{◌≡◌, ◌*◌, ◌<◌, ap, ◌∙◌, arith}
use Rattle.lset_words.specs.declared.TheConstants.{MOST_WORDS}
use Rattle.lset_words.specs.Words.{key_index, link_index}
use Rattle.lset_steps.specs.declared.Action.TheVariants.{Store}
use Rattle.lset_loops.specs.Calling.{slot}
use Rattle.lset_loops.proofs.StepsOfCall.{few_held}
use Rattle.lset_loops.proofs.caller.Caller.fill_slot.Goals as goal

pub invariant_of-node : goal.invariant_of-node
invariant_of-node g c =
    let h = c.requires in
    let few : key_index (slot c.args.self.now.slots) < MOST_WORDS =
    few_held g.M.Machine.table c.args.self.now.origin g.met.M.Machine.lawful h.held _ c.args.place.now h.holds h.stores.0 in
    let is : c.slot_node.result ≡ slot c.args.self.now.slots = c.slot_node.ensures in record { small = omega arith }

pub store_key-requires : goal.store_key-requires
store_key-requires g c = let h = c.requires in
    record {
      held = h.held;
      holds = h.holds;
      acts = ap (λ n. Store (key_index n) c.args.self.now.key) c.slot_node.ensures ∙ h.stores.0;
      goes_on = h.stores.1;
    }

pub store_link-requires : goal.store_link-requires
store_link-requires g c = let h = c.requires in
    record {
      held = _;
      holds = c.store_key.ensures.leads h.held h.holds;
      acts = ap (λ n. Store (link_index n) (2 * c.args.next.number)) c.slot_node.ensures ∙ h.stores.2.0;
      goes_on = h.stores.2.1;
    }

pub returns-clause-stored : goal.returns-clause-stored
returns-clause-stored g c = record {
  leads = λ l h. c.store_link.ensures.leads _ (c.store_key.ensures.leads l h);
}
