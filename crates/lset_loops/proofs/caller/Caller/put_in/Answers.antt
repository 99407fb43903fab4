use Rattle.std.proofs.Common.{◌*◌, ap, ◌∙◌, subst}
use Rattle.lset_words.specs.Words.{link_index}
use Rattle.lset_steps.specs.declared.Action.TheVariants.{Store}
use Rattle.lset_loops.specs.Calling.{Holds, feeds, slot_stores}
use Rattle.lset_loops.proofs.caller.Caller.put_in.Goals as goal

pub fill_slot-node-requires : goal.fill_slot-node-requires
fill_slot-node-requires g c = let h = c.requires in
    record { held = h.held; holds = h.holds; stores = (h.stores.0, h.stores.1, (h.stores.2.0, h.stores.2.1, tt)) }

pub store_link-requires : goal.store_link-requires
store_link-requires g c = let h = c.requires in
    record {
      held = _;
      holds = c.fill_slot-node.ensures.stored.leads h.held h.holds;
      acts = ap (λ n. Store (link_index c.args.found.pred.number) (2 * n)) c.fill_slot-node.ensures.node ∙ h.stores.2.2.0;
      goes_on = h.stores.2.2.1;
    }

pub returns : goal.returns
returns g c =
    let T = g.M.Machine.table in
    let filled = slot_stores c.args.self.now.slots c.args.self.now.key c.args.found.curr.number in
    record {
      leads = λ l h. subst (λ n. Holds T c.args.self.now.origin (T.feed (feeds T l filled) (2 * n)).local c.store_link.new.place)
          c.fill_slot-node.ensures.node (c.store_link.ensures.leads _ (c.fill_slot-node.ensures.stored.leads l h));
    }
