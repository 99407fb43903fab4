use Rattle.std.proofs.Common.{◌≡◌, ℕ, ◌-◌, ◌%◌, ◌++◌, [], sym, refl, ap, subst, arith, rules, append-nil}
use Rattle.std.specs.Prelude.{◌==◌, Option, Some, None, option_to_list}
use Rattle.lset_steps.specs.declared.world.ChainKey.{ChainKey}
use Rattle.lset_steps.specs.Chain.{View}
use Rattle.lset_steps.specs.Laws.{view_of}
use Rattle.lset_steps.proofs.WalkedTo.{HasPicked, none_picked, picked_more, falls, fits, all_picked, mark_of_word}
use Rattle.lset_steps.proofs.world.World.walk.Goals as goal
use Rattle.lset_steps.proofs.world.World.walk.Goals.{in-Some+in_ok-push, in_default}

none_listed : {A : Type 0} (o : Option A) → ((x : A) → o ≡ Some x → ⊥) → option_to_list o ≡ []
none_listed None h = refl
none_listed (Some x) h = absurd (h x refl)

pub loop-node-init : goal.loop-node-init
loop-node-init g c =
    let v : View = view_of c.args.self.now.sizes c.args.self.now.state in
    let laws = c.keeps_its_laws.ensures in
    rw (c.new-picked.ensures.items, c.next_node-node.ensures)
    (none_picked (goal.F-post g c.args.pick) v laws.ordered (omega (arith, laws.head_key, laws.tail_key)))

pub overflow_cast-met : goal.overflow_cast-met
overflow_cast-met g c =
    let v : View = view_of c.args.self.now.sizes c.args.self.now.state in
    let laws = c.keeps_its_laws.ensures in
    let low = fits (goal.F-post g c.args.pick) v laws.ordered c.loop-node.picked.items c.loop-node.node laws.tail_key
    c.loop-node-test.true c.loop-node.invariant in
    rw c.node_key.ensures (search (rules, low))

pub loop-node-smaller : goal.loop-node-smaller
loop-node-smaller g c =
    let v : View = view_of c.args.self.now.sizes c.args.self.now.state in
    falls (goal.F-post g c.args.pick) v c.keeps_its_laws.ensures.ordered c.loop-node.picked.items c.loop-node.node
    c.next_node-node-in-loop-node.result c.loop-node-test.true c.next_node-node-in-loop-node.ensures c.loop-node.invariant

pub loop-node-preserved : goal.loop-node-preserved
loop-node-preserved g c =
    let v : View = view_of c.args.self.now.sizes c.args.self.now.state in
    let laws = c.keeps_its_laws.ensures in
    let next : ℕ = c.next_node-node-in-loop-node.result in
    let met : ChainKey = record { key = c.node_key.result - 1; marked = c.is_marked.result } in
    let key : c.node_key.result ≡ v.key c.loop-node.node = c.node_key.ensures in
    let mark : c.is_marked.result ≡ (v.link c.loop-node.node % 2 == 1) = mark_of_word _ _ c.is_marked.ensures in
    let is : met ≡ record { key = v.key c.loop-node.node - 1; marked = v.link c.loop-node.node % 2 == 1 } = cc in
    let more = picked_more (goal.F-post g c.args.pick) v laws.ordered c.loop-node.picked.items c.loop-node.node next met
    c.pick.result
    laws.head_key c.loop-node-test.true c.next_node-node-in-loop-node.ensures is c.pick.ensures c.loop-node.invariant in
    elim c.match-pick.branch [
      | in-Some+in_ok-push w ↦
          (let e : c.match-pick.picked.items ≡ c.loop-node.picked.items ++ option_to_list c.pick.result =
          cc (w.picked-is, w.in_ok-push.ensures.items, ap option_to_list w.in-Some.is) in
          subst (λ items. HasPicked (goal.F-post g c.args.pick) v items next) (sym e) more)
      | in_default w ↦
          (let e : c.match-pick.picked.items ≡ c.loop-node.picked.items ++ option_to_list c.pick.result =
          cc (w.picked-is, none_listed c.pick.result w.in_default.not-Some, append-nil c.loop-node.picked.items) in
          subst (λ items. HasPicked (goal.F-post g c.args.pick) v items next) (sym e) more)
    ]

pub returns : goal.returns
returns g c =
    all_picked (goal.F-post g c.args.pick) (view_of c.args.self.now.sizes c.args.self.now.state)
    c.keeps_its_laws.ensures.ordered c.loop-node.picked.items c.loop-node.node (omega arith) c.loop-node.invariant
