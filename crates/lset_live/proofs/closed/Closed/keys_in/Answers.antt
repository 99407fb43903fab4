use Rattle.std.proofs.Common.{◌≡◌, ℕ, ◌-◌, ◌<◌, vec_capacity, ◌++◌, ◌∷◌, [], List, sym, subst, arith, rules}
use Rattle.lset_steps.specs.Chain.{node_key}
use Rattle.lset_live.specs.Closes.{most_keys}
use Rattle.lset_live.proofs.KeysWalk.{Walks, starts, keeps, skips, falls, fits, ends, has_room}
use Rattle.lset_steps.proofs.WalkedTo.{unmarked_word, marked_word}
use Rattle.lset_live.proofs.closed.Closed.keys_in.Goals as goal
use Rattle.lset_live.proofs.closed.Closed.keys_in.Goals.{then-not-is_marked+in_ok-push, else-not-is_marked}

pub loop-node-init : goal.loop-node-init
loop-node-init c = (
  subst (λ (l : List ℕ). Walks c.args.self.now l c.next_node-node.result) (sym c.requires)
      (starts c.args.self.now c.keeps_its_laws.ensures c.next_node-node.result c.next_node-node.ensures),
  omega arith,
)

pub overflow_cast-node_key : goal.overflow_cast-node_key
overflow_cast-node_key c = let low = fits c.args.self.now c.loop-node.keys.items c.loop-node.node c.loop-node-test.true
    c.loop-node.invariant.0 in
    rw c.node_key.ensures (search (rules, low))

pub loop-node-smaller : goal.loop-node-smaller
loop-node-smaller c = falls c.args.self.now c.loop-node.keys.items c.loop-node.node c.next_node-node-in-loop-node.result
    c.loop-node-test.true c.next_node-node-in-loop-node.ensures c.loop-node.invariant.0

pub loop-node-preserved : goal.loop-node-preserved
loop-node-preserved c =
    let next : ℕ = c.next_node-node-in-loop-node.result in
    elim c.if-not-is_marked.branch [
      | then-not-is_marked+in_ok-push w ↦
          (let e : c.if-not-is_marked.keys.items ≡ c.loop-node.keys.items
          ++ ((node_key c.args.self.now.words c.loop-node.node - 1) ∷ []) =
          cc (w.keys-is, w.in_ok-push.ensures.items, w.node_key.ensures) in
          let room = c.loop-node.invariant.1 in
          let more = w.in_ok-push.ensures.capacity in
          let is = w.keys-is in (
            subst (λ z. Walks c.args.self.now z next) (sym e)
                (keeps c.args.self.now c.loop-node.keys.items c.loop-node.node next c.loop-node-test.true
                c.next_node-node-in-loop-node.ensures (unmarked_word _ _ c.is_marked.ensures w.if-not-is_marked.true)
                c.loop-node.invariant.0),
            rw is (omega arith),
          ))
      | else-not-is_marked w ↦
          (let e : c.if-not-is_marked.keys.items ≡ c.loop-node.keys.items = cc w.keys-is in
          let room = c.loop-node.invariant.1 in
          let is = w.keys-is in (
            subst (λ z. Walks c.args.self.now z next) (sym e)
                (skips c.args.self.now c.loop-node.keys.items c.loop-node.node next c.loop-node-test.true
                c.next_node-node-in-loop-node.ensures (marked_word _ _ c.is_marked.ensures w.if-not-is_marked.false)
                c.loop-node.invariant.0),
            rw is (omega arith),
          ))
    ]

pub returns-clause-keys : goal.returns-clause-keys
returns-clause-keys c = ends c.args.self.now c.loop-node.keys.items c.loop-node.node (omega arith) c.loop-node.invariant.0

pub returns-in_err-push-clause-full : goal.returns-in_err-push-clause-full
returns-in_err-push-clause-full c =
    let room = has_room c.args.self.now c.loop-node.keys.items c.loop-node.node c.loop-node-test.true c.loop-node.invariant.0 in
    let full = c.in_err-push.ensures.full in
    let kept = c.loop-node.invariant.1 in
    let low : vec_capacity c.args.room < most_keys c.args.self.now.sizes = omega arith in
    search (rules, low)
