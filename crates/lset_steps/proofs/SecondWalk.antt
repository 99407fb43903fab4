-- Proof that a second walk from the head decides whether a locked node is in the chain (Herlihy and Shavit's
-- validation). The walk can pass through nodes that are being unlinked, but each node that the walk reaches was in the
-- chain at some moment since the lock was taken. Because a node is unlinked only by the thread that holds its lock, a
-- locked node that the walk reaches is still in the chain.
use Rattle.std.specs.Prelude.{◌≡◌, ◌≢◌, ℕ, suc, ◌+◌, ◌/◌, ◌<◌, ◌≤◌, ◌⊎◌, [], refl}
use Rattle.std.proofs.Common.{arith, inl, inr, subst, sym}
use Rattle.lset_steps.specs.Chain.{View, InChain, IsOrdered}
use Rattle.lset_steps.proofs.Moves.{Course, InPast}
use Rattle.lset_steps.proofs.Hindsight.{hindsight, next_in_past, in_past_on}
use Rattle.lset_steps.proofs.Held.{Leaves}

-- The assertion during the second walk of thread `t`: `t` has held the lock of `pred` since the moment `start`, and the
-- node that the walk has reached was in the chain at some moment since `start`. `v` is the current view (nodes and
-- locks).
pub record SecondWalk (vs : ℕ → View) (start now : ℕ) (v : View) (t pred node : ℕ) : Type 0 where
  pub seen : InPast vs start now node
  pub kept : (s : ℕ) → start ≤ s → s < now → (vs s).lock pred ≡ t + 1
  pub stays : (s : ℕ) → start ≤ s → s < now → InChain (vs s) pred → InChain v pred
  pub mine : v.lock pred ≡ t + 1
  pub pred_published : v.published pred
  pub node_published : v.published node

pub second_walk_begins : (vs : ℕ → View) (start : ℕ) {v : View} {t pred : ℕ} → v.lock pred ≡ t + 1 → v.published pred
    → v.published 0 → SecondWalk vs start start v t pred 0
second_walk_begins vs start mine locked head = record {
  seen = record { at = start; from = omega arith; upto = omega arith; in_chain = ([], refl) };
  kept = λ s a b. absurd (omega arith);
  stays = λ s a b i. absurd (omega arith);
  mine = mine;
  pred_published = locked;
  node_published = head;
}

this_or_before : (s now : ℕ) → s < suc now → (s ≡ now) ⊎ (s < now)
this_or_before s now l = grind arith

module _ (vs : ℕ → View) {start now t pred : ℕ} {v : View} (present : vs now ≡ v) where
  pub kept_upto : {node : ℕ} → SecondWalk vs start now v t pred node → (s : ℕ) → start ≤ s → s < suc now
      → (vs s).lock pred ≡ t + 1
  kept_upto w s a b = elim (this_or_before s now b) [
    | inl e ↦ subst (λ x. (vs x).lock pred ≡ t + 1) (sym e) (subst (λ x. x.lock pred ≡ t + 1) (sym present) w.mine)
    | inr l ↦ w.kept s a l
  ]

  stays_upto : {node : ℕ} → SecondWalk vs start now v t pred node → (s : ℕ) → start ≤ s → s < suc now → InChain (vs s) pred
      → InChain v pred
  stays_upto w s a b i = elim (this_or_before s now b) [
    | inl e ↦ subst (λ x. InChain x pred) present (subst (λ x. InChain (vs x) pred) e i)
    | inr l ↦ w.stays s a l i
  ]

  pub second_walk_on : {w : View} {node : ℕ} → Leaves v w t → SecondWalk vs start now v t pred node
      → SecondWalk vs start (suc now) w t pred node
  second_walk_on {w} {node} l x = record {
    seen = in_past_on vs start now (suc now) node (omega arith) x.seen;
    kept = kept_upto x;
    stays = λ s a b i. l.chain pred x.mine (stays_upto x s a b i);
    mine = l.locks pred x.mine;
    pred_published = l.grows pred x.pred_published;
    node_published = l.grows node x.node_published;
  }

  pub second_walk_goes : {node : ℕ} → Course vs now → IsOrdered v → node ≢ 1 → SecondWalk vs start now v t pred node
      → SecondWalk vs start (suc now) v t pred (v.link node / 2)
  second_walk_goes {node} course ord inn x = record {
    seen = subst (λ z. InPast vs start (suc now) (z.link node / 2)) present
        (in_past_on vs start now (suc now) ((vs now).link node / 2) (omega arith)
        (next_in_past vs start now node ((vs now).link node) inn (hindsight vs now start now node course (omega arith) x.seen)));
    kept = kept_upto x;
    stays = stays_upto x;
    mine = x.mine;
    pred_published = x.pred_published;
    node_published = ord.next_published node x.node_published inn;
  }

  pub second_walk_arrives : {node : ℕ} → node ≡ pred → SecondWalk vs start now v t pred node → InChain v pred
  second_walk_arrives e x =
      let u : x.seen.at ≤ now = x.seen.upto in
      stays_upto x x.seen.at x.seen.from (omega arith) (subst (InChain (vs x.seen.at)) e x.seen.in_chain)
