-- Lemmas about marking a node of the chain: the node's key leaves the set, but the chain and the order of keys do not
-- change.
use Rattle.std.proofs.Common.{◌≡◌, ◌≢◌, ℕ, ◌+◌, ◌/◌, ◌%◌, ◌<◌, ◌≤◌, inl, inr, sym, ap, subst, ◌∙◌, arith}
use Rattle.lset_words.proofs.Numbers.{same_or_not}
use Rattle.lset_steps.specs.Chain.{View, InChain, InContent, IsOrdered}
use Rattle.lset_steps.proofs.Moves.{Marks, KeepsNodes}
use Rattle.lset_steps.proofs.Segments.{one_key}
use Rattle.lset_steps.proofs.QuietMove.{in_chain_published, chain_same}

pub mark_next : (v w : View) (b k : ℕ) → Marks v w b k → (a : ℕ) → v.published a → w.link a / 2 ≡ v.link a / 2
mark_next v w b k q a m = elim (same_or_not a b) [
  | inl e ↦ subst (λ x. w.link x / 2 ≡ v.link x / 2) (sym e)
      (let g : w.link b ≡ v.link b + 1 = q.marked in let h : v.link b % 2 ≡ 0 = q.unmarked in omega arith)
  | inr d ↦ ap (λ x. x / 2) (q.links a m d)
]

pub mark-ordered : (v w : View) → IsOrdered v → (b k : ℕ) → Marks v w b k → IsOrdered w
mark-ordered v w ord b k q = record {
  head_published = q.grows 0 ord.head_published;
  tail_published = q.grows 1 ord.tail_published;
  top = λ i m. let m' : v.published i = q.published_from i m in
      let a : w.key i ≡ v.key i = q.keys i m' in
      let kk : w.key 1 ≡ v.key 1 = q.keys 1 ord.tail_published in
      let c : v.key i ≤ v.key 1 = ord.top i m' in omega arith;
  next_published = λ i m n. let m' : v.published i = q.published_from i m in
      q.grows (w.link i / 2) (subst (λ x. v.published x) (sym (mark_next v w b k q i m')) (ord.next_published i m' n));
  increases = λ i m n. let m' : v.published i = q.published_from i m in
      let a : w.key i ≡ v.key i = q.keys i m' in
      let kk : w.key (v.link i / 2) ≡ v.key (v.link i / 2) = q.keys (v.link i / 2) (ord.next_published i m' n) in
      let e : w.key (w.link i / 2) ≡ w.key (v.link i / 2) = ap w.key (mark_next v w b k q i m') in
      let c : v.key i < v.key (v.link i / 2) = ord.increases i m' n in omega arith;
}

pub mark_keeps : (v w : View) → IsOrdered v → (b k : ℕ) → Marks v w b k → (a : ℕ) → InChain v a → InChain w a
mark_keeps v w ord b k q a ia = chain_same v w ord (mark_next v w b k q) a ia

pub mark_back : (v w : View) → IsOrdered v → (b k : ℕ) → Marks v w b k → (a : ℕ) → InChain w a → InChain v a
mark_back v w ord b k q a ia = chain_same w v (mark-ordered v w ord b k q)
    (λ a m. sym (mark_next v w b k q a (q.published_from a m))) a ia

pub mark-goes : (v w : View) → IsOrdered v → (b k : ℕ) → Marks v w b k → KeepsNodes v w
mark-goes v w ord b k q = record {
  keys = q.keys;
  grows = q.grows;
  kept = λ a m. elim (same_or_not a b) [
    | inl e ↦ inr (subst (λ x. InChain v x × InChain w x) (sym e) (q.in_chain, mark_keeps v w ord b k q b q.in_chain))
    | inr d ↦ inl (q.links a m d)
  ];
  back = λ a m ia. mark_back v w ord b k q a ia;
}

pub mark_present : (v w : View) → IsOrdered v → (b k : ℕ) → Marks v w b k → InContent v k
mark_present v w ord b k q = (b, q.in_chain, q.user, q.key, q.unmarked)

pub mark_absent : (v w : View) → IsOrdered v → (b k : ℕ) → Marks v w b k → InContent w k → ⊥
mark_absent v w ord b k q c =
    let ib : InChain w b = mark_keeps v w ord b k q b q.in_chain in
    let kb : w.key b ≡ v.key b = q.keys b (in_chain_published v ord b q.in_chain) in
    let e : v.key b ≡ k + 1 = q.key in
    let g : w.key c.0 ≡ k + 1 = c.3 in
    let s : c.0 ≡ b = one_key w (mark-ordered v w ord b k q) c.0 b c.1 ib (omega arith) in
    let u : w.link b % 2 ≡ 0 = subst (λ x. w.link x % 2 ≡ 0) s c.4 in
    let h : w.link b ≡ v.link b + 1 = q.marked in
    let o : v.link b % 2 ≡ 0 = q.unmarked in
    absurd (omega arith)

pub mark_others : (v w : View) → IsOrdered v → (b k : ℕ) → Marks v w b k → (j : ℕ) → j ≢ k → InContent v j → InContent w j
mark_others v w ord b k q j n c =
    let m : v.published c.0 = in_chain_published v ord c.0 c.1 in
    let d : c.0 ≢ b = λ e. n (let g : v.key c.0 ≡ v.key b = ap v.key e in
    let h : v.key b ≡ k + 1 = q.key in let i : v.key c.0 ≡ j + 1 = c.3 in omega arith) in
    (c.0, mark_keeps v w ord b k q c.0 c.1, c.2, q.keys c.0 m ∙ c.3, ap (λ x. x % 2) (q.links c.0 m d) ∙ c.4)

pub mark_only : (v w : View) → IsOrdered v → (b k : ℕ) → Marks v w b k → (j : ℕ) → InContent w j → InContent v j
mark_only v w ord b k q j c = elim (same_or_not c.0 b) [
  | inl e ↦ (let u : w.link b % 2 ≡ 0 = subst (λ x. w.link x % 2 ≡ 0) e c.4 in
      let h : w.link b ≡ v.link b + 1 = q.marked in
      let o : v.link b % 2 ≡ 0 = q.unmarked in absurd (omega arith))
  | inr d ↦ (let i : InChain v c.0 = mark_back v w ord b k q c.0 c.1 in
      let m : v.published c.0 = in_chain_published v ord c.0 i in
      (c.0, i, c.2, sym (q.keys c.0 m) ∙ c.3, ap (λ x. x % 2) (sym (q.links c.0 m d)) ∙ c.4))
]
