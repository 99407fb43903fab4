-- Lemmas about unlinking a node that follows a node of the chain: the effect on the order of keys, on the chain, and on
-- the keys of the set.
use Rattle.std.proofs.Common.{◌≡◌, ◌≢◌, ℕ, ◌+◌, ◌*◌, ◌/◌, ◌%◌, ◌<◌, ◌≤◌, ◌⊎◌, inl, inr, List, [], ◌∷◌, sym, refl, ap, subst, ◌∙◌, arith}
use Rattle.lset_words.proofs.Numbers.{same_or_not}
use Rattle.lset_steps.specs.Chain.{View, Segment, InChain, InContent, IsOrdered}
use Rattle.lset_steps.proofs.Moves.{Unlinks, KeepsNodes}
use Rattle.lset_steps.proofs.Segments.{segment_increases, sides, one_key}
use Rattle.lset_steps.proofs.QuietMove.{in_chain_published, chain_before, chain_on, segment_after, apart, apart'}

-- The keys and links of three neighboring nodes when the middle one is unlinked: `pred`, the unlinked node `curr`, and
-- `s`.
pub record Facts (v w : View) (pred curr s : ℕ) : Type 0 where
  pub curr_is : v.link pred / 2 ≡ curr
  pub s_is : v.link curr / 2 ≡ s
  pub pred_next : w.link pred / 2 ≡ s
  pub pred_published : v.published pred
  pub curr_published : v.published curr
  pub s_published : v.published s
  pub pred_key : w.key pred ≡ v.key pred
  pub curr_key : w.key curr ≡ v.key curr
  pub s_key : w.key s ≡ v.key s
  pub low : v.key pred < v.key curr
  pub high : v.key curr < v.key s

pub facts : (v w : View) → IsOrdered v → (pred curr : ℕ) → Unlinks v w pred curr → Facts v w pred curr (v.link curr / 2)
facts v w ord pred curr q =
    let pm : v.published pred = in_chain_published v ord pred q.in_chain in
    let cm : v.published curr = subst (λ x. v.published x) q.is_next (ord.next_published pred pm q.no_tail) in
    let sm : v.published (v.link curr / 2) = ord.next_published curr cm q.curr_no_tail in
    let a : w.link pred ≡ 2 * (v.link curr / 2) = q.pred_link in
    record {
      curr_is = q.is_next;
      s_is = refl;
      pred_next = omega arith;
      pred_published = pm;
      curr_published = cm;
      s_published = sm;
      pred_key = q.keys pred pm;
      curr_key = q.keys curr cm;
      s_key = q.keys (v.link curr / 2) sm;
      low = subst (λ x. v.key pred < v.key x) q.is_next (ord.increases pred pm q.no_tail);
      high = ord.increases curr cm q.curr_no_tail;
    }

pub unlink-ordered : (v w : View) → IsOrdered v → (pred curr : ℕ) → Unlinks v w pred curr → IsOrdered w
unlink-ordered v w ord pred curr q = record {
  head_published = q.grows 0 ord.head_published;
  tail_published = q.grows 1 ord.tail_published;
  top = λ i m. let m' : v.published i = q.published_from i m in
      let a : w.key i ≡ v.key i = q.keys i m' in
      let b : w.key 1 ≡ v.key 1 = q.keys 1 ord.tail_published in
      let c : v.key i ≤ v.key 1 = ord.top i m' in omega arith;
  next_published = λ i m n. next' i (q.published_from i m) n (same_or_not i pred);
  increases = λ i m n. increases' i (q.published_from i m) n (same_or_not i pred);
}
  where
    f : Facts v w pred curr (v.link curr / 2)
    f = facts v w ord pred curr q

    next' : (i : ℕ) → v.published i → i ≢ 1 → (i ≡ pred) ⊎ (i ≢ pred) → w.published (w.link i / 2)
    next' i m n (inl e) = subst (λ x. w.published (w.link x / 2)) (sym e)
        (subst (λ x. w.published x) (sym f.pred_next) (q.grows (v.link curr / 2) f.s_published))
    next' i m n (inr d) = subst (λ x. w.published (x / 2)) (sym (q.links i m d))
        (q.grows (v.link i / 2) (ord.next_published i m n))

    increases' : (i : ℕ) → v.published i → i ≢ 1 → (i ≡ pred) ⊎ (i ≢ pred) → w.key i < w.key (w.link i / 2)
    increases' i m n (inl e) = subst (λ x. w.key x < w.key (w.link x / 2)) (sym e)
        (let h : Facts v w pred curr (v.link curr / 2) = f in
        let g : w.key (w.link pred / 2) ≡ w.key (v.link curr / 2) = ap w.key f.pred_next in omega arith)
    increases' i m n (inr d) =
        let a : w.key i ≡ v.key i = q.keys i m in
        let b : w.key (v.link i / 2) ≡ v.key (v.link i / 2) = q.keys (v.link i / 2) (ord.next_published i m n) in
        let e : w.key (w.link i / 2) ≡ w.key (v.link i / 2) = ap (λ x. w.key (x / 2)) (q.links i m d) in
        let c : v.key i < v.key (v.link i / 2) = ord.increases i m n in omega arith

pub unlink_pred : (v w : View) → IsOrdered v → (pred curr : ℕ) → Unlinks v w pred curr → InChain w pred
unlink_pred v w ord pred curr q =
    chain_before v w ord pred pred (λ a m l. ap (λ x. x / 2) (q.links a m (apart v a pred l))) (omega arith) q.in_chain

pub unlink_curr : (v w : View) → IsOrdered v → (pred curr : ℕ) → Unlinks v w pred curr → InChain v curr
unlink_curr v w ord pred curr q = chain_on v pred curr curr [] q.in_chain q.no_tail q.is_next refl

pub unlink_keeps : (v w : View) → IsOrdered v → (pred curr : ℕ) → Unlinks v w pred curr → (b : ℕ) → InChain v b
    → InChain w b ⊎ (b ≡ curr)
unlink_keeps v w ord pred curr q b ib = elim (sides v ord pred b q.in_chain ib) [
  | inl le ↦ inl (chain_before v w ord pred b (λ a m l. ap (λ x. x / 2) (q.links a m (apart v a pred l))) le ib)
  | inr t ↦ from_curr t.0 (subst (λ x. Segment v x t.0 b) q.is_next t.1)
]
  where
    f : Facts v w pred curr (v.link curr / 2)
    f = facts v w ord pred curr q

    after : (a : ℕ) → v.published a → v.key (v.link curr / 2) ≤ v.key a → w.link a / 2 ≡ v.link a / 2
    after a m l = let h : Facts v w pred curr (v.link curr / 2) = f in
        ap (λ x. x / 2) (q.links a m (apart' v pred a (omega arith)))

    from_curr : (cs : List ℕ) → Segment v curr cs b → InChain w b ⊎ (b ≡ curr)
    from_curr [] s = inr (sym s)
    from_curr (c ∷ cs) s = inl (chain_on w pred (v.link curr / 2) b cs (unlink_pred v w ord pred curr q) q.no_tail f.pred_next
        (segment_after v w ord (v.link curr / 2) b cs after f.s_published s.2))

pub unlink_back : (v w : View) → IsOrdered v → (pred curr : ℕ) → Unlinks v w pred curr → (b : ℕ) → InChain w b
    → InChain v b × (b ≢ curr)
unlink_back v w ord pred curr q b ib =
    elim (sides w ws pred b (unlink_pred v w ord pred curr q) ib) [
      | inl le ↦ (
        chain_before w v ws pred b before le ib,
        λ e. let h : Facts v w pred curr (v.link curr / 2) = f in
            let g : w.key b ≡ w.key curr = ap w.key e in omega arith,
      )
      | inr t ↦ (let s : Segment w (v.link curr / 2) t.0 b = subst (λ x. Segment w x t.0 b) f.pred_next t.1 in (
        chain_on v curr (v.link curr / 2) b t.0 (unlink_curr v w ord pred curr q) q.curr_no_tail refl
            (segment_after w v ws (v.link curr / 2) b t.0 after (q.grows (v.link curr / 2) f.s_published) s),
        λ e. let h : Facts v w pred curr (v.link curr / 2) = f in
            let g : w.key b ≡ w.key curr = ap w.key e in
            let r : w.key (v.link curr / 2) ≤ w.key b =
            segment_increases w ws (v.link curr / 2) b t.0 (q.grows (v.link curr / 2) f.s_published) s in omega arith,
      ))
    ]
  where
    ws : IsOrdered w
    ws = unlink-ordered v w ord pred curr q

    f : Facts v w pred curr (v.link curr / 2)
    f = facts v w ord pred curr q

    before : (a : ℕ) → w.published a → w.key a < w.key pred → v.link a / 2 ≡ w.link a / 2
    before a m l = ap (λ x. x / 2) (sym (q.links a (q.published_from a m) (apart w a pred l)))

    after : (a : ℕ) → w.published a → w.key (v.link curr / 2) ≤ w.key a → v.link a / 2 ≡ w.link a / 2
    after a m l = let h : Facts v w pred curr (v.link curr / 2) = f in
        ap (λ x. x / 2) (sym (q.links a (q.published_from a m) (apart' w pred a (omega arith))))

pub unlink-goes : (v w : View) → IsOrdered v → (pred curr : ℕ) → Unlinks v w pred curr → KeepsNodes v w
unlink-goes v w ord pred curr q = record {
  keys = q.keys;
  grows = q.grows;
  kept = λ b m. elim (same_or_not b pred) [
    | inl e ↦ inr (subst (λ x. InChain v x × InChain w x) (sym e) (q.in_chain, unlink_pred v w ord pred curr q))
    | inr d ↦ inl (q.links b m d)
  ];
  back = λ b m ib. (unlink_back v w ord pred curr q b ib).0;
}

pub unlink_mark : (v w : View) → (pred curr : ℕ) → Unlinks v w pred curr → (b : ℕ) → v.published b → w.link b % 2 ≡ v.link b % 2
unlink_mark v w pred curr q b m = elim (same_or_not b pred) [
  | inl e ↦ subst (λ x. w.link x % 2 ≡ v.link x % 2) (sym e)
      (let g : w.link pred ≡ 2 * (v.link curr / 2) = q.pred_link in
      let h : v.link pred % 2 ≡ 0 = q.unmarked in omega arith)
  | inr d ↦ ap (λ x. x % 2) (q.links b m d)
]

-- ---- Lemmas about the effect of unlinking on the keys of the set

pub unlink_only : (v w : View) → IsOrdered v → (pred curr : ℕ) → Unlinks v w pred curr → (j : ℕ) → InContent w j → InContent v j
unlink_only v w ord pred curr q j c =
    let i : InChain v c.0 = (unlink_back v w ord pred curr q c.0 c.1).0 in
    let m : v.published c.0 = in_chain_published v ord c.0 i in
    (c.0, i, c.2, sym (q.keys c.0 m) ∙ c.3, sym (unlink_mark v w pred curr q c.0 m) ∙ c.4)

pub unlink_others : (v w : View) → IsOrdered v → (pred curr : ℕ) → Unlinks v w pred curr → (j : ℕ)
    → (v.link curr % 2 ≡ 1) ⊎ (v.key curr ≢ j + 1) → InContent v j → InContent w j
unlink_others v w ord pred curr q j h c = elim (unlink_keeps v w ord pred curr q c.0 c.1) [
  | inl i ↦ (let m : v.published c.0 = in_chain_published v ord c.0 c.1 in
      (c.0, i, c.2, q.keys c.0 m ∙ c.3, unlink_mark v w pred curr q c.0 m ∙ c.4))
  | inr e ↦ absurd (not_curr e h)
]
  where
    not_curr : c.0 ≡ curr → (v.link curr % 2 ≡ 1) ⊎ (v.key curr ≢ j + 1) → ⊥
    not_curr e (inl o) = let u : v.link curr % 2 ≡ 0 = subst (λ x. v.link x % 2 ≡ 0) e c.4 in omega arith
    not_curr e (inr n) = n (sym (ap v.key e) ∙ c.3)

pub unlink_absent : (v w : View) → IsOrdered v → (pred curr k : ℕ) → Unlinks v w pred curr → v.key curr ≡ k + 1
    → InContent w k → ⊥
unlink_absent v w ord pred curr k q e c =
    let r : InChain v c.0 × (c.0 ≢ curr) = unlink_back v w ord pred curr q c.0 c.1 in
    let a : w.key c.0 ≡ v.key c.0 = q.keys c.0 (in_chain_published v ord c.0 r.0) in
    let g : w.key c.0 ≡ k + 1 = c.3 in
    r.1 (one_key v ord c.0 curr r.0 (unlink_curr v w ord pred curr q) (omega arith))
