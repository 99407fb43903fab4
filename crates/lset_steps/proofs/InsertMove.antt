-- Lemmas about the insertion of a node after a node of the chain: its effect on the order of keys, on the chain, and on
-- the keys of the set.
use Rattle.std.proofs.Common.{◌≡◌, ◌≢◌, ℕ, ◌+◌, ◌*◌, ◌/◌, ◌%◌, ◌<◌, ◌≤◌, ◌⊎◌, inl, inr, List, [], ◌∷◌, sym, refl, ap, subst, ◌∙◌, arith}
use Rattle.lset_steps.specs.Chain.{View, Segment, InChain, InContent, IsOrdered}
use Rattle.lset_steps.proofs.Moves.{Inserts, KeepsNodes}
use Rattle.lset_steps.proofs.Segments.{sides, gap}
use Rattle.lset_steps.proofs.QuietMove.{in_chain_published, chain_before, chain_on, segment_after, apart, apart'}

-- The keys and links of three neighboring nodes when the middle one is inserted: `pred`, the new node `own`, and
-- `curr`.
pub record Facts (v w : View) (pred own curr k : ℕ) : Type 0 where
  pub curr_is : v.link pred / 2 ≡ curr
  pub own_is : w.link pred / 2 ≡ own
  pub own_next : w.link own / 2 ≡ curr
  pub pred_published : v.published pred
  pub curr_published : v.published curr
  pub pred_key : w.key pred ≡ v.key pred
  pub curr_key : w.key curr ≡ v.key curr
  pub own_key : w.key own ≡ k + 1
  pub low : v.key pred < k + 1
  pub high : k + 1 < v.key curr
  pub own_not_one : own ≢ 1

pub facts : (v w : View) → IsOrdered v → (pred own k : ℕ) → Inserts v w pred own k → Facts v w pred own (v.link pred / 2) k
facts v w ord pred own k q =
    let pm : v.published pred = in_chain_published v ord pred q.in_chain in
    let cm : v.published (v.link pred / 2) = ord.next_published pred pm q.no_tail in
    let a : w.link pred ≡ 2 * own = q.pred_link in
    let b : w.link own ≡ 2 * (v.link pred / 2) = q.own_link in
    let u : 1 < own = q.user in
    record {
      curr_is = refl;
      own_is = omega arith;
      own_next = omega arith;
      pred_published = pm;
      curr_published = cm;
      pred_key = q.keys pred pm;
      curr_key = q.keys (v.link pred / 2) cm;
      own_key = q.own_key;
      low = q.above;
      high = q.below;
      own_not_one = λ e. omega arith;
    }

pub insert-ordered : (v w : View) → IsOrdered v → (pred own k : ℕ) → Inserts v w pred own k → IsOrdered w
insert-ordered v w ord pred own k q = record {
  head_published = q.grows 0 ord.head_published;
  tail_published = q.grows 1 ord.tail_published;
  top = λ i m. elim (q.published_from i m) [
    | inl o ↦ old_top i o
    | inr e ↦
        subst (λ x. w.key x ≤ w.key 1) (sym e) own_top
  ];
  next_published = λ i m n. elim (q.published_from i m) [
    | inl o ↦ old_next i o n
    | inr e ↦
        subst (λ x. w.published (w.link x / 2)) (sym e)
        (subst (λ x. w.published x) (sym f.own_next) (q.grows curr f.curr_published))
  ];
  increases = λ i m n. elim (q.published_from i m) [
    | inl o ↦ old_increases i o n (cases i)
    | inr e ↦
        subst (λ x. w.key x < w.key (w.link x / 2)) (sym e) own_increases
  ];
}
  where
    curr : ℕ
    curr = v.link pred / 2

    f : Facts v w pred own (v.link pred / 2) k
    f = facts v w ord pred own k q

    cases : (i : ℕ) → (i ≡ pred) ⊎ (i ≢ pred)
    cases i = grind arith

    old_top : (i : ℕ) → v.published i → w.key i ≤ w.key 1
    old_top i o = let a : w.key i ≡ v.key i = q.keys i o in
        let b : w.key 1 ≡ v.key 1 = q.keys 1 ord.tail_published in
        let c : v.key i ≤ v.key 1 = ord.top i o in omega arith

    own_top : w.key own ≤ w.key 1
    own_top = let b : w.key 1 ≡ v.key 1 = q.keys 1 ord.tail_published in
        let c : v.key (v.link pred / 2) ≤ v.key 1 = ord.top (v.link pred / 2) f.curr_published in omega arith

    old_next : (i : ℕ) → v.published i → i ≢ 1 → w.published (w.link i / 2)
    old_next i o n = elim (cases i) [
      | inl e ↦ subst (λ x. w.published (w.link x / 2)) (sym e) (subst (λ x. w.published x) (sym f.own_is) q.own_published)
      | inr d ↦ subst (λ x. w.published (x / 2)) (sym (q.links i o d)) (q.grows (v.link i / 2) (ord.next_published i o n))
    ]

    own_increases : w.key own < w.key (w.link own / 2)
    own_increases = let g : Facts v w pred own (v.link pred / 2) k = f in
        let e : w.key (w.link own / 2) ≡ w.key (v.link pred / 2) = ap w.key f.own_next in omega arith

    old_increases : (i : ℕ) → v.published i → i ≢ 1 → (i ≡ pred) ⊎ (i ≢ pred) → w.key i < w.key (w.link i / 2)
    old_increases i o n (inl e) = subst (λ x. w.key x < w.key (w.link x / 2)) (sym e)
        (let h : Facts v w pred own (v.link pred / 2) k = f in
        let g : w.key (w.link pred / 2) ≡ w.key own = ap w.key f.own_is in omega arith)
    old_increases i o n (inr d) =
        let a : w.key i ≡ v.key i = q.keys i o in
        let b : w.key (v.link i / 2) ≡ v.key (v.link i / 2) = q.keys (v.link i / 2) (ord.next_published i o n) in
        let e : w.key (w.link i / 2) ≡ w.key (v.link i / 2) = ap (λ x. w.key (x / 2)) (q.links i o d) in
        let c : v.key i < v.key (v.link i / 2) = ord.increases i o n in omega arith

pub insert_pred : (v w : View) → IsOrdered v → (pred own k : ℕ) → Inserts v w pred own k → InChain w pred
insert_pred v w ord pred own k q =
    chain_before v w ord pred pred (λ a m l. ap (λ x. x / 2) (q.links a m (apart v a pred l))) (omega arith) q.in_chain

pub insert_own : (v w : View) → IsOrdered v → (pred own k : ℕ) → Inserts v w pred own k → InChain w own
insert_own v w ord pred own k q =
    chain_on w pred own own [] (insert_pred v w ord pred own k q) q.no_tail ((facts v w ord pred own k q).own_is) refl

pub insert_keeps : (v w : View) → IsOrdered v → (pred own k : ℕ) → Inserts v w pred own k → (b : ℕ) → InChain v b → InChain w b
insert_keeps v w ord pred own k q b ib = elim (sides v ord pred b q.in_chain ib) [
  | inl le ↦ chain_before v w ord pred b (λ a m l. ap (λ x. x / 2) (q.links a m (apart v a pred l))) le ib
  | inr t ↦ chain_on w own (v.link pred / 2) b t.0 (insert_own v w ord pred own k q) f.own_not_one f.own_next
      (segment_after v w ord (v.link pred / 2) b t.0 after f.curr_published t.1)
]
  where
    f : Facts v w pred own (v.link pred / 2) k
    f = facts v w ord pred own k q

    after : (a : ℕ) → v.published a → v.key (v.link pred / 2) ≤ v.key a → w.link a / 2 ≡ v.link a / 2
    after a m l = ap (λ x. x / 2) (q.links a m (apart' v pred a (omega arith)))

pub insert_back : (v w : View) → IsOrdered v → (pred own k : ℕ) → Inserts v w pred own k → (b : ℕ) → InChain w b
    → InChain v b ⊎ (b ≡ own)
insert_back v w ord pred own k q b ib =
    elim (sides w ws pred b (insert_pred v w ord pred own k q) ib) [
      | inl le ↦ inl (chain_before w v ws pred b before le ib)
      | inr t ↦ from_own t.0 (subst (λ x. Segment w x t.0 b) f.own_is t.1)
    ]
  where
    ws : IsOrdered w
    ws = insert-ordered v w ord pred own k q

    f : Facts v w pred own (v.link pred / 2) k
    f = facts v w ord pred own k q

    before' : (a : ℕ) → v.published a ⊎ (a ≡ own) → w.key a < w.key pred → v.link a / 2 ≡ w.link a / 2
    before' a (inl m) l = ap (λ x. x / 2) (sym (q.links a m (apart w a pred l)))
    before' a (inr e) l = let h : Facts v w pred own (v.link pred / 2) k = f in
        let g : w.key a ≡ w.key own = ap w.key e in absurd (omega arith)

    before : (a : ℕ) → w.published a → w.key a < w.key pred → v.link a / 2 ≡ w.link a / 2
    before a m l = before' a (q.published_from a m) l

    after' : (a : ℕ) → v.published a ⊎ (a ≡ own) → w.key (v.link pred / 2) ≤ w.key a → v.link a / 2 ≡ w.link a / 2
    after' a (inl m) l = let h : Facts v w pred own (v.link pred / 2) k = f in
        ap (λ x. x / 2) (sym (q.links a m (apart' w pred a (omega arith))))
    after' a (inr e) l = let h : Facts v w pred own (v.link pred / 2) k = f in
        let g : w.key a ≡ w.key own = ap w.key e in absurd (omega arith)

    after : (a : ℕ) → w.published a → w.key (v.link pred / 2) ≤ w.key a → v.link a / 2 ≡ w.link a / 2
    after a m l = after' a (q.published_from a m) l

    from_own : (cs : List ℕ) → Segment w own cs b → InChain v b ⊎ (b ≡ own)
    from_own [] s = inr (sym s)
    from_own (c ∷ cs) s = inl (chain_on v pred (v.link pred / 2) b cs q.in_chain q.no_tail refl
        (segment_after w v ws (v.link pred / 2) b cs after (q.grows (v.link pred / 2) f.curr_published)
        (subst (λ x. Segment w x cs b) f.own_next s.2)))

pub insert-goes : (v w : View) → IsOrdered v → (pred own k : ℕ) → Inserts v w pred own k → KeepsNodes v w
insert-goes v w ord pred own k q = record {
  keys = q.keys;
  grows = q.grows;
  kept = λ b m. elim (cases b) [
    | inl e ↦ inr (subst (λ x. InChain v x × InChain w x) (sym e) (q.in_chain, insert_pred v w ord pred own k q))
    | inr d ↦ inl (q.links b m d)
  ];
  back = λ b m ib. elim (insert_back v w ord pred own k q b ib) [
    | inl i ↦ i
    | inr e ↦ absurd (q.fresh (subst (λ x. v.published x) e m))
  ];
}
  where
    cases : (i : ℕ) → (i ≡ pred) ⊎ (i ≢ pred)
    cases i = grind arith

-- ---- Lemmas about the effect of an insertion on the keys of the set

pub insert_absent : (v w : View) → IsOrdered v → (pred own k : ℕ) → Inserts v w pred own k → InContent v k → ⊥
insert_absent v w ord pred own k q c =
    let e : v.key c.0 ≡ k + 1 = c.3 in
    let lo : v.key pred < k + 1 = q.above in
    let hi : k + 1 < v.key (v.link pred / 2) = q.below in
    gap v ord pred c.0 q.in_chain c.1 q.no_tail (omega arith) (omega arith)

pub insert_has : (v w : View) → IsOrdered v → (pred own k : ℕ) → Inserts v w pred own k → InContent w k
insert_has v w ord pred own k q =
    let e : w.link own ≡ 2 * (v.link pred / 2) = q.own_link in
    (own, insert_own v w ord pred own k q, q.user, q.own_key, omega arith)

pub insert_mark : (v w : View) → IsOrdered v → (pred own k : ℕ) → Inserts v w pred own k → (b : ℕ) → v.published b
    → w.link b % 2 ≡ v.link b % 2
insert_mark v w ord pred own k q b m = elim (cases b) [
  | inl e ↦ subst (λ x. w.link x % 2 ≡ v.link x % 2) (sym e)
      (let g : w.link pred ≡ 2 * own = q.pred_link in
      let h : v.link pred % 2 ≡ 0 = q.unmarked in omega arith)
  | inr d ↦ ap (λ x. x % 2) (q.links b m d)
]
  where
    cases : (i : ℕ) → (i ≡ pred) ⊎ (i ≢ pred)
    cases i = grind arith

pub insert_adds : (v w : View) → IsOrdered v → (pred own k : ℕ) → Inserts v w pred own k → (j : ℕ) → InContent v j → InContent w j
insert_adds v w ord pred own k q j c =
    let m : v.published c.0 = in_chain_published v ord c.0 c.1 in
    (c.0, insert_keeps v w ord pred own k q c.0 c.1, c.2, q.keys c.0 m ∙ c.3, insert_mark v w ord pred own k q c.0 m ∙ c.4)

pub insert_only : (v w : View) → IsOrdered v → (pred own k : ℕ) → Inserts v w pred own k → (j : ℕ) → InContent w j
    → InContent v j ⊎ (j ≡ k)
insert_only v w ord pred own k q j c = elim (insert_back v w ord pred own k q c.0 c.1) [
  | inl i ↦ (let m : v.published c.0 = in_chain_published v ord c.0 i in
      inl (c.0, i, c.2, sym (q.keys c.0 m) ∙ c.3, sym (insert_mark v w ord pred own k q c.0 m) ∙ c.4))
  | inr e ↦ inr (let g : w.key c.0 ≡ w.key own = ap w.key e in
      let h : w.key own ≡ k + 1 = q.own_key in
      let i : w.key c.0 ≡ j + 1 = c.3 in omega arith)
]
