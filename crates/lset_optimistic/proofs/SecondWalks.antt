-- Proof that the second walks of OptimisticList, which validate what the first walks found, are valid: each node that a
-- second walk reaches was in the chain (reachable from the head) at some moment of the call.
use Rattle.std.specs.Prelude.{◌≡◌, ◌≢◌, ℕ, zero, suc, ◌+◌, ◌-◌, ◌/◌, ◌<◌, ◌≤◌, ◌⊎◌, Bool, true, false, None, if◌then◌else◌, ◌==◌}
use Rattle.std.specs.Prelude.{nat_lt, slice_index_or, slice_set, length, refl}
use Rattle.std.proofs.Common.{arith, inl, inr, sym, ◌∙◌, ap, subst, get_or-set_other, get_or-set_same}
use Rattle.lset_words.proofs.Numbers.{same_or_not, below_or_not, if_same, if_other, if_below, if_not_below}
use Rattle.lset_words.specs.declared.Call.{Call}
use Rattle.lset_words.specs.declared.Call.TheVariants.{Add, Remove, Contains}
use Rattle.lset_words.specs.Words.{target, lock_index, Opening, sizes}
use Rattle.lset_words.specs.Log.{begun_at, has_changed}
use Rattle.lset_steps.specs.declared.Local.{Local}
use Rattle.lset_steps.specs.declared.Action.TheVariants.{Store}
use Rattle.lset_steps.specs.declared.Event.{Event}
use Rattle.lset_steps.specs.declared.Event.TheVariants.{Begin, Go}
use Rattle.lset_steps.specs.Steps.{State, Run, Enabled, idle, state_at, local_of, after, seen_next, log_of}
use Rattle.lset_steps.specs.Chain.{View}
use Rattle.lset_steps.specs.Laws.{used_in, views}
use Rattle.lset_steps.specs.Rows.{decided, decided_on}
use Rattle.lset_steps.proofs.Held.{Held}
use Rattle.lset_steps.proofs.SecondWalk.{SecondWalk, kept_upto, second_walk_arrives}
use Rattle.lset_steps.proofs.Discipline.{Thread, inv_at}
use Rattle.lset_steps.proofs.Turns.{discipline_of, node_locks}
use Rattle.lset_optimistic.specs.Optimistic.{optimistic, targets, at_node, at_link, local_after}
use Rattle.lset_optimistic.specs.Lawful.Outline.{At, optimistic_follows}
use Rattle.lset_optimistic.specs.Lawful.Outline.At.{at0, at1, at2, at3, at4, at5, at6, at7, at8, at9, at10, at11, at12, at13, at14, at15}
use Rattle.lset_optimistic.specs.Promises.{held_at, world_at, IsWalking, HasArrived, GivesBack, WasInChain, IsLockedInChain, ValidatedWalk}

-- The properties of a thread's second walk, at each row of the step table.
record Facts (vs : ℕ → View) (first now : ℕ) (v : View) (t : ℕ) (l : Local) : Type 0 where
  walks : IsWalking l → WasInChain vs first now t l.pred l.node
  arrives : HasArrived l → IsLockedInChain v t l.pred
  decides : 8 ≤ l.pc → l.pc ≤ 13 → HasArrived l

module _ (q t : ℕ) (vs : ℕ → View) (first now : ℕ) (v : View) (done : Bool) (l : Local) where
  since : vs now ≡ v → (start b : ℕ) → first ≤ start → SecondWalk vs start now v t l.pred b → WasInChain vs first now t l.pred b
  since present start b g x =
      let from : start ≤ x.seen.at = x.seen.from in
      record {
        at = x.seen.at;
        from = omega arith;
        upto = x.seen.upto;
        in_chain = x.seen.in_chain;
        locked = λ i a u. kept_upto vs present x i (omega arith) (omega arith);
      }

  no_walk : {A : Type 0} → (l.pc < 6) ⊎ (7 < l.pc) → IsWalking l → A
  no_walk h w = absurd (grind arith)

  too_early : {A : Type 0} → l.pc < 7 → HasArrived l → A
  too_early low h = absurd (let from : 7 ≤ l.pc = h.from in omega arith)

  before : l.pc < 6 → Facts vs first now v t l
  before low = record {
    walks = λ w. no_walk (inl low) w;
    arrives = λ h. too_early (omega arith) h;
    decides = λ from upto. absurd (omega arith);
  }

  between : 8 ≤ l.pc → l.pc ≤ 13 → l.node ≡ l.pred → Held v t l.pred → Facts vs first now v t l
  between low high a x = record {
    walks = λ w. no_walk (inr (omega arith)) w;
    arrives = λ h. record { in_chain = x.at; mine = x.mine };
    decides = λ from upto. record { from = omega arith; upto = omega arith; there = a };
  }

  facts : vs now ≡ v → At q t vs first now v done l → Facts vs first now v t l
  facts present (at0 e) = before (omega arith)
  facts present (at1 e d) = before (omega arith)
  facts present (at2 e d x k) = before (omega arith)
  facts present (at3 e d c k b) = before (omega arith)
  facts present (at4 e d f) = before (omega arith)
  facts present (at5 e d f p) = before (omega arith)
  facts present (at6 e d f c k start g x) = record {
    walks = λ w. since present start l.node g x;
    arrives = λ h. too_early (omega arith) h;
    decides = λ from upto. absurd (omega arith);
  }
  facts present (at7 e d f c start g x) = record {
    walks = λ w. since present start l.node g x;
    arrives = λ h. record { in_chain = second_walk_arrives vs present h.there x; mine = x.mine };
    decides = λ from upto. absurd (omega arith);
  }
  facts present (at8 e d f c x a) = between (omega arith) (omega arith) a x
  facts present (at9 e d b a) = between (omega arith) (omega arith) b.1 b.0.walk.held
  facts present (at10 e d b a x) = between (omega arith) (omega arith) b.1 b.0.walk.held
  facts present (at11 e d b a x y) = between (omega arith) (omega arith) b.1 b.0.walk.held
  facts present (at12 e d b a) = between (omega arith) (omega arith) b.1 b.0.walk.held
  facts present (at13 e d b a x) = between (omega arith) (omega arith) b.1 b.0.walk.held
  facts present (at14 e p c x i o) = record {
    walks = λ w. no_walk (inr (omega arith)) w;
    arrives = λ h. record { in_chain = i h.there; mine = p };
    decides = λ from upto. absurd (omega arith);
  }
  facts present (at15 e c o) = record {
    walks = λ w. no_walk (inr (omega arith)) w;
    arrives = λ h. absurd (let upto : l.pc ≤ 14 = h.upto in omega arith);
    decides = λ from upto. absurd (omega arith);
  }

-- Holds if the second walk is at pred, the first locked node, in the private state `m` after a step, and the step has
-- not changed `pred` of the private state `l` before the step.
abbrev Stays : Local → Local → Type 0
Stays l m = HasArrived m × (m.pred ≡ l.pred)

decided_stays : (call : Call) (found room : Bool) (key : ℕ) (l : Local) → l.node ≡ l.pred
    → Stays l (decided 9 12 14 call found room key l)
decided_stays (Add k) false true key l a = (record { from = omega arith; upto = omega arith; there = a }, refl)
decided_stays (Remove k) true room key l a = (record { from = omega arith; upto = omega arith; there = a }, refl)
decided_stays (Contains k) true room key l a = (record { from = omega arith; upto = omega arith; there = a }, refl)
decided_stays call found room key l a = (record { from = omega arith; upto = omega arith; there = a }, refl)

link_stays : (seen : ℕ) (l : Local) → l.node ≡ l.pred → Stays l (at_link seen l)
link_stays seen l a = elim (same_or_not (seen / 2) l.curr) [
  | inl e ↦ subst (Stays l) (sym (if_same (seen / 2) l.curr e (decided_on targets l.ckey l) (record l { pc = 14; reply = None })))
      (decided_stays l.call (l.ckey == target l.call) (nat_lt l.used l.quota) l.ckey l a)
  | inr e ↦ subst (Stays l) (sym (if_other (seen / 2) l.curr e (decided_on targets l.ckey l)
      (record l { pc = 14; reply = None })))
      (record { from = omega arith; upto = omega arith; there = a }, refl)
]

node_stays : (seen : ℕ) (l : Local) → l.node ≡ l.pred → Stays l (at_node seen l)
node_stays seen l a =
    let past : Local = record l { pc = 14; reply = None } in
    let there : Local = record l { pc = 8 } in let on : Local = record l { pc = 6 } in
    elim (below_or_not l.pkey seen) [
      | inl lt ↦ subst (Stays l) (sym (if_below l.pkey seen lt past (if l.node == l.pred then there else on)))
          (record { from = omega arith; upto = omega arith; there = a }, refl)
      | inr ge ↦ subst (Stays l) (sym (if_not_below l.pkey seen ge past (if l.node == l.pred then there else on)
          ∙ if_same l.node l.pred a there on)) (record { from = omega arith; upto = omega arith; there = a }, refl)
    ]

module _ (l : Local) (seen : ℕ) (a : l.node ≡ l.pred) where
  row_stays : (p : ℕ) → l.pc ≡ p
      → (p ≡ 7) ⊎ (p ≡ 8) ⊎ (p ≡ 9) ⊎ (p ≡ 10) ⊎ (p ≡ 11) ⊎ (p ≡ 12) ⊎ (p ≡ 13) → Stays l (local_after l seen)
  row_stays p e (inl f) = rw (e ∙ f) (node_stays seen (record l { pc = 7 }) a)
  row_stays p e (inr (inl f)) = rw (e ∙ f) (link_stays seen (record l { pc = 8 }) a)
  row_stays p e (inr (inr (inl f))) = rw (e ∙ f) (record { from = omega arith; upto = omega arith; there = a }, refl)
  row_stays p e (inr (inr (inr (inl f)))) = rw (e ∙ f) (record { from = omega arith; upto = omega arith; there = a }, refl)
  row_stays p e (inr (inr (inr (inr (inl f))))) = rw (e ∙ f) (record { from = omega arith; upto = omega arith; there = a }, refl)
  row_stays p e (inr (inr (inr (inr (inr (inl f)))))) = rw (e ∙ f) (
    record { from = omega arith; upto = omega arith; there = a },
    refl,
  )
  row_stays p e (inr (inr (inr (inr (inr (inr f)))))) = rw (e ∙ f) (
    record { from = omega arith; upto = omega arith; there = a },
    refl,
  )

which_row : (p : ℕ) → 7 ≤ p → p ≤ 14 → p ≢ 14 → (p ≡ 7) ⊎ (p ≡ 8) ⊎ (p ≡ 9) ⊎ (p ≡ 10) ⊎ (p ≡ 11) ⊎ (p ≡ 12) ⊎ (p ≡ 13)
which_row p from upto d = grind arith

gives_back : (l : Local) (a : ℕ) → l.pc ≡ 14 → l.pred ≡ a → optimistic.next l ≡ Store (lock_index a) 0
gives_back l a e f = rw (e, f) refl

-- ---- Lemmas about the thread's private state after one event
module _ (s : State) (t : ℕ) where
  other_local : (u : ℕ) (l : Local) → t ≢ u → slice_index_or (slice_set s.locals u l) t (idle 0 0) ≡ local_of s t
  other_local u l d = get_or-set_other s.locals u t l (idle 0 0) d

  event_stays : (e : Event) → Enabled s e → HasArrived (local_of s t) → (e ≡ Go t → (local_of s t).pc ≢ 14)
      → Stays (local_of s t) (local_of (after optimistic s e) t)
  event_stays (Begin u call) en h d = elim (same_or_not t u) [
    | inl e ↦ absurd (let from : 7 ≤ (local_of s t).pc = h.from in
        let rest : (local_of s u).pc ≡ 0 = en.1 in
        let same : (local_of s t).pc ≡ (local_of s u).pc = ap (λ x. (local_of s x).pc) e in omega arith)
    | inr e ↦ subst (Stays (local_of s t)) (sym (other_local u (optimistic.begin call (local_of s u)) e)) (h, refl)
  ]
  event_stays (Go u) en h d = elim (same_or_not u t) [
    | inl e ↦ (let f : Go u ≡ Go t = ap (λ x. Go x) e in
        let l : Local = local_of s t in
        subst (λ x. Stays l (local_of (after optimistic s (Go x)) t)) (sym e)
        (subst (Stays l) (sym (get_or-set_same s.locals t (local_after l (seen_next optimistic s t)) (idle 0 0)
        (subst (λ x. x < length s.locals) e en.0)))
        (row_stays l (seen_next optimistic s t) h.there l.pc refl (which_row l.pc h.from h.upto (d f)))))
    | inr e ↦ subst (Stays (local_of s t))
        (sym (other_local u (local_after (local_of s u) (seen_next optimistic s u)) (λ f. e (sym f)))) (h, refl)
  ]

-- ---- Proof for a whole run
module _ (op : Opening) (last : ℕ) (es : ℕ → Event) (r : Run optimistic op es last) (t : ℕ) (tn : t < op.threads) where
  abbrev vs : ℕ → View
  vs = views optimistic op es

  pub known : (k : ℕ) → k ≤ last
      → Thread At (sizes op) t (views optimistic op es) (begun_at (log_of optimistic op es) t k) k
      (state_at optimistic op es k).words (used_in (state_at optimistic op es k))
      (has_changed (log_of optimistic op es) t k) (held_at op es k t)
  known k l = (inv_at optimistic false At (discipline_of optimistic (node_locks false) At optimistic_follows) op es last r k
      l).threads t tn

  facts_at : (k : ℕ) → k ≤ last
      → Facts (views optimistic op es) (begun_at (log_of optimistic op es) t k) k (world_at op es k) t (held_at op es k t)
  facts_at k l = facts op.quota t (views optimistic op es) (begun_at (log_of optimistic op es) t k) k (world_at op es k)
      (has_changed (log_of optimistic op es) t k) (held_at op es k t) refl (known k l).at

  stays_for : (j d k : ℕ) → k ≡ j + d → k ≤ last → HasArrived (held_at op es j t)
      → ((i : ℕ) → j ≤ i → i < k → GivesBack op es i t (held_at op es j t).pred → ⊥)
      → Stays (held_at op es j t) (held_at op es k t)
  stays_for j zero k e l h f = let g : j ≡ k = omega arith in
      subst (λ x. Stays (held_at op es j t) (held_at op es x t)) g (h, refl)
  stays_for j (suc d) k e l h f =
      let before : Stays (held_at op es j t) (held_at op es (j + d) t) =
      stays_for j d (j + d) refl (omega arith) h (λ i a b. f i a (omega arith)) in
      let now : Stays (held_at op es (j + d) t) (held_at op es (suc (j + d)) t) =
      event_stays (state_at optimistic op es (j + d)) t (es (j + d)) (r.enabled (j + d) (omega arith)) before.0
      (λ goes at.
      f (j + d) (omega arith) (omega arith)
      (record { step = goes; stores = gives_back (held_at op es (j + d) t) (held_at op es j t).pred at before.1 })) in
      let g : suc (j + d) ≡ k = omega arith in
      subst (λ x. Stays (held_at op es j t) (held_at op es x t)) g (now.0, now.1 ∙ before.1)

pub validated_walk_of : ValidatedWalk
validated_walk_of op last t es r tn = record {
  passes = λ k l w. (facts_at op last es r t tn k l).walks w;
  arrives = λ j k a l h f.
      (let s : Stays (held_at op es j t) (held_at op es k t) = stays_for op last es r t tn j (k - j) k (omega arith) l h f in
      subst (IsLockedInChain (world_at op es k) t) s.1 ((facts_at op last es r t tn k l).arrives s.0));
  decides = λ k l from upto. (facts_at op last es r t tn k l).decides from upto;
}
