-- Proof: if a call of OptimisticList changes nothing, the call's reply is correct at the moment of one of its own
-- loads.
use Rattle.std.specs.Prelude.{◌≡◌, ◌≢◌, ℕ, zero, suc, ◌+◌, ◌/◌, ◌<◌, ◌≤◌, ◌⊎◌, Bool, true, false, Option, Some, None, List}
use Rattle.std.specs.Prelude.{if◌then◌else◌, ◌==◌, ◌||◌, nat_lt, slice_index_or, slice_set, length, refl}
use Rattle.std.proofs.Common.{arith, inl, inr, sym, ◌∙◌, ap, subst, get_or-set_other, get_or-set_same}
use Rattle.std.proofs.lemmas.List.FromFn.{get_or-map-range_with_len}
use Rattle.lset_words.proofs.Numbers.{same_or_not, if_same, if_other}
use Rattle.lset_words.specs.declared.Call.{Call}
use Rattle.lset_words.specs.declared.Reply.{Reply}
use Rattle.lset_words.specs.Words.{target, Sizes, Opening, sizes}
use Rattle.lset_words.specs.Log.{Log, LastCall, begun_at, has_changed, is_change, maker, last_after, last_at}
use Rattle.lset_steps.specs.declared.Local.{Local}
use Rattle.lset_steps.specs.declared.Event.{Event}
use Rattle.lset_steps.specs.declared.Event.TheVariants.{Begin, Go}
use Rattle.lset_steps.specs.Steps.{State, Run, Enabled, idle, state_at, local_of, after, seen_by, seen_next, entry_of, log_of}
use Rattle.lset_steps.specs.Chain.{View, view, FitsIn, node_link, node_lock}
use Rattle.lset_steps.specs.Laws.{used_in, views}
use Rattle.lset_steps.specs.Rows.{decided_on}
use Rattle.lset_steps.proofs.Memory.{Memory}
use Rattle.lset_steps.proofs.Held.{Held}
use Rattle.lset_steps.proofs.Replies.{keep}
use Rattle.lset_steps.proofs.Discipline.{Thread, inv_at}
use Rattle.lset_steps.proofs.Turns.{discipline_of, node_locks}
use Rattle.lset_optimistic.specs.Optimistic.{optimistic, targets, at_node, at_link, at_end, local_after}
use Rattle.lset_optimistic.specs.Lawful.{optimistic_lawful}
use Rattle.lset_optimistic.specs.Lawful.Outline.{At, Window, optimistic_follows, decision}
use Rattle.lset_optimistic.specs.Lawful.Outline.At.{at0, at1, at2, at3, at4, at5, at6, at7, at8, at9, at10, at11, at12, at13, at14, at15}
use Rattle.lset_optimistic.specs.Promises.{held_at, world_at, FitsAtALoad, OptimisticRepliesFit}
use Rattle.lset_optimistic.proofs.SecondWalks.{known}

-- ---- Lemmas about row 8 of the step table: the load of pred's link decides the reply
none_is_not : {A : Type 0} (reply : Reply) → None ≡ Some reply → A
none_is_not reply e = absurd (cc)

some_is : (a b : Reply) → Some a ≡ Some b → a ≡ b
some_is a b e = cc

module _ (sz : Sizes) (t : ℕ) (vs : ℕ → View) (first now : ℕ) (ws : List ℕ) (used : ℕ → ℕ) (done : Bool) (l : Local)
    (reply : Reply)
    (m : Memory false sz ws used) (th : Thread At sz t vs first now ws used done l) (tn : t < sz.threads) (e : l.pc ≡ 8) where
  fits_link : Window (view sz ws used) l → node_lock ws l.curr ≡ t + 1 → Held (view sz ws used) t l.pred
      → (at_link (node_link ws l.pred) (record l { pc = 8 })).reply ≡ Some reply
      → (node_link ws l.pred / 2 ≡ l.curr) × FitsIn sz.quota (view sz ws used) t l.call reply
  fits_link f c x y = elim (same_or_not (node_link ws l.pred / 2) l.curr) [
    | inl z ↦ (let made = decision m (record l { pc = 8 }) tn (keep sz t 8 l.reply l th.registers) th.counts f c x z in
        let told = ap (λ (k : Local). k.reply) (sym (if_same (node_link ws l.pred / 2) l.curr z
        (decided_on targets l.ckey (record l { pc = 8 })) (record l { pc = 14; reply = None }))) ∙ y in (
          z,
          elim made.1 [
            | inl r ↦ subst (FitsIn sz.quota (view sz ws used) t l.call) (some_is r.0 reply (sym (ap (λ (k : Local). k.reply) r.1)
                ∙ told)) r.2
            | inr o ↦ elim o [
              | inl r ↦ none_is_not reply (sym (ap (λ (k : Local). k.reply) r.0) ∙ told)
              | inr r ↦ none_is_not reply (sym (ap (λ (k : Local). k.reply) r.0) ∙ told)
            ]
          ],
        ))
    | inr z ↦ none_is_not reply (ap (λ (k : Local). k.reply) (sym (if_other (node_link ws l.pred / 2) l.curr z
        (decided_on targets l.ckey (record l { pc = 8 })) (record l { pc = 14; reply = None }))) ∙ y)
  ]

  fits_row : At sz.quota t vs first now (view sz ws used) done l
      → (at_link (node_link ws l.pred) (record l { pc = 8 })).reply ≡ Some reply
      → (node_link ws l.pred / 2 ≡ l.curr) × FitsIn sz.quota (view sz ws used) t l.call reply
  fits_row at = fits_link (grind arith) (grind arith) (grind arith)

link_row : (ws : List ℕ) (l : Local) → l.pc ≡ 8
    → local_after l (seen_by ws (optimistic.next l)) ≡ at_link (node_link ws l.pred) (record l { pc = 8 })
link_row ws l e = rw e refl

fits_at : (op : Opening) (last : ℕ) (es : ℕ → Event) (r : Run optimistic op es last) (t : ℕ) (tn : t < op.threads) (k : ℕ) →
    k < last → es k ≡ Go t
    → (held_at op es k t).pc ≡ 8 → (reply : Reply)
    → (local_after (held_at op es k t) (seen_next optimistic (state_at optimistic op es k) t)).reply ≡ Some reply
    → ((world_at op es k).link (held_at op es k t).pred / 2 ≡ (held_at op es k t).curr)
    × FitsIn op.quota (world_at op es k) t (held_at op es k t).call reply
fits_at op last es r t tn k l goes e reply y =
    let i = inv_at optimistic false At (discipline_of optimistic (node_locks false) At optimistic_follows) op es last r k
    (omega arith) in
    let s : State = state_at optimistic op es k in
    let th = i.threads t tn in
    fits_row (sizes op) t (views optimistic op es) (begun_at (log_of optimistic op es) t k) k s.words (used_in s)
    (has_changed (log_of optimistic op es) t k) (local_of s t) reply i.memory th tn e th.at
    (ap (λ (x : Local). x.reply) (sym (link_row s.words (local_of s t) e)) ∙ y)

-- Holds if a step to row 14 or 15 of the step table yields the thread's reply in one of three ways: the step is at row
-- 8 and decides the reply, the step changes the set, or the step is at row 14 and the thread already has the reply.
abbrev Came : Local → ℕ → Reply → Type 0
Came l seen reply = (l.pc ≡ 8) ⊎ (is_change (optimistic.effect l seen) ≡ true) ⊎ ((l.pc ≡ 14) × (l.reply ≡ Some reply))

too_early : {A : Type 0} {p : ℕ} → 14 ≤ p → p < 14 → A
too_early a b = absurd (omega arith)

either_early : (b : Bool) (x y : Local) → x.pc < 14 → y.pc < 14 → (if b then x else y).pc < 14
either_early true x y a c = a
either_early false x y a c = c

end_early : (r : Option Reply) (l : Local) → (at_end r l).pc < 14
end_early None l = omega arith
end_early (Some reply) l = omega arith

failed_or_early : {A : Type 0} (b c : Bool) (x y z : Local) (reply : Reply) → x.reply ≡ None → y.pc < 14 → z.pc < 14
    → 14 ≤ (if b then x else if c then y else z).pc
    → (if b then x else if c then y else z).reply ≡ Some reply → A
failed_or_early true c x y z reply n a b h k = none_is_not reply (sym n ∙ k)
failed_or_early false true x y z reply n a b h k = too_early h a
failed_or_early false false x y z reply n a b h k = too_early h b

module _ (l : Local) (seen : ℕ) where
  row_2 : l.pc ≡ 2 → (local_after l seen).pc < 14
  row_2 e = rw e (either_early (nat_lt seen (target l.call)) (record l { pc = 3; ckey = seen }) (record l { pc = 4; ckey = seen })
      (omega arith) (omega arith))

  row_4 : l.pc ≡ 4 → (local_after l seen).pc < 14
  row_4 e = rw e (either_early (seen == 0) (record l { pc = 5 }) (record l { pc = 4 }) (omega arith) (omega arith))

  row_5 : l.pc ≡ 5 → (local_after l seen).pc < 14
  row_5 e = rw e (either_early (seen == 0) (if l.pred == 0 then record l { pc = 8; node = 0 } else record l { pc = 6; node = 0 })
      (record l { pc = 5 })
      (either_early (l.pred == 0) (record l { pc = 8; node = 0 }) (record l { pc = 6; node = 0 }) (omega arith) (omega arith))
      (omega arith))

  row_7 : l.pc ≡ 7 → local_after l seen ≡ at_node seen (record l { pc = 7 })
  row_7 e = rw e refl

  row_14 : l.pc ≡ 14 → (local_after l seen).reply ≡ l.reply
  row_14 e = rw e refl

  row_15 : l.pc ≡ 15 → (local_after l seen).pc < 14
  row_15 e = rw e (end_early l.reply (record l { pc = 15 }))

  came : {q t : ℕ} {vs : ℕ → View} {first now : ℕ} {v : View} {done : Bool} → At q t vs first now v done l → l.pc ≢ 0 →
      (reply : Reply)
      → 14 ≤ (local_after l seen).pc → (local_after l seen).reply ≡ Some reply → Came l seen reply
  came (at0 e) busy reply h k = absurd (busy e)
  came (at1 e d) busy reply h k = too_early h (rw e (omega arith))
  came (at2 e d x y) busy reply h k = too_early h (row_2 e)
  came (at3 e d c y b) busy reply h k = too_early h (rw e (omega arith))
  came (at4 e d f) busy reply h k = too_early h (row_4 e)
  came (at5 e d f p) busy reply h k = too_early h (row_5 e)
  came (at6 e d f c y start g x) busy reply h k = too_early h (rw e (omega arith))
  came (at7 e d f c start g x) busy reply h k =
      failed_or_early (nat_lt l.pkey seen) (l.node == l.pred) (record l { pc = 14; reply = None }) (record l { pc = 8 })
      (record l { pc = 6 }) reply refl (omega arith) (omega arith) (subst (λ (x : Local). 14 ≤ x.pc) (row_7 e) h)
      (ap (λ (x : Local). x.reply) (sym (row_7 e)) ∙ k)
  came (at8 e d f c x a) busy reply h k = inl e
  came (at9 e d b a) busy reply h k = too_early h (rw e (omega arith))
  came (at10 e d b a x) busy reply h k = too_early h (rw e (omega arith))
  came (at11 e d b a x y) busy reply h k = inr (inl (rw e refl))
  came (at12 e d b a) busy reply h k = too_early h (rw e (omega arith))
  came (at13 e d b a x) busy reply h k = inr (inl (rw e refl))
  came (at14 e p c x i o) busy reply h k = inr (inr (e, sym (row_14 e) ∙ k))
  came (at15 e c o) busy reply h k = too_early h (row_15 e)

was_false : (a b : Bool) → (a || b) ≡ false → a ≡ false
was_false true b e = e
was_false false b e = refl

not_true : {A : Type 0} (a b : Bool) → b ≡ true → (a || b) ≡ false → A
not_true true b e f = absurd (cc)
not_true false b e f = absurd (cc)

-- ---- Proof for a whole run
module _ (op : Opening) (last : ℕ) (es : ℕ → Event) (r : Run optimistic op es last) (t : ℕ) (tn : t < op.threads) where
  abbrev L : Log
  L = log_of optimistic op es

  abbrev S : ℕ → State
  S k = state_at optimistic op es k

  -- Holds if any reply of a thread that has changed nothing and is about to release a lock (row 14 or 15 of the step
  -- table) was correct at an earlier load of the call.
  abbrev Settled : ℕ → LastCall → Local → Type 0
  Settled now x l = (reply : Reply) → 14 ≤ l.pc → l.reply ≡ Some reply → x.changed ≡ false
      → FitsAtALoad op es x.begun now t l.call reply

  later : {now first : ℕ} {call : Call} {reply : Reply} → FitsAtALoad op es first now t call reply
      → FitsAtALoad op es first (suc now) t call reply
  later {now} x = record {
    at = x.at;
    from = x.from;
    before = (let b : x.at < now = x.before in omega arith);
    step = x.step;
    row = x.row;
    leads = x.leads;
    fits = x.fits;
  }

  settled_on : (now : ℕ) {x x' : LastCall} {l l' : Local} → x' ≡ x → l' ≡ l → Settled now x l → Settled (suc now) x' l'
  settled_on now {x} {x'} {l} {l'} a b s = subst (λ z. Settled (suc now) z l') (sym a)
      (subst (λ z. Settled (suc now) x z) (sym b) (λ reply h y u. later (s reply h y u)))

  abbrev next : ℕ → Event → LastCall
  next k e = if maker (entry_of optimistic (S k) e) == t then last_after (suc k) (entry_of optimistic (S k) e) (last_at L t k)
      else last_at L t k

  abbrev After : ℕ → Event → Type 0
  After k e = Settled (suc k) (next k e) (local_of (after optimistic (S k) e) t)

  abbrev Now : ℕ → Type 0
  Now k = Settled k (last_at L t k) (local_of (S k) t)

  own_step : (k : ℕ) → k < last → es k ≡ Go t → Enabled (S k) (Go t) → Now k → After k (Go t)
  own_step k lt goes en settled reply h y u =
      let l : Local = local_of (S k) t in
      let seen : ℕ = seen_next optimistic (S k) t in
      let th = known op last es r t tn k (omega arith) in
      let same : local_of (after optimistic (S k) (Go t)) t ≡ local_after l seen =
      get_or-set_same (S k).locals t (local_after l seen) (idle 0 0) en.0 in
      let own : next k (Go t) ≡ last_after (suc k) (entry_of optimistic (S k) (Go t)) (last_at L t k) = if_same t t refl _ _ in
      let unchanged : (has_changed L t k || is_change (optimistic.effect l seen)) ≡ false =
      sym (ap (λ (x : LastCall). x.changed) own) ∙ u in
      let reply_is : (local_after l seen).reply ≡ Some reply = ap (λ (x : Local). x.reply) (sym same) ∙ y in
      let same_call : (local_after l seen).call ≡ l.call = (optimistic_lawful.steps op last k t es r lt goes).same_call in
      subst (λ (x : LastCall). FitsAtALoad op es x.begun (suc k) t (local_of (after optimistic (S k) (Go t)) t).call reply)
      (sym own) (subst (λ (x : Local). FitsAtALoad op es (begun_at L t k) (suc k) t x.call reply) (sym same)
      (subst (λ x. FitsAtALoad op es (begun_at L t k) (suc k) t x reply) (sym same_call)
      (elim (came l seen th.at en.1 reply (subst (λ (x : Local). 14 ≤ x.pc) same h) reply_is) [
        | inl e ↦ (let fit = fits_at op last es r t tn k lt goes e reply reply_is in record {
          at = k;
          from = th.begun;
          before = omega arith;
          step = goes;
          row = e;
          leads = fit.0;
          fits = fit.1;
        })
        | inr o ↦ elim o [
          | inl e ↦ not_true (has_changed L t k) (is_change (optimistic.effect l seen)) e unchanged
          | inr e ↦ later (settled reply (let at : l.pc ≡ 14 = e.0 in omega arith) e.1
              (was_false (has_changed L t k) (is_change (optimistic.effect l seen)) unchanged))
        ]
      ])))

  other : (k : ℕ) (e : Event) → maker (entry_of optimistic (S k) e) ≢ t → next k e ≡ last_at L t k
  other k e d = if_other (maker (entry_of optimistic (S k) e)) t d _ _

  settle : (k : ℕ) → k < last → (e : Event) → es k ≡ e → Enabled (S k) e → Now k → After k e
  settle k lt (Begin u call) goes en settled = elim (same_or_not u t) [
    | inl e ↦ (λ reply h y c.
        (let m : Local = optimistic.begin call (local_of (S k) u) in
        let same : slice_index_or (slice_set (S k).locals u m) t (idle 0 0) ≡ m =
        subst (λ x. slice_index_or (slice_set (S k).locals x m) t (idle 0 0) ≡ m) (sym e)
        (get_or-set_same (S k).locals t m (idle 0 0) (subst (λ x. x < length (S k).locals) e en.0)) in
        let at : 14 ≤ m.pc = subst (λ (x : Local). 14 ≤ x.pc) same h in too_early at (omega arith)))
    | inr d ↦ settled_on k (other k (Begin u call) d)
        (get_or-set_other (S k).locals u t (optimistic.begin call (local_of (S k) u)) (idle 0 0) (λ f. d (sym f))) settled
  ]
  settle k lt (Go u) goes en settled = elim (same_or_not u t) [
    | inl e ↦ subst (λ x. After k (Go x)) (sym e)
        (own_step k lt (subst (λ x. es k ≡ Go x) e goes) (subst (λ x. Enabled (S k) (Go x)) e en) settled)
    | inr d ↦ settled_on k (other k (Go u) d)
        (get_or-set_other (S k).locals u t (local_after (local_of (S k) u) (seen_next optimistic (S k) u)) (idle 0 0)
        (λ f. d (sym f))) settled
  ]

  settled_at : (k : ℕ) → k ≤ last → Now k
  settled_at zero l = λ reply h y u.
      too_early (subst (λ (x : Local). 14 ≤ x.pc) (get_or-map-range_with_len (idle op.quota) 0 op.threads t t (idle 0 0) tn
      (omega arith)) h)
      (omega arith)
  settled_at (suc k) l = settle k (omega arith) (es k) refl (r.enabled k (omega arith)) (settled_at k (omega arith))

answers_at_the_end : (l : Local) (reply : Reply) → (if l.pc == 15 then l.reply else None) ≡ Some reply → (l.pc ≡ 15)
    × (l.reply ≡ Some reply)
answers_at_the_end l reply e = elim (same_or_not l.pc 15) [
  | inl f ↦ (f, sym (if_same l.pc 15 f l.reply None) ∙ e)
  | inr f ↦ none_is_not reply (sym (if_other l.pc 15 f l.reply None) ∙ e)
]

pub optimistic_replies_fit_of : OptimisticRepliesFit
optimistic_replies_fit_of op last k t es reply r lt tn goes answered unchanged =
    let l : Local = local_of (state_at optimistic op es k) t in
    let last_row = answers_at_the_end l reply answered in
    settled_at op last es r t tn k (omega arith) reply (let e : l.pc ≡ 15 = last_row.0 in omega arith) last_row.1 unchanged
