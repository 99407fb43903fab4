-- The proof outline of LockFreeList: an assertion for each row of the step table, and the proof that each step
-- preserves the assertions.
use Rattle.std.specs.Prelude.{◌≡◌, ◌≢◌, ℕ, suc, ◌+◌, ◌-◌, ◌*◌, ◌/◌, ◌%◌, ◌<◌, ◌≤◌, ◌⊎◌, Bool, true, false, Some, None, List, []}
use Rattle.std.specs.Prelude.{slice_set, refl, ◌==◌, nat_lt}
use Rattle.std.proofs.Common.{arith, inl, inr, sym, ◌∙◌, ap, subst}
use Rattle.lset_words.proofs.Numbers.{same_or_not, below_or_not, if_below, if_not_below, if_same, if_other, same_number}
use Rattle.lset_words.proofs.Numbers.{other_number, lower_number, not_lower_number}
use Rattle.lset_words.specs.Words.{key_index, link_index, tail_word, node_count, slot_node, target, key_of, Sizes}
use Rattle.lset_words.specs.Account.{FitsSometime}
use Rattle.lset_words.specs.declared.Call.TheVariants.{Add, Remove, Ceiling}
use Rattle.lset_words.specs.declared.Reply.{Reply}
use Rattle.lset_words.specs.declared.Reply.TheVariants.{True}
use Rattle.lset_words.specs.declared.Reply.TheVariants as reply
use Rattle.lset_steps.specs.declared.Local.{Local}
use Rattle.lset_steps.specs.declared.Action.TheVariants.{Load, Store, Exchange}
use Rattle.lset_steps.specs.declared.Fed.{Fed}
use Rattle.lset_steps.specs.Chain.{View, view, InChain, InContent, IsOrdered, FitsIn, node_key, node_link, contents_of, counts_of}
use Rattle.lset_steps.proofs.Moves.{KeepsNodes}
use Rattle.lset_steps.proofs.Hindsight.{key_stays, unmarked_before}
use Rattle.lset_steps.proofs.QuietMove.{in_chain_published, chain_on}
use Rattle.lset_steps.specs.Laws.{Registers, Due}
use Rattle.lset_steps.proofs.Memory.{WordStep, Memory, Writes, reads, fails, own_key, own_link, puts, sets_mark, cuts, own_of, one_more}
use Rattle.lset_steps.proofs.Memory.{one_more_same, next_published as next_of, inner, own_in, goes_on, memory_after, link_wrote, key_wrote}
use Rattle.lset_steps.proofs.AfterWrite.{not_link, key_after_link}
use Rattle.lset_steps.proofs.Remains.{Remains}
use Rattle.lset_steps.proofs.Discipline.{Here, Thread}
use Rattle.lset_steps.proofs.Replies.{Adding, Removing, removing_kept, adding_kept, registers_begun, keep_used, keep_curr}
use Rattle.lset_steps.proofs.Replies.{decided_cases, absent_between, ceiling_fits, keep, keep_succ, keep_walk}
use Rattle.lset_steps.specs.Rows.{ceiling_at, decided_on, goes_to, own_slot}
use Rattle.lset_steps.specs.ReadRows.{first_row, read_action, read_fed, continued, leaves_with}
use Rattle.lset_steps.proofs.ReadTables.{HasReadRows, in_each_read_row}
use Rattle.lset_steps.proofs.ReadOutline.{Reading, begun_reading_is, reading_on, call_begins, reads_on, even_or_odd}
use Rattle.lset_steps.proofs.UnlockedWalk.{Spot, spot_kept, spot_behind_head, next_inside}
use Rattle.lset_steps.proofs.ReadWalk.{ShowsReading}
use Rattle.lset_steps.proofs.Turns.{Turn, due_of, Follows, no_locks}
use Rattle.lset_steps.proofs.Turns.Turn.{passes, changes, answers, ends}
use Rattle.lset_lock_free.specs.LockFree.{lock_free, targets, decision_of, at_key, at_link, again, next_action, fed_by, effect_of}

-- Holds if, at some moment from `first` to `now` (a moment is the number of events so far), node `a` was reachable from
-- the head, `b` was the node after `a`, `P` was true, and thread `t` had made `count` successful adds.
pub record Was (vs : ℕ → View) (first now a b t count : ℕ) (P : View → Type 0) : Type 0 where
  pub at : ℕ
  pub from : first ≤ at
  pub upto : at ≤ now
  pub in_chain : InChain (vs at) a
  pub next : (vs at).link a / 2 ≡ b
  pub holds : P (vs at)
  pub same_count : (vs at).used t ≡ count

-- Holds if, at some moment from `first` to `now` (a moment is the number of events so far), node `pred` was reachable
-- from the head, its key was smaller than `key`, `curr` was the node after `pred`, and thread `t` had made `count`
-- successful adds.
abbrev pub Link : (ℕ → View) → ℕ → ℕ → ℕ → ℕ → ℕ → ℕ → ℕ → Type 0
Link vs first now key pred curr t count = Was vs first now pred curr t count (λ v. v.key pred < key)

-- Holds if, at some moment from `first` to `now` (a moment is the number of events so far), node `curr` was reachable
-- from the head and unmarked, `succ` was the node after `curr`, and thread `t` had made `count` successful adds.
abbrev pub Open : (ℕ → View) → ℕ → ℕ → ℕ → ℕ → ℕ → ℕ → Type 0
Open vs first now curr succ t count = Was vs first now curr succ t count (λ v. v.link curr % 2 ≡ 0)

-- The proof outline: the assertion of thread `t` before each row of the step table. The final case covers all rows of
-- `contains` and `ceiling`.
pub data At (q t : ℕ) (vs : ℕ → View) (first now : ℕ) (v : View) (done : Bool) (l : Local) : Type 0 where
  at0 : l.pc ≡ 0 → At q t vs first now v done l
  at1 : l.pc ≡ 1 → done ≡ false → At q t vs first now v done l
  at2 : l.pc ≡ 2 → done ≡ false → Spot v (target l.call) l.pred l.curr
      → Link vs first now (target l.call) l.pred l.curr t (v.used t) → At q t vs first now v done l
  -- Row 2, if `curr` is the node after `pred` now, as just after the thread has unlinked the node between them.
  at2_now : l.pc ≡ 2 → done ≡ false → Spot v (target l.call) l.pred l.curr → first ≤ now → InChain v l.pred
      → v.link l.pred / 2 ≡ l.curr → At q t vs first now v done l
  at3 : l.pc ≡ 3 → done ≡ false → Spot v (target l.call) l.pred l.curr → v.published l.succ → v.link l.curr ≡ 2 * l.succ + 1
      → At q t vs first now v done l
  at4 : l.pc ≡ 4 → done ≡ false → Spot v (target l.call) l.pred l.curr → v.published l.succ
      → (k : Link vs first now (target l.call) l.pred l.curr t (v.used t)) → (o : Open vs first now l.curr l.succ t (v.used t))
      → k.at ≤ o.at → At q t vs first now v done l
  at5 : l.pc ≡ 5 → done ≡ false → Spot v (target l.call) l.pred l.curr → Adding v t q l.curr l.call
      → At q t vs first now v done l
  at6 : l.pc ≡ 6 → done ≡ false → Spot v (target l.call) l.pred l.curr → Adding v t q l.curr l.call
      → v.key (slot_node q t (v.used t)) ≡ target l.call → At q t vs first now v done l
  at7 : l.pc ≡ 7 → done ≡ false → Spot v (target l.call) l.pred l.curr → Adding v t q l.curr l.call
      → v.key (slot_node q t (v.used t)) ≡ target l.call → v.link (slot_node q t (v.used t)) ≡ 2 * l.curr
      → At q t vs first now v done l
  at8 : l.pc ≡ 8 → done ≡ false → Spot v (target l.call) l.pred l.curr → Removing v l.curr l.call
      → At q t vs first now v done l
  at9 : l.pc ≡ 9 → done ≡ false → Spot v (target l.call) l.pred l.curr → Removing v l.curr l.call → v.published l.succ
      → At q t vs first now v done l
  at10 : l.pc ≡ 10 → done ≡ true → Spot v (target l.call) l.pred l.curr → Removing v l.curr l.call
      → v.link l.curr ≡ 2 * l.succ + 1 → At q t vs first now v done l
  at_read : Reading vs first now done l → At q t vs first now v done l

-- Lemma: an assertion about the past still holds after the next event.
was_on : {vs : ℕ → View} {first now a b t count count' : ℕ} {P : View → Type 0} → count' ≡ count
    → Was vs first now a b t count P → Was vs first (suc now) a b t count' P
was_on {now = now} e x = record {
  at = x.at;
  from = x.from;
  upto = (let u : x.at ≤ now = x.upto in omega arith);
  in_chain = x.in_chain;
  next = x.next;
  holds = x.holds;
  same_count = x.same_count ∙ sym e;
}

-- Lemma: if the properties in `Was` hold now, they hold at some moment during the call.
is_now : {vs : ℕ → View} {first now a b t : ℕ} {v : View} (P : View → Type 0) → vs now ≡ v → first ≤ now → InChain v a
    → v.link a / 2 ≡ b → P v → Was vs first now a b t (v.used t) P
is_now {vs} {first} {now} {a} {b} {t} {v} P e from i next holds = record {
  at = now;
  from = from;
  upto = omega arith;
  in_chain = subst (λ x. InChain x a) (sym e) i;
  next = ap (λ x. x.link a / 2) e ∙ next;
  holds = subst P (sym e) holds;
  same_count = ap (λ x. x.used t) e;
}

-- Lemmas: steps of other threads preserve the assertions of thread `t`.
module _ (q t : ℕ) (vs : ℕ → View) (first now : ℕ) (v w : View) (done : Bool) (l : Local) (present : vs now ≡ v)
    (r : Remains v w q t) where
  g : KeepsNodes v w
  g = r.goes

  own_key_on : v.used t < q → v.key (slot_node q t (v.used t)) ≡ target l.call
      → w.key (slot_node q t (w.used t)) ≡ target l.call
  own_key_on room e = rw r.used (r.own_key room ∙ e)

  own_link_on : v.used t < q → v.link (slot_node q t (v.used t)) ≡ 2 * l.curr → w.link (slot_node q t (w.used t)) ≡ 2 * l.curr
  own_link_on room e = rw r.used (r.own_link room ∙ e)

  marked_on : v.published l.curr → v.link l.curr ≡ 2 * l.succ + 1 → w.link l.curr ≡ 2 * l.succ + 1
  marked_on p e = r.marked l.curr p (omega arith) ∙ e

  stays : At q t vs first now v done l → At q t vs first (suc now) w done l
  unfolding was_on
  stays (at0 e) = at0 e
  stays (at1 e d) = at1 e d
  stays (at2 e d s k) = at2 e d (spot_kept g s) (was_on r.used k)
  stays (at2_now e d s f i n) = at2 e d (spot_kept g s) (was_on r.used (is_now (λ x. x.key l.pred < target l.call) present f i n s.below))
  stays (at3 e d s p m) = at3 e d (spot_kept g s) (g.grows l.succ p) (marked_on s.curr_published m)
  stays (at4 e d s p k o b) = at4 e d (spot_kept g s) (g.grows l.succ p) (was_on r.used k) (was_on r.used o) b
  stays (at5 e d s a) = at5 e d (spot_kept g s) (adding_kept g r.used s.curr_published a)
  stays (at6 e d s a x) = at6 e d (spot_kept g s) (adding_kept g r.used s.curr_published a) (own_key_on a.room x)
  stays (at7 e d s a x y) = at7 e d (spot_kept g s) (adding_kept g r.used s.curr_published a) (own_key_on a.room x)
      (own_link_on a.room y)
  stays (at8 e d s a) = at8 e d (spot_kept g s) (removing_kept g s.curr_published a)
  stays (at9 e d s a p) = at9 e d (spot_kept g s) (removing_kept g s.curr_published a) (g.grows l.succ p)
  stays (at10 e d s a m) = at10 e d (spot_kept g s) (removing_kept g s.curr_published a) (marked_on s.curr_published m)
  stays (at_read a) = at_read (reading_on a)

pub has_read_rows : HasReadRows lock_free
has_read_rows = record {
  begins = λ call l. refl;
  acts = λ l. in_each_read_row (λ n. next_action (record l { pc = n }) ≡ read_action (record l { pc = n }))
      refl refl refl refl refl refl l.pc;
  feeds = λ l seen. in_each_read_row (λ n. fed_by (record l { pc = n }) seen ≡ read_fed (record l { pc = n }) seen)
      refl refl refl refl refl refl l.pc;
  tells = λ l seen. in_each_read_row (λ n. effect_of (record l { pc = n }) seen ≡ None) refl refl refl refl refl refl l.pc;
}

-- ---- Proof that each row preserves the assertions of its own thread
module _ (sz : Sizes) (t : ℕ) (vs : ℕ → View) (first now : ℕ) (ws : List ℕ) (used : ℕ → ℕ) (done : Bool) (l : Local)
    (h : Here true sz vs now ws used) (th : Thread At sz t vs first now ws used done l) (tn : t < sz.threads) where
  abbrev Goal : Type 0
  Goal = Turn lock_free (no_locks true) At sz t vs first now ws used done l

  abbrev V : View
  V = view sz ws used

  M : Memory true sz ws used
  M = h.memory

  regs : Registers sz t l
  regs = th.registers

  own_is : own_slot l ≡ own_of sz.quota t used
  own_is = rw (th.registers.thread, th.registers.quota, th.counts) refl

  live : (a : ℕ) → V.published a → node_link ws a % 2 ≡ 0 → InChain V a
  live a p e = M.marked a p e

  below_tail : (a : ℕ) → node_key ws a < target l.call → a ≢ 1
  below_tail a lt = inner true sz ws used M a (target l.call) lt regs.low

  next_published : (a : ℕ) → V.published a → V.published (node_link ws a / 2)
  next_published a p = next_of true sz ws used M a p

  fails_at : (a old new : ℕ) → a < node_count sz → node_link ws a ≢ old
      → WordStep true sz t ws used (Exchange (link_index a) old new) ws used None
  fails_at a old new inn d = fails (link_index a) old new (omega arith) d (λ k. absurd (not_link a k))

  writes_at : (a old new : ℕ) → node_link ws a ≡ old → Writes ws (Exchange (link_index a) old new) (link_index a) new
  writes_at a old new e = inr (ap (λ x. Exchange (link_index a) x new) (sym e))

  restarts : Registers sz t (record l { pc = 1 })
  restarts = keep sz t 1 l.reply l regs

  go_2 : l.pc ≡ 2 → done ≡ false → Spot V (target l.call) l.pred l.curr
      → Link vs first now (target l.call) l.pred l.curr t (used t) → Goal
  unfolding was_on is_now
  go_2 e d s k =
      let x : ℕ = node_link ws l.curr in let curr : l.curr < node_count sz = regs.curr in
      let next : V.published (x / 2) = next_published l.curr s.curr_published in
      let read : WordStep true sz t ws used (Load (link_index l.curr)) ws used None = reads (link_index l.curr) (omega arith) in
      let open_at : Fed = continued (record l { pc = 4; succ = x / 2 }) in
      let marked_at : Fed = continued (record l { pc = 3; succ = x / 2 }) in
      let feeds : fed_by l x ≡ at_link x l = rw e refl in
      elim (even_or_odd x) [
        | inl even ↦ passes (Load (link_index l.curr)) ws (record l { pc = 4; succ = x / 2 })
            (rw e refl) (feeds ∙ if_same (x % 2) 0 even open_at marked_at) (rw e refl) read
            (keep_succ sz t 4 (x / 2) l.reply l (next_inside M l.curr s.curr_published) regs, refl, refl, λ y. omega arith)
            (at4 refl d s next (was_on refl k)
            (was_on refl (is_now (λ y. y.link l.curr % 2 ≡ 0) h.present th.begun (live l.curr s.curr_published even) refl even)) k.upto)
        | inr odd ↦ passes (Load (link_index l.curr)) ws (record l { pc = 3; succ = x / 2 })
            (rw e refl) (feeds ∙ if_other (x % 2) 0 (omega arith) open_at marked_at) (rw e refl) read
            (keep_succ sz t 3 (x / 2) l.reply l (next_inside M l.curr s.curr_published) regs, refl, refl, λ y. omega arith)
            (at3 refl d s next (omega arith))
      ]

  abbrev Fitting : Reply → Type 0
  Fitting r = FitsSometime sz.quota (contents_of vs) (counts_of vs) first now t l.call r

  -- Lemma: suppose that at moment `at` (after `at` events, during the call), the set contained the call's key if and
  -- only if the walk has found the key. Then the call either has a reply that was correct at moment `at`, or continues
  -- at the row that adds or removes its key.
  decided_at : (s at : ℕ) → first ≤ at → at ≤ now → (vs at).used t ≡ used t
      → ((s == target l.call) ≡ true → InContent (vs at) (key_of l.call).0)
      → ((s == target l.call) ≡ false → InContent (vs at) (key_of l.call).0 → ⊥)
      → FitsIn sz.quota (vs at) t (Ceiling (key_of l.call)) (ceiling_at s)
      → ((r : Reply) × (decided_on targets s l ≡ goes_to 0 (Some r) l) × Fitting r)
      ⊎ ((decided_on targets s l ≡ goes_to 5 None l) × (l.call ≡ Add (key_of l.call)) × (s ≢ target l.call) × (used t < sz.quota))
      ⊎ ((decided_on targets s l ≡ goes_to 8 None l) × (l.call ≡ Remove (key_of l.call)) × (s ≡ target l.call))
  decided_at s at from upto same hit miss over =
      let quota : l.quota ≡ sz.quota = regs.quota in
      let count : l.used ≡ used t = th.counts in
      let most : used t ≤ sz.quota = M.room t tn in
      let full : nat_lt l.used l.quota ≡ false → (vs at).used t ≡ sz.quota = λ y.
      (let z : l.quota ≤ l.used = not_lower_number l.used l.quota y in omega arith) in
      elim (decided_cases 5 8 0 sz.quota t (vs at) l.call (s == target l.call) (nat_lt l.used l.quota) s l hit miss full over) [
        | inl r ↦ inl (r.0, r.1, record { moment = at; from = from; upto = upto; fits = r.2 })
        | inr z ↦ elim z [
          | inl r ↦ inr (inl (
            r.0,
            r.1,
            other_number s (target l.call) r.2,
            (let y : l.used < l.quota = lower_number l.used l.quota r.3 in omega arith),
          ))
          | inr r ↦ inr (inr (r.0, r.1, same_number s (target l.call) r.2))
        ]
      ]

  key_then : (a at : ℕ) → at ≤ now → InChain (vs at) a → node_key ws a ≡ (vs at).key a
  key_then a at upto i =
      let e : (vs now).key a ≡ node_key ws a = ap (λ v. v.key a) h.present in
      sym e ∙ key_stays vs now a at now h.course upto (omega arith)
      (in_chain_published (vs at) (h.course.ordered at upto) a i)

  end_then : (a at : ℕ) → at ≤ now → (vs at).published a → (vs at).key a ≡ node_key ws a
  end_then a at upto p =
      sym (key_stays vs now a at now h.course upto (omega arith) p) ∙ ap (λ v. v.key a) h.present

  -- Lemma: if the key of a `ceiling` is in the set, that key is the correct reply.
  own_ceiling : (v : View) (s : ℕ) → s ≡ target l.call → target l.call < tail_word → InContent v (key_of l.call).0
      → FitsIn sz.quota v t (Ceiling (key_of l.call)) (ceiling_at s)
  own_ceiling v s e low c = subst (FitsIn sz.quota v t (Ceiling (key_of l.call)))
      (sym (if_below s tail_word (omega arith) (reply.At (record { 0 = s - 1 })) reply.Nothing))
      (omega arith, subst (InContent v) (omega arith) c, λ j lo hi. absurd (omega arith))

  decides : (s : ℕ) → s ≡ node_key ws l.curr → target l.call ≤ s
      → (k : Link vs first now (target l.call) l.pred l.curr t (used t)) → (o : Open vs first now l.curr l.succ t (used t))
      → k.at ≤ o.at
      → ((r : Reply) × (decided_on targets s l ≡ goes_to 0 (Some r) l) × Fitting r)
      ⊎ ((decided_on targets s l ≡ goes_to 5 None l) × (l.call ≡ Add (key_of l.call)) × (s ≢ target l.call) × (used t < sz.quota))
      ⊎ ((decided_on targets s l ≡ goes_to 8 None l) × (l.call ≡ Remove (key_of l.call)) × (s ≡ target l.call))
  decides s is above k o before = elim (same_or_not s (target l.call)) [
    | inl y ↦
        (let head : node_key ws 0 ≡ 0 = M.head_key in let tail : node_key ws 1 ≡ tail_word = M.tail_key in
        let low : target l.call < tail_word = regs.low in
        let c0 : l.curr ≢ 0 = λ f. (let g : node_key ws l.curr ≡ node_key ws 0 = ap (node_key ws) f in omega arith) in
        let c1 : l.curr ≢ 1 = λ f. (let g : node_key ws l.curr ≡ node_key ws 1 = ap (node_key ws) f in omega arith) in
        decided_at s o.at o.from o.upto o.same_count
        (λ z. (l.curr, o.in_chain, omega arith, sym (key_then l.curr o.at o.upto o.in_chain) ∙ sym is ∙ y, o.holds))
        (λ z. absurd (other_number s (target l.call) z y))
        (own_ceiling (vs o.at) s y low
        (l.curr, o.in_chain, omega arith, sym (key_then l.curr o.at o.upto o.in_chain) ∙ sym is ∙ y, o.holds)))
    | inr y ↦
        (let ord : IsOrdered (vs k.at) = h.course.ordered k.at k.upto in
        let pred : node_key ws l.pred ≡ (vs k.at).key l.pred = key_then l.pred k.at k.upto k.in_chain in
        let below : (vs k.at).key l.pred < target l.call = k.holds in
        let user : l.pred ≢ 1 = below_tail l.pred (omega arith) in
        let inn : InChain (vs k.at) l.curr = chain_on (vs k.at) l.pred l.curr l.curr [] k.in_chain user k.next refl in
        let curr : node_key ws l.curr ≡ (vs k.at).key l.curr = key_then l.curr k.at k.upto inn in
        decided_at s k.at k.from k.upto k.same_count
        (λ z. absurd (y (same_number s (target l.call) z)))
        (λ z. absent_between (vs k.at) ord l.pred (key_of l.call).0 k.in_chain user below (rw k.next (omega arith)))
        (ceiling_fits sz.quota t (vs k.at) l.pred s (key_of l.call) ord (end_then 0 k.at k.upto ord.head_published ∙ M.head_key)
        (end_then 1 k.at k.upto ord.tail_published ∙ M.tail_key) k.in_chain user below
        (is ∙ curr ∙ ap (vs k.at).key (sym k.next)) above
        (λ lt. ap (λ x. (vs k.at).link x % 2) k.next ∙ unmarked_before vs now l.curr k.at o.at h.course before o.upto
        (in_chain_published (vs k.at) ord l.curr inn) o.holds)))
  ]

  found_inner : Removing V l.curr l.call → l.curr ≢ 1
  found_inner a f =
      let g : node_key ws l.curr ≡ node_key ws 1 = ap (node_key ws) f in let tail : node_key ws 1 ≡ tail_word = M.tail_key in
      let found : node_key ws l.curr ≡ target l.call = a.found in let low : target l.call < tail_word = regs.low in omega arith

  go : At sz.quota t vs first now (view sz ws used) done l → l.pc ≢ 0 → Goal
  go (at0 e) busy = absurd (busy e)
  go (at1 e d) busy =
      let s : ℕ = node_link ws 0 in
      let x : Spot V (target l.call) 0 (s / 2) = spot_behind_head M (omega arith) in
      passes (Load (link_index 0)) ws (record l { pc = 2; pred = 0; curr = s / 2 })
      (rw e refl) (rw e refl) (rw e refl) (reads (link_index 0) (omega arith))
      (keep_walk sz t 2 0 (s / 2) l (omega arith) (next_inside M 0 M.ordered.head_published) regs, refl, refl, λ y. omega arith)
      (at2 refl d x (was_on refl (is_now (λ y. y.key 0 < target l.call) h.present th.begun ([], refl) refl x.below)))
  go (at2 e d s k) busy = go_2 e d s k
  go (at2_now e d s f i x) busy = go_2 e d s (is_now (λ y. y.key l.pred < target l.call) h.present f i x s.below)
  go (at3 e d s p m) busy =
      let old : ℕ = 2 * l.curr in let new : ℕ = 2 * l.succ in
      let on : Fed = continued (record l { pc = 2; curr = l.succ }) in
      elim (same_or_not (node_link ws l.pred) old) [
        | inl y ↦
            (let tail : node_link ws 1 ≡ 2 = M.tail_link in
            let user : l.curr ≢ 1 = λ f. (let g : node_link ws l.curr ≡ node_link ws 1 = ap (node_link ws) f in omega arith) in
            let c : WordStep true sz t ws used (Exchange (link_index l.pred) old new) (slice_set ws (link_index l.pred) new)
            used None =
            cuts (Exchange (link_index l.pred) old new) l.pred l.curr l.succ (writes_at l.pred old new y)
            (live l.pred s.pred_published (omega arith)) (below_tail l.pred s.below) user y m in
            let g = goes_on true sz ws used M t tn (Exchange (link_index l.pred) old new)
            (slice_set ws (link_index l.pred) new) used None c in
            let M' = memory_after true sz ws used M t tn (Exchange (link_index l.pred) old new)
            (slice_set ws (link_index l.pred) new) used None c in
            let wrote : node_link (slice_set ws (link_index l.pred) new) l.pred ≡ new =
            link_wrote true sz ws used M l.pred new regs.pred in
            let at : Spot (view sz (slice_set ws (link_index l.pred) new) used) (target l.call) l.pred l.succ = record {
              pred_published = s.pred_published;
              below = (spot_kept g s).below;
              curr_published = p;
            } in
            let begun : first ≤ now = th.begun in
            passes (Exchange (link_index l.pred) old new) (slice_set ws (link_index l.pred) new)
            (record l { pc = 2; curr = l.succ })
            (rw e refl) (rw e (if_same (node_link ws l.pred) old y on (again l))) (rw e refl) c
            (keep_curr sz t 2 l.succ l regs.succ regs, refl, refl, λ x. omega arith)
            (at2_now refl d at (omega arith) (M'.marked l.pred s.pred_published (omega arith)) (omega arith)))
        | inr y ↦ passes (Exchange (link_index l.pred) old new) ws (record l { pc = 1 })
            (rw e refl) (rw e (if_other (node_link ws l.pred) old y on (again l))) (rw e refl)
            (fails_at l.pred old new regs.pred y) (restarts, refl, refl, λ x. omega arith) (at1 refl d)
      ]
  go (at4 e d s p k o b) busy =
      let x : ℕ = node_key ws l.curr in let key : ℕ = target l.call in let curr : l.curr < node_count sz = regs.curr in
      let read : WordStep true sz t ws used (Load (key_index l.curr)) ws used None = reads (key_index l.curr) (omega arith) in
      let on : Fed = continued (record l { pc = 2; pred = l.curr; curr = l.succ }) in
      let stop : Fed = decision_of (decided_on targets x l) in
      let feeds : fed_by l x ≡ at_key x l = rw e refl in
      elim (below_or_not x key) [
        | inl lt ↦ passes (Load (key_index l.curr)) ws (record l { pc = 2; pred = l.curr; curr = l.succ })
            (rw e refl) (feeds ∙ if_below x key lt on stop) (rw e refl) read
            (keep_walk sz t 2 l.curr l.succ l regs.curr regs.succ regs, refl, refl, λ y. omega arith)
            (at2 refl d (record { pred_published = s.curr_published; below = lt; curr_published = p })
            (record {
              at = o.at;
              from = o.from;
              upto = (let u : o.at ≤ now = o.upto in omega arith);
              in_chain = o.in_chain;
              next = o.next;
              holds = (let z : node_key ws l.curr ≡ (vs o.at).key l.curr = key_then l.curr o.at o.upto o.in_chain in omega arith);
              same_count = o.same_count;
            }))
        | inr ge ↦ elim (decides x refl ge k o b) [
          | inl r ↦ answers (Load (key_index l.curr)) ws (goes_to 0 (Some r.0) l) r.0
              (rw e refl) (feeds ∙ if_not_below x key ge on stop ∙ ap decision_of r.1) (rw e refl) read
              (due_of done sz.quota vs first now t l.call r.0 d r.2) (keep sz t 0 (Some r.0) l regs) refl refl refl (at0 refl)
          | inr z ↦ elim z [
            | inl r ↦ passes (Load (key_index l.curr)) ws (goes_to 5 None l)
                (rw e refl) (feeds ∙ if_not_below x key ge on stop ∙ ap decision_of r.0) (rw e refl) read
                (keep sz t 5 None l regs, refl, refl, λ y. omega arith)
                (at5 refl d s (record { call = r.1; room = r.3; above = (let y : x ≢ key = r.2 in omega arith) }))
            | inr r ↦ passes (Load (key_index l.curr)) ws (goes_to 8 None l)
                (rw e refl) (feeds ∙ if_not_below x key ge on stop ∙ ap decision_of r.0) (rw e refl) read
                (keep sz t 8 None l regs, refl, refl, λ y. omega arith)
                (at8 refl d s (record { call = r.1; found = r.2 }))
          ]
        ]
      ]
  go (at5 e d s a) busy =
      let own : ℕ = own_of sz.quota t used in let k : ℕ = target l.call in
      let c : WordStep true sz t ws used (Store (key_index own) k) (slice_set ws (key_index own) k) used None =
      own_key k a.room in
      let g = goes_on true sz ws used M t tn (Store (key_index own) k) (slice_set ws (key_index own) k) used None c in
      passes (Store (key_index own) k) (slice_set ws (key_index own) k) (record l { pc = 6 })
      (rw (e, own_is) refl) (rw e refl) (rw e refl) c (keep sz t 6 l.reply l regs, refl, refl, λ x. omega arith)
      (at6 refl d (spot_kept g s) (adding_kept g refl s.curr_published a)
      (key_wrote true sz ws used M own k (own_in true sz ws used M t tn a.room)))
  go (at6 e d s a key) busy =
      let own : ℕ = own_of sz.quota t used in let x : ℕ = 2 * l.curr in
      let c : WordStep true sz t ws used (Store (link_index own) x) (slice_set ws (link_index own) x) used None =
      own_link l.curr a.room in
      let g = goes_on true sz ws used M t tn (Store (link_index own) x) (slice_set ws (link_index own) x) used None c in
      passes (Store (link_index own) x) (slice_set ws (link_index own) x) (record l { pc = 7 })
      (rw (e, own_is) refl) (rw e refl) (rw e refl) c (keep sz t 7 l.reply l regs, refl, refl, λ y. omega arith)
      (at7 refl d (spot_kept g s) (adding_kept g refl s.curr_published a) (key_after_link ws own x own ∙ key)
      (link_wrote true sz ws used M own x (own_in true sz ws used M t tn a.room)))
  go (at7 e d s a key link) busy =
      let old : ℕ = 2 * l.curr in let new : ℕ = 2 * own_of sz.quota t used in let count : l.used ≡ used t = th.counts in
      let more : one_more used t t ≡ used t + 1 = one_more_same used t in
      let on : Fed = leaves_with True (record l { used = l.used + 1 }) in
      elim (same_or_not (node_link ws l.pred) old) [
        | inl y ↦ ends (Exchange (link_index l.pred) old new) (slice_set ws (link_index l.pred) new) (one_more used t)
            (record l { pc = 0; used = l.used + 1 }) (key_of l.call) true
            (rw (e, own_is) refl) (rw e (if_same (node_link ws l.pred) old y on (again l)))
            (rw e (if_same (node_link ws l.pred) old y (Some (key_of l.call, true)) None))
            (puts (Exchange (link_index l.pred) old new) l.pred l.curr (key_of l.call) (writes_at l.pred old new y)
            (live l.pred s.pred_published (omega arith)) (below_tail l.pred s.below) y a.room link key s.below a.above)
            (a.call, d, a.room) (keep_used sz t 0 l (rw count a.room) regs) refl (omega arith) refl (at0 refl)
        | inr y ↦ passes (Exchange (link_index l.pred) old new) ws (record l { pc = 1 })
            (rw (e, own_is) refl) (rw e (if_other (node_link ws l.pred) old y on (again l)))
            (rw e (if_other (node_link ws l.pred) old y (Some (key_of l.call, true)) None))
            (fails_at l.pred old new regs.pred y) (restarts, refl, refl, λ x. omega arith) (at1 refl d)
      ]
  go (at8 e d s a) busy =
      let x : ℕ = node_link ws l.curr in let curr : l.curr < node_count sz = regs.curr in
      let next : V.published (x / 2) = next_published l.curr s.curr_published in
      passes (Load (link_index l.curr)) ws (record l { pc = 9; succ = x / 2 })
      (rw e refl) (rw e refl) (rw e refl) (reads (link_index l.curr) (omega arith))
      (keep_succ sz t 9 (x / 2) l.reply l (next_inside M l.curr s.curr_published) regs, refl, refl, λ y. omega arith)
      (at9 refl d s a next)
  go (at9 e d s a p) busy =
      let old : ℕ = 2 * l.succ in let new : ℕ = 2 * l.succ + 1 in
      let on : Fed = continued (record l { pc = 10 }) in
      elim (same_or_not (node_link ws l.curr) old) [
        | inl y ↦
            (let c : WordStep true sz t ws used (Exchange (link_index l.curr) old new) (slice_set ws (link_index l.curr) new)
            used
            (Some (key_of l.call, false)) =
            sets_mark (Exchange (link_index l.curr) old new) l.curr new (key_of l.call) refl (writes_at l.curr old new y)
            (live l.curr s.curr_published (omega arith)) (found_inner a) (omega arith) (omega arith) a.found in
            let g = goes_on true sz ws used M t tn (Exchange (link_index l.curr) old new)
            (slice_set ws (link_index l.curr) new) used
            (Some (key_of l.call, false)) c in
            changes (Exchange (link_index l.curr) old new) (slice_set ws (link_index l.curr) new) used (record l { pc = 10 })
            (key_of l.call) false
            (rw e refl) (rw e (if_same (node_link ws l.curr) old y on (again l)))
            (rw e (if_same (node_link ws l.curr) old y (Some (key_of l.call, false)) None)) c (a.call, d)
            (keep sz t 10 l.reply l regs) refl th.counts (λ x. omega arith)
            (at10 refl refl (spot_kept g s) (removing_kept g s.curr_published a)
            (link_wrote true sz ws used M l.curr new regs.curr)))
        | inr y ↦ passes (Exchange (link_index l.curr) old new) ws (record l { pc = 1 })
            (rw e refl) (rw e (if_other (node_link ws l.curr) old y on (again l)))
            (rw e (if_other (node_link ws l.curr) old y (Some (key_of l.call, false)) None))
            (fails_at l.curr old new regs.curr y) (restarts, refl, refl, λ x. omega arith) (at1 refl d)
      ]
  go (at10 e d s a m) busy =
      let old : ℕ = 2 * l.curr in let new : ℕ = 2 * l.succ in
      let due : Due done sz.quota vs first now t l.call True = rw d refl in
      elim (same_or_not (node_link ws l.pred) old) [
        | inl y ↦ answers (Exchange (link_index l.pred) old new) (slice_set ws (link_index l.pred) new) (record l { pc = 0 }) True
            (rw e refl) (rw e refl) (rw e refl)
            (cuts (Exchange (link_index l.pred) old new) l.pred l.curr l.succ (writes_at l.pred old new y)
            (live l.pred s.pred_published (omega arith)) (below_tail l.pred s.below) (found_inner a) y m)
            due (keep sz t 0 l.reply l regs) refl refl refl (at0 refl)
        | inr y ↦ answers (Exchange (link_index l.pred) old new) ws (record l { pc = 0 }) True
            (rw e refl) (rw e refl) (rw e refl) (fails_at l.pred old new regs.pred y)
            due (keep sz t 0 l.reply l regs) refl refl refl (at0 refl)
      ]
  go (at_read a) busy =
      reads_on lock_free (no_locks true) At sz t vs first now ws used done l h th has_read_rows (λ l' b. at_read b)
      (λ l' b. at0 b) a

pub shows_reading : ShowsReading At
shows_reading q t vs first now v done l row (at_read a) = a
shows_reading q t vs first now v done l row at = grind arith

pub lock_free_follows : Follows lock_free (no_locks true) At
lock_free_follows = record {
  idle_at = λ op lim t vs. at0 refl;
  begun = begun_reading_is;
  begin_registers = λ sz t call l low r. registers_begun sz t (first_row call) call l low r;
  begins = λ q t vs now v call l e s k was. call_begins At q t vs now v call l e k (λ l' e. at1 e refl) (λ l' r. at_read r);
  stands = λ q t vs first now v w done l present r at. stays q t vs first now v w done l present r at;
  turn = λ sz t vs first now ws used done l h th tn busy. go sz t vs first now ws used done l h th tn th.at busy;
}
