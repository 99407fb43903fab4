-- The proof outline of FineList, which takes node locks hand over hand: an assertion for each row of the step table,
-- and the proof that each step preserves the assertions.
use Rattle.std.specs.Prelude.{◌≡◌, ◌≢◌, ℕ, suc, ◌+◌, ◌*◌, ◌/◌, ◌%◌, ◌<◌, ◌≤◌, Bool, true, false, Some, None, List, slice_set, refl}
use Rattle.std.proofs.Common.{arith, inl, inr, sym, ◌∙◌, subst}
use Rattle.lset_words.proofs.Numbers.{if_below, if_not_below, below_or_not}
use Rattle.lset_words.specs.Words.{key_index, link_index, lock_index, tail_word, node_count, slot_node, target, key_of, Sizes}
use Rattle.lset_words.specs.declared.Reply.{Reply}
use Rattle.lset_words.specs.declared.Reply.TheVariants.{True}
use Rattle.lset_steps.specs.declared.Local.{Local}
use Rattle.lset_steps.specs.declared.Action.TheVariants.{Load, Store}
use Rattle.lset_steps.specs.Chain.{View, view, node_key, node_link}
use Rattle.lset_steps.specs.Laws.{Registers, Due}
use Rattle.lset_steps.proofs.Memory.{Memory, own_of, one_more, one_more_same, link_wrote, key_wrote, lock_wrote, own_in, inside}
use Rattle.lset_steps.proofs.AfterWrite.{lock_after_link, lock_after_lock, key_after_lock, key_after_link}
use Rattle.lset_steps.proofs.Rely.{Rely}
use Rattle.lset_steps.proofs.Discipline.{Here, Thread}
use Rattle.lset_steps.proofs.Replies.{Adding, Removing, registers_begun, keep_more, keep, keep_ckey, keep_succ, keep_walk}
use Rattle.lset_steps.specs.Rows.{decided_on, goes_to, own_slot}
use Rattle.lset_steps.proofs.Held.{Held, Behind, Between, Leaves, LockedStep, in_chain, head_held, leaves_of, held_on, below_on}
use Rattle.lset_steps.proofs.Held.{behind_on, between_on, adding_on, removing_on, own_key_on, own_link_on, reads_word, frees}
use Rattle.lset_steps.proofs.Held.{writes_own_key, writes_own_link, puts_behind, held_from, behind_from, curr_is_not_pred}
use Rattle.lset_steps.proofs.Held.{found_next, drops_between, leaves_locked, held_past, leaves_own_key, leaves_own_link}
use Rattle.lset_steps.proofs.Decision.{decides}
use Rattle.lset_steps.proofs.Turns.{Turn, Follows, node_locks, locks_nodes, due_on, due_now, tries}
use Rattle.lset_steps.proofs.Turns.Turn.{passes, changes, answers}
use Rattle.lset_fine.specs.Fine.{fine, targets}

-- Holds if thread `t` holds the locks of the nodes `l.pred` and `l.curr`, `l.curr` is the node after `l.pred`, and the
-- key of `l.pred` is smaller than the call's key.
abbrev Window : View → ℕ → Local → Type 0
Window v t l = Between v t (target l.call) l.pred l.curr

-- The proof outline: the assertion of thread `t` before each row of the step table.
pub data At (q t : ℕ) (vs : ℕ → View) (first now : ℕ) (v : View) (done : Bool) (l : Local) : Type 0 where
  at0 : l.pc ≡ 0 → At q t vs first now v done l
  at1 : l.pc ≡ 1 → done ≡ false → At q t vs first now v done l
  at2 : l.pc ≡ 2 → done ≡ false → l.pred ≡ 0 → Held v t 0 → At q t vs first now v done l
  at3 : l.pc ≡ 3 → done ≡ false → Behind v t (target l.call) l.pred l.curr → At q t vs first now v done l
  at4 : l.pc ≡ 4 → done ≡ false → Window v t l → At q t vs first now v done l
  at5 : l.pc ≡ 5 → done ≡ false → Window v t l → v.key l.curr < target l.call → At q t vs first now v done l
  at6 : l.pc ≡ 6 → done ≡ false → Held v t l.curr → v.key l.curr < target l.call → At q t vs first now v done l
  at7 : l.pc ≡ 7 → done ≡ false → Window v t l → Adding v t q l.curr l.call → At q t vs first now v done l
  at8 : l.pc ≡ 8 → done ≡ false → Window v t l → Adding v t q l.curr l.call → v.key (slot_node q t (v.used t)) ≡ target l.call
      → At q t vs first now v done l
  at9 : l.pc ≡ 9 → done ≡ false → Window v t l → Adding v t q l.curr l.call → v.key (slot_node q t (v.used t)) ≡ target l.call
      → v.link (slot_node q t (v.used t)) ≡ 2 * l.curr → At q t vs first now v done l
  at10 : l.pc ≡ 10 → done ≡ false → Window v t l → Removing v l.curr l.call → At q t vs first now v done l
  at11 : l.pc ≡ 11 → done ≡ false → Window v t l → Removing v l.curr l.call → v.link l.curr / 2 ≡ l.succ
      → At q t vs first now v done l
  at12 : l.pc ≡ 12 → v.lock l.pred ≡ t + 1 → v.lock l.curr ≡ t + 1 → l.curr ≢ l.pred
      → (r : Reply) → l.reply ≡ Some r → Due done q vs first now t l.call r → At q t vs first now v done l
  at13 : l.pc ≡ 13 → v.lock l.pred ≡ t + 1 → (r : Reply) → l.reply ≡ Some r → Due done q vs first now t l.call r
      → At q t vs first now v done l

-- Lemmas: steps of other threads preserve the assertions of thread `t`.
module _ (q t : ℕ) (vs : ℕ → View) (first now : ℕ) (v w : View) (done : Bool) (l : Local) (r : Rely v w q t) where
  s : Leaves v w t
  s = leaves_of r

  stays : At q t vs first now v done l → At q t vs first (suc now) w done l
  stays (at0 e) = at0 e
  stays (at1 e d) = at1 e d
  stays (at2 e d p h) = at2 e d p (held_on s h)
  stays (at3 e d b) = at3 e d (behind_on s b)
  stays (at4 e d b) = at4 e d (between_on s b)
  stays (at5 e d b x) = at5 e d (between_on s b) (below_on s l.curr (target l.call) b.walk.next x)
  stays (at6 e d h x) = at6 e d (held_on s h) (below_on s l.curr (target l.call) h.published x)
  stays (at7 e d b a) = at7 e d (between_on s b) (adding_on s b.walk.next a)
  stays (at8 e d b a x) = at8 e d (between_on s b) (adding_on s b.walk.next a) (own_key_on r (target l.call) a.room x)
  stays (at9 e d b a x y) =
      at9 e d (between_on s b) (adding_on s b.walk.next a) (own_key_on r (target l.call) a.room x)
      (own_link_on r (2 * l.curr) a.room y)
  stays (at10 e d b a) = at10 e d (between_on s b) (removing_on s b.walk.next a)
  stays (at11 e d b a x) = at11 e d (between_on s b) (removing_on s b.walk.next a) (rw (s.links l.curr b.walk.next b.mine) x)
  stays (at12 e p c d y z due) = at12 e (s.locks l.pred p) (s.locks l.curr c) d y z (due_on done q vs first now t l.call y due)
  stays (at13 e p y z due) = at13 e (s.locks l.pred p) y z (due_on done q vs first now t l.call y due)

module _ (sz : Sizes) (t : ℕ) (vs : ℕ → View) (first now : ℕ) (ws : List ℕ) (used : ℕ → ℕ) (done : Bool) (l : Local)
    (h : Here false sz vs now ws used) (th : Thread At sz t vs first now ws used done l) (tn : t < sz.threads) where
  abbrev Goal : Type 0
  Goal = Turn fine (node_locks false) At sz t vs first now ws used done l

  abbrev V : View
  V = view sz ws used

  M : Memory false sz ws used
  M = h.memory

  regs : Registers sz t l
  regs = th.registers

  own_is : own_slot l ≡ own_of sz.quota t used
  own_is = rw (th.registers.thread, th.registers.quota, th.counts) refl

  even : (a : ℕ) → Held V t a → node_link ws a % 2 ≡ 0
  even a x = M.marked a x.published

  go : At sz.quota t vs first now (view sz ws used) done l → l.pc ≢ 0 → Goal
  go (at0 e) busy = absurd (busy e)
  go (at1 e d) busy = tries (locks_nodes false) 0 (record l { pc = 2; pred = 0 }) (record l { pc = 1 }) (omega arith)
      (rw (e, regs.thread) refl) (rw e refl) (rw e refl)
      (keep_walk sz t 2 0 l.curr l (omega arith) regs.curr regs, refl, refl, λ x. omega arith)
      (keep sz t 1 l.reply l regs, refl, refl, λ x. omega arith)
      (λ free. at2 refl d refl (head_held (inl (omega arith)) (lock_wrote false sz ws used M 0 (t + 1) (omega arith))))
      (at1 refl d)
  go (at2 e d p x) busy =
      let s : ℕ = node_link ws 0 in
      let head : node_key ws 0 ≡ 0 = M.head_key in
      let b : Behind V t (target l.call) 0 (s / 2) = behind_from M x (even 0 x) (omega arith) regs.low in
      let inn : s / 2 < node_count sz = inside false sz ws used M (s / 2) b.next in
      passes (Load (link_index 0)) ws (record l { pc = 3; curr = s / 2 })
      (rw e refl) (rw e refl) (rw e refl) (reads_word (link_index 0) (omega arith))
      (keep_walk sz t 3 l.pred (s / 2) l regs.pred inn regs, refl, refl, λ x. omega arith)
      (at3 refl d (subst (λ y. Behind V t (target l.call) y (s / 2)) (sym p) b))
  go (at3 e d b) busy = tries (locks_nodes false) l.curr (record l { pc = 4 }) (record l { pc = 3 }) regs.curr
      (rw (e, regs.thread) refl) (rw e refl) (rw e refl)
      (keep sz t 4 l.reply l regs, refl, refl, λ x. omega arith)
      (keep sz t 3 l.reply l regs, refl, refl, λ x. omega arith)
      (λ free. at4 refl d (record {
        walk = behind_on (leaves_locked M tn l.curr free) b;
        mine = lock_wrote false sz ws used M l.curr (t + 1) regs.curr;
      }))
      (at3 refl d b)
  go (at4 e d b) busy =
      let k : ℕ = target l.call in let s : ℕ = node_key ws l.curr in
      let l0 : Local = record l { pc = 4; ckey = s } in
      let inn : l.curr < node_count sz = regs.curr in
      let top : node_key ws l.curr ≤ node_key ws 1 = M.ordered.top l.curr b.walk.next in
      let tail : node_key ws 1 ≡ tail_word = M.tail_key in
      let small : s ≤ tail_word = omega arith in
      let a = Load (key_index l.curr) in
      let read : LockedStep false sz t ws used (Load (key_index l.curr)) ws used None =
      reads_word (key_index l.curr) (omega arith) in
      elim (below_or_not s k) [
        | inl lt ↦
            (let on = if_below s k lt (record l0 { pc = 5 }) (decided_on targets s l0) in
            passes a ws (record l0 { pc = 5 }) (rw e refl) (rw (e, on) refl) (rw e refl) read
            (keep_ckey sz t 5 s l.reply l small regs, refl, refl, λ x. omega arith) (at5 refl d b lt))
        | inr ge ↦
            (let on = if_not_below s k ge (record l0 { pc = 5 }) (decided_on targets s l0) in
            let plain = M.marked l.curr b.walk.next in
            elim (decides M t targets s l0 b.walk.held.at b.walk.inner b.walk.follows b.walk.below plain refl ge regs.low (M.room t tn)
            th.counts regs.quota) [
              | inl r ↦ passes a ws (goes_to 12 (Some r.0) l0) (rw e refl) (rw (e, on ∙ r.1) refl) (rw e refl) read
                  (keep_ckey sz t 12 s (Some r.0) l small regs, refl, refl, λ x. omega arith)
                  (at12 refl b.walk.held.mine b.mine (curr_is_not_pred M b.walk) r.0 refl
                  (due_now done sz.quota vs first now t V l.call r.0 d th.begun h.present r.2))
              | inr z ↦ elim z [
                | inl r ↦ passes a ws (goes_to 7 None l0) (rw e refl) (rw (e, on ∙ r.0) refl) (rw e refl) read
                    (keep_ckey sz t 7 s None l small regs, refl, refl, λ x. omega arith) (at7 refl d b r.1)
                | inr r ↦ passes a ws (goes_to 10 None l0) (rw e refl) (rw (e, on ∙ r.0) refl) (rw e refl) read
                    (keep_ckey sz t 10 s None l small regs, refl, refl, λ x. omega arith) (at10 refl d b r.1)
              ]
            ])
      ]
  go (at5 e d b lt) busy =
      passes (Store (lock_index l.pred) 0) (slice_set ws (lock_index l.pred) 0) (record l { pc = 6 })
      (rw e refl) (rw e refl) (rw e refl) (frees l.pred regs.pred b.walk.held.mine)
      (keep sz t 6 l.reply l regs, refl, refl, λ x. omega arith)
      (at6 refl d (held_past M tn l.pred (curr_is_not_pred M b.walk) (held_from M b.mine (in_chain b.walk)))
      (rw (key_after_lock ws (lock_index l.pred) 0 l.curr (inr (l.pred, refl))) lt))
  go (at6 e d x lt) busy =
      let s : ℕ = node_link ws l.curr in let cn : l.curr < node_count sz = regs.curr in
      let b : Behind V t (target l.call) l.curr (s / 2) = behind_from M x (even l.curr x) lt regs.low in
      let inn : s / 2 < node_count sz = inside false sz ws used M (s / 2) b.next in
      passes (Load (link_index l.curr)) ws (record l { pc = 3; pred = l.curr; curr = s / 2 })
      (rw e refl) (rw e refl) (rw e refl) (reads_word (link_index l.curr) (omega arith))
      (keep_walk sz t 3 l.curr (s / 2) l regs.curr inn regs, refl, refl, λ x. omega arith)
      (at3 refl d b)
  go (at7 e d b a) busy =
      let o : ℕ = own_of sz.quota t used in let k : ℕ = target l.call in
      let s = leaves_own_key M tn k a.room in
      let own = own_in false sz ws used M t tn a.room in
      passes (Store (key_index o) k) (slice_set ws (key_index o) k) (record l { pc = 8 })
      (rw (e, own_is) refl) (rw e refl) (rw e refl) (writes_own_key k a.room)
      (keep sz t 8 l.reply l regs, refl, refl, λ x. omega arith)
      (at8 refl d (between_on s b) (adding_on s b.walk.next a) (key_wrote false sz ws used M o k own))
  go (at8 e d b a key) busy =
      let o : ℕ = own_of sz.quota t used in let x : ℕ = 2 * l.curr in
      let s = leaves_own_link M tn x a.room in
      let own = own_in false sz ws used M t tn a.room in
      passes (Store (link_index o) x) (slice_set ws (link_index o) x) (record l { pc = 9 })
      (rw (e, own_is) refl) (rw e refl) (rw e refl) (writes_own_link l.curr a.room)
      (keep sz t 9 l.reply l regs, refl, refl, λ x. omega arith)
      (at9 refl d (between_on s b) (adding_on s b.walk.next a) (key_after_link ws o x o ∙ key)
      (link_wrote false sz ws used M o x own))
  go (at9 e d b a key link) busy =
      let x : ℕ = 2 * own_of sz.quota t used in
      let count : l.used ≡ used t = th.counts in
      let more : one_more used t t ≡ used t + 1 = one_more_same used t in
      changes (Store (link_index l.pred) x) (slice_set ws (link_index l.pred) x) (one_more used t)
      (record l { pc = 12; reply = Some True; used = l.used + 1 }) (key_of l.call) true
      (rw (e, own_is) refl) (rw e refl) (rw e refl) (puts_behind b.walk a key link) (a.call, d, a.room)
      (keep_more sz t 12 l (rw count a.room) regs) refl (omega arith) (λ x. omega arith)
      (at12 refl (lock_after_link ws l.pred x l.pred ∙ b.walk.held.mine) (lock_after_link ws l.pred x l.curr ∙ b.mine)
      (curr_is_not_pred M b.walk) True refl refl)
  go (at10 e d b a) busy =
      let s : ℕ = node_link ws l.curr in let cn : l.curr < node_count sz = regs.curr in
      let inn : s / 2 < node_count sz = inside false sz ws used M (s / 2) (found_next M b.walk a regs.low) in
      passes (Load (link_index l.curr)) ws (record l { pc = 11; succ = s / 2 })
      (rw e refl) (rw e refl) (rw e refl) (reads_word (link_index l.curr) (omega arith))
      (keep_succ sz t 11 (s / 2) l.reply l inn regs, refl, refl, λ x. omega arith)
      (at11 refl d b a refl)
  go (at11 e d b a next) busy =
      let x : ℕ = 2 * l.succ in
      changes (Store (link_index l.pred) x) (slice_set ws (link_index l.pred) x) used
      (record l { pc = 12; reply = Some True }) (key_of l.call) false
      (rw e refl) (rw e refl) (rw e refl) (drops_between M l.succ refl b a next regs.low) (a.call, d)
      (keep sz t 12 (Some True) l regs) refl th.counts (λ x. omega arith)
      (at12 refl (lock_after_link ws l.pred x l.pred ∙ b.walk.held.mine) (lock_after_link ws l.pred x l.curr ∙ b.mine)
      (curr_is_not_pred M b.walk) True refl refl)
  go (at12 e pred curr apart r ry due) busy =
      passes (Store (lock_index l.curr) 0) (slice_set ws (lock_index l.curr) 0) (record l { pc = 13 })
      (rw e refl) (rw e refl) (rw e refl) (frees l.curr regs.curr curr)
      (keep sz t 13 l.reply l regs, refl, refl, λ x. omega arith)
      (at13 refl (lock_after_lock ws l.curr 0 l.pred (λ f. apart (sym f)) ∙ pred) r ry
      (due_on done sz.quota vs first now t l.call r due))
  go (at13 e mine r ry due) busy =
      answers (Store (lock_index l.pred) 0) (slice_set ws (lock_index l.pred) 0) (record l { pc = 0 }) r
      (rw e refl) (rw (e, ry) refl) (rw e refl) (frees l.pred regs.pred mine) due
      (keep sz t 0 l.reply l regs) refl refl refl
      (at0 refl)

pub fine_follows : Follows fine (node_locks false) At
fine_follows = record {
  idle_at = λ op lim t vs. at0 refl;
  begun = λ call l. record { called = refl; used = refl; opened = λ e. omega arith; alike = refl };
  begin_registers = λ sz t call l low r. registers_begun sz t 1 call l low r;
  begins = λ q t vs now v call l e s k was. at1 refl refl;
  stands = λ q t vs first now v w done l present r at. stays q t vs first now v w done l r at;
  turn = λ sz t vs first now ws used done l h th tn busy. go sz t vs first now ws used done l h th tn th.at busy;
}
