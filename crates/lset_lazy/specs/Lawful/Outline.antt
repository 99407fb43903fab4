-- The proof outline of LazyList: an assertion for each row of the step table, and the proof that each step preserves
-- the assertions.
use Rattle.std.specs.Prelude.{◌≡◌, ◌≢◌, ℕ, suc, ◌+◌, ◌*◌, ◌/◌, ◌%◌, ◌<◌, ◌≤◌, Bool, true, false, Option, Some, None, List, slice_set, refl}
use Rattle.std.proofs.Common.{arith, inl, inr, sym, ◌∙◌, ap}
use Rattle.lset_words.proofs.Numbers.{same_or_not, below_or_not, if_below, if_not_below, if_same, if_other}
use Rattle.lset_words.specs.Words.{key_index, link_index, lock_index, tail_word, node_count, slot_node, target, key_of, Sizes}
use Rattle.lset_words.specs.declared.Reply.{Reply}
use Rattle.lset_words.specs.declared.Reply.TheVariants.{True}
use Rattle.lset_steps.specs.declared.Local.{Local}
use Rattle.lset_steps.specs.declared.Action.TheVariants.{Load, Store}
use Rattle.lset_steps.specs.Chain.{View, view, node_key, node_link, node_lock}
use Rattle.lset_steps.specs.Laws.{Registers, Due}
use Rattle.lset_steps.proofs.Memory.{Memory, own_of, one_more, one_more_same, own_in, goes_on, link_wrote}
use Rattle.lset_steps.proofs.Memory.{key_wrote, lock_wrote}
use Rattle.lset_steps.proofs.AfterWrite.{key_after_link, lock_after_lock}
use Rattle.lset_steps.proofs.Rely.{Rely}
use Rattle.lset_steps.proofs.Discipline.{Here, Thread}
use Rattle.lset_steps.proofs.Replies.{Adding, Removing, removing_kept, registers_begun, keep_more, keep, keep_ckey, keep_succ, keep_walk}
use Rattle.lset_steps.specs.Rows.{decided_on, goes_to, own_slot}
use Rattle.lset_steps.specs.ReadRows.{first_row, read_action, read_fed, continued}
use Rattle.lset_steps.proofs.ReadTables.{HasReadRows, in_each_read_row}
use Rattle.lset_steps.proofs.ReadOutline.{Reading, begun_reading_is, reading_on, call_begins, reads_on, even_or_odd}
use Rattle.lset_steps.proofs.Held.{Between, Both, Leaves, LockedStep, both_of, leaves_of, between_on, both_on, both_after, adding_on}
use Rattle.lset_steps.proofs.Held.{removing_on, own_key_on, own_link_on, reads_word, frees, writes_own_key, writes_own_link, puts_behind}
use Rattle.lset_steps.proofs.Held.{marks_between, cuts_between, between_marked, leaves_own_key, leaves_own_link}
use Rattle.lset_steps.proofs.UnlockedWalk.{Spot, Found, spot_kept, found_kept, found_apart, spot_behind, spot_behind_head}
use Rattle.lset_steps.proofs.UnlockedWalk.{next_inside, small_key, keeps_locked, behind_of_load}
use Rattle.lset_steps.proofs.ReadWalk.{ShowsReading}
use Rattle.lset_steps.proofs.Decision.{decides}
use Rattle.lset_steps.proofs.Turns.{Turn, Follows, Outcome, node_locks, locks_nodes, outcome_on, due_now, tries}
use Rattle.lset_steps.proofs.Turns.Turn.{passes, changes, answers}
use Rattle.lset_lazy.specs.Lazy.{lazy, targets, next_action, at_key, gives_up, at_pred, at_curr, released, fed_by, effect_of}

-- Holds if thread `t` holds the locks of the nodes `l.pred` and `l.curr`, `l.curr` is the node after `l.pred`, and the
-- key of `l.pred` is smaller than the call's key.
abbrev Window : View → ℕ → Local → Type 0
Window v t l = Between v t (target l.call) l.pred l.curr

-- The proof outline: the assertion of thread `t` before each row of the step table. The rows of `contains` and
-- `ceiling` share the last case.
pub data At (q t : ℕ) (vs : ℕ → View) (first now : ℕ) (v : View) (done : Bool) (l : Local) : Type 0 where
  at0 : l.pc ≡ 0 → At q t vs first now v done l
  at1 : l.pc ≡ 1 → done ≡ false → At q t vs first now v done l
  at2 : l.pc ≡ 2 → done ≡ false → Spot v (target l.call) l.pred l.curr → At q t vs first now v done l
  at3 : l.pc ≡ 3 → done ≡ false → Spot v (target l.call) l.pred l.curr → v.key l.curr < target l.call
      → At q t vs first now v done l
  at4 : l.pc ≡ 4 → done ≡ false → Found v (target l.call) l.pred l.curr l.ckey → At q t vs first now v done l
  at5 : l.pc ≡ 5 → done ≡ false → Found v (target l.call) l.pred l.curr l.ckey → v.lock l.pred ≡ t + 1
      → At q t vs first now v done l
  at6 : l.pc ≡ 6 → done ≡ false → Found v (target l.call) l.pred l.curr l.ckey → Both v t l.pred l.curr
      → At q t vs first now v done l
  at7 : l.pc ≡ 7 → done ≡ false → Found v (target l.call) l.pred l.curr l.ckey → Window v t l → At q t vs first now v done l
  at8 : l.pc ≡ 8 → done ≡ false → Window v t l → Adding v t q l.curr l.call → At q t vs first now v done l
  at9 : l.pc ≡ 9 → done ≡ false → Window v t l → Adding v t q l.curr l.call → v.key (slot_node q t (v.used t)) ≡ target l.call
      → At q t vs first now v done l
  at10 : l.pc ≡ 10 → done ≡ false → Window v t l → Adding v t q l.curr l.call → v.key (slot_node q t (v.used t)) ≡ target l.call
      → v.link (slot_node q t (v.used t)) ≡ 2 * l.curr → At q t vs first now v done l
  at11 : l.pc ≡ 11 → done ≡ false → Window v t l → Removing v l.curr l.call → v.link l.curr ≡ 2 * l.succ
      → At q t vs first now v done l
  at12 : l.pc ≡ 12 → done ≡ true → Window v t l → Removing v l.curr l.call → v.link l.curr ≡ 2 * l.succ + 1
      → At q t vs first now v done l
  at13 : l.pc ≡ 13 → Both v t l.pred l.curr → Outcome done q vs first now t l.call l.reply → At q t vs first now v done l
  at14 : l.pc ≡ 14 → v.lock l.pred ≡ t + 1 → Outcome done q vs first now t l.call l.reply → At q t vs first now v done l
  at_read : Reading vs first now done l → At q t vs first now v done l

-- Lemmas: steps of other threads preserve the assertions of thread `t`.
module _ (q t : ℕ) (vs : ℕ → View) (first now : ℕ) (v w : View) (done : Bool) (l : Local) (r : Rely v w q t) where
  s : Leaves v w t
  s = leaves_of r

  below_on : Spot v (target l.call) l.pred l.curr → v.key l.curr < target l.call → w.key l.curr < target l.call
  below_on x lt = rw (r.goes.keys l.curr x.curr_published) lt

  stays : At q t vs first now v done l → At q t vs first (suc now) w done l
  stays (at0 e) = at0 e
  stays (at1 e d) = at1 e d
  stays (at2 e d x) = at2 e d (spot_kept r.goes x)
  stays (at3 e d x lt) = at3 e d (spot_kept r.goes x) (below_on x lt)
  stays (at4 e d x) = at4 e d (found_kept r.goes x)
  stays (at5 e d x p) = at5 e d (found_kept r.goes x) (s.locks l.pred p)
  stays (at6 e d x b) = at6 e d (found_kept r.goes x) (both_on s b)
  stays (at7 e d x b) = at7 e d (found_kept r.goes x) (between_on s b)
  stays (at8 e d b a) = at8 e d (between_on s b) (adding_on s b.walk.next a)
  stays (at9 e d b a x) = at9 e d (between_on s b) (adding_on s b.walk.next a) (own_key_on r (target l.call) a.room x)
  stays (at10 e d b a x y) =
      at10 e d (between_on s b) (adding_on s b.walk.next a) (own_key_on r (target l.call) a.room x)
      (own_link_on r (2 * l.curr) a.room y)
  stays (at11 e d b a x) = at11 e d (between_on s b) (removing_on s b.walk.next a) (s.links l.curr b.walk.next b.mine ∙ x)
  stays (at12 e d b a x) = at12 e d (between_on s b) (removing_on s b.walk.next a) (s.links l.curr b.walk.next b.mine ∙ x)
  stays (at13 e b o) = at13 e (both_on s b) (outcome_on done q vs first now t l.call l.reply o)
  stays (at14 e p o) = at14 e (s.locks l.pred p) (outcome_on done q vs first now t l.call l.reply o)
  stays (at_read a) = at_read (reading_on a)

pub has_read_rows : HasReadRows lazy
has_read_rows = record {
  begins = λ call l. refl;
  acts = λ l. in_each_read_row (λ n. next_action (record l { pc = n }) ≡ read_action (record l { pc = n }))
      refl refl refl refl refl refl l.pc;
  feeds = λ l seen. in_each_read_row (λ n. fed_by (record l { pc = n }) seen ≡ read_fed (record l { pc = n }) seen)
      refl refl refl refl refl refl l.pc;
  tells = λ l seen. in_each_read_row (λ n. effect_of (record l { pc = n }) seen ≡ None) refl refl refl refl refl refl l.pc;
}

-- ---- Proof that each row preserves the assertions of its own thread
module _ (sz : Sizes) (t : ℕ) (vs : ℕ → View) (first now : ℕ) (ws : List ℕ) (used : ℕ → ℕ) (done : Bool) (l : Local)
    (h : Here true sz vs now ws used) (th : Thread At sz t vs first now ws used done l) (tn : t < sz.threads) where
  abbrev Goal : Type 0
  Goal = Turn lazy (node_locks true) At sz t vs first now ws used done l

  abbrev V : View
  V = view sz ws used

  M : Memory true sz ws used
  M = h.memory

  regs : Registers sz t l
  regs = th.registers

  own_is : own_slot l ≡ own_of sz.quota t used
  own_is = rw (th.registers.thread, th.registers.quota, th.counts) refl

  freed : l.pc ≡ 14 → fed_by l 0 ≡ released l.reply l
  freed e = rw e refl

  go_14 : l.pc ≡ 14 → node_lock ws l.pred ≡ t + 1 → (r : Option Reply) → l.reply ≡ r
      → Outcome done sz.quota vs first now t l.call r → Goal
  go_14 e mine None y o =
      passes (Store (lock_index l.pred) 0) (slice_set ws (lock_index l.pred) 0) (record l { pc = 1 })
      (rw e refl) (freed e ∙ ap (λ z. released z l) y) (rw e refl) (frees l.pred regs.pred mine)
      (keep sz t 1 l.reply l regs, refl, refl, λ x. omega arith) (at1 refl o)
  go_14 e mine (Some r) y o =
      answers (Store (lock_index l.pred) 0) (slice_set ws (lock_index l.pred) 0) (record l { pc = 0 }) r
      (rw e refl) (freed e ∙ ap (λ z. released z l) y) (rw e refl) (frees l.pred regs.pred mine) o
      (keep sz t 0 l.reply l regs) refl refl refl (at0 refl)

  go : At sz.quota t vs first now (view sz ws used) done l → l.pc ≢ 0 → Goal
  go (at0 e) busy = absurd (busy e)
  go (at1 e d) busy =
      let s : ℕ = node_link ws 0 in
      passes (Load (link_index 0)) ws (record l { pc = 2; pred = 0; curr = s / 2 })
      (rw e refl) (rw e refl) (rw e refl) (reads_word (link_index 0) (omega arith))
      (keep_walk sz t 2 0 (s / 2) l (omega arith) (next_inside M 0 M.ordered.head_published) regs, refl, refl, λ x. omega arith)
      (at2 refl d (spot_behind_head M (omega arith)))
  go (at2 e d x) busy =
      let s : ℕ = node_key ws l.curr in let k : ℕ = target l.call in
      let inn : l.curr < node_count sz = regs.curr in
      let small : s ≤ tail_word = small_key M l.curr x.curr_published in
      let read : LockedStep true sz t ws used (Load (key_index l.curr)) ws used None =
      reads_word (key_index l.curr) (omega arith) in
      let feeds : fed_by l s ≡ continued (at_key s l) = rw e refl in
      elim (below_or_not s k) [
        | inl lt ↦ passes (Load (key_index l.curr)) ws (record l { pc = 3; ckey = s }) (rw e refl)
            (feeds ∙ ap continued (if_below s k lt (record l { pc = 3; ckey = s }) (record l { pc = 4; ckey = s })))
            (rw e refl) read
            (keep_ckey sz t 3 s l.reply l small regs, refl, refl, λ y. omega arith) (at3 refl d x lt)
        | inr ge ↦ passes (Load (key_index l.curr)) ws (record l { pc = 4; ckey = s }) (rw e refl)
            (feeds ∙ ap continued (if_not_below s k ge (record l { pc = 3; ckey = s }) (record l { pc = 4; ckey = s })))
            (rw e refl) read
            (keep_ckey sz t 4 s l.reply l small regs, refl, refl, λ y. omega arith)
            (at4 refl d (record { spot = x; is = refl; above = ge }))
      ]
  go (at3 e d x lt) busy =
      let s : ℕ = node_link ws l.curr in let inn : l.curr < node_count sz = regs.curr in
      passes (Load (link_index l.curr)) ws (record l { pc = 2; pred = l.curr; curr = s / 2 })
      (rw e refl) (rw e refl) (rw e refl) (reads_word (link_index l.curr) (omega arith))
      (keep_walk sz t 2 l.curr (s / 2) l regs.curr (next_inside M l.curr x.curr_published) regs, refl, refl, λ y. omega arith)
      (at2 refl d (spot_behind M l.curr x.curr_published lt))
  go (at4 e d x) busy = tries (locks_nodes true) l.pred (record l { pc = 5 }) (record l { pc = 4 }) regs.pred
      (rw (e, regs.thread) refl) (rw e refl) (rw e refl)
      (keep sz t 5 l.reply l regs, refl, refl, λ y. omega arith)
      (keep sz t 4 l.reply l regs, refl, refl, λ y. omega arith)
      (λ free. at5 refl d (found_kept (keeps_locked M tn l.pred regs.pred free) x)
      (lock_wrote true sz ws used M l.pred (t + 1) regs.pred))
      (at4 refl d x)
  go (at5 e d x mine) busy = tries (locks_nodes true) l.curr (record l { pc = 6 }) (record l { pc = 5 }) regs.curr
      (rw (e, regs.thread) refl) (rw e refl) (rw e refl)
      (keep sz t 6 l.reply l regs, refl, refl, λ y. omega arith)
      (keep sz t 5 l.reply l regs, refl, refl, λ y. omega arith)
      (λ free. at6 refl d (found_kept (keeps_locked M tn l.curr regs.curr free) x) (record {
        pred_mine = lock_after_lock ws l.curr (t + 1) l.pred (λ f. found_apart x (sym f)) ∙ mine;
        curr_mine = lock_wrote true sz ws used M l.curr (t + 1) regs.curr;
        distinct = found_apart x;
      }))
      (at5 refl d x mine)
  go (at6 e d x b) busy =
      let s : ℕ = node_link ws l.pred in let inn : l.pred < node_count sz = regs.pred in
      let read : LockedStep true sz t ws used (Load (link_index l.pred)) ws used None =
      reads_word (link_index l.pred) (omega arith) in
      let feeds : fed_by l s ≡ continued (at_pred s l) = rw e refl in
      elim (same_or_not s (2 * l.curr)) [
        | inl y ↦ passes (Load (link_index l.pred)) ws (record l { pc = 7 }) (rw e refl)
            (feeds ∙ ap continued (if_same s (2 * l.curr) y (record l { pc = 7 }) (gives_up l))) (rw e refl) read
            (keep sz t 7 l.reply l regs, refl, refl, λ z. omega arith)
            (at7 refl d x (record { walk = behind_of_load M regs.low x.spot b.pred_mine y; mine = b.curr_mine }))
        | inr y ↦ passes (Load (link_index l.pred)) ws (record l { pc = 13; reply = None }) (rw e refl)
            (feeds ∙ ap continued (if_other s (2 * l.curr) y (record l { pc = 7 }) (gives_up l))) (rw e refl) read
            (keep sz t 13 None l regs, refl, refl, λ z. omega arith)
            (at13 refl b d)
      ]
  go (at7 e d x b) busy =
      let s : ℕ = node_link ws l.curr in let inn : l.curr < node_count sz = regs.curr in
      let l0 : Local = record l { succ = s / 2 } in
      let next : s / 2 < node_count sz = next_inside M l.curr b.walk.next in
      let a = Load (link_index l.curr) in
      let read : LockedStep true sz t ws used (Load (link_index l.curr)) ws used None =
      reads_word (link_index l.curr) (omega arith) in
      let feeds : fed_by l s ≡ continued (at_curr s l) = rw e refl in
      elim (even_or_odd s) [
        | inl even ↦
            (let on = feeds ∙ ap continued (if_same (s % 2) 0 even (decided_on targets l.ckey l0) (gives_up l)) in
            elim (decides M t targets l.ckey l0 b.walk.held.at b.walk.inner b.walk.follows b.walk.below even (sym x.is) x.above regs.low
            (M.room t tn) th.counts regs.quota) [
              | inl r ↦ passes a ws (goes_to 13 (Some r.0) l0) (rw e refl) (on ∙ ap continued r.1) (rw e refl) read
                  (keep_succ sz t 13 (s / 2) (Some r.0) l next regs, refl, refl, λ z. omega arith)
                  (at13 refl (both_of (found_apart x) b)
                  (due_now done sz.quota vs first now t V l.call r.0 d th.begun h.present r.2))
              | inr z ↦ elim z [
                | inl r ↦ passes a ws (goes_to 8 None l0) (rw e refl) (on ∙ ap continued r.0) (rw e refl) read
                    (keep_succ sz t 8 (s / 2) None l next regs, refl, refl, λ y. omega arith) (at8 refl d b r.1)
                | inr r ↦ passes a ws (goes_to 11 None l0) (rw e refl) (on ∙ ap continued r.0) (rw e refl) read
                    (keep_succ sz t 11 (s / 2) None l next regs, refl, refl, λ y. omega arith) (at11 refl d b r.1 (omega arith))
              ]
            ])
        | inr odd ↦ passes a ws (record l { pc = 13; reply = None }) (rw e refl)
            (feeds ∙ ap continued (if_other (s % 2) 0 (omega arith) (decided_on targets l.ckey l0) (gives_up l))) (rw e refl) read
            (keep sz t 13 None l regs, refl, refl, λ z. omega arith)
            (at13 refl (both_of (found_apart x) b) d)
      ]
  go (at8 e d b a) busy =
      let o : ℕ = own_of sz.quota t used in let k : ℕ = target l.call in
      let s = leaves_own_key M tn k a.room in
      let own = own_in true sz ws used M t tn a.room in
      passes (Store (key_index o) k) (slice_set ws (key_index o) k) (record l { pc = 9 })
      (rw (e, own_is) refl) (rw e refl) (rw e refl) (writes_own_key k a.room)
      (keep sz t 9 l.reply l regs, refl, refl, λ x. omega arith)
      (at9 refl d (between_on s b) (adding_on s b.walk.next a) (key_wrote true sz ws used M o k own))
  go (at9 e d b a key) busy =
      let o : ℕ = own_of sz.quota t used in let x : ℕ = 2 * l.curr in
      let s = leaves_own_link M tn x a.room in
      let own = own_in true sz ws used M t tn a.room in
      passes (Store (link_index o) x) (slice_set ws (link_index o) x) (record l { pc = 10 })
      (rw (e, own_is) refl) (rw e refl) (rw e refl) (writes_own_link l.curr a.room)
      (keep sz t 10 l.reply l regs, refl, refl, λ x. omega arith)
      (at10 refl d (between_on s b) (adding_on s b.walk.next a) (key_after_link ws o x o ∙ key)
      (link_wrote true sz ws used M o x own))
  go (at10 e d b a key link) busy =
      let x : ℕ = 2 * own_of sz.quota t used in
      let count : l.used ≡ used t = th.counts in
      let more : one_more used t t ≡ used t + 1 = one_more_same used t in
      changes (Store (link_index l.pred) x) (slice_set ws (link_index l.pred) x) (one_more used t)
      (record l { pc = 13; reply = Some True; used = l.used + 1 }) (key_of l.call) true
      (rw (e, own_is) refl) (rw e refl) (rw e refl) (puts_behind b.walk a key link) (a.call, d, a.room)
      (keep_more sz t 13 l (rw count a.room) regs) refl (omega arith) (λ x. omega arith)
      (at13 refl (both_after M l.pred x (one_more used t) b) refl)
  go (at11 e d b a next) busy =
      let x : ℕ = 2 * l.succ + 1 in
      let even : node_link ws l.curr % 2 ≡ 0 = omega arith in
      let is : 2 * l.succ + 1 ≡ node_link ws l.curr + 1 = omega arith in
      let c : LockedStep true sz t ws used (Store (link_index l.curr) x) (slice_set ws (link_index l.curr) x) used
      (Some (key_of l.call, false)) =
      marks_between M x refl b a even is regs.low in
      let g = goes_on true sz ws used M t tn (Store (link_index l.curr) x) (slice_set ws (link_index l.curr) x) used
      (Some (key_of l.call, false)) c.0 in
      changes (Store (link_index l.curr) x) (slice_set ws (link_index l.curr) x) used (record l { pc = 12 })
      (key_of l.call) false
      (rw e refl) (rw e refl) (rw e refl) c (a.call, d)
      (keep sz t 12 l.reply l regs) refl th.counts (λ x. omega arith)
      (at12 refl refl (between_marked M tn x b a even is regs.low) (removing_kept g b.walk.next a)
      (link_wrote true sz ws used M l.curr x regs.curr))
  go (at12 e d b a next) busy =
      let x : ℕ = 2 * l.succ in
      let due : Due done sz.quota vs first (suc now) t l.call True = rw d refl in
      passes (Store (link_index l.pred) x) (slice_set ws (link_index l.pred) x) (record l { pc = 13; reply = Some True })
      (rw e refl) (rw e refl) (rw e refl) (cuts_between M l.succ b a next regs.low)
      (keep sz t 13 (Some True) l regs, refl, refl, λ x. omega arith)
      (at13 refl (both_after M l.pred x used b) due)
  go (at13 e b o) busy =
      passes (Store (lock_index l.curr) 0) (slice_set ws (lock_index l.curr) 0) (record l { pc = 14 })
      (rw e refl) (rw e refl) (rw e refl) (frees l.curr regs.curr b.curr_mine)
      (keep sz t 14 l.reply l regs, refl, refl, λ x. omega arith)
      (at14 refl (lock_after_lock ws l.curr 0 l.pred (λ f. b.distinct (sym f)) ∙ b.pred_mine)
      (outcome_on done sz.quota vs first now t l.call l.reply o))
  go (at14 e p o) busy = go_14 e p l.reply refl o
  go (at_read a) busy =
      reads_on lazy (node_locks true) At sz t vs first now ws used done l h th has_read_rows (λ l' b. at_read b)
      (λ l' b. at0 b) a

pub shows_reading : ShowsReading At
shows_reading q t vs first now v done l row (at_read a) = a
shows_reading q t vs first now v done l row at = grind arith

pub lazy_follows : Follows lazy (node_locks true) At
lazy_follows = record {
  idle_at = λ op lim t vs. at0 refl;
  begun = begun_reading_is;
  begin_registers = λ sz t call l low r. registers_begun sz t (first_row call) call l low r;
  begins = λ q t vs now v call l e s k was. call_begins At q t vs now v call l e k (λ l' e. at1 e refl) (λ l' r. at_read r);
  stands = λ q t vs first now v w done l present r at. stays q t vs first now v w done l r at;
  turn = λ sz t vs first now ws used done l h th tn busy. go sz t vs first now ws used done l h th tn th.at busy;
}
