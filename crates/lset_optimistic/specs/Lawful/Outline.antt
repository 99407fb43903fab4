-- The proof outline of OptimisticList, which walks without locks and validates by a second walk. The outline has an
-- assertion for each row of the step table, and a proof that each step preserves the assertions.
use Rattle.std.specs.Prelude.{◌≡◌, ◌≢◌, ℕ, suc, ◌+◌, ◌*◌, ◌/◌, ◌<◌, ◌≤◌, ◌⊎◌, Bool, true, false, Option, Some, None, List}
use Rattle.std.specs.Prelude.{if◌then◌else◌, ◌==◌, slice_set, refl}
use Rattle.std.proofs.Common.{arith, inl, inr, sym, ◌∙◌, ap, subst}
use Rattle.lset_words.proofs.Numbers.{same_or_not, if_same, if_other, if_below, if_not_below, below_or_not}
use Rattle.lset_words.specs.Words.{key_index, link_index, lock_index, node_count, slot_node, target, key_of, Sizes}
use Rattle.lset_words.specs.declared.Reply.{Reply}
use Rattle.lset_words.specs.declared.Reply.TheVariants.{True}
use Rattle.lset_steps.specs.declared.Local.{Local}
use Rattle.lset_steps.specs.declared.Action.TheVariants.{Load, Store}
use Rattle.lset_steps.specs.Chain.{View, view, InChain, FitsIn, node_key, node_link, node_lock}
use Rattle.lset_steps.proofs.Moves.{KeepsNodes}
use Rattle.lset_steps.specs.Laws.{Registers}
use Rattle.lset_steps.proofs.Memory.{Memory, own_of, one_more, one_more_same, link_wrote, key_wrote, lock_wrote, own_in, inner, inside}
use Rattle.lset_steps.proofs.AfterWrite.{lock_after_link, lock_after_lock, key_after_link}
use Rattle.lset_steps.proofs.Rely.{Rely}
use Rattle.lset_steps.proofs.Discipline.{Here, Thread}
use Rattle.lset_steps.proofs.Replies.{Adding, Removing, registers_begun, keep_more, keep, keep_ckey, keep_succ, keep_passed, keep_node}
use Rattle.lset_steps.specs.Rows.{decided_on, goes_to, own_slot}
use Rattle.lset_steps.proofs.Held.{Held, Behind, Between, Leaves, LockedStep, head_held, rely_same, leaves_of, held_on}
use Rattle.lset_steps.proofs.Held.{between_on, adding_on, removing_on, own_key_on, own_link_on, reads_word, frees, writes_own_key}
use Rattle.lset_steps.proofs.Held.{writes_own_link, puts_behind, held_from, behind_from, curr_is_not_pred, found_next}
use Rattle.lset_steps.proofs.Held.{drops_between, stays_behind, leaves_locked, leaves_own_key, leaves_own_link}
use Rattle.lset_steps.proofs.UnlockedWalk.{Spot, Found, found_apart, same_key_kept, spot_kept, found_kept, spot_behind}
use Rattle.lset_steps.proofs.UnlockedWalk.{spot_behind_head, next_inside, small_key, keeps_locked}
use Rattle.lset_steps.proofs.SecondWalk.{SecondWalk, second_walk_begins, second_walk_on, second_walk_goes, second_walk_arrives}
use Rattle.lset_steps.proofs.Decision.{decides}
use Rattle.lset_steps.proofs.Turns.{Turn, Follows, Outcome, node_locks, locks_nodes, outcome_on, due_now, tries}
use Rattle.lset_steps.proofs.Turns.Turn.{passes, changes, answers}
use Rattle.lset_optimistic.specs.Optimistic.{optimistic, targets}

-- Holds if the first walk has found pred, a node whose key is smaller than the call's key, and curr, a node whose key
-- is not smaller. `pkey` and `ckey` are the keys of pred and curr.
pub record Reached (v : View) (key pred pkey curr ckey : ℕ) : Type 0 where
  pub found : Found v key pred curr ckey
  pub low : v.key pred ≡ pkey

reached_kept : {v w : View} {key pred pkey curr ckey : ℕ} → KeepsNodes v w → Reached v key pred pkey curr ckey
    → Reached w key pred pkey curr ckey
reached_kept {pred = pred} g f = record {
  found = found_kept g f.found;
  low = same_key_kept g pred f.found.spot.pred_published f.low;
}

abbrev pub Window : View → Local → Type 0
Window v l = Reached v (target l.call) l.pred l.pkey l.curr l.ckey

-- Holds if a second walk has reached the node `l.pred`, `l.curr` is the node after `l.pred`, and thread `t` holds the
-- locks of both nodes.
abbrev pub Neighbours : View → ℕ → Local → Type 0
Neighbours v t l = Between v t (target l.call) l.pred l.curr × (l.node ≡ l.pred)

-- The proof outline: the assertion of thread `t` before each row of the step table.
pub data At (q t : ℕ) (vs : ℕ → View) (first now : ℕ) (v : View) (done : Bool) (l : Local) : Type 0 where
  at0 : l.pc ≡ 0 → At q t vs first now v done l
  at1 : l.pc ≡ 1 → done ≡ false → At q t vs first now v done l
  at2 : l.pc ≡ 2 → done ≡ false → Spot v (target l.call) l.pred l.curr → v.key l.pred ≡ l.pkey → At q t vs first now v done l
  at3 : l.pc ≡ 3 → done ≡ false → v.published l.curr → v.key l.curr ≡ l.ckey → l.ckey < target l.call
      → At q t vs first now v done l
  at4 : l.pc ≡ 4 → done ≡ false → Window v l → At q t vs first now v done l
  at5 : l.pc ≡ 5 → done ≡ false → Window v l → v.lock l.pred ≡ t + 1 → At q t vs first now v done l
  at6 : l.pc ≡ 6 → done ≡ false → Window v l → v.lock l.curr ≡ t + 1 → v.key l.node ≤ l.pkey
      → (start : ℕ) → first ≤ start → SecondWalk vs start now v t l.pred l.node → At q t vs first now v done l
  at7 : l.pc ≡ 7 → done ≡ false → Window v l → v.lock l.curr ≡ t + 1
      → (start : ℕ) → first ≤ start → SecondWalk vs start now v t l.pred l.node → At q t vs first now v done l
  at8 : l.pc ≡ 8 → done ≡ false → Window v l → v.lock l.curr ≡ t + 1 → Held v t l.pred → l.node ≡ l.pred
      → At q t vs first now v done l
  at9 : l.pc ≡ 9 → done ≡ false → Neighbours v t l → Adding v t q l.curr l.call → At q t vs first now v done l
  at10 : l.pc ≡ 10 → done ≡ false → Neighbours v t l → Adding v t q l.curr l.call
      → v.key (slot_node q t (v.used t)) ≡ target l.call → At q t vs first now v done l
  at11 : l.pc ≡ 11 → done ≡ false → Neighbours v t l → Adding v t q l.curr l.call
      → v.key (slot_node q t (v.used t)) ≡ target l.call → v.link (slot_node q t (v.used t)) ≡ 2 * l.curr
      → At q t vs first now v done l
  at12 : l.pc ≡ 12 → done ≡ false → Neighbours v t l → Removing v l.curr l.call → At q t vs first now v done l
  at13 : l.pc ≡ 13 → done ≡ false → Neighbours v t l → Removing v l.curr l.call → v.link l.curr / 2 ≡ l.succ
      → At q t vs first now v done l
  at14 : l.pc ≡ 14 → v.lock l.pred ≡ t + 1 → v.lock l.curr ≡ t + 1 → l.curr ≢ l.pred → (l.node ≡ l.pred → InChain v l.pred)
      → Outcome done q vs first now t l.call l.reply → At q t vs first now v done l
  at15 : l.pc ≡ 15 → v.lock l.curr ≡ t + 1 → Outcome done q vs first now t l.call l.reply → At q t vs first now v done l

-- Lemmas: steps of other threads preserve the assertions of thread `t`.
module _ (q t : ℕ) (vs : ℕ → View) (first now : ℕ) (v w : View) (done : Bool) (l : Local) (present : vs now ≡ v)
    (r : Rely v w q t) where
  s : Leaves v w t
  s = leaves_of r

  neighbours_on : Neighbours v t l → Neighbours w t l
  neighbours_on b = (between_on s b.0, b.1)

  stays : At q t vs first now v done l → At q t vs first (suc now) w done l
  stays (at0 e) = at0 e
  stays (at1 e d) = at1 e d
  stays (at2 e d x k) = at2 e d (spot_kept r.goes x) (same_key_kept r.goes l.pred x.pred_published k)
  stays (at3 e d c k b) = at3 e d (s.grows l.curr c) (same_key_kept r.goes l.curr c k) b
  stays (at4 e d f) = at4 e d (reached_kept r.goes f)
  stays (at5 e d f p) = at5 e d (reached_kept r.goes f) (s.locks l.pred p)
  stays (at6 e d f c k start g x) =
      at6 e d (reached_kept r.goes f) (s.locks l.curr c) (rw (s.keys l.node x.node_published) k) start g
      (second_walk_on vs present s x)
  stays (at7 e d f c start g x) = at7 e d (reached_kept r.goes f) (s.locks l.curr c) start g (second_walk_on vs present s x)
  stays (at8 e d f c h a) = at8 e d (reached_kept r.goes f) (s.locks l.curr c) (held_on s h) a
  stays (at9 e d b a) = at9 e d (neighbours_on b) (adding_on s b.0.walk.next a)
  stays (at10 e d b a x) = at10 e d (neighbours_on b) (adding_on s b.0.walk.next a) (own_key_on r (target l.call) a.room x)
  stays (at11 e d b a x y) =
      at11 e d (neighbours_on b) (adding_on s b.0.walk.next a) (own_key_on r (target l.call) a.room x)
      (own_link_on r (2 * l.curr) a.room y)
  stays (at12 e d b a) = at12 e d (neighbours_on b) (removing_on s b.0.walk.next a)
  stays (at13 e d b a x) =
      at13 e d (neighbours_on b) (removing_on s b.0.walk.next a) (rw (s.links l.curr b.0.walk.next b.0.mine) x)
  stays (at14 e p c x i o) = at14 e (s.locks l.pred p) (s.locks l.curr c) x (λ a. s.chain l.pred p (i a))
      (outcome_on done q vs first now t l.call l.reply o)
  stays (at15 e c o) = at15 e (s.locks l.curr c) (outcome_on done q vs first now t l.call l.reply o)

-- Lemma: if the second walk has reached pred and pred's link points to curr, the call either has a reply that is
-- correct now, or will add or remove its key.
pub decision : {sz : Sizes} {t : ℕ} {ws : List ℕ} {used : ℕ → ℕ} (m : Memory false sz ws used) (l : Local) → t < sz.threads →
    Registers sz t l
    → l.used ≡ used t → Window (view sz ws used) l → node_lock ws l.curr ≡ t + 1 → Held (view sz ws used) t l.pred
    → node_link ws l.pred / 2 ≡ l.curr
    → Between (view sz ws used) t (target l.call) l.pred l.curr
    × (((r : Reply) × (decided_on targets l.ckey l ≡ goes_to 14 (Some r) l) × FitsIn sz.quota (view sz ws used) t l.call r)
    ⊎ ((decided_on targets l.ckey l ≡ goes_to 9 None l) × Adding (view sz ws used) t sz.quota l.curr l.call)
    ⊎ ((decided_on targets l.ckey l ≡ goes_to 12 None l) × Removing (view sz ws used) l.curr l.call))
decision {sz} {t} {ws} {used} m l tn regs count f c x leads =
    let walk : Behind (view sz ws used) t (target l.call) l.pred l.curr =
    subst (Behind (view sz ws used) t (target l.call) l.pred) leads
    (behind_from m x (m.marked l.pred x.published) f.found.spot.below regs.low) in (
      record { walk = walk; mine = c },
      decides m t targets l.ckey l walk.held.at walk.inner walk.follows walk.below (m.marked l.curr f.found.spot.curr_published)
          (sym f.found.is) f.found.above regs.low (m.room t tn) count regs.quota,
    )

module _ (sz : Sizes) (t : ℕ) (vs : ℕ → View) (first now : ℕ) (ws : List ℕ) (used : ℕ → ℕ) (done : Bool) (l : Local)
    (h : Here false sz vs now ws used) (th : Thread At sz t vs first now ws used done l) (tn : t < sz.threads) where
  abbrev Goal : Type 0
  Goal = Turn optimistic (node_locks false) At sz t vs first now ws used done l

  abbrev V : View
  V = view sz ws used

  M : Memory false sz ws used
  M = h.memory

  regs : Registers sz t l
  regs = th.registers

  own_is : own_slot l ≡ own_of sz.quota t used
  own_is = rw (th.registers.thread, th.registers.quota, th.counts) refl

  go_15 : l.pc ≡ 15 → node_lock ws l.curr ≡ t + 1 → (r : Option Reply) → l.reply ≡ r
      → Outcome done sz.quota vs first now t l.call r → Goal
  go_15 e mine None y o =
      passes (Store (lock_index l.curr) 0) (slice_set ws (lock_index l.curr) 0) (record l { pc = 1 })
      (rw e refl) (rw (e, y) refl) (rw e refl) (frees l.curr regs.curr mine)
      (keep sz t 1 l.reply l regs, refl, refl, λ x. omega arith)
      (at1 refl o)
  go_15 e mine (Some r) y o =
      answers (Store (lock_index l.curr) 0) (slice_set ws (lock_index l.curr) 0) (record l { pc = 0 }) r
      (rw e refl) (rw (e, y) refl) (rw e refl) (frees l.curr regs.curr mine) o
      (keep sz t 0 l.reply l regs) refl refl refl
      (at0 refl)

  go : At sz.quota t vs first now (view sz ws used) done l → l.pc ≢ 0 → Goal
  go (at0 e) busy = absurd (busy e)
  go (at1 e d) busy =
      let s : ℕ = node_link ws 0 in let next : s / 2 < node_count sz = next_inside M 0 M.ordered.head_published in
      passes (Load (link_index 0)) ws (record l { pc = 2; pred = 0; pkey = 0; curr = s / 2 })
      (rw e refl) (rw e refl) (rw e refl) (reads_word (link_index 0) (omega arith))
      (keep_passed sz t 2 0 0 (s / 2) l (omega arith) (omega arith) next regs, refl, refl, λ x. omega arith)
      (at2 refl d (spot_behind_head M (omega arith)) M.head_key)
  go (at2 e d x k) busy =
      let key : ℕ = target l.call in let s : ℕ = node_key ws l.curr in
      let inn : l.curr < node_count sz = regs.curr in
      let on : Local = record l { pc = 3; ckey = s } in let found : Local = record l { pc = 4; ckey = s } in
      let c : V.published l.curr = x.curr_published in
      let read : LockedStep false sz t ws used (Load (key_index l.curr)) ws used None =
      reads_word (key_index l.curr) (omega arith) in
      elim (below_or_not s key) [
        | inl lt ↦
            (let is = if_below s key lt on found in
            passes (Load (key_index l.curr)) ws on (rw e refl) (rw (e, is) refl) (rw e refl) read
            (keep_ckey sz t 3 s l.reply l (small_key M l.curr c) regs, refl, refl, λ x. omega arith)
            (at3 refl d c refl lt))
        | inr ge ↦
            (let is = if_not_below s key ge on found in
            passes (Load (key_index l.curr)) ws found (rw e refl) (rw (e, is) refl) (rw e refl) read
            (keep_ckey sz t 4 s l.reply l (small_key M l.curr c) regs, refl, refl, λ x. omega arith)
            (at4 refl d (record { found = record { spot = x; is = refl; above = ge }; low = k })))
      ]
  go (at3 e d c k lt) busy =
      let s : ℕ = node_link ws l.curr in let next : s / 2 < node_count sz = next_inside M l.curr c in
      let inn : l.curr < node_count sz = regs.curr in let below : node_key ws l.curr < target l.call = omega arith in
      passes (Load (link_index l.curr)) ws (record l { pc = 2; pred = l.curr; pkey = l.ckey; curr = s / 2 })
      (rw e refl) (rw e refl) (rw e refl) (reads_word (link_index l.curr) (omega arith))
      (keep_passed sz t 2 l.curr l.ckey (s / 2) l regs.curr regs.ckey next regs, refl, refl, λ x. omega arith)
      (at2 refl d (spot_behind M l.curr c below) k)
  go (at4 e d f) busy = tries (locks_nodes false) l.pred (record l { pc = 5 }) (record l { pc = 4 }) regs.pred
      (rw (e, regs.thread) refl) (rw e refl) (rw e refl)
      (keep sz t 5 l.reply l regs, refl, refl, λ x. omega arith)
      (keep sz t 4 l.reply l regs, refl, refl, λ x. omega arith)
      (λ free. at5 refl d (reached_kept (keeps_locked M tn l.pred regs.pred free) f)
      (lock_wrote false sz ws used M l.pred (t + 1) regs.pred))
      (at4 refl d f)
  go (at5 e d f p) busy =
      let key : ℕ = target l.call in
      let mine = lock_wrote false sz ws used M l.curr (t + 1) regs.curr in
      let low : node_key ws l.pred < key = f.found.spot.below in
      let again : Local = record l { pc = 5 } in
      let head : node_key ws 0 ≡ 0 = M.head_key in
      elim (same_or_not l.pred 0) [
        | inl z ↦
            (let is = if_same l.pred 0 z (record l { pc = 8; node = 0 }) (record l { pc = 6; node = 0 }) in
            tries (locks_nodes false) l.curr (record l { pc = 8; node = 0 }) again regs.curr
            (rw (e, regs.thread) refl) (rw (e, is) refl) (rw e refl)
            (keep_node sz t 8 0 l (omega arith) regs, refl, refl, λ x. omega arith)
            (keep sz t 5 l.reply l regs, refl, refl, λ x. omega arith)
            (λ free. let s = leaves_locked M tn l.curr free in at8 refl d (reached_kept (keeps_locked M tn l.curr regs.curr free) f) mine
            (held_on s (subst (Held V t) (sym z) (head_held M.ordered.head_published (subst (λ x. node_lock ws x ≡ t + 1) z p))))
            (sym z))
            (at5 refl d f p))
        | inr z ↦
            (let is = if_other l.pred 0 z (record l { pc = 8; node = 0 }) (record l { pc = 6; node = 0 }) in
            tries (locks_nodes false) l.curr (record l { pc = 6; node = 0 }) again regs.curr
            (rw (e, regs.thread) refl) (rw (e, is) refl) (rw e refl)
            (keep_node sz t 6 0 l (omega arith) regs, refl, refl, λ x. omega arith)
            (keep sz t 5 l.reply l regs, refl, refl, λ x. omega arith)
            (λ free. let s = leaves_locked M tn l.curr free in at6 refl d (reached_kept (keeps_locked M tn l.curr regs.curr free) f) mine
            (let k0 = s.keys 0 M.ordered.head_published in omega arith) (suc now) (let g : first ≤ now = th.begun in omega arith)
            (second_walk_begins vs (suc now) (s.locks l.pred p) f.found.spot.pred_published M.ordered.head_published))
            (at5 refl d f p))
      ]
  go (at6 e d f c k start g x) busy =
      let s : ℕ = node_link ws l.node in let inn : l.node < node_count sz = regs.node in
      let pkey : node_key ws l.pred ≡ l.pkey = f.low in let pred : node_key ws l.pred < target l.call = f.found.spot.below in
      let below : node_key ws l.node < target l.call = omega arith in
      passes (Load (link_index l.node)) ws (record l { pc = 7; node = s / 2 })
      (rw e refl) (rw e refl) (rw e refl) (reads_word (link_index l.node) (omega arith))
      (keep_node sz t 7 (s / 2) l (next_inside M l.node x.node_published) regs, refl, refl, λ y. omega arith)
      (at7 refl d f c start g
      (second_walk_goes vs h.present h.course M.ordered (inner false sz ws used M l.node (target l.call) below regs.low) x))
  go (at7 e d f c start g x) busy =
      let s : ℕ = node_key ws l.node in let inn : l.node < node_count sz = regs.node in
      let past : Local = record l { pc = 14; reply = None } in
      let there : Local = record l { pc = 8 } in let on : Local = record l { pc = 6 } in
      let read : LockedStep false sz t ws used (Load (key_index l.node)) ws used None =
      reads_word (key_index l.node) (omega arith) in
      let pkey : node_key ws l.pred ≡ l.pkey = f.low in
      let walks : SecondWalk vs start (suc now) V t l.pred l.node =
      second_walk_on vs h.present (leaves_of (rely_same V sz.quota t)) x in
      elim (below_or_not l.pkey s) [
        | inl lt ↦
            (let is = if_below l.pkey s lt past (if l.node == l.pred then there else on) in
            passes (Load (key_index l.node)) ws past (rw e refl) (rw (e, is) refl) (rw e refl) read
            (keep sz t 14 None l regs, refl, refl, λ y. omega arith)
            (at14 refl x.mine c (found_apart f.found)
            (λ a. absurd (let same : node_key ws l.node ≡ node_key ws l.pred = ap (node_key ws) a in omega arith)) d))
        | inr ge ↦
            (let is = if_not_below l.pkey s ge past (if l.node == l.pred then there else on) in
            elim (same_or_not l.node l.pred) [
              | inl a ↦
                  (let at = if_same l.node l.pred a there on in
                  passes (Load (key_index l.node)) ws there (rw e refl) (rw (e, is, at) refl) (rw e refl) read
                  (keep sz t 8 l.reply l regs, refl, refl, λ y. omega arith)
                  (at8 refl d f c (held_from M x.mine (second_walk_arrives vs h.present a x)) a))
              | inr a ↦
                  (let at = if_other l.node l.pred a there on in
                  passes (Load (key_index l.node)) ws on (rw e refl) (rw (e, is, at) refl) (rw e refl) read
                  (keep sz t 6 l.reply l regs, refl, refl, λ y. omega arith)
                  (at6 refl d f c ge start g walks))
            ])
      ]
  go (at8 e d f c x a) busy =
      let s : ℕ = node_link ws l.pred in let inn : l.pred < node_count sz = regs.pred in
      let past : Local = record l { pc = 14; reply = None } in
      let l8 : Local = record l { pc = 8 } in let decided : Local = decided_on targets l.ckey l8 in
      let a' = Load (link_index l.pred) in
      let read : LockedStep false sz t ws used a' ws used None = reads_word (link_index l.pred) (omega arith) in
      let apart = found_apart f.found in
      elim (same_or_not (s / 2) l.curr) [
        | inr z ↦
            (let is = if_other (s / 2) l.curr z decided past in
            passes a' ws past (rw e refl) (rw (e, is) refl) (rw e refl) read
            (keep sz t 14 None l regs, refl, refl, λ y. omega arith)
            (at14 refl x.mine c apart (λ y. x.at) d))
        | inl z ↦
            (let is = if_same (s / 2) l.curr z decided past in
            let made = decision M l8 tn (keep sz t 8 l.reply l regs) th.counts f c x z in
            elim made.1 [
              | inl r ↦ passes a' ws (goes_to 14 (Some r.0) l8) (rw e refl) (rw (e, is ∙ r.1) refl) (rw e refl) read
                  (keep sz t 14 (Some r.0) l regs, refl, refl, λ y. omega arith)
                  (at14 refl x.mine c apart (λ y. x.at)
                  (due_now done sz.quota vs first now t V l.call r.0 d th.begun h.present r.2))
              | inr y ↦ elim y [
                | inl r ↦ passes a' ws (goes_to 9 None l8) (rw e refl) (rw (e, is ∙ r.0) refl) (rw e refl) read
                    (keep sz t 9 None l regs, refl, refl, λ y. omega arith) (at9 refl d (made.0, a) r.1)
                | inr r ↦ passes a' ws (goes_to 12 None l8) (rw e refl) (rw (e, is ∙ r.0) refl) (rw e refl) read
                    (keep sz t 12 None l regs, refl, refl, λ y. omega arith) (at12 refl d (made.0, a) r.1)
              ]
            ])
      ]
  go (at9 e d b a) busy =
      let o : ℕ = own_of sz.quota t used in let k : ℕ = target l.call in
      let s = leaves_own_key M tn k a.room in
      let own = own_in false sz ws used M t tn a.room in
      passes (Store (key_index o) k) (slice_set ws (key_index o) k) (record l { pc = 10 })
      (rw (e, own_is) refl) (rw e refl) (rw e refl) (writes_own_key k a.room)
      (keep sz t 10 l.reply l regs, refl, refl, λ x. omega arith)
      (at10 refl d (between_on s b.0, b.1) (adding_on s b.0.walk.next a) (key_wrote false sz ws used M o k own))
  go (at10 e d b a key) busy =
      let o : ℕ = own_of sz.quota t used in let x : ℕ = 2 * l.curr in
      let s = leaves_own_link M tn x a.room in
      let own = own_in false sz ws used M t tn a.room in
      passes (Store (link_index o) x) (slice_set ws (link_index o) x) (record l { pc = 11 })
      (rw (e, own_is) refl) (rw e refl) (rw e refl) (writes_own_link l.curr a.room)
      (keep sz t 11 l.reply l regs, refl, refl, λ x. omega arith)
      (at11 refl d (between_on s b.0, b.1) (adding_on s b.0.walk.next a) (key_after_link ws o x o ∙ key)
      (link_wrote false sz ws used M o x own))
  go (at11 e d b a key link) busy =
      let x : ℕ = 2 * own_of sz.quota t used in
      let count : l.used ≡ used t = th.counts in
      let more : one_more used t t ≡ used t + 1 = one_more_same used t in
      changes (Store (link_index l.pred) x) (slice_set ws (link_index l.pred) x) (one_more used t)
      (record l { pc = 14; reply = Some True; used = l.used + 1 }) (key_of l.call) true
      (rw (e, own_is) refl) (rw e refl) (rw e refl) (puts_behind b.0.walk a key link) (a.call, d, a.room)
      (keep_more sz t 14 l (rw count a.room) regs) refl (omega arith) (λ x. omega arith)
      (at14 refl (lock_after_link ws l.pred x l.pred ∙ b.0.walk.held.mine) (lock_after_link ws l.pred x l.curr ∙ b.0.mine)
      (curr_is_not_pred M b.0.walk) (λ y. stays_behind M x (one_more used t) b.0.walk.held.at) refl)
  go (at12 e d b a) busy =
      let s : ℕ = node_link ws l.curr in let cn : l.curr < node_count sz = regs.curr in
      let inn : s / 2 < node_count sz = inside false sz ws used M (s / 2) (found_next M b.0.walk a regs.low) in
      passes (Load (link_index l.curr)) ws (record l { pc = 13; succ = s / 2 })
      (rw e refl) (rw e refl) (rw e refl) (reads_word (link_index l.curr) (omega arith))
      (keep_succ sz t 13 (s / 2) l.reply l inn regs, refl, refl, λ x. omega arith)
      (at13 refl d b a refl)
  go (at13 e d b a next) busy =
      let x : ℕ = 2 * l.succ in
      changes (Store (link_index l.pred) x) (slice_set ws (link_index l.pred) x) used
      (record l { pc = 14; reply = Some True }) (key_of l.call) false
      (rw e refl) (rw e refl) (rw e refl) (drops_between M l.succ refl b.0 a next regs.low) (a.call, d)
      (keep sz t 14 (Some True) l regs) refl th.counts (λ x. omega arith)
      (at14 refl (lock_after_link ws l.pred x l.pred ∙ b.0.walk.held.mine) (lock_after_link ws l.pred x l.curr ∙ b.0.mine)
      (curr_is_not_pred M b.0.walk) (λ y. stays_behind M x used b.0.walk.held.at) refl)
  go (at14 e p c x i o) busy =
      passes (Store (lock_index l.pred) 0) (slice_set ws (lock_index l.pred) 0) (record l { pc = 15 })
      (rw e refl) (rw e refl) (rw e refl) (frees l.pred regs.pred p)
      (keep sz t 15 l.reply l regs, refl, refl, λ y. omega arith)
      (at15 refl (lock_after_lock ws l.pred 0 l.curr x ∙ c) (outcome_on done sz.quota vs first now t l.call l.reply o))
  go (at15 e c o) busy = go_15 e c l.reply refl o

pub optimistic_follows : Follows optimistic (node_locks false) At
optimistic_follows = record {
  idle_at = λ op lim t vs. at0 refl;
  begun = λ call l. record { called = refl; used = refl; opened = λ e. omega arith; alike = refl };
  begin_registers = λ sz t call l low r. registers_begun sz t 1 call l low r;
  begins = λ q t vs now v call l e s k was. at1 refl refl;
  stands = λ q t vs first now v w done l present r at. stays q t vs first now v w done l present r at;
  turn = λ sz t vs first now ws used done l h th tn busy. go sz t vs first now ws used done l h th tn th.at busy;
}
