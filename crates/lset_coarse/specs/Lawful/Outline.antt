-- The proof outline of CoarseList, the list with a single lock: an assertion for each row of the step table, and the
-- proof that each step preserves the assertions.
use Rattle.std.specs.Prelude.{◌≡◌, ◌≢◌, ℕ, suc, ◌+◌, ◌*◌, ◌/◌, ◌%◌, ◌<◌, ◌≤◌, Bool, true, false, Option, Some, None, List, [], ◌∷◌}
use Rattle.std.specs.Prelude.{slice_index, slice_set, refl}
use Rattle.std.proofs.Common.{arith, inl, inr, sym, ◌∙◌, ap, subst}
use Rattle.lset_words.proofs.Numbers.{same_or_not, below_or_not, if_same, if_other, if_below, if_not_below}
use Rattle.lset_words.specs.Words.{key_index, link_index, tail_word, node_count, slot_node, target, key_of, Sizes}
use Rattle.lset_words.specs.declared.Key.{Key}
use Rattle.lset_words.specs.declared.Reply.{Reply}
use Rattle.lset_words.specs.declared.Reply.TheVariants.{True}
use Rattle.lset_steps.specs.declared.Local.{Local}
use Rattle.lset_steps.specs.declared.Action.{Action}
use Rattle.lset_steps.specs.declared.Action.TheVariants.{Load, Store, Exchange}
use Rattle.lset_steps.specs.Chain.{View, view, InChain, Segment, node_key, node_link}
use Rattle.lset_steps.specs.Laws.{Registers, Due}
use Rattle.lset_steps.proofs.Moves.{Quiet}
use Rattle.lset_steps.proofs.Memory.{WordStep, Memory, reads, fails, takes, gives, own_key, own_link, puts, drops, own_of}
use Rattle.lset_steps.proofs.Memory.{one_more, one_more_same, link_wrote, key_wrote, own_in, inner, next_in, chain_in, inside}
use Rattle.lset_steps.proofs.Memory.{at_own_key, at_own_link}
use Rattle.lset_steps.proofs.AfterWrite.{set_same, key_after_link, list_lock_after_link, list_lock_after_key}
use Rattle.lset_steps.proofs.QuietMove.{in_chain_published, quiet_keeps}
use Rattle.lset_steps.proofs.Discipline.{Here, Thread}
use Rattle.lset_steps.proofs.Replies.{Adding, Removing, registers_begun, keep_more, keep, keep_ckey, keep_succ, keep_walk}
use Rattle.lset_steps.proofs.Held.{found_no_tail}
use Rattle.lset_steps.proofs.Decision.{decides}
use Rattle.lset_steps.proofs.Turns.{Turn, Protocol, Follows, due_on, due_now}
use Rattle.lset_steps.proofs.Turns.Turn.{passes, changes, answers}
use Rattle.lset_steps.specs.Rows.{decided_on, goes_to, own_slot}
use Rattle.lset_coarse.specs.Coarse.{coarse, targets}

-- Holds if a step of thread `t` follows the protocol of CoarseList: the step is an allowed access to a shared word
-- (`WordStep`), and if another thread holds the lock, the step changes neither the words nor the number of used slots
-- (nodes for adds) of any thread.
abbrev pub LeavesHolder : Sizes → ℕ → List ℕ → (ℕ → ℕ) → Action → List ℕ → (ℕ → ℕ) → Option (Key × Bool) → Type 0
LeavesHolder sz t ws used a ws' used' change = WordStep false sz t ws used a ws' used' change
    × ((u : ℕ) → u ≢ t → slice_index ws 0 ≡ u + 1 → (ws' ≡ ws) × (used' ≡ used))

-- Holds if the views v and w have the same keys, links, lock and numbers of used slots (nodes for adds). The lock's
-- holder relies on all four being unchanged.
pub record Same (v w : View) : Type 0 where
  pub keys : w.key ≡ v.key
  pub links : w.link ≡ v.link
  pub list_lock : w.list_lock ≡ v.list_lock
  pub used : w.used ≡ v.used

pub same_words : (sz : Sizes) (ws ws' : List ℕ) (used used' : ℕ → ℕ) → (ws' ≡ ws) × (used' ≡ used)
    → Same (view sz ws used) (view sz ws' used')
same_words sz ws ws' used used' e = record {
  keys = ap (λ (x : List ℕ). node_key x) e.0;
  links = ap (λ (x : List ℕ). node_link x) e.0;
  list_lock = ap (λ (x : List ℕ). slice_index x 0) e.0;
  used = e.1;
}

abbrev pub one_lock : Protocol false
one_lock = record {
  step = LeavesHolder;
  rely = λ v w q u. v.list_lock ≡ u + 1 → Same v w;
  is_step = λ sz t ws used a ws' used' change c. c.0;
  loads = λ sz t ws used x h. (reads x h, λ u d e. (refl, refl));
  leaves = λ sz ws used m t tn u k d a ws' used' change c e. same_words sz ws ws' used used' (c.1 u d e);
  still = λ v q u e. record { keys = refl; links = refl; list_lock = refl; used = refl };
}

-- Holds if thread `me` - 1 holds the list's lock, pred is in the chain (the nodes reachable from the head), the key of
-- pred is smaller than `key`, and curr is the node after pred.
pub record Walking (v : View) (me key pred curr : ℕ) : Type 0 where
  pub mine : v.list_lock ≡ me
  pub at : InChain v pred
  pub follows : v.link pred ≡ 2 * curr
  pub below : v.key pred < key

abbrev Window : View → ℕ → Local → Type 0
Window v t l = Walking v (t + 1) (target l.call) l.pred l.curr

-- The proof outline: the assertion of thread `t` before each row of the step table.
pub data At (q t : ℕ) (vs : ℕ → View) (first now : ℕ) (v : View) (done : Bool) (l : Local) : Type 0 where
  at0 : l.pc ≡ 0 → At q t vs first now v done l
  at1 : l.pc ≡ 1 → done ≡ false → At q t vs first now v done l
  at2 : l.pc ≡ 2 → done ≡ false → v.list_lock ≡ t + 1 → At q t vs first now v done l
  at3 : l.pc ≡ 3 → done ≡ false → Window v t l → At q t vs first now v done l
  at4 : l.pc ≡ 4 → done ≡ false → Window v t l → v.key l.curr < target l.call → At q t vs first now v done l
  at5 : l.pc ≡ 5 → done ≡ false → Window v t l → Adding v t q l.curr l.call → At q t vs first now v done l
  at6 : l.pc ≡ 6 → done ≡ false → Window v t l → Adding v t q l.curr l.call → v.key (slot_node q t (v.used t)) ≡ target l.call
      → At q t vs first now v done l
  at7 : l.pc ≡ 7 → done ≡ false → Window v t l → Adding v t q l.curr l.call → v.key (slot_node q t (v.used t)) ≡ target l.call
      → v.link (slot_node q t (v.used t)) ≡ 2 * l.curr → At q t vs first now v done l
  at8 : l.pc ≡ 8 → done ≡ false → Window v t l → Removing v l.curr l.call → At q t vs first now v done l
  at9 : l.pc ≡ 9 → done ≡ false → Window v t l → Removing v l.curr l.call → v.link l.curr / 2 ≡ l.succ → At q t vs first now v done l
  at10 : l.pc ≡ 10 → v.list_lock ≡ t + 1 → (r : Reply) → l.reply ≡ Some r → Due done q vs first now t l.call r
      → At q t vs first now v done l

-- Lemma: if no link changes, the links still lead from node `i` to node `j` through the same nodes `ns`.
segment_same : (v w : View) → w.link ≡ v.link → (i j : ℕ) (ns : List ℕ) → Segment v i ns j → Segment w i ns j
segment_same v w e i j [] x = x
segment_same v w e i j (a ∷ ns) x = (x.0, x.1, segment_same v w e (w.link i / 2) j ns (rw e x.2))

-- Lemmas: steps of other threads preserve the assertions of thread `t`.
module _ (q t : ℕ) (vs : ℕ → View) (first now : ℕ) (v w : View) (done : Bool) (l : Local) (r : v.list_lock ≡ t + 1 → Same v w) where
  module _ (x : Window v t l) where
    s : Same v w
    s = r x.mine

    window_same : Window w t l
    window_same = record {
      mine = s.list_lock ∙ x.mine;
      at = (x.at.0, segment_same v w s.links 0 l.pred x.at.0 x.at.1);
      follows = rw s.links x.follows;
      below = rw s.keys x.below;
    }

    adding_same : Adding v t q l.curr l.call → Adding w t q l.curr l.call
    adding_same a = record { call = a.call; room = rw s.used a.room; above = rw s.keys a.above }

    removing_same : Removing v l.curr l.call → Removing w l.curr l.call
    removing_same a = record { call = a.call; found = rw s.keys a.found }

    own_key_same : v.key (slot_node q t (v.used t)) ≡ target l.call → w.key (slot_node q t (w.used t)) ≡ target l.call
    own_key_same e = rw (s.used, s.keys) e

    own_link_same : v.link (slot_node q t (v.used t)) ≡ 2 * l.curr → w.link (slot_node q t (w.used t)) ≡ 2 * l.curr
    own_link_same e = rw (s.used, s.links) e

  stays : At q t vs first now v done l → At q t vs first (suc now) w done l
  stays (at0 e) = at0 e
  stays (at1 e d) = at1 e d
  stays (at2 e d h) = at2 e d ((r h).list_lock ∙ h)
  stays (at3 e d x) = at3 e d (window_same x)
  stays (at4 e d x h) = at4 e d (window_same x) (rw (r x.mine).keys h)
  stays (at5 e d x a) = at5 e d (window_same x) (adding_same x a)
  stays (at6 e d x a h) = at6 e d (window_same x) (adding_same x a) (own_key_same x h)
  stays (at7 e d x a h i) = at7 e d (window_same x) (adding_same x a) (own_key_same x h) (own_link_same x i)
  stays (at8 e d x a) = at8 e d (window_same x) (removing_same x a)
  stays (at9 e d x a h) = at9 e d (window_same x) (removing_same x a) (rw (r x.mine).links h)
  stays (at10 e h y z due) = at10 e ((r h).list_lock ∙ h) y z (due_on done q vs first now t l.call y due)

module _ (sz : Sizes) (t : ℕ) (vs : ℕ → View) (first now : ℕ) (ws : List ℕ) (used : ℕ → ℕ) (done : Bool) (l : Local)
    (h : Here false sz vs now ws used) (th : Thread At sz t vs first now ws used done l) (tn : t < sz.threads) where
  abbrev Goal : Type 0
  Goal = Turn coarse one_lock At sz t vs first now ws used done l

  abbrev V : View
  V = view sz ws used

  M : Memory false sz ws used
  M = h.memory

  regs : Registers sz t l
  regs = th.registers

  own_is : own_slot l ≡ own_of sz.quota t used
  own_is = rw (th.registers.thread, th.registers.quota, th.counts) refl

  alone : {a : Action} {ws' : List ℕ} {used' : ℕ → ℕ} {change : Option (Key × Bool)} → slice_index ws 0 ≡ t + 1
      → WordStep false sz t ws used a ws' used' change → LeavesHolder sz t ws used a ws' used' change
  alone mine c = (c, λ u d e. absurd (d (omega arith)))

  even_next : (a : ℕ) → InChain V a → node_link ws a ≡ 2 * (node_link ws a / 2)
  even_next a i = let z : node_link ws a % 2 ≡ 0 = M.marked a (in_chain_published V M.ordered a i) in omega arith

  pred_inner : {pred curr : ℕ} → Walking V (t + 1) (target l.call) pred curr → pred ≢ 1
  pred_inner {pred} w = inner false sz ws used M pred (target l.call) w.below regs.low

  curr_at : {pred curr : ℕ} → Walking V (t + 1) (target l.call) pred curr → InChain V curr
  curr_at {pred} {curr} w = let f : node_link ws pred ≡ 2 * curr = w.follows in
      next_in false sz ws used M pred curr w.at (pred_inner w) (omega arith)

  curr_published : Window V t l → V.published l.curr
  curr_published w = in_chain_published V M.ordered l.curr (curr_at w)

  -- Lemma: while the thread holds the list's lock, `Walking` holds for each node `a` of the chain (the nodes reachable
  -- from the head) whose key is smaller than the call's key, and for the node after `a`.
  walks : (a : ℕ) → slice_index ws 0 ≡ t + 1 → InChain V a → node_key ws a < target l.call
      → Walking V (t + 1) (target l.call) a (node_link ws a / 2)
  walks a mine i lt = record { mine = mine; at = i; follows = even_next a i; below = lt }

  -- Lemma: `Window` still holds after the thread has written to its own slot (the node for its next successful add).
  window_on : (w : View) → Quiet V w → w.list_lock ≡ slice_index ws 0 → Window V t l → Window w t l
  window_on w quiet lock x =
      let pred = in_chain_published V M.ordered l.pred x.at in
      record {
        mine = lock ∙ x.mine;
        at = quiet_keeps V w M.ordered quiet l.pred x.at;
        follows = quiet.links l.pred pred ∙ x.follows;
        below = rw (quiet.keys l.pred pred) x.below;
      }

  adding_on : (w : View) → Quiet V w → w.used t ≡ used t → Window V t l → Adding V t sz.quota l.curr l.call
      → Adding w t sz.quota l.curr l.call
  adding_on w quiet count x a =
      record { call = a.call; room = rw count a.room; above = rw (quiet.keys l.curr (curr_published x)) a.above }

  go : At sz.quota t vs first now (view sz ws used) done l → l.pc ≢ 0 → Goal
  go (at0 e) busy = absurd (busy e)
  go (at1 e d) busy =
      let a = Exchange 0 0 (t + 1) in
      let on : Local = record l { pc = 2 } in let again : Local = record l { pc = 1 } in
      elim (same_or_not (slice_index ws 0) 0) [
        | inl z ↦
            (let is = if_same (slice_index ws 0) 0 z on again in
            passes a (slice_set ws 0 (t + 1)) on (rw (e, regs.thread) refl) (rw (e, is) refl) (rw e refl)
            (takes 0 (omega arith) (inl refl) z, λ u k f. absurd (omega arith))
            (keep sz t 2 l.reply l regs, refl, refl, λ x. omega arith)
            (at2 refl d (set_same ws 0 (t + 1) (omega (arith, M.words)))))
        | inr z ↦
            (let is = if_other (slice_index ws 0) 0 z on again in
            passes a ws again (rw (e, regs.thread) refl) (rw (e, is) refl) (rw e refl)
            (fails 0 0 (t + 1) (omega arith) z (λ x. (refl, refl)), λ u k f. (refl, refl))
            (keep sz t 1 l.reply l regs, refl, refl, λ x. omega arith) (at1 refl d))
      ]
  go (at2 e d mine) busy =
      let s : ℕ = node_link ws 0 in
      let head : node_key ws 0 ≡ 0 = M.head_key in
      let w : Walking V (t + 1) (target l.call) 0 (s / 2) = walks 0 mine ([], refl) (omega arith) in
      passes (Load (link_index 0)) ws (record l { pc = 3; pred = 0; curr = s / 2 })
      (rw e refl) (rw e refl) (rw e refl) (alone mine (reads (link_index 0) (omega arith)))
      (keep_walk sz t 3 0 _ l (omega arith) (chain_in false sz ws used M _ (curr_at w)) regs, refl, refl, λ x. omega arith)
      (at3 refl d w)
  go (at3 e d w) busy =
      let k : ℕ = target l.call in let s : ℕ = node_key ws l.curr in
      let l0 : Local = record l { pc = 3; ckey = s } in
      let inn : l.curr < node_count sz = regs.curr in
      let top : node_key ws l.curr ≤ node_key ws 1 = M.ordered.top l.curr (curr_published w) in
      let tail : node_key ws 1 ≡ tail_word = M.tail_key in
      let small : s ≤ tail_word = omega arith in
      let a = Load (key_index l.curr) in
      let read : LeavesHolder sz t ws used a ws used None = alone w.mine (reads (key_index l.curr) (omega arith)) in
      elim (below_or_not s k) [
        | inl lt ↦
            (let on = if_below s k lt (record l0 { pc = 4 }) (decided_on targets s l0) in
            passes a ws (record l0 { pc = 4 }) (rw e refl) (rw (e, on) refl) (rw e refl) read
            (keep_ckey sz t 4 s l.reply l small regs, refl, refl, λ x. omega arith) (at4 refl d w lt))
        | inr ge ↦
            (let on = if_not_below s k ge (record l0 { pc = 4 }) (decided_on targets s l0) in
            let plain = M.marked l.curr (curr_published w) in
            elim (decides M t targets s l0 w.at (pred_inner w) w.follows w.below plain refl ge regs.low (M.room t tn) th.counts
            regs.quota) [
              | inl r ↦ passes a ws (goes_to 10 (Some r.0) l0) (rw e refl) (rw (e, on ∙ r.1) refl) (rw e refl) read
                  (keep_ckey sz t 10 s (Some r.0) l small regs, refl, refl, λ x. omega arith)
                  (at10 refl w.mine r.0 refl (due_now done sz.quota vs first now t V l.call r.0 d th.begun h.present r.2))
              | inr z ↦ elim z [
                | inl r ↦ passes a ws (goes_to 5 None l0) (rw e refl) (rw (e, on ∙ r.0) refl) (rw e refl) read
                    (keep_ckey sz t 5 s None l small regs, refl, refl, λ x. omega arith) (at5 refl d w r.1)
                | inr r ↦ passes a ws (goes_to 8 None l0) (rw e refl) (rw (e, on ∙ r.0) refl) (rw e refl) read
                    (keep_ckey sz t 8 s None l small regs, refl, refl, λ x. omega arith) (at8 refl d w r.1)
              ]
            ])
      ]
  go (at4 e d w lt) busy =
      let s : ℕ = node_link ws l.curr in let inn : l.curr < node_count sz = regs.curr in
      let next : Walking V (t + 1) (target l.call) l.curr (s / 2) = walks l.curr w.mine (curr_at w) lt in
      passes (Load (link_index l.curr)) ws (record l { pc = 3; pred = l.curr; curr = s / 2 })
      (rw e refl) (rw e refl) (rw e refl) (alone w.mine (reads (link_index l.curr) (omega arith)))
      (keep_walk sz t 3 l.curr _ l regs.curr (chain_in false sz ws used M _ (curr_at next)) regs, refl, refl, λ x. omega arith)
      (at3 refl d next)
  go (at5 e d w a) busy =
      let o : ℕ = own_of sz.quota t used in let k : ℕ = target l.call in
      let ws' : List ℕ = slice_set ws (key_index o) k in
      let quiet = at_own_key false sz ws used M t tn k a.room in
      passes (Store (key_index o) k) ws' (record l { pc = 6 })
      (rw (e, own_is) refl) (rw e refl) (rw e refl) (alone w.mine (own_key k a.room))
      (keep sz t 6 l.reply l regs, refl, refl, λ x. omega arith)
      (at6 refl d (window_on (view sz ws' used) quiet (list_lock_after_key ws o k) w) (adding_on (view sz ws' used) quiet refl w a)
      (key_wrote false sz ws used M o k (own_in false sz ws used M t tn a.room)))
  go (at6 e d w a key) busy =
      let o : ℕ = own_of sz.quota t used in let x : ℕ = 2 * l.curr in
      let ws' : List ℕ = slice_set ws (link_index o) x in
      let quiet = at_own_link false sz ws used M t tn x a.room in
      passes (Store (link_index o) x) ws' (record l { pc = 7 })
      (rw (e, own_is) refl) (rw e refl) (rw e refl) (alone w.mine (own_link l.curr a.room))
      (keep sz t 7 l.reply l regs, refl, refl, λ x. omega arith)
      (at7 refl d (window_on (view sz ws' used) quiet (list_lock_after_link ws o x) w) (adding_on (view sz ws' used) quiet refl w a)
      (key_after_link ws o x o ∙ key) (link_wrote false sz ws used M o x (own_in false sz ws used M t tn a.room)))
  go (at7 e d w a key link) busy =
      let x : ℕ = 2 * own_of sz.quota t used in
      let count : l.used ≡ used t = th.counts in
      let more : one_more used t t ≡ used t + 1 = one_more_same used t in
      changes (Store (link_index l.pred) x) (slice_set ws (link_index l.pred) x) (one_more used t)
      (record l { pc = 10; reply = Some True; used = l.used + 1 }) (key_of l.call) true
      (rw (e, own_is) refl) (rw e refl) (rw e refl)
      (alone w.mine (puts (Store (link_index l.pred) x) l.pred l.curr (key_of l.call) (inl refl) w.at (pred_inner w) w.follows a.room
      link key w.below a.above)) (a.call, d, a.room)
      (keep_more sz t 10 l (rw count a.room) regs) refl (omega arith) (λ x. omega arith)
      (at10 refl (list_lock_after_link ws l.pred x ∙ w.mine) True refl refl)
  go (at8 e d w a) busy =
      let s : ℕ = node_link ws l.curr in let inn : l.curr < node_count sz = regs.curr in
      let next = M.ordered.next_published l.curr (curr_published w) (found_no_tail M a regs.low) in
      passes (Load (link_index l.curr)) ws (record l { pc = 9; succ = s / 2 })
      (rw e refl) (rw e refl) (rw e refl) (alone w.mine (reads (link_index l.curr) (omega arith)))
      (keep_succ sz t 9 (s / 2) l.reply l (inside false sz ws used M _ next) regs, refl, refl, λ x. omega arith)
      (at9 refl d w a refl)
  go (at9 e d w a next) busy =
      let x : ℕ = 2 * l.succ in
      changes (Store (link_index l.pred) x) (slice_set ws (link_index l.pred) x) used
      (record l { pc = 10; reply = Some True }) (key_of l.call) false
      (rw e refl) (rw e refl) (rw e refl)
      (alone w.mine (drops (Store (link_index l.pred) x) l.pred l.curr l.succ (key_of l.call) refl (inl refl) w.at (pred_inner w)
      (found_no_tail M a regs.low) w.follows next a.found)) (a.call, d)
      (keep sz t 10 (Some True) l regs) refl th.counts (λ x. omega arith)
      (at10 refl (list_lock_after_link ws l.pred x ∙ w.mine) True refl refl)
  go (at10 e mine r ry due) busy =
      answers (Store 0 0) (slice_set ws 0 0) (record l { pc = 0 }) r
      (rw e refl) (rw (e, ry) refl) (rw e refl) (alone mine (gives 0 (omega arith) (inl refl) mine)) due
      (keep sz t 0 l.reply l regs) refl refl refl (at0 refl)

pub coarse_follows : Follows coarse one_lock At
coarse_follows = record {
  idle_at = λ op lim t vs. at0 refl;
  begun = λ call l. record { called = refl; used = refl; opened = λ e. omega arith; alike = refl };
  begin_registers = λ sz t call l low r. registers_begun sz t 1 call l low r;
  begins = λ q t vs now v call l e s k was. at1 refl refl;
  stands = λ q t vs first now v w done l present r at. stays q t vs first now v w done l r at;
  turn = λ sz t vs first now ws used done l h th tn busy. go sz t vs first now ws used done l h th tn th.at busy;
}
