-- Proof of progress for OptimisticList: how each row of the step table changes the number of remaining steps. If a call
-- runs alone, only its first validation can fail.
use Rattle.std.specs.Prelude.{◌≡◌, ◌≢◌, ℕ, ◌+◌, ◌*◌, ◌/◌, ◌%◌, ◌<◌, ◌≤◌, ◌||◌, Bool, false, Option, Some, None, is_some, List, []}
use Rattle.std.specs.Prelude.{◌∷◌, refl, slice_index}
use Rattle.std.proofs.Common.{arith, inl, inr, sym, subst}
use Rattle.lset_words.proofs.Numbers.{if_other}
use Rattle.lset_words.specs.declared.Reply.{Reply}
use Rattle.lset_words.specs.Words.{lock_index, node_count, target, Sizes}
use Rattle.lset_steps.specs.declared.Local.{Local}
use Rattle.lset_steps.specs.Chain.{View, view, node_key, node_link}
use Rattle.lset_steps.specs.ReadRows.{continued}
use Rattle.lset_steps.proofs.Discipline.{Discipline}
use Rattle.lset_steps.proofs.Memory.{inner, inside}
use Rattle.lset_steps.proofs.Turns.{discipline_of, node_locks}
use Rattle.lset_steps.proofs.UnlockedWalk.{Found}
use Rattle.lset_optimistic.specs.Optimistic.{optimistic, targets, at_end}
use Rattle.lset_optimistic.specs.Lawful.{optimistic_lawful}
use Rattle.lset_optimistic.specs.Lawful.Outline.{At, optimistic_follows}
use Rattle.lset_optimistic.specs.Lawful.Outline.At.{at0, at1, at2, at3, at4, at5, at6, at7, at8, at9, at10, at11, at12, at13}
use Rattle.lset_optimistic.specs.Lawful.Outline.At.{at14, at15}
use Rattle.lset_progress.specs.Progress.{CallsEndAlone, SomeThreadGetsOn, optimistic_steps}
use Rattle.lset_progress.specs.DeadlockFreedom.{IsLivelockFree, IsDeadlockFree, each_call, lock_window}
use Rattle.lset_progress.proofs.Ahead.{ahead, ahead_less}
use Rattle.lset_progress.proofs.LivelockFreedom.{is_livelock_free, each_counts}
use Rattle.lset_progress.proofs.Decided.{by_same, by_below, by_decision, some_or_none}
use Rattle.lset_progress.proofs.DeadlockFreedom.{is_deadlock_free}
use Rattle.lset_progress.proofs.ProgressWithLocks.{Shows, calls_end, gets_on}
use Rattle.lset_progress.proofs.Paths.{Path, no_steps, path_on, path_from, path_up}
use Rattle.lset_progress.proofs.Rest.{rest, few_by, fewer}
use Rattle.lset_progress.proofs.RowsWithLocks.{Shape, Loads, Stores, RowOf, NodeLocks, within, When, Only, at_row, no_lock, pred_only}
use Rattle.lset_progress.proofs.RowsWithLocks.{gave_pred, gave_curr, after_pred, again, goes, on, takes, timed, unlocks, writes}
use Rattle.lset_progress.proofs.Standing.{Standing, stands}

-- Returns the number of steps of an additional walk from the head. A call that has no reply after it has released its
-- locks makes an additional walk.
abbrev round : ℕ → ℕ
round size = 4 * size + 4

abbrev then_again : ℕ → Option Reply → ℕ
then_again size None = round size
then_again size (Some r) = 0

again_few : (size : ℕ) (r : Option Reply) → then_again size r ≤ 4 * size + 4
again_few size None = omega arith
again_few size (Some r) = omega arith

-- Returns, for each row of the step table, how many steps remain after the next step. The body lists the numbers of
-- steps for a walk that will pass validation, starting with row 0.
abbrev left : ℕ → (ℕ → ℕ) → Local → ℕ
left size key l = slice_index (0 ∷ (4 * size + 3) ∷ (2 * ahead key size (key l.curr) + 2 * size + 6)
    ∷ (2 * ahead key size (key l.curr) + 2 * size + 5) ∷ (2 * size + 5) ∷ (2 * size + 4)
    ∷ (2 * ahead key size (key l.node) + 5) ∷ (2 * ahead key size (key l.node) + 6) ∷ 5 ∷ 4 ∷ 3 ∷ 2 ∷ 3 ∷ 2
    ∷ (1 + then_again size l.reply) ∷ (then_again size l.reply) ∷ []) l.pc

-- Describes OptimisticList for the proofs of progress that all lists share. A walk is `valid` (validation will succeed)
-- if `pred` is in the chain, `curr` is the node after `pred`, and the second walk will reach `pred`. After its
-- decision, a thread that releases its locks has a reply.
abbrev shape : Shape
shape = record {
  may = NodeLocks (within 5 14) (within 6 15);
  late = λ l. Only (within 9 15 l.pc) × When (within 14 15 l.pc) (Only (is_some l.reply));
  calm = λ ws l. Unit {0};
  valid = λ link l. When (within 2 2 l.pc || within 4 5 l.pc) (Path link 0 l.pred) × When (within 3 3 l.pc) (Path link 0 l.curr)
      × When (within 2 2 l.pc || within 4 8 l.pc) (link l.pred ≡ 2 * l.curr) × When (within 6 7 l.pc) (Path link l.node l.pred)
      × When (within 6 6 l.pc) (l.node ≢ l.pred);
  left = left;
  round = round;
}

module _ {sz : Sizes} {ws : List ℕ} {used : ℕ → ℕ} {t : ℕ} {vs : ℕ → View} {first now : ℕ} {done : Bool} {l : Local}
    (h : Standing false At sz ws used t vs first now done l) where
  abbrev size : ℕ
  size = node_count sz

  abbrev V : View
  V = view sz ws used

  abbrev Row : Local → Type 0
  Row k = RowOf shape size optimistic sz ws t (optimistic_steps sz) k

  -- Holds if row n of the step table loads a word and leads to the private state k.
  abbrev To : ℕ → Local → Type 0
  To n k = Loads shape size ws (record l { pc = n }) (continued k)

  user : (a : ℕ) → node_key ws a < target l.call → a ≢ 1
  user a lt = inner false sz ws used h.memory a (target l.call) lt h.registers.low

  even : (a : ℕ) → V.published a → node_link ws a ≡ 2 * (node_link ws a / 2)
  even a p = let z : node_link ws a % 2 ≡ 0 = h.memory.marked a p in omega arith

  curr_less : Found V (target l.call) l.pred l.curr l.ckey → rest size ws l.curr < rest size ws l.pred
  curr_less f =
      let below : node_key ws l.pred < target l.call = f.spot.below in
      let is : node_key ws l.curr ≡ l.ckey = f.is in
      let above : target l.call ≤ l.ckey = f.above in
      ahead_less (node_key ws) size (node_key ws l.pred) l.curr (inside false sz ws used h.memory l.curr f.spot.curr_published)
      (omega arith)

  module _ (few : rest size ws l.curr < size) (few_node : rest size ws l.node < size) (head : rest size ws 0 < size)
      (pred : l.pred < node_count sz) (curr : l.curr < node_count sz) (round_few : then_again size l.reply ≤ 4 * size + 4) where
    -- Holds if row 15 of the step table releases the last lock. The call then ends with the reply r or, if it has no
    -- reply, starts again.
    abbrev Last : Option Reply → Type 0
    Last r = Stores shape size ws (record l { pc = 15 }) (lock_index l.curr) ws
        (record { local = at_end r (record l { pc = 15 }); answer = r })

    gives_last : Last l.reply
    gives_last = elim (some_or_none l.reply) [
      | inl z ↦
          (let y : then_again size l.reply ≡ 4 * size + 4 = rw z refl in
          subst Last (sym z) (goes (λ x o m. gave_curr o m) tt (λ r. absurd (subst (λ o. Only (is_some o)) z r.1)) (λ v. v)
          (omega arith)))
      | inr z ↦ subst Last (sym z.1) (record { keeps = λ x o m. gave_curr o m; then = inl (z.0, refl) })
    ]

    row : At sz.quota t vs first now V done l → Row l
    row (at0 e) = absurd (h.busy e)
    row (at1 e d) =
        let next : rest size ws (node_link ws 0 / 2) < rest size ws 0 =
        fewer false sz ws used h.memory 0 h.memory.ordered.head_published (omega arith) in
        at_row Row l 1 e (timed (inl ((tt, tt, tt, tt, tt), omega arith)) (on (λ x o m. no_lock m) tt (λ z. z.0)
        (λ v. (no_steps (node_link ws) 0, tt, even 0 h.memory.ordered.head_published, tt, tt)) (omega arith)))
    row (at2 e d x k) = at_row Row l 2 e (timed (inr (omega arith)) (by_below (To 2) (node_key ws l.curr) (target l.call)
        (λ lt. on (λ x o m. no_lock m) tt (λ z. z.0) (λ v. let f : node_link ws l.pred ≡ 2 * l.curr = v.2 in
        (tt, path_on (node_link ws) 0 l.pred l.curr v.0 (user l.pred x.below) (omega arith), tt, tt, tt)) (omega arith))
        (λ ge. on (λ x o m. no_lock m) tt (λ z. z.0) (λ v. v) (omega arith))))
    row (at3 e d p k b) =
        let is : node_key ws l.curr ≡ l.ckey = k in
        let less : rest size ws (node_link ws l.curr / 2) < rest size ws l.curr =
        fewer false sz ws used h.memory l.curr p (user l.curr (omega arith)) in
        at_row Row l 3 e (timed (inr (omega arith))
        (on (λ x o m. no_lock m) tt (λ z. z.0) (λ v. (v.1, tt, even l.curr p, tt, tt)) (omega arith)))
    row (at4 e d f) = at_row Row l 4 e (takes refl (inr (l.pred, refl)) (omega arith) h.registers.thread (λ z. z.0)
        (λ x m. no_lock m)
        (λ free. on (λ x o m. no_lock m) tt (λ z. z.0) (λ v. v) (omega arith)) (inl (refl, tt)) (λ s d. if_other s 0 d _ _)
        (inr (omega arith)))
    row (at5 e d f p) = at_row Row l 5 e (takes refl (inr (l.curr, refl)) (omega arith) h.registers.thread (λ z. z.0)
        (λ x m. after_pred size ws l.curr l.pred x (curr_less f.found) m)
        (λ free. by_same (To 5) l.pred 0
        (λ y. on (λ x o m. pred_only m) tt (λ z. z.0) (λ v. (tt, tt, v.2, tt, tt)) (omega arith))
        (λ y. on (λ x o m. pred_only m) tt (λ z. z.0) (λ v. (tt, tt, v.2, v.0, λ z. y (sym z))) (omega arith)))
        (by_same (λ k. shape.may k (lock_index l.curr)) l.pred 0 (λ y. inr (refl, tt)) (λ y. inr (refl, tt)))
        (λ s d. if_other s 0 d _ _) (inr (omega arith)))
    row (at6 e d f c k start g x) =
        let is : node_key ws l.pred ≡ l.pkey = f.low in
        let below : node_key ws l.pred < target l.call = f.found.spot.below in
        let k' : node_key ws l.node ≤ l.pkey = k in
        let less : rest size ws (node_link ws l.node / 2) < rest size ws l.node =
        fewer false sz ws used h.memory l.node x.node_published (user l.node (omega arith)) in
        at_row Row l 6 e (timed (inr (omega arith)) (on (λ x o m. m) tt (λ z. z.0)
        (λ v. (tt, tt, v.2, path_from (node_link ws) l.node l.pred v.4 v.3, tt)) (omega arith)))
    row (at7 e d f c start g x) =
        let is : node_key ws l.pred ≡ l.pkey = f.low in
        at_row Row l 7 e (timed (inr (omega arith)) (by_below (To 7) l.pkey (node_key ws l.node)
        (λ lt. again (λ x o m. m) tt (λ z. z.0) (λ v. let up : node_key ws l.node ≤ node_key ws l.pred =
        path_up (view sz ws used) h.memory.ordered l.node l.pred x.node_published v.3 in omega arith)
        (tt, tt, tt, tt, tt) (omega arith))
        (λ ge. by_same (To 7) l.node l.pred
        (λ y. on (λ x o m. m) tt (λ z. z.0) (λ v. (tt, tt, v.2, tt, tt)) (omega arith))
        (λ y. on (λ x o m. m) tt (λ z. z.0) (λ v. (tt, tt, v.2, v.3, y)) (omega arith)))))
    row (at8 e d f c x a) = at_row Row l 8 e (timed (inr (omega arith)) (by_same (To 8) (node_link ws l.pred / 2) l.curr
        (λ y. by_decision (To 8) targets l.ckey (record l { pc = 8 })
        (on (λ x o m. m) tt (λ z. z.0) (λ v. (tt, tt, tt, tt, tt)) (omega arith))
        (on (λ x o m. m) tt (λ z. z.0) (λ v. (tt, tt, tt, tt, tt)) (omega arith))
        (λ r. on (λ x o m. m) tt (λ z. z.0) (λ v. (tt, tt, tt, tt, tt)) (omega arith)))
        (λ y. again (λ x o m. m) tt (λ z. z.0) (λ v. let f : node_link ws l.pred ≡ 2 * l.curr = v.2 in y (omega arith))
        (tt, tt, tt, tt, tt) (omega arith))))
    row (at9 e d b a) = at_row Row l 9 e (writes refl refl (λ x m. m) (tt, tt) (tt, tt) tt (λ v. v) (omega arith))
    row (at10 e d b a x) = at_row Row l 10 e (writes refl refl (λ x m. m) (tt, tt) (tt, tt) tt (λ v. v) (omega arith))
    row (at11 e d b a x y) = at_row Row l 11 e (writes refl refl (λ x m. m) (tt, tt) (tt, tt) tt (λ v. v) (omega arith))
    row (at12 e d b a) = at_row Row l 12 e (timed (inl ((tt, tt, tt, tt, tt), omega arith))
        (goes (λ x o m. m) tt (λ z. (z, omega arith)) (λ v. v) (omega arith)))
    row (at13 e d b a x) = at_row Row l 13 e (writes refl refl (λ x m. m) (tt, tt) (tt, tt) tt (λ v. v) (omega arith))
    row (at14 e p c d i o) = at_row Row l 14 e (timed (inl ((tt, tt, tt, tt, tt), omega arith))
        (unlocks (inr (l.pred, refl)) (goes (λ x o m. gave_pred o m) tt (λ z. (z, omega arith)) (λ v. v) (omega arith))))
    row (at15 e c o) = at_row Row l 15 e (timed (inl ((tt, tt, tt, tt, tt), omega arith))
        (unlocks (inr (l.curr, refl)) gives_last))

  row_of : Row l
  row_of = row (few_by size (node_key ws) l.curr h.registers.curr) (few_by size (node_key ws) l.node h.registers.node)
      (few_by size (node_key ws) 0 (omega arith)) h.registers.pred h.registers.curr (again_few size l.reply) h.at

follows : Discipline optimistic false At
follows = discipline_of optimistic (node_locks false) At optimistic_follows

shows : Shows optimistic shape optimistic_steps
shows = record {
  rows = λ op last k t es r upto tn busy. row_of (stands optimistic optimistic_lawful At follows op last k t es r upto tn busy);
  rests = λ l x e m. no_lock (subst (λ n. shape.may (record l { pc = n }) x) e m);
  late_busy = λ l late e. subst (λ n. Only (within 9 15 n)) e late.0;
  calm_alone = λ op last k t es r upto others. tt;
}

pub optimistic_calls_end : CallsEndAlone optimistic optimistic_steps
optimistic_calls_end = calls_end optimistic optimistic_lawful shape optimistic_steps shows

pub optimistic_gets_on : SomeThreadGetsOn optimistic
optimistic_gets_on = gets_on optimistic optimistic_lawful shape optimistic_steps shows

pub optimistic_livelock_free : IsLivelockFree each_call optimistic (lock_window optimistic_steps)
optimistic_livelock_free = is_livelock_free optimistic optimistic_lawful shape optimistic_steps shows each_call
    (each_counts optimistic shape (λ ws l. tt)) (λ sz. omega arith)

pub optimistic_deadlock_free : IsDeadlockFree each_call optimistic
optimistic_deadlock_free = is_deadlock_free optimistic optimistic_lawful shape optimistic_steps shows each_call
    (each_counts optimistic shape (λ ws l. tt)) (lock_window optimistic_steps)
    optimistic_livelock_free
