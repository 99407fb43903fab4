-- Proof of progress for FineList: how each row of the step table changes the number of remaining steps. Therefore a
-- call that runs alone ends, and the list is free from livelock and deadlock.
use Rattle.std.specs.Prelude.{◌≡◌, ℕ, ◌+◌, ◌*◌, ◌/◌, ◌<◌, ◌||◌, Bool, false, List, [], ◌∷◌, refl, slice_index}
use Rattle.std.proofs.Common.{arith, inl, inr, subst}
use Rattle.lset_words.proofs.Numbers.{if_other}
use Rattle.lset_words.specs.Words.{node_count, target, Sizes}
use Rattle.lset_steps.specs.declared.Local.{Local}
use Rattle.lset_steps.specs.Chain.{View, view, node_key, node_link}
use Rattle.lset_steps.specs.ReadRows.{continued}
use Rattle.lset_steps.proofs.Memory.{inner}
use Rattle.lset_steps.proofs.Held.{Behind}
use Rattle.lset_steps.proofs.Discipline.{Discipline}
use Rattle.lset_steps.proofs.Turns.{discipline_of, node_locks}
use Rattle.lset_fine.specs.Fine.{fine, targets}
use Rattle.lset_fine.specs.Lawful.{fine_lawful}
use Rattle.lset_fine.specs.Lawful.Outline.{At, fine_follows}
use Rattle.lset_fine.specs.Lawful.Outline.At.{at0, at1, at2, at3, at4, at5, at6, at7, at8, at9, at10, at11, at12, at13}
use Rattle.lset_progress.specs.Progress.{CallsEndAlone, SomeThreadGetsOn, fine_steps}
use Rattle.lset_progress.specs.DeadlockFreedom.{IsLivelockFree, IsDeadlockFree, each_call, lock_window}
use Rattle.lset_progress.proofs.Ahead.{ahead}
use Rattle.lset_progress.proofs.LivelockFreedom.{is_livelock_free, each_counts}
use Rattle.lset_progress.proofs.Decided.{by_below, by_decision}
use Rattle.lset_progress.proofs.DeadlockFreedom.{is_deadlock_free}
use Rattle.lset_progress.proofs.ProgressWithLocks.{Shows, calls_end, gets_on}
use Rattle.lset_progress.proofs.Rest.{rest, few_by, fewer}
use Rattle.lset_progress.proofs.RowsWithLocks.{Shape, Loads, RowOf, NodeLocks, within, Only, at_row, goes, on, takes, timed, unlocks}
use Rattle.lset_progress.proofs.RowsWithLocks.{writes, no_lock, pred_only, gave_pred, gave_curr, after_pred}
use Rattle.lset_progress.proofs.Standing.{Standing, stands}

-- Returns a bound on the number of steps that remain after the next step, if the call runs alone. The body lists one
-- bound for each row of the step table, starting with row 0.
abbrev left : ℕ → (ℕ → ℕ) → Local → ℕ
left size key l = slice_index (0 ∷ (4 * size + 1) ∷ (4 * size) ∷ (4 * ahead key size (key l.curr) + 6)
    ∷ (4 * ahead key size (key l.curr) + 5) ∷ (4 * ahead key size (key l.curr) + 4)
    ∷ (4 * ahead key size (key l.curr) + 3) ∷ 4 ∷ 3 ∷ 2 ∷ 3 ∷ 2 ∷ 1 ∷ 0 ∷ []) l.pc

abbrev shape : Shape
shape = record {
  may = NodeLocks (λ n. within 2 5 n || within 7 13 n) (within 4 12);
  late = λ l. Only (within 7 13 l.pc);
  calm = λ ws l. Unit {0};
  valid = λ link l. Unit {0};
  left = left;
  round = λ size. 0;
}

module _ {sz : Sizes} {ws : List ℕ} {used : ℕ → ℕ} {t : ℕ} {vs : ℕ → View} {first now : ℕ} {done : Bool} {l : Local}
    (h : Standing false At sz ws used t vs first now done l) where
  abbrev size : ℕ
  size = node_count sz

  abbrev V : View
  V = view sz ws used

  abbrev Row : Local → Type 0
  Row k = RowOf shape size fine sz ws t (fine_steps sz) k

  -- Holds if row n of the step table loads a word and leads to the private state k.
  abbrev To : ℕ → Local → Type 0
  To n k = Loads shape size ws (record l { pc = n }) (continued k)

  curr_less : Behind V t (target l.call) l.pred l.curr → rest size ws l.curr < rest size ws l.pred
  curr_less b =
      let follows : node_link ws l.pred ≡ 2 * l.curr = b.follows in
      let half : node_link ws l.pred / 2 ≡ l.curr = omega arith in
      subst (λ a. rest size ws a < rest size ws l.pred) half (fewer false sz ws used h.memory l.pred b.held.published b.inner)

  next_less : V.published l.curr → node_key ws l.curr < target l.call
      → rest size ws (node_link ws l.curr / 2) < rest size ws l.curr
  next_less p lt = fewer false sz ws used h.memory l.curr p
      (inner false sz ws used h.memory l.curr (target l.call) lt h.registers.low)

  module _ (few : rest size ws l.curr < size) (inside : l.curr < node_count sz) where
    row : At sz.quota t vs first now V done l → Row l
    row (at0 e) = absurd (h.busy e)
    row (at1 e d) = at_row Row l 1 e (takes refl (inr (0, refl)) (omega arith) h.registers.thread (λ z. z) (λ x m. no_lock m)
        (λ free. on (λ x o m. no_lock m) tt (λ z. z) (λ v. v) (omega arith)) (inl (refl, tt)) (λ s d. if_other s 0 d _ _)
        (inl (tt, omega arith)))
    row (at2 e d p x) =
        let head : rest size ws 0 < size = few_by size (node_key ws) 0 (omega arith) in
        let next : rest size ws (node_link ws 0 / 2) < rest size ws 0 =
        fewer false sz ws used h.memory 0 h.memory.ordered.head_published (omega arith) in
        at_row Row l 2 e (timed (inl (tt, omega arith)) (on (λ x o m. pred_only m) tt (λ z. z) (λ v. v) (omega arith)))
    row (at3 e d b) = at_row Row l 3 e (takes refl (inr (l.curr, refl)) (omega arith) h.registers.thread (λ z. z)
        (λ x m. after_pred size ws l.curr l.pred x (curr_less b) m)
        (λ free. on (λ x o m. pred_only m) tt (λ z. z) (λ v. v) (omega arith)) (inr (refl, tt)) (λ s d. if_other s 0 d _ _)
        (inl (tt, omega arith)))
    row (at4 e d b) = at_row Row l 4 e (timed (inl (tt, omega arith)) (by_below (To 4) (node_key ws l.curr) (target l.call)
        (λ lt. on (λ x o m. m) tt (λ z. z) (λ v. v) (omega arith))
        (λ ge. by_decision (To 4) targets (node_key ws l.curr) (record l { pc = 4; ckey = node_key ws l.curr })
        (on (λ x o m. m) tt (λ z. z) (λ v. v) (omega arith)) (on (λ x o m. m) tt (λ z. z) (λ v. v) (omega arith))
        (λ r. on (λ x o m. m) tt (λ z. z) (λ v. v) (omega arith)))))
    row (at5 e d b lt) = at_row Row l 5 e (timed (inl (tt, omega arith))
        (unlocks (inr (l.pred, refl)) (on (λ x o m. gave_pred o m) tt (λ z. z) (λ v. v) (omega arith))))
    row (at6 e d x lt) =
        let less : rest size ws (node_link ws l.curr / 2) < rest size ws l.curr = next_less x.published lt in
        at_row Row l 6 e (timed (inl (tt, omega arith))
        (on (λ x o m. elim m [ inl p ↦ absurd p.1 | inr c ↦ inl c ]) tt (λ z. z) (λ v. v) (omega arith)))
    row (at7 e d b a) = at_row Row l 7 e (writes refl refl (λ x m. m) tt tt tt (λ v. v) (omega arith))
    row (at8 e d b a x) = at_row Row l 8 e (writes refl refl (λ x m. m) tt tt tt (λ v. v) (omega arith))
    row (at9 e d b a x y) = at_row Row l 9 e (writes refl refl (λ x m. m) tt tt tt (λ v. v) (omega arith))
    row (at10 e d b a) = at_row Row l 10 e (timed (inl (tt, omega arith))
        (goes (λ x o m. m) tt (λ z. (tt, omega arith)) (λ v. v) (omega arith)))
    row (at11 e d b a x) = at_row Row l 11 e (writes refl refl (λ x m. m) tt tt tt (λ v. v) (omega arith))
    row (at12 e p c d r ry due) = at_row Row l 12 e (timed (inl (tt, omega arith))
        (unlocks (inr (l.curr, refl)) (goes (λ x o m. gave_curr o m) tt (λ z. (tt, omega arith)) (λ v. v) (omega arith))))
    row (at13 e p r ry due) = at_row Row l 13 e (timed (inl (tt, omega arith))
        (unlocks (inr (l.pred, refl)) (record { keeps = λ x o m. gave_pred o m; then = inl (r, ry) })))

  row_of : Row l
  row_of = row (few_by size (node_key ws) l.curr h.registers.curr) h.registers.curr h.at

follows : Discipline fine false At
follows = discipline_of fine (node_locks false) At fine_follows

shows : Shows fine shape fine_steps
shows = record {
  rows = λ op last k t es r upto tn busy.
      row_of (stands fine fine_lawful At follows op last k t es r upto tn busy);
  rests = λ l x e m. no_lock (subst (λ n. shape.may (record l { pc = n }) x) e m);
  late_busy = λ l late e. subst (λ n. Only (within 7 13 n)) e late;
  calm_alone = λ op last k t es r upto others. tt;
}

pub fine_calls_end : CallsEndAlone fine fine_steps
fine_calls_end = calls_end fine fine_lawful shape fine_steps shows

pub fine_gets_on : SomeThreadGetsOn fine
fine_gets_on = gets_on fine fine_lawful shape fine_steps shows

pub fine_livelock_free : IsLivelockFree each_call fine (lock_window fine_steps)
fine_livelock_free = is_livelock_free fine fine_lawful shape fine_steps shows each_call
    (each_counts fine shape (λ ws l. tt)) (λ sz. omega arith)

pub fine_deadlock_free : IsDeadlockFree each_call fine
fine_deadlock_free = is_deadlock_free fine fine_lawful shape fine_steps shows each_call
    (each_counts fine shape (λ ws l. tt)) (lock_window fine_steps)
    fine_livelock_free
