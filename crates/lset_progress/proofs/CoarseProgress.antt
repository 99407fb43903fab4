-- Proof of progress for CoarseList: how each row of the step table changes the number of remaining steps. Therefore a
-- call that runs alone ends, and the list is free from livelock and deadlock.
use Rattle.std.specs.Prelude.{◌≡◌, ℕ, ◌+◌, ◌*◌, ◌/◌, ◌<◌, nat_le, Bool, false, List, [], ◌∷◌, refl, slice_index}
use Rattle.std.proofs.Common.{arith, inl, subst}
use Rattle.lset_words.proofs.Numbers.{if_other}
use Rattle.lset_words.specs.Words.{node_count, target, Sizes}
use Rattle.lset_steps.specs.declared.Local.{Local}
use Rattle.lset_steps.specs.Chain.{View, view, node_key, node_link}
use Rattle.lset_steps.specs.ReadRows.{continued}
use Rattle.lset_steps.proofs.Memory.{inner, next_in}
use Rattle.lset_steps.proofs.QuietMove.{in_chain_published}
use Rattle.lset_steps.proofs.Discipline.{Discipline}
use Rattle.lset_steps.proofs.Turns.{discipline_of}
use Rattle.lset_coarse.specs.Coarse.{coarse, targets}
use Rattle.lset_coarse.specs.Lawful.{coarse_lawful}
use Rattle.lset_coarse.specs.Lawful.Outline.{At, Walking, one_lock, coarse_follows}
use Rattle.lset_coarse.specs.Lawful.Outline.At.{at0, at1, at2, at3, at4, at5, at6, at7, at8, at9, at10}
use Rattle.lset_progress.specs.Progress.{CallsEndAlone, SomeThreadGetsOn, coarse_steps}
use Rattle.lset_progress.specs.DeadlockFreedom.{IsLivelockFree, IsDeadlockFree, each_call, lock_window}
use Rattle.lset_progress.proofs.Ahead.{ahead}
use Rattle.lset_progress.proofs.Decided.{by_below, by_decision}
use Rattle.lset_progress.proofs.LivelockFreedom.{is_livelock_free, each_counts}
use Rattle.lset_progress.proofs.DeadlockFreedom.{is_deadlock_free}
use Rattle.lset_progress.proofs.ProgressWithLocks.{Shows, calls_end, gets_on}
use Rattle.lset_progress.proofs.Rest.{rest, few_by, fewer}
use Rattle.lset_progress.proofs.RowsWithLocks.{Shape, Loads, RowOf, within, Only, at_row, goes, on, takes, timed, unlocks, writes}
use Rattle.lset_progress.proofs.Standing.{Standing, stands}

-- Returns a bound on the number of steps that remain after the next step, if the call runs alone. The body lists one
-- bound for each row of the step table, starting with row 0.
abbrev left : ℕ → (ℕ → ℕ) → Local → ℕ
left size key l = slice_index (0 ∷ (2 * size + 2) ∷ (2 * size + 1) ∷ (2 * ahead key size (key l.curr) + 4)
    ∷ (2 * ahead key size (key l.curr) + 3) ∷ 3 ∷ 2 ∷ 1 ∷ 2 ∷ 1 ∷ 0 ∷ []) l.pc

-- Describes CoarseList for the proofs of progress that all lists share. A thread can hold the lock from row 2 of the
-- step table on. At rows 5 to 10, the thread's call has decided what to change.
abbrev shape : Shape
shape = record {
  may = λ l x. (x ≡ 0) × Only (nat_le 2 l.pc);
  late = λ l. Only (within 5 10 l.pc);
  calm = λ ws l. Unit {0};
  valid = λ link l. Unit {0};
  left = left;
  round = λ size. 0;
}

module _ {sz : Sizes} {ws : List ℕ} {used : ℕ → ℕ} {t : ℕ} {vs : ℕ → View} {first now : ℕ} {done : Bool} {l : Local}
    (h : Standing false At sz ws used t vs first now done l) where
  abbrev size : ℕ
  size = node_count sz

  abbrev V : View
  V = view sz ws used

  abbrev Row : Local → Type 0
  Row k = RowOf shape size coarse sz ws t (coarse_steps sz) k

  -- Holds if row n of the step table loads a word and leads to the private state k.
  abbrev To : ℕ → Local → Type 0
  To n k = Loads shape size ws (record l { pc = n }) (continued k)

  curr_published : Walking V (t + 1) (target l.call) l.pred l.curr → V.published l.curr
  curr_published w = let f : node_link ws l.pred ≡ 2 * l.curr = w.follows in
      in_chain_published V h.memory.ordered l.curr (next_in false sz ws used h.memory l.pred l.curr w.at
      (inner false sz ws used h.memory l.pred (target l.call) w.below h.registers.low) (omega arith))

  row : rest size ws l.curr < size → At sz.quota t vs first now V done l → Row l
  row few (at0 e) = absurd (h.busy e)
  row few (at1 e d) = at_row Row l 1 e (takes refl (inl refl) (omega arith) h.registers.thread (λ z. z) (λ x m. absurd m.1)
      (λ free. on (λ x o m. absurd m.1) tt (λ z. z) (λ v. v) (omega arith)) (refl, tt) (λ s d. if_other s 0 d _ _)
      (inl (tt, omega arith)))
  row few (at2 e d w) =
      let head : rest size ws 0 < size = few_by size (node_key ws) 0 (omega arith) in
      let next : rest size ws (node_link ws 0 / 2) < rest size ws 0 =
      fewer false sz ws used h.memory 0 h.memory.ordered.head_published (omega arith) in
      at_row Row l 2 e (timed (inl (tt, omega arith)) (on (λ x o m. m) tt (λ z. z) (λ v. v) (omega arith)))
  row few (at3 e d w) = at_row Row l 3 e (timed (inl (tt, omega arith)) (by_below (To 3) (node_key ws l.curr) (target l.call)
      (λ lt. on (λ x o m. m) tt (λ z. z) (λ v. v) (omega arith))
      (λ ge. by_decision (To 3) targets (node_key ws l.curr) (record l { pc = 3; ckey = node_key ws l.curr })
      (on (λ x o m. m) tt (λ z. z) (λ v. v) (omega arith)) (on (λ x o m. m) tt (λ z. z) (λ v. v) (omega arith))
      (λ r. on (λ x o m. m) tt (λ z. z) (λ v. v) (omega arith)))))
  row few (at4 e d w lt) =
      let less : rest size ws (node_link ws l.curr / 2) < rest size ws l.curr = fewer false sz ws used h.memory l.curr
      (curr_published w) (inner false sz ws used h.memory l.curr (target l.call) lt h.registers.low) in
      at_row Row l 4 e (timed (inl (tt, omega arith)) (on (λ x o m. m) tt (λ z. z) (λ v. v) (omega arith)))
  row few (at5 e d w a) = at_row Row l 5 e (writes refl refl (λ x m. m) tt tt tt (λ v. v) (omega arith))
  row few (at6 e d w a x) = at_row Row l 6 e (writes refl refl (λ x m. m) tt tt tt (λ v. v) (omega arith))
  row few (at7 e d w a x y) = at_row Row l 7 e (writes refl refl (λ x m. m) tt tt tt (λ v. v) (omega arith))
  row few (at8 e d w a) = at_row Row l 8 e (timed (inl (tt, omega arith))
      (goes (λ x o m. m) tt (λ z. (tt, omega arith)) (λ v. v) (omega arith)))
  row few (at9 e d w a x) = at_row Row l 9 e (writes refl refl (λ x m. m) tt tt tt (λ v. v) (omega arith))
  row few (at10 e w r ry due) = at_row Row l 10 e (timed (inl (tt, omega arith))
      (unlocks (inl refl) (record { keeps = λ x o m. absurd (o m.0); then = inl (r, ry) })))

  row_of : Row l
  row_of = row (few_by size (node_key ws) l.curr h.registers.curr) h.at

follows : Discipline coarse false At
follows = discipline_of coarse one_lock At coarse_follows

shows : Shows coarse shape coarse_steps
shows = record {
  rows = λ op last k t es r upto tn busy. row_of (stands coarse coarse_lawful At follows op last k t es r upto tn busy);
  rests = λ l x e m. subst (λ n. Only (nat_le 2 n)) e m.1;
  late_busy = λ l late e. subst (λ n. Only (within 5 10 n)) e late;
  calm_alone = λ op last k t es r upto others. tt;
}

pub coarse_calls_end : CallsEndAlone coarse coarse_steps
coarse_calls_end = calls_end coarse coarse_lawful shape coarse_steps shows

pub coarse_gets_on : SomeThreadGetsOn coarse
coarse_gets_on = gets_on coarse coarse_lawful shape coarse_steps shows

pub coarse_livelock_free : IsLivelockFree each_call coarse (lock_window coarse_steps)
coarse_livelock_free = is_livelock_free coarse coarse_lawful shape coarse_steps shows each_call
    (each_counts coarse shape (λ ws l. tt)) (λ sz. omega arith)

pub coarse_deadlock_free : IsDeadlockFree each_call coarse
coarse_deadlock_free = is_deadlock_free coarse coarse_lawful shape coarse_steps shows each_call
    (each_counts coarse shape (λ ws l. tt)) (lock_window coarse_steps)
    coarse_livelock_free
