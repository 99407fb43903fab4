-- Proof of progress for LazyList: how each row of the step table changes the number of remaining steps. If a call runs
-- alone, only its first walk can fail validation, and no walk finds a marked node.
use Rattle.std.specs.Prelude.{◌≡◌, ◌≢◌, ℕ, ◌+◌, ◌*◌, ◌/◌, ◌%◌, ◌<◌, ◌≤◌, ◌⊎◌, ◌||◌, Bool, true, false, Option, Some, None, if◌then◌else◌, ◌==◌}
use Rattle.std.specs.Prelude.{is_some, List, [], ◌∷◌, slice_index, refl}
use Rattle.std.proofs.Common.{arith, get_or, inl, inr, sym, ◌∙◌, ap, subst}
use Rattle.lset_words.proofs.Numbers.{same_or_not, if_other}
use Rattle.lset_words.specs.declared.Call.{Call}
use Rattle.lset_words.specs.declared.Call.TheVariants.{Add, Remove, Contains, Ceiling}
use Rattle.lset_words.specs.declared.Reply.{Reply}
use Rattle.lset_words.specs.declared.Key.{Key}
use Rattle.lset_words.specs.Words.{lock_index, node_count, target, key_of, Sizes}
use Rattle.lset_steps.specs.declared.Fed.{Fed}
use Rattle.lset_steps.specs.declared.Local.{Local}
use Rattle.lset_steps.specs.Steps.{state_at, local_of, left_by}
use Rattle.lset_steps.specs.Chain.{View, view, node_key, node_link}
use Rattle.lset_steps.specs.ReadRows.{continued, read_action}
use Rattle.lset_steps.proofs.Memory.{inner, inside}
use Rattle.lset_steps.proofs.ReadOutline.{Reading}
use Rattle.lset_steps.proofs.ReadOutline.Reading.{reads20, reads21, reads22, reads23, reads24, reads25}
use Rattle.lset_steps.specs.Promises.{IsRead}
use Rattle.lset_steps.proofs.ReadBound.{read_row}
use Rattle.lset_steps.proofs.ReadTables.{IsReadRow, in_each_read_row}
use Rattle.lset_steps.proofs.UnlockedWalk.{Found}
use Rattle.lset_lazy.specs.Lazy.{lazy, targets, released}
use Rattle.lset_lazy.specs.Lawful.{lazy_lawful}
use Rattle.lset_steps.proofs.Discipline.{Discipline}
use Rattle.lset_steps.proofs.Turns.{discipline_of, node_locks}
use Rattle.lset_lazy.specs.Lawful.Outline.{At, lazy_follows, has_read_rows}
use Rattle.lset_lazy.specs.Lawful.Outline.At.{at0, at1, at2, at3, at4, at5, at6, at7, at8, at9, at10, at11, at12, at13, at14}
use Rattle.lset_lazy.specs.Lawful.Outline.At.{at_read}
use Rattle.lset_progress.specs.DeadlockFreedom.{IsLivelockFree, IsDeadlockFree, lock_window}
use Rattle.lset_progress.specs.Progress.{CallsEndAlone, SomeThreadGetsOn, counted, lazy_steps}
use Rattle.lset_progress.proofs.LivelockFreedom.{Counts, is_livelock_free}
use Rattle.lset_progress.proofs.Ahead.{ahead, ahead_less}
use Rattle.lset_progress.proofs.Decided.{by_same, by_below, by_decision, some_or_none}
use Rattle.lset_progress.proofs.DeadlockFreedom.{is_deadlock_free}
use Rattle.lset_progress.proofs.Marks.{Stands, Marking, no_marks, unmarked_unless, ceiling_row}
use Rattle.lset_progress.proofs.ProgressWithLocks.{Shows, calls_end, gets_on}
use Rattle.lset_progress.proofs.Paths.{Path, no_steps, path_on}
use Rattle.lset_progress.proofs.ReadProgress.{Plain, Along, Reads, ReadsAt, reads_left, reads_then, from_20, from_21, from_22}
use Rattle.lset_progress.proofs.ReadProgress.{from_23, from_24, from_25}
use Rattle.lset_progress.proofs.Rest.{rest, few_by, fewer}
use Rattle.lset_progress.proofs.RowsWithLocks.{Shape, Loads, Stores, RowOf, NodeLocks, within, When, Only, at_row, stops, no_lock}
use Rattle.lset_progress.proofs.RowsWithLocks.{pred_only, gave_pred, gave_curr, after_pred, again, goes, on, takes, timed, unlocks, writes}
use Rattle.lset_progress.proofs.Standing.{Standing, stands}
use Rattle.lset_progress.proofs.Windows.{counted_or_not}

pub follows : Discipline lazy true At
follows = discipline_of lazy (node_locks true) At lazy_follows

what_stands : {q t : ℕ} {vs : ℕ → View} {first now : ℕ} {v : View} {done : Bool} {l : Local} → At q t vs first now v done l
    → Stands v t l
what_stands at = record { takes_out = λ h. (grind arith, grind arith); ceiling = λ h. grind arith }

-- Returns false if the change removes a key, and true otherwise.
abbrev puts_in : Option (Key × Bool) → Bool
puts_in None = true
puts_in (Some c) = c.1

takes_out_at : (l : Local) (seen : ℕ) (k : Key) → lazy.effect l seen ≡ Some (k, false) → l.pc ≡ 11
takes_out_at l seen k h = elim (same_or_not l.pc 11) [
  | inl e ↦ e
  | inr d ↦ absurd (elim (same_or_not l.pc 10) [
    | inl e ↦ (let is : lazy.effect l seen ≡ Some (key_of l.call, true) = rw e refl in
        let z : true ≡ false = ap puts_in (sym is ∙ h) in cc)
    | inr d' ↦ (let other : Option (Key × Bool) = if l.pc == 11 then Some (key_of l.call, false) else None in
        let is : lazy.effect l seen ≡ None = if_other l.pc 10 d' (Some (key_of l.call, true)) other
        ∙ if_other l.pc 11 d (Some (key_of l.call, false)) None in
        let z : true ≡ false = ap puts_in (sym is ∙ h) in cc)
  ])
]

pub lazy_marks : Marking lazy At
lazy_marks = record {
  lists = refl;
  stands = λ q t vs first now v done l at. what_stands at;
  marks = λ l e. (rw e refl, λ seen. rw e refl);
  takes_out = λ l e. rw e refl;
  takes_at = takes_out_at;
}

-- Returns the number of steps of an additional walk from the head. A call that has no reply after row 14 of the step
-- table makes an additional walk.
abbrev round : ℕ → ℕ
round size = 2 * size + 7

abbrev then_again : ℕ → Option Reply → ℕ
then_again size None = round size
then_again size (Some r) = 0

again_few : (size : ℕ) (r : Option Reply) → then_again size r ≤ 2 * size + 7
again_few size None = omega arith
again_few size (Some r) = omega arith

-- Returns, for each row of the step table, how many steps remain after the next step. The body lists the numbers of
-- steps for a walk that will pass validation, starting with row 0.
abbrev left : ℕ → (ℕ → ℕ) → Local → ℕ
left size key l = get_or (0 ∷ (2 * size + 6) ∷ (2 * ahead key size (key l.curr) + 9)
    ∷ (2 * ahead key size (key l.curr) + 8) ∷ 8 ∷ 7 ∷ 6 ∷ 5 ∷ 4 ∷ 3 ∷ 2 ∷ 3 ∷ 2 ∷ (1 + then_again size l.reply)
    ∷ (then_again size l.reply) ∷ []) l.pc (reads_left size key l)

-- Describes LazyList for the proofs of progress that all lists share. A walk is `valid` (validation will succeed) if
-- `pred` is in the chain, `curr` is the node after `pred`, and neither is marked when both are locked. After its
-- decision, a thread that releases its locks has a reply. While a `ceiling` walks, no node of the chain is marked.
abbrev pub shape : Shape
shape = record {
  may = NodeLocks (within 5 14) (within 6 13);
  late = λ l. Only (within 8 14 l.pc) × When (within 13 14 l.pc) (Only (is_some l.reply));
  calm = λ ws l. 23 ≤ l.pc → Plain ws;
  valid = λ link l. When (within 2 2 l.pc || within 4 7 l.pc) (Path link 0 l.pred × (link l.pred / 2 ≡ l.curr))
      × When (within 5 7 l.pc) (link l.pred ≡ 2 * l.curr) × When (within 3 3 l.pc) (Path link 0 l.curr) × Along link l;
  left = left;
  round = round;
}

reads_at : (size : ℕ) (key : ℕ → ℕ) (ws : List ℕ) (l : Local) → IsReadRow l.pc → ReadsAt shape size key ws l
reads_at size key ws l = in_each_read_row (λ n. ReadsAt shape size key ws (record l { pc = n }))
    (λ x m. no_lock m, λ z. z.0, λ z. omega arith, refl, λ v. v.3, λ a. (tt, tt, tt, a), λ c. c)
    (λ x m. no_lock m, λ z. z.0, λ z. omega arith, refl, λ v. v.3, λ a. (tt, tt, tt, a), λ c. c)
    (λ x m. no_lock m, λ z. z.0, λ z. omega arith, refl, λ v. v.3, λ a. (tt, tt, tt, a), λ c. c)
    (λ x m. no_lock m, λ z. z.0, λ z. omega arith, refl, λ v. v.3, λ a. (tt, tt, tt, a), λ c. c)
    (λ x m. no_lock m, λ z. z.0, λ z. omega arith, refl, λ v. v.3, λ a. (tt, tt, tt, a), λ c. c)
    (λ x m. no_lock m, λ z. z.0, λ z. omega arith, refl, λ v. v.3, λ a. (tt, tt, tt, a), λ c. c) l.pc

module _ {sz : Sizes} {ws : List ℕ} {used : ℕ → ℕ} {t : ℕ} {vs : ℕ → View} {first now : ℕ} {done : Bool} {l : Local}
    (h : Standing true At sz ws used t vs first now done l)
    (unmarked : l.pc ≢ 12 → (b : ℕ) → Path (node_link ws) 0 b
    → (slice_index ws (lock_index b) ≡ 0) ⊎ (slice_index ws (lock_index b) ≡ t + 1) → node_link ws b % 2 ≡ 0) where
  abbrev size : ℕ
  size = node_count sz

  abbrev V : View
  V = view sz ws used

  abbrev Row : Local → Type 0
  Row k = RowOf shape size lazy sz ws t (lazy_steps sz) k

  -- Holds if row n of the step table loads a word and leads to the private state k.
  abbrev To : ℕ → Local → Type 0
  To n k = Loads shape size ws (record l { pc = n }) (continued k)

  user : (a : ℕ) → node_key ws a < target l.call → a ≢ 1
  user a lt = inner true sz ws used h.memory a (target l.call) lt h.registers.low

  curr_less : Found V (target l.call) l.pred l.curr l.ckey → rest size ws l.curr < rest size ws l.pred
  curr_less f =
      let below : node_key ws l.pred < target l.call = f.spot.below in
      let is : node_key ws l.curr ≡ l.ckey = f.is in
      let above : target l.call ≤ l.ckey = f.above in
      ahead_less (node_key ws) size (node_key ws l.pred) l.curr (inside true sz ws used h.memory l.curr f.spot.curr_published)
      (omega arith)

  comes : Path (node_link ws) 0 l.pred × (node_link ws l.pred / 2 ≡ l.curr) → node_key ws l.pred < target l.call
      → Path (node_link ws) 0 l.curr
  comes v below = path_on (node_link ws) 0 l.pred l.curr v.0 (user l.pred below) v.1

  module _ (few : rest size ws l.curr < size) (pred : l.pred < node_count sz) (curr : l.curr < node_count sz)
      (round_few : then_again size l.reply ≤ 2 * size + 7) where
    -- Holds if row 14 of the step table releases the last lock. The call then ends with the reply r or, if it has no
    -- reply, starts again.
    abbrev Last : Option Reply → Type 0
    Last r = Stores shape size ws (record l { pc = 14 }) (lock_index l.pred) ws (released r (record l { pc = 14 }))

    gives_last : Last l.reply
    gives_last = elim (some_or_none l.reply) [
      | inl z ↦
          (let y : then_again size l.reply ≡ 2 * size + 7 = rw z refl in
          subst Last (sym z) (goes (λ x o m. gave_pred o m) tt (λ r. absurd (subst (λ o. Only (is_some o)) z r.1)) (λ v. v)
          (omega arith)))
      | inr z ↦ subst Last (sym z.1) (stops (λ x o m. gave_pred o m))
    ]

    -- Lemma: after each row of the step table for a `contains` or a `ceiling`, fewer steps of the call remain, as
    -- `Loads` requires.
    read : (n : ℕ) {f : Fed} → IsReadRow n → Reads (round size) size (node_key ws) ws (record l { pc = n }) f
        → Loads shape size ws (record l { pc = n }) f
    read n {f} row a = reads_then shape size (node_key ws) ws (reads_at size (node_key ws) ws) (record l { pc = n }) f row a

    reads : Reading vs first now done l → Row l
    reads (reads20 e d c a) = at_row Row l 20 e (timed (inr (omega arith)) (read 20 (inl refl)
        (from_20 h (node_key ws) (λ a p. refl) (round size) (omega arith) a)))
    reads (reads21 e d c a) = at_row Row l 21 e (timed (inr (omega arith)) (read 21 (inr (inl refl))
        (from_21 h (node_key ws) (λ a p. refl) (round size) (omega arith))))
    reads (reads22 e d c a) = at_row Row l 22 e (timed (inr (omega arith)) (read 22 (inr (inr (inl refl)))
        (from_22 h (node_key ws) (λ a p. refl) (round size) (omega arith))))
    reads (reads23 e d c a) = at_row Row l 23 e (timed (inr (omega arith)) (read 23 (inr (inr (inr (inl refl))))
        (from_23 h (node_key ws) (λ a p. refl) (round size) (omega arith) a)))
    reads (reads24 e d c a) = at_row Row l 24 e (timed (inr (omega arith)) (read 24 (inr (inr (inr (inr (inl refl)))))
        (from_24 h (node_key ws) (λ a p. refl) (round size) (omega arith))))
    reads (reads25 e d c a) = at_row Row l 25 e (timed (inr (omega arith)) (read 25 (inr (inr (inr (inr (inr refl)))))
        (from_25 h (node_key ws) (λ a p. refl) (round size) (omega arith))))

    row : At sz.quota t vs first now V done l → Row l
    row (at0 e) = absurd (h.busy e)
    row (at1 e d) =
        let head : rest size ws 0 < size = few_by size (node_key ws) 0 (omega arith) in
        let next : rest size ws (node_link ws 0 / 2) < rest size ws 0 =
        fewer true sz ws used h.memory 0 h.memory.ordered.head_published (omega arith) in
        at_row Row l 1 e (timed (inl ((tt, tt, tt, tt), omega arith)) (on (λ x o m. no_lock m) tt (λ z. z.0)
        (λ v. ((no_steps (node_link ws) 0, refl), tt, tt, tt)) (omega arith)))
    row (at2 e d x) = at_row Row l 2 e (timed (inr (omega arith)) (by_below (To 2) (node_key ws l.curr) (target l.call)
        (λ lt. on (λ x o m. no_lock m) tt (λ z. z.0) (λ v. (tt, tt, comes v.0 x.below, tt)) (omega arith))
        (λ ge. on (λ x o m. no_lock m) tt (λ z. z.0) (λ v. v) (omega arith))))
    row (at3 e d x lt) =
        let less : rest size ws (node_link ws l.curr / 2) < rest size ws l.curr =
        fewer true sz ws used h.memory l.curr x.curr_published (user l.curr lt) in
        at_row Row l 3 e (timed (inr (omega arith))
        (on (λ x o m. no_lock m) tt (λ z. z.0) (λ v. ((v.2, refl), tt, tt, tt)) (omega arith)))
    row (at4 e d f) = at_row Row l 4 e (takes refl (inr (l.pred, refl)) (omega arith) h.registers.thread (λ z. z.0)
        (λ x m. no_lock m)
        (λ free. on (λ x o m. no_lock m) tt (λ z. z.0) (λ v.
        let half : node_link ws l.pred / 2 ≡ l.curr = v.0.1 in
        let even : node_link ws l.pred % 2 ≡ 0 = unmarked (λ z. omega arith) l.pred v.0.0 (inl free) in
        (v.0, (omega arith), tt, tt)) (omega arith))
        (inl (refl, tt)) (λ s d. if_other s 0 d _ _) (inr (omega arith)))
    row (at5 e d f p) = at_row Row l 5 e (takes refl (inr (l.curr, refl)) (omega arith) h.registers.thread (λ z. z.0)
        (λ x m. after_pred size ws l.curr l.pred x (curr_less f) m)
        (λ free. on (λ x o m. pred_only m) tt (λ z. z.0) (λ v. v) (omega arith)) (inr (refl, tt)) (λ s d. if_other s 0 d _ _)
        (inr (omega arith)))
    row (at6 e d f b) = at_row Row l 6 e (timed (inr (omega arith)) (by_same (To 6) (node_link ws l.pred) (2 * l.curr)
        (λ y. on (λ x o m. m) tt (λ z. z.0) (λ v. v) (omega arith))
        (λ y. again (λ x o m. m) tt (λ z. z.0) (λ v. y v.1) (tt, tt, tt, tt) (omega arith))))
    row (at7 e d f b) = at_row Row l 7 e (timed (inr (omega arith)) (by_same (To 7) (node_link ws l.curr % 2) 0
        (λ y. by_decision (To 7) targets l.ckey (record l { pc = 7; succ = node_link ws l.curr / 2 })
        (on (λ x o m. m) tt (λ z. z.0) (λ v. (tt, tt, tt, tt)) (omega arith))
        (on (λ x o m. m) tt (λ z. z.0) (λ v. (tt, tt, tt, tt)) (omega arith))
        (λ r. on (λ x o m. m) tt (λ z. z.0) (λ v. (tt, tt, tt, tt)) (omega arith)))
        (λ y. again (λ x o m. m) tt (λ z. z.0) (λ v. y (unmarked (λ z. omega arith) l.curr (comes v.0 f.spot.below) (inr b.mine)))
        (tt, tt, tt, tt) (omega arith))))
    row (at8 e d b a) = at_row Row l 8 e (writes refl refl (λ x m. m) (tt, tt) (tt, tt) tt (λ v. v) (omega arith))
    row (at9 e d b a x) = at_row Row l 9 e (writes refl refl (λ x m. m) (tt, tt) (tt, tt) tt (λ v. v) (omega arith))
    row (at10 e d b a x y) = at_row Row l 10 e (writes refl refl (λ x m. m) (tt, tt) (tt, tt) tt (λ v. v) (omega arith))
    row (at11 e d b a x) = at_row Row l 11 e (writes refl refl (λ x m. m) (tt, tt) (tt, tt) tt (λ v. v) (omega arith))
    row (at12 e d b a x) = at_row Row l 12 e (writes refl refl (λ x m. m) (tt, tt) (tt, tt) tt (λ v. v) (omega arith))
    row (at13 e b o) = at_row Row l 13 e (timed (inl ((tt, tt, tt, tt), omega arith))
        (unlocks (inr (l.curr, refl)) (goes (λ x o m. gave_curr o m) tt (λ z. (z, omega arith)) (λ v. v) (omega arith))))
    row (at14 e p o) = at_row Row l 14 e (timed (inl ((tt, tt, tt, tt), omega arith)) (unlocks (inr (l.pred, refl)) gives_last))
    row (at_read a) = reads a

  row_of : Row l
  row_of = row (few_by size (node_key ws) l.curr h.registers.curr) h.registers.pred h.registers.curr (again_few size l.reply) h.at

pub shows : Shows lazy shape lazy_steps
shows = record {
  rows = λ op last k t es r upto tn busy. row_of (stands lazy lazy_lawful At follows op last k t es r upto tn busy)
      (unmarked_unless lazy At follows lazy_marks op last k t es r upto);
  rests = λ l x e m. no_lock (subst (λ n. shape.may (record l { pc = n }) x) e m);
  late_busy = λ l late e. subst (λ n. Only (within 8 14 n)) e late.0;
  calm_alone = λ op last k t es r upto others high. no_marks lazy At follows lazy_marks op last k t es r upto others (λ e. omega arith);
}

pub lazy_calls_end : CallsEndAlone lazy lazy_steps
lazy_calls_end = calls_end lazy lazy_lawful shape lazy_steps shows

pub lazy_gets_on : SomeThreadGetsOn lazy
lazy_gets_on = gets_on lazy lazy_lawful shape lazy_steps shows

-- Lemmas: only an `add` or a `remove`, whose steps are counted, holds locks or decides to change the list.
late_counts : (reads : Bool) (c : Call) → (IsRead c → ⊥) → counted reads c ≡ 1
late_counts reads (Add k) no_read = refl
late_counts reads (Remove k) no_read = refl
late_counts reads (Contains k) no_read = absurd (no_read tt)
late_counts reads (Ceiling k) no_read = absurd (no_read tt)

not_late : (l : Local) → IsReadRow l.pc → shape.late l → ⊥
not_late l row late = in_each_read_row (λ n. Only (within 8 14 n) → ⊥)
    (λ z. z) (λ z. z) (λ z. z) (λ z. z) (λ z. z) (λ z. z) l.pc row late.0

no_lock_held : (l : Local) (x : ℕ) → IsReadRow l.pc → shape.may l x → ⊥
no_lock_held l x row m = in_each_read_row (λ n. shape.may (record l { pc = n }) x → ⊥)
    (λ z. no_lock z) (λ z. no_lock z) (λ z. no_lock z)
    (λ z. no_lock z) (λ z. no_lock z) (λ z. no_lock z) l.pc row m

pub uncounted_reads : (reads : Bool) (c : Call) → counted reads c ≡ 0 → IsRead c
uncounted_reads reads (Add k) e = omega arith
uncounted_reads reads (Remove k) e = omega arith
uncounted_reads reads (Contains k) e = tt
uncounted_reads reads (Ceiling k) e = tt

pub only_reads : (ws : List ℕ) (l : Local) → IsReadRow l.pc → left_by ws (lazy.next l) ≡ ws
only_reads ws l row = ap (left_by ws) (has_read_rows.acts l row)
    ∙ in_each_read_row (λ n. left_by ws (read_action (record l { pc = n })) ≡ ws) refl refl refl refl refl refl l.pc row

pub counts : (reads : Bool) → Counts lazy shape (counted reads)
counts reads = record {
  one_or_none = counted_or_not reads;
  holds = λ op last k t x es r l tn h. late_counts reads (local_of (state_at lazy op es k) t).call (λ is_read.
      no_lock_held (local_of (state_at lazy op es k) t) x (read_row lazy lazy_lawful has_read_rows op last k t es r l tn
      (λ z. shows.rests (local_of (state_at lazy op es k) t) x z h) is_read) h);
  reads = λ op last k t es r l tn busy none. only_reads (state_at lazy op es k).words (local_of (state_at lazy op es k) t)
      (read_row lazy lazy_lawful has_read_rows op last k t es r l tn busy
      (uncounted_reads reads (local_of (state_at lazy op es k) t).call none));
  late = λ op last k t es r l tn h. late_counts reads (local_of (state_at lazy op es k) t).call (λ is_read.
      not_late (local_of (state_at lazy op es k) t) (read_row lazy lazy_lawful has_read_rows op last k t es r l tn
      (shows.late_busy (local_of (state_at lazy op es k) t) h) is_read) h);
  calm = λ op last k t es r l tn busy one free high. absurd (
      let c = ceiling_row lazy At follows lazy_marks op last k t es r l tn high in
      let none : counted reads (local_of (state_at lazy op es k) t).call ≡ 0 = ap (counted reads) c in omega arith);
}

pub lazy_livelock_free : (reads : Bool) → IsLivelockFree (counted reads) lazy (lock_window lazy_steps)
lazy_livelock_free reads = is_livelock_free lazy lazy_lawful shape lazy_steps shows (counted reads) (counts reads)
    (λ sz. omega arith)

pub lazy_deadlock_free : (reads : Bool) → IsDeadlockFree (counted reads) lazy
lazy_deadlock_free reads = is_deadlock_free lazy lazy_lawful shape lazy_steps shows (counted reads) (counts reads)
    (lock_window lazy_steps) (lazy_livelock_free reads)
