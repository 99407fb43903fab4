-- Proof that in a fair run of LazyList, some call ends even if only `ceiling` calls are pending. While only `ceiling`
-- calls are pending, no node of the chain is marked and no word changes, so each `ceiling` ends.
use Rattle.std.specs.Prelude.{◌≡◌, ◌≢◌, ℕ, ◌+◌, ◌-◌, ◌<◌, ◌≤◌, ◌⊎◌, Bool, true, false, if◌then◌else◌, List, slice_index, refl}
use Rattle.std.proofs.Common.{arith, inl, inr, sym, ◌∙◌, ap, subst, zero, suc}
use Rattle.lset_words.proofs.Numbers.{same_or_not, if_same, if_other}
use Rattle.lset_words.specs.Words.{node_count, Opening, sizes}
use Rattle.lset_steps.specs.declared.Action.{Action}
use Rattle.lset_steps.specs.declared.Action.TheVariants.{Load, Store, Exchange}
use Rattle.lset_steps.specs.declared.Event.{Event}
use Rattle.lset_steps.specs.declared.Event.TheVariants.{Begin, Go}
use Rattle.lset_steps.specs.declared.Local.{Local}
use Rattle.lset_steps.specs.Steps.{State, Enabled, state_at, after, local_of, seen_next}
use Rattle.lset_steps.specs.Chain.{node_key, node_link}
use Rattle.lset_steps.specs.ReadRows.{read_action}
use Rattle.lset_steps.proofs.Discipline.{put_same, put_other}
use Rattle.lset_steps.proofs.ReadBound.{read_row}
use Rattle.lset_steps.proofs.ReadTables.{IsReadRow, in_each_read_row}
use Rattle.lset_lazy.specs.Lazy.{lazy}
use Rattle.lset_lazy.specs.Lawful.{lazy_lawful}
use Rattle.lset_lazy.specs.Lawful.Outline.{At, has_read_rows}
use Rattle.lset_progress.specs.Progress.{IsPending, SomeEnds, counted, lazy_steps}
use Rattle.lset_progress.specs.DeadlockFreedom.{IsFair, IsDeadlockFree, each_call, is_lock_word, unless_failed, moves}
use Rattle.lset_progress.proofs.LazyProgress.{follows, lazy_marks, shape, shows, counts, uncounted_reads, lazy_deadlock_free}
use Rattle.lset_progress.proofs.Marks.{plain_then}
use Rattle.lset_progress.proofs.ProgressWithLocks.{IsFree, own_step}
use Rattle.lset_progress.proofs.RowsWithLocks.{Timed, no_time, at_row}
use Rattle.lset_progress.proofs.Windows.{counted_or_not, ends_later}

either_way : (b : Bool) (n : ℕ) → (if b then n else n) ≡ n
either_way true n = refl
either_way false n = refl

none_counts : (ws : List ℕ) (a : Action) → unless_failed ws a 0 ≡ 0
none_counts ws (Load w) = refl
none_counts ws (Store w v) = refl
none_counts ws (Exchange w old new) = elim (same_or_not (slice_index ws w) old) [
  | inl y ↦ if_same (slice_index ws w) old y 0 (if is_lock_word w then 0 else 0)
  | inr d ↦ if_other (slice_index ws w) old d 0 (if is_lock_word w then 0 else 0) ∙ either_way (is_lock_word w) 0
]

moves_more : (s : State) (e : Event) → moves (counted true) lazy s e ≡ 1 → moves each_call lazy s e ≡ 1
moves_more s (Begin t c) h = h
moves_more s (Go t) h = elim (counted_or_not true (local_of s t).call) [
  | inl e ↦ absurd (let z : moves (counted true) lazy s (Go t) ≡ 0 =
      ap (unless_failed s.words (lazy.next (local_of s t))) e ∙ none_counts s.words (lazy.next (local_of s t)) in omega arith)
  | inr e ↦ sym (ap (unless_failed s.words (lazy.next (local_of s t))) e) ∙ h
]

module _ (op : Opening) (es : ℕ → Event) (fair : IsFair lazy op es) (t : ℕ) (tn : t < op.threads) where
  abbrev Ends : ℕ → Type 0
  Ends k = (n : ℕ) × SomeEnds (moves each_call lazy) lazy op es k n

  earlier : (k : ℕ) → Ends (suc k) → Ends k
  earlier k x = (suc x.0, ends_later x.1)

  by_counted : (k u : ℕ) → u < op.threads → IsPending (state_at lazy op es k) u
      → counted true (local_of (state_at lazy op es k) u).call ≡ 1 → Ends k
  by_counted k u un busy one =
      let x = lazy_deadlock_free true op k u es fair un busy one in (
        x.0,
        record {
          at = x.1.at;
          from = x.1.from;
          before = x.1.before;
          thread = x.1.thread;
          own = x.1.own;
          counts = moves_more (state_at lazy op es x.1.at) (es x.1.at) x.1.counts;
          ends = x.1.ends;
        },
      )

  -- Holds if no thread with a number below n has a pending `add`, `remove`, or `contains`.
  abbrev NoneCounts : ℕ → ℕ → Type 0
  NoneCounts k n = (u : ℕ) → u < n → IsPending (state_at lazy op es k) u
      → counted true (local_of (state_at lazy op es k) u).call ≡ 0

  some_counts : (k n : ℕ) → ((u : ℕ) × (u < n) × IsPending (state_at lazy op es k) u
      × (counted true (local_of (state_at lazy op es k) u).call ≡ 1)) ⊎ NoneCounts k n
  some_counts k zero = inr (λ u h. absurd (omega arith))
  some_counts k (suc n) = elim (some_counts k n) [
    | inl x ↦ inl (x.0, (let h : x.0 < n = x.1 in omega arith), x.2, x.3)
    | inr none ↦ elim (same_or_not (local_of (state_at lazy op es k) n).pc 0) [
      | inl z ↦ inr (λ u h busy. elim (same_or_not u n) [
        | inl y ↦ absurd (busy (ap (λ i. (local_of (state_at lazy op es k) i).pc) y ∙ z))
        | inr y ↦ none u (omega arith) busy
      ])
      | inr busy ↦ elim (counted_or_not true (local_of (state_at lazy op es k) n).call) [
        | inl zero' ↦ inr (λ u h b. elim (same_or_not u n) [
          | inl y ↦ ap (λ i. counted true (local_of (state_at lazy op es k) i).call) y ∙ zero'
          | inr y ↦ none u (omega arith) b
        ])
        | inr one ↦ inl (n, omega arith, busy, one)
      ]
    ]
  ]

  -- Holds if the thread has a pending `ceiling`, which ends within m steps if no word changes.
  record Waits (k m : ℕ) : Type 0 where
    pending : IsPending (state_at lazy op es k) t
    is_read : counted true (local_of (state_at lazy op es k) t).call ≡ 0
    timed : Timed shape (node_count (sizes op)) (state_at lazy op es k).words m (local_of (state_at lazy op es k) t)

  row_at : (k m : ℕ) → Waits k m → IsReadRow (local_of (state_at lazy op es k) t).pc
  row_at k m w = read_row lazy lazy_lawful has_read_rows op k k t es (fair.run k) (omega arith) tn w.pending
      (uncounted_reads true (local_of (state_at lazy op es k) t).call w.is_read)

  free_read : (ws : List ℕ) (l : Local) → IsReadRow l.pc → IsFree ws (lazy.next l) × (unless_failed ws (lazy.next l) 1 ≡ 1)
  free_read ws l row = subst (λ a. IsFree ws a × (unless_failed ws a 1 ≡ 1)) (sym (has_read_rows.acts l row))
      (in_each_read_row (λ n. IsFree ws (read_action (record l { pc = n }))
      × (unless_failed ws (read_action (record l { pc = n })) 1 ≡ 1))
      (tt, refl) (tt, refl) (tt, refl) (tt, refl) (tt, refl) (tt, refl) l.pc row)

  same_call : (k : ℕ) → es k ≡ Go t → (local_of (state_at lazy op es (suc k)) t).call ≡ (local_of (state_at lazy op es k) t).call
  same_call k ee =
      let en : Enabled (state_at lazy op es k) (Go t) =
      subst (λ e. Enabled (state_at lazy op es k) e) ee ((fair.run (suc k)).enabled k (omega arith)) in
      ap (λ e. (local_of (after lazy (state_at lazy op es k) e) t).call) ee
      ∙ ap (λ (l : Local). l.call)
      (put_same (state_at lazy op es k) t
      (lazy.feed (local_of (state_at lazy op es k) t) (seen_next lazy (state_at lazy op es k) t)).local
      en.0)
      ∙ (lazy_lawful.steps op (suc k) k t es (fair.run (suc k)) (omega arith) ee).same_call

  mine : (m k : ℕ) → ((j : ℕ) → Waits j m → Ends j) → Waits k (suc m) → es k ≡ Go t → NoneCounts k op.threads → Ends k
  mine m k again w ee none =
      let row = row_at k (suc m) w in
      let free = free_read (state_at lazy op es k).words (local_of (state_at lazy op es k) t) row in
      let plain = plain_then lazy At follows lazy_marks op k es (fair.run k) (λ u un e.
      let one : counted true (local_of (state_at lazy op es k) u).call ≡ 1 =
      (counts true).late op k k u es (fair.run k) (omega arith) un
      (at_row (λ l. shape.late l) (local_of (state_at lazy op es k) u) 12 e (tt, tt)) in
      let zero' : counted true (local_of (state_at lazy op es k) u).call ≡ 0 =
      none u un (λ z. let e' : (local_of (state_at lazy op es k) u).pc ≡ 12 = e in omega arith) in omega arith) in
      elim (own_step lazy lazy_lawful shape lazy_steps shows op (suc k) k t es (fair.run (suc k)) (omega arith) tn w.pending
      free.0) [
        | inl a ↦ (
          1,
          record {
            at = k;
            from = omega arith;
            before = omega arith;
            thread = t;
            own = ee;
            counts = ap (moves each_call lazy (state_at lazy op es k)) ee ∙ free.1;
            ends = a;
          },
        )
        | inr g ↦ earlier k (again (suc k) (record {
          pending = subst (λ e. IsPending (after lazy (state_at lazy op es k) e) t) (sym ee) g.busy;
          is_read = ap (counted true) (same_call k ee) ∙ w.is_read;
          timed = subst (λ e. Timed shape (node_count (sizes op)) (after lazy (state_at lazy op es k) e).words m
              (local_of (after lazy (state_at lazy op es k) e) t)) (sym ee) (g.near (λ high. plain) m w.timed);
        }))
      ]

  stays : (k m : ℕ) → Waits k m → (state_at lazy op es (suc k)).words ≡ (state_at lazy op es k).words
      → local_of (state_at lazy op es (suc k)) t ≡ local_of (state_at lazy op es k) t → Waits (suc k) m
  stays k m w words same = record {
    pending = λ z. w.pending (sym (ap (λ (l : Local). l.pc) same) ∙ z);
    is_read = ap (λ (l : Local). counted true l.call) same ∙ w.is_read;
    timed = subst (λ ws. Timed shape (node_count (sizes op)) ws m (local_of (state_at lazy op es (suc k)) t)) (sym words)
        (subst (λ l. Timed shape (node_count (sizes op)) (state_at lazy op es k).words m l) (sym same) w.timed);
  }

  by_event : (m k : ℕ) → ((j : ℕ) → Waits j m → Ends j) → Waits k (suc m) → NoneCounts k op.threads
      → (Waits (suc k) (suc m) → Ends (suc k)) → (e : Event) → es k ≡ e → Enabled (state_at lazy op es k) e → Ends k
  by_event m k again w none rest (Begin u c) ee en =
      let d : t ≢ u = λ z. w.pending (ap (λ i. (local_of (state_at lazy op es k) i).pc) z ∙ en.1) in
      earlier k (rest (stays k (suc m) w (ap (λ e. (after lazy (state_at lazy op es k) e).words) ee)
      (ap (λ e. local_of (after lazy (state_at lazy op es k) e) t) ee
      ∙ put_other (state_at lazy op es k) u t (lazy.begin c (local_of (state_at lazy op es k) u)) d)))
  by_event m k again w none rest (Go v) ee en = elim (same_or_not t v) [
    | inl y ↦ mine m k again w (ee ∙ ap (λ z. Go z) (sym y)) none
    | inr d ↦
        (let vn : v < op.threads = rw (sym (lazy_lawful.states op k k es (fair.run k) (omega arith)).locals) en.0 in
        let words = (counts true).reads op k k v es (fair.run k) (omega arith) vn en.1 (none v vn en.1) in
        earlier k (rest (stays k (suc m) w (ap (λ e. (after lazy (state_at lazy op es k) e).words) ee ∙ words)
        (ap (λ e. local_of (after lazy (state_at lazy op es k) e) t) ee
        ∙ put_other (state_at lazy op es k) v t
        (lazy.feed (local_of (state_at lazy op es k) v) (seen_next lazy (state_at lazy op es k) v)).local d))))
  ]

  waits : (m : ℕ) → ((j : ℕ) → Waits j m → Ends j) → (d k : ℕ) → Waits k (suc m) → es (k + d) ≡ Go t → Ends k
  waits m again zero k w own = elim (some_counts k op.threads) [
    | inl x ↦ by_counted k x.0 x.1 x.2 x.3
    | inr none ↦ mine m k again w (ap es (omega arith) ∙ own) none
  ]
  waits m again (suc d) k w own = elim (some_counts k op.threads) [
    | inl x ↦ by_counted k x.0 x.1 x.2 x.3
    | inr none ↦ by_event m k again w none (λ w'. waits m again d (suc k) w' (ap es (omega arith) ∙ own)) (es k) refl
        ((fair.run (suc k)).enabled k (omega arith))
  ]

  ends_within : (m k : ℕ) → Waits k m → Ends k
  ends_within zero k w = absurd (no_time shape (node_count (sizes op)) (node_key (state_at lazy op es k).words)
      (node_link (state_at lazy op es k).words) (local_of (state_at lazy op es k) t) w.timed)
  ends_within (suc m) k w =
      let y = fair.goes_on k t tn w.pending in
      let far : k ≤ y.0 = y.1 in
      waits m (ends_within m) (y.0 - k) k w (ap es (omega arith) ∙ y.2)

pub all_deadlock_free : IsDeadlockFree each_call lazy
all_deadlock_free op k t es fair tn busy one = elim (counted_or_not true (local_of (state_at lazy op es k) t).call) [
  | inl zero' ↦ ends_within op es fair t tn (lazy_steps (sizes op)) k (record {
    pending = busy;
    is_read = zero';
    timed = (shows.rows op k k t es (fair.run k) (omega arith) tn busy).time;
  })
  | inr one' ↦ by_counted op es fair t tn k t tn busy one'
]
