-- Proof that freedom from livelock implies freedom from deadlock. A step is counted if `calls` is 1 for its call and
-- the step is not a failed attempt to take a lock. If a thread's next step is not a failed attempt, it does not become
-- one until some thread takes a counted step. Therefore, while a call with `calls` equal to 1 is pending, a fair run
-- has one counted step after another.
use Rattle.std.specs.Prelude.{◌≡◌, ◌≢◌, ℕ, ◌+◌, ◌-◌, ◌/◌, ◌%◌, ◌<◌, ◌≤◌, ◌⊎◌, true, false, List, Option, Some, None}
use Rattle.std.specs.Prelude.{if◌then◌else◌, ◌==◌, nat_lt, slice_index, slice_set, refl}
use Rattle.std.proofs.Common.{arith, inl, inr, sym, ◌∙◌, ap, subst, zero, suc}
use Rattle.lset_words.proofs.Numbers.{same_or_not, below_or_not, if_same, if_other, if_below, if_not_below}
use Rattle.lset_words.specs.declared.Call.{Call}
use Rattle.lset_words.specs.declared.Reply.{Reply}
use Rattle.lset_words.specs.Words.{Sizes, Opening, sizes}
use Rattle.lset_words.specs.Log.{begun_at, has_changed}
use Rattle.lset_steps.specs.declared.Action.{Action}
use Rattle.lset_steps.specs.declared.Action.TheVariants.{Load, Store, Exchange}
use Rattle.lset_steps.specs.declared.Event.{Event}
use Rattle.lset_steps.specs.declared.Event.TheVariants.{Begin, Go}
use Rattle.lset_steps.specs.declared.Local.{Local}
use Rattle.lset_steps.specs.Steps.{Table, State, Enabled, state_at, after, told, local_of, seen_next, left_by, log_of}
use Rattle.lset_steps.specs.Laws.{Lawful, IsLockWord, Answered, views}
use Rattle.lset_steps.proofs.Discipline.{put_same, put_other}
use Rattle.lset_progress.specs.Progress.{IsPending, GetsOn, SomeEnds, steps_among}
use Rattle.lset_progress.specs.DeadlockFreedom.{IsLivelockFree, IsFair, IsDeadlockFree, is_lock_word, unless_failed, moves}
use Rattle.lset_progress.proofs.LivelockFreedom.{Counts}
use Rattle.lset_progress.proofs.ProgressWithLocks.{Shows, some_meant}
use Rattle.lset_progress.proofs.RowsWithLocks.{Shape}
use Rattle.lset_progress.proofs.Windows.{ends_later}

lock_or_not : (x : ℕ) → IsLockWord x ⊎ (is_lock_word x ≡ false)
lock_or_not x = elim (same_or_not x 0) [
  | inl e ↦ inl (inl e)
  | inr d ↦
      (let skip : is_lock_word x ≡ (if nat_lt x 5 then false else if x % 3 == 2 then true else false) =
      if_other x 0 d true (if nat_lt x 5 then false else if x % 3 == 2 then true else false) in
      elim (below_or_not x 5) [
        | inl lt ↦ inr (skip ∙ if_below x 5 lt false (if x % 3 == 2 then true else false))
        | inr ge ↦ elim (same_or_not (x % 3) 2) [
          | inl e ↦ inl (inr (x / 3 - 1, omega arith))
          | inr d' ↦ inr (skip ∙ if_not_below x 5 ge false (if x % 3 == 2 then true else false)
              ∙ if_other (x % 3) 2 d' true false)
        ]
      ])
]

counts_or_keeps : (ws : List ℕ) (a : Action) → (unless_failed ws a 1 ≡ 1) ⊎ (left_by ws a ≡ ws)
counts_or_keeps ws (Load w) = inl refl
counts_or_keeps ws (Store w v) = inl refl
counts_or_keeps ws (Exchange w old new) = elim (same_or_not (slice_index ws w) old) [
  | inl e ↦ inl (if_same (slice_index ws w) old e 1 (if is_lock_word w then 0 else 1))
  | inr d ↦ inr (if_other (slice_index ws w) old d (slice_set ws w new) ws)
]

gets_weight : (ws : List ℕ) (a : Action)
    → ((x old new : ℕ) → IsLockWord x → a ≡ Exchange x old new → slice_index ws x ≡ old) → unless_failed ws a 1 ≡ 1
gets_weight ws (Load w) tries = refl
gets_weight ws (Store w v) tries = refl
gets_weight ws (Exchange w old new) tries = elim (same_or_not (slice_index ws w) old) [
  | inl e ↦ if_same (slice_index ws w) old e 1 (if is_lock_word w then 0 else 1)
  | inr d ↦ elim (lock_or_not w) [
    | inl is ↦ absurd (d (tries w old new is refl))
    | inr other ↦ if_other (slice_index ws w) old d 1 (if is_lock_word w then 0 else 1) ∙ ap (λ b. if b then 0 else 1) other
  ]
]

module _ (T : Table) (law : Lawful T) (S : Shape) (most : Sizes → ℕ) (shows : Shows T S most) (calls : Call → ℕ)
    (counts : Counts T S calls) (op : Opening) (es : ℕ → Event) (fair : IsFair T op es) where
  abbrev at : ℕ → State
  at k = state_at T op es k

  abbrev count : State → Event → ℕ
  count = moves calls T

  -- Holds if, within some number of events after the first k events, a counted step ends its call or at least m counted
  -- steps are taken. (A failed attempt to take a lock is not a counted step.)
  abbrev Gather : ℕ → ℕ → Type 0
  Gather m k = (n : ℕ) × (SomeEnds (moves calls T) T op es k n ⊎ (m ≤ steps_among (moves calls T) T op es k n))

  later_on : (m k : ℕ) → Gather m (suc k) → (m' : ℕ) → m' ≤ moves calls T (state_at T op es k) (es k) + m → Gather m' k
  later_on m k g m' l = (
    suc g.0,
    elim g.1 [
      | inl e ↦ inl (ends_later e)
      | inr h ↦ inr (omega arith)
    ],
  )

  -- Holds if thread t has a pending call whose steps are counted.
  record Busy (k t : ℕ) : Type 0 where
    in_threads : t < op.threads
    pending : IsPending (state_at T op es k) t
    meant : calls (local_of (state_at T op es k) t).call ≡ 1

  module _ (m : ℕ) (again : (k t : ℕ) → Busy k t → Gather m k) (k v : ℕ) (ee : es k ≡ Go v) (b : Busy k v)
      (weighs : moves calls T (state_at T op es k) (Go v) ≡ 1) where
    abbrev L : Local
    L = local_of (state_at T op es k) v

    abbrev fed : Local
    fed = (T.feed L (seen_next T (state_at T op es k) v)).local

    enabled : Enabled (state_at T op es k) (Go v)
    enabled = subst (λ e. Enabled (state_at T op es k) e) ee ((fair.run (suc k)).enabled k (omega arith))

    one : moves calls T (state_at T op es k) (es k) ≡ 1
    one = ap (moves calls T (state_at T op es k)) ee ∙ weighs

    on : local_of (state_at T op es (suc k)) v
        ≡ (T.feed (local_of (state_at T op es k) v) (seen_next T (state_at T op es k) v)).local
    on = ap (λ e. local_of (after T (state_at T op es k) e) v) ee ∙ put_same (state_at T op es k) v fed enabled.0

    ended : (r : Reply) → (told T (state_at T op es k) (Go v)).answer ≡ Some r → Gather (suc m) k
    ended r is = (
      1,
      inl (record {
        at = k;
        from = omega arith;
        before = omega arith;
        thread = v;
        own = ee;
        counts = one;
        ends = (r, is);
      }),
    )

    goes_on : (told T (state_at T op es k) (Go v)).answer ≡ None → Gather (suc m) k
    goes_on is =
        let st = law.steps op (suc k) k v es (fair.run (suc k)) (omega arith) ee in
        let open_call = subst (λ o. Answered (has_changed (log_of T op es) v (suc k)) op.quota (views T op es)
        (begun_at (log_of T op es) v (suc k)) (suc k) v L.call fed.pc o) is st.answered in
        let next : Busy (suc k) v = record {
          in_threads = b.in_threads;
          pending = λ z. open_call (sym (ap (λ (l : Local). l.pc) on) ∙ z);
          meant = ap (λ (l : Local). calls l.call) on ∙ ap calls st.same_call ∙ b.meant;
        } in
        let here : moves calls T (state_at T op es k) (es k) ≡ 1 = one in
        later_on m k (again (suc k) v next) (suc m) (omega arith)

    counted : Gather (suc m) k
    counted = by_answer (told T (state_at T op es k) (Go v)).answer refl
      where
        by_answer : (o : Option Reply) → (told T (state_at T op es k) (Go v)).answer ≡ o → Gather (suc m) k
        by_answer None is = goes_on is
        by_answer (Some r) is = ended r is

  weight_of : (s : State) (v n : ℕ) → calls (local_of s v).call ≡ n
      → moves calls T s (Go v) ≡ unless_failed s.words (T.next (local_of s v)) n
  weight_of s v n e = ap (unless_failed s.words (T.next (local_of s v))) e

  -- Thread u is `Ready` if it has a pending call whose next step is not a failed attempt to take a lock. Until u takes
  -- the next step, each event is a counted step or leaves u ready.
  module _ (m : ℕ) (again : (k t : ℕ) → Busy k t → Gather m k) (u : ℕ) where
    record Ready (k : ℕ) : Type 0 where
      busy : Busy k u
      gets_on : GetsOn T (state_at T op es k) u

    stays_ready : (k : ℕ) → Ready k → (state_at T op es (suc k)).words ≡ (state_at T op es k).words
        → local_of (state_at T op es (suc k)) u ≡ local_of (state_at T op es k) u → Ready (suc k)
    stays_ready k g words same = record {
      busy = record {
        in_threads = g.busy.in_threads;
        pending = λ z. g.busy.pending (sym (ap (λ (l : Local). l.pc) same) ∙ z);
        meant = ap (λ (l : Local). calls l.call) same ∙ g.busy.meant;
      };
      gets_on = record {
        enabled = (
          rw (law.states op (suc k) (suc k) es (fair.run (suc k)) (omega arith)).locals g.busy.in_threads,
          λ z. g.busy.pending (sym (ap (λ (l : Local). l.pc) same) ∙ z),
        );
        tries = λ x old new is acts. ap (λ ws. slice_index ws x) words
            ∙ g.gets_on.tries x old new is (sym (ap (λ l. T.next l) same) ∙ acts);
      };
    }

    mine_counts : (k : ℕ) → Ready k → moves calls T (state_at T op es k) (Go u) ≡ 1
    mine_counts k g = weight_of _ u 1 g.busy.meant ∙ gets_weight _ (T.next _) g.gets_on.tries

    by_event : (k : ℕ) → Ready k → (Ready (suc k) → Gather (suc m) (suc k)) → (e : Event) → es k ≡ e
        → Enabled (state_at T op es k) e → Gather (suc m) k
    by_event k g rest (Begin t c) ee en =
        let d : u ≢ t = λ z. g.busy.pending (ap (λ i. (local_of (state_at T op es k) i).pc) z ∙ en.1) in
        later_on (suc m) k (rest (stays_ready k g (ap (λ e. (after T (state_at T op es k) e).words) ee)
        (ap (λ e. local_of (after T (state_at T op es k) e) u) ee
        ∙ put_other (state_at T op es k) t u (T.begin c (local_of (state_at T op es k) t)) d))) (suc m) (omega arith)
    by_event k g rest (Go v) ee en = elim (same_or_not u v) [
      | inl y ↦ counted m again k u (ee ∙ ap (λ z. Go z) (sym y)) g.busy (mine_counts k g)
      | inr d ↦
          (let vn : v < op.threads = rw (sym (law.states op k k es (fair.run k) (omega arith)).locals) en.0 in
          let keeps = λ (words : left_by (state_at T op es k).words (T.next (local_of (state_at T op es k) v))
          ≡ (state_at T op es k).words).
          later_on (suc m) k (rest (stays_ready k g (ap (λ e. (after T (state_at T op es k) e).words) ee ∙ words)
          (ap (λ e. local_of (after T (state_at T op es k) e) u) ee
          ∙ put_other (state_at T op es k) v u
          (T.feed (local_of (state_at T op es k) v) (seen_next T (state_at T op es k) v)).local d))) (suc m) (omega arith) in
          elim (counts.one_or_none (local_of (state_at T op es k) v).call) [
            | inl none ↦ keeps (counts.reads op k k v es (fair.run k) (omega arith) vn en.1 none)
            | inr one ↦ elim (counts_or_keeps (state_at T op es k).words (T.next (local_of (state_at T op es k) v))) [
              | inl w ↦ counted m again k v ee (record { in_threads = vn; pending = en.1; meant = one })
                  (weight_of (state_at T op es k) v 1 one ∙ w)
              | inr words ↦ keeps words
            ]
          ])
    ]

    waits : (d k : ℕ) → Ready k → es (k + d) ≡ Go u → Gather (suc m) k
    waits zero k g own = counted m again k u (ap es (omega arith) ∙ own) g.busy (mine_counts k g)
    waits (suc d) k g own = by_event k g (λ g'. waits d (suc k) g' (ap es (omega arith) ∙ own)) (es k) refl
        ((fair.run (suc k)).enabled k (omega arith))

  gather : (m k t : ℕ) → Busy k t → Gather m k
  gather zero k t b = (0, inr (omega arith))
  gather (suc m) k t b =
      let x = some_meant T law S most shows calls op k es (fair.run k)
      (λ u w un h. counts.holds op k k u w es (fair.run k) (omega arith) un h) t b.in_threads b.pending b.meant in
      let y = fair.goes_on k x.0 x.1 x.3.enabled.1 in
      let far : k ≤ y.0 = y.1 in
      waits m (gather m) x.0 (y.0 - k) k (record {
        busy = record { in_threads = x.1; pending = x.3.enabled.1; meant = x.2 };
        gets_on = x.3;
      }) (ap es (omega arith) ∙ y.2)

pub is_deadlock_free : (T : Table) → Lawful T → (S : Shape) (most : Sizes → ℕ) → Shows T S most → (calls : Call → ℕ)
    → Counts T S calls → (window : Sizes → ℕ) → IsLivelockFree calls T window → IsDeadlockFree calls T
is_deadlock_free T law S most shows calls counts window free op k t es fair tn busy one =
    let g = gather T law S most shows calls counts op es fair (window (sizes op)) k t
    (record { in_threads = tn; pending = busy; meant = one }) in (
      g.0,
      elim g.1 [
        | inl e ↦ e
        | inr h ↦ free op k g.0 es (fair.run (k + g.0)) h
      ],
    )
