-- Proof that a list with locks is free from livelock. Only a call that has decided what to change writes a word other
-- than a lock, and the call then has at most 5 steps left. Between two writes to words other than locks, each thread
-- takes at most as many steps as a call that runs alone. A potential, computed from the two bounds on steps, decreases
-- with each counted step (each step that is not a failed attempt to take a lock).
use Rattle.std.specs.Prelude.{◌≡◌, ◌≢◌, ℕ, ◌+◌, ◌*◌, ◌%◌, ◌<◌, ◌≤◌, ◌⊎◌, List, if◌then◌else◌, ◌==◌, nat_lt, true, false, refl}
use Rattle.std.specs.Prelude.{slice_index, slice_set}
use Rattle.std.proofs.Common.{arith, inl, inr, sym, ◌∙◌, ap, subst, suc}
use Rattle.lset_words.proofs.Numbers.{same_or_not, if_same, if_other, if_not_below}
use Rattle.lset_words.specs.declared.Call.{Call}
use Rattle.lset_words.specs.Words.{node_count, Sizes, Opening, sizes}
use Rattle.lset_steps.specs.declared.Action.{Action}
use Rattle.lset_steps.specs.declared.Action.TheVariants.{Load, Store, Exchange}
use Rattle.lset_steps.specs.declared.Event.{Event}
use Rattle.lset_steps.specs.declared.Event.TheVariants.{Begin, Go}
use Rattle.lset_steps.specs.declared.Local.{Local}
use Rattle.lset_steps.specs.Steps.{Table, State, Run, Enabled, state_at, after, local_of, seen_by, seen_next, left_by}
use Rattle.lset_steps.specs.Chain.{node_key, node_link}
use Rattle.lset_steps.specs.Laws.{Lawful, IsLockWord}
use Rattle.lset_steps.proofs.Discipline.{put_same, put_other}
use Rattle.lset_progress.specs.Progress.{IsPending, Answers}
use Rattle.lset_progress.specs.DeadlockFreedom.{IsLivelockFree, is_lock_word, unless_failed, moves, lock_window}
use Rattle.lset_progress.proofs.Holders.{one_or_more}
use Rattle.lset_progress.proofs.ProgressWithLocks.{Shows, IsFree, Keeps, late_or_keeps, own_step, row}
use Rattle.lset_progress.proofs.RowsWithLocks.{Shape, LateBy, Timed, RowBy, timed_same, timed_more, no_time}
use Rattle.lset_progress.proofs.StepTotals.{total, total_less, total_all, total_at, total_step, one_price, put, put_this, put_that}
use Rattle.lset_progress.proofs.Windows.{Then, some_ends}

is_lock_test : (x : ℕ) → IsLockWord x → is_lock_word x ≡ true
is_lock_test x (inl e) = subst (λ z. is_lock_word z ≡ true) (sym e) refl
is_lock_test x (inr (i, e)) =
    if_other x 0 (omega arith) true (if nat_lt x 5 then false else if x % 3 == 2 then true else false)
    ∙ if_not_below x 5 (omega arith) false (if x % 3 == 2 then true else false) ∙ if_same (x % 3) 2 (omega arith) true false

-- Properties of a list's counted calls, for the proof of freedom from livelock. Each call that holds a lock or changes
-- the list is counted. All other calls only read. `calm` is a condition on the words at a step of a counted call,
-- unless the step is a failed attempt to take a lock.
pub record Counts (T : Table) (S : Shape) (calls : Call → ℕ) : Type 0 where
  pub one_or_none : (c : Call) → (calls c ≡ 0) ⊎ (calls c ≡ 1)
  pub late : (op : Opening) (last k t : ℕ) (es : ℕ → Event) → Run T op es last → k ≤ last → t < op.threads
      → S.late (local_of (state_at T op es k) t) → calls (local_of (state_at T op es k) t).call ≡ 1
  pub holds : (op : Opening) (last k t x : ℕ) (es : ℕ → Event) → Run T op es last → k ≤ last → t < op.threads
      → S.may (local_of (state_at T op es k) t) x → calls (local_of (state_at T op es k) t).call ≡ 1
  pub reads : (op : Opening) (last k t : ℕ) (es : ℕ → Event) → Run T op es last → k ≤ last → t < op.threads
      → IsPending (state_at T op es k) t → calls (local_of (state_at T op es k) t).call ≡ 0
      → left_by (state_at T op es k).words (T.next (local_of (state_at T op es k) t)) ≡ (state_at T op es k).words
  pub calm : (op : Opening) (last k t : ℕ) (es : ℕ → Event) → Run T op es last → k ≤ last → t < op.threads
      → IsPending (state_at T op es k) t → calls (local_of (state_at T op es k) t).call ≡ 1
      → IsFree (state_at T op es k).words (T.next (local_of (state_at T op es k) t))
      → S.calm (state_at T op es k).words (local_of (state_at T op es k) t)

module _ (T : Table) (law : Lawful T) (S : Shape) (most : Sizes → ℕ) (shows : Shows T S most) (calls : Call → ℕ)
    (counts : Counts T S calls) where
  -- Holds if m steps are enough for any whole call, or if the thread has a pending call whose steps are counted and m
  -- steps are enough for the rest of the call.
  abbrev Fits : Sizes → List ℕ → ℕ → Local → Type 0
  Fits sz ws m l = (most sz ≤ m) ⊎ ((l.pc ≢ 0) × (calls l.call ≡ 1) × Timed S (node_count sz) ws m l)

  -- Holds if m is at least 5, or if the thread's call has already decided what to change and has at most m steps left.
  -- After its decision, a call takes at most 5 steps.
  abbrev Owes : ℕ → Local → Type 0
  Owes m l = (5 ≤ m) ⊎ LateBy S m l

  -- Returns an upper bound on the number of steps that a single write can add to the steps that all threads together
  -- still need.
  abbrev price : Sizes → ℕ
  price sz = sz.threads * most sz

  record Phase (sz : Sizes) (s : State) (p : ℕ) : Type 0 where
    time : ℕ → ℕ
    stores : ℕ → ℕ
    times : (u : ℕ) → u < sz.threads → Fits sz s.words (time u) (local_of s u)
    owes : (u : ℕ) → u < sz.threads → Owes (stores u) (local_of s u)
    within : price sz * total stores sz.threads + total time sz.threads ≤ p

  same_phase : (sz : Sizes) (s s' : State) (p : ℕ) (f : Phase sz s p)
      → ((u : ℕ) → u < sz.threads → Fits sz s'.words (f.time u) (local_of s' u) × Owes (f.stores u) (local_of s' u))
      → Phase sz s' p
  same_phase sz s s' p f as_much = record {
    time = f.time;
    stores = f.stores;
    times = λ u un. (as_much u un).0;
    owes = λ u un. (as_much u un).1;
    within = f.within;
  }

  begins : (sz : Sizes) (s : State) (t : ℕ) (c : Call) → Enabled s (Begin t c) → (p : ℕ) → Phase sz s p
      → Phase sz (after T s (Begin t c)) p
  begins sz s t c en p f = same_phase sz s (after T s (Begin t c)) p f (λ u un. elim (same_or_not u t) [
    | inl y ↦
        (let rests : (local_of s u).pc ≡ 0 = ap (λ z. (local_of s z).pc) y ∙ en.1 in (
          elim (f.times u un) [ inl h ↦ inl h | inr h ↦ absurd (h.0 rests) ],
          elim (f.owes u un) [ inl h ↦ inl h | inr h ↦ absurd (shows.late_busy (local_of s u) h.0 rests) ],
        ))
    | inr y ↦ subst (λ l. Fits sz s.words (f.time u) l × Owes (f.stores u) l)
        (sym (put_other s t u (T.begin c (local_of s t)) y)) (f.times u un, f.owes u un)
  ])

  -- Lemmas: a counted step decreases the potential by at least 1, unless the step ends its call. No other step
  -- increases the potential.
  module _ (op : Opening) (last k : ℕ) (es : ℕ → Event) (r : Run T op es last) (below : k < last) (t : ℕ) (ee : es k ≡ Go t)
      (en : Enabled (state_at T op es k) (Go t)) (p : ℕ) (f : Phase (sizes op) (state_at T op es k) p) where
    abbrev s : State
    s = state_at T op es k

    abbrev s' : State
    s' = after T s (Go t)

    abbrev L : Local
    L = local_of s t

    abbrev L' : Local
    L' = local_of s' t

    tn : t < op.threads
    tn = rw (sym (law.states op last k es r (omega arith)).locals) en.0

    same_other : (u : ℕ) → u ≢ t → local_of s' u ≡ local_of s u
    same_other u d = put_other s t u (T.feed L (seen_next T s t)).local d

    same_call : (local_of (after T (state_at T op es k) (Go t)) t).call ≡ (local_of (state_at T op es k) t).call
    same_call = ap (λ (l : Local). l.call) (put_same s t (T.feed L (seen_next T s t)).local en.0)
        ∙ (law.steps op last k t es r below ee).same_call

    abbrev Row : Action → Type 0
    Row a = RowBy S (node_count (sizes op)) T (sizes op) s.words t L a

    abbrev EndsNow : Type 0
    EndsNow = Answers T s t × (moves calls T s (Go t) ≡ 1)

    abbrev Later : Type 0
    Later = (p' : ℕ) × (p' + moves calls T s (Go t) ≤ p) × Phase (sizes op) s' p'

    module _ (w from to : ℕ) (acts : T.next L ≡ Exchange w from to) (y : Row (Exchange w from to))
        (held : slice_index s.words w ≢ 0) where
      not_from : slice_index (state_at T op es k).words w ≢ from
      not_from e = held (e ∙ y.free)

      words_stay : (after T (state_at T op es k) (Go t)).words ≡ (state_at T op es k).words
      words_stay = ap (left_by s.words) acts ∙ if_other (slice_index s.words w) from not_from (slice_set s.words w to) s.words

      local_stays : (u : ℕ) → local_of (after T (state_at T op es k) (Go t)) u ≡ local_of (state_at T op es k) u
      local_stays u = elim (same_or_not u t) [
        | inl e ↦ subst (λ z. local_of s' z ≡ local_of s z) (sym e)
            (put_same s t (T.feed L (seen_next T s t)).local en.0
            ∙ ap (λ a. (T.feed L (seen_by s.words a)).local) acts ∙ y.missed (slice_index s.words w) held)
        | inr d ↦ same_other u d
      ]

      weighs_none : moves calls T s (Go t) ≡ 0
      weighs_none = ap (λ a. unless_failed s.words a (calls L.call)) acts
          ∙ if_other (slice_index s.words w) from not_from (calls L.call) (if is_lock_word w then 0 else calls L.call)
          ∙ ap (λ b. if b then 0 else calls L.call) (is_lock_test w y.is_lock)

      fails : Later
      fails = (
        p,
        (let z : moves calls T s (Go t) ≡ 0 = weighs_none in omega arith),
        same_phase (sizes op) s s' p f (λ u un. subst (λ ws. Fits (sizes op) ws (f.time u) (local_of s' u)
            × Owes (f.stores u) (local_of s' u)) (sym words_stay) (subst (λ l. Fits (sizes op) s.words (f.time u) l
            × Owes (f.stores u) l) (sym (local_stays u)) (f.times u un, f.owes u un))),
      )

    -- Lemmas about a step that is not a failed attempt to take a lock.
    module _ (free : IsFree s.words (T.next L)) where
      weighs : (a : Action) → IsFree (state_at T op es k).words a → Row a
          → unless_failed (state_at T op es k).words a (calls (local_of (state_at T op es k) t).call)
          ≡ calls (local_of (state_at T op es k) t).call
      weighs (Load w) z y = refl
      weighs (Store w v) z y = refl
      weighs (Exchange w from to) z y = if_same (slice_index s.words w) from (z ∙ sym y.free) (calls L.call)
          (if is_lock_word w then 0 else calls L.call)

      here : Row (T.next L)
      here = row T law S most shows op last k t es r (omega arith) tn en.1

      weight : moves calls T s (Go t) ≡ calls L.call
      weight = weighs (T.next L) free here

      abbrev Kept : Type 0
      Kept = Keeps S T (sizes op) s.words t L (T.next L)

      fits_on : Kept → (m : ℕ) (l : Local) → Fits (sizes op) s.words m l → Fits (sizes op) s'.words m l
      fits_on same m l (inl h) = inl h
      fits_on same m l (inr h) = inr (
        h.0,
        h.1,
        timed_same S (node_count (sizes op)) s.words s'.words m l same.0 same.1 h.2,
      )

      module _ (none : calls L.call ≡ 0) where
        not_late : S.late L → ⊥
        not_late h = let one : calls L.call ≡ 1 = counts.late op last k t es r (omega arith) tn h in omega arith

        passes : Kept → Later
        passes same = (
          p,
          (let z : moves calls T s (Go t) ≡ calls L.call = weight in omega arith),
          same_phase (sizes op) s s' p f (λ u un. elim (same_or_not u t) [
            | inl y ↦ (
              elim (f.times u un) [
                | inl h ↦ inl h
                | inr h ↦ absurd (let one : calls L.call ≡ 1 = subst (λ z. calls (local_of s z).call ≡ 1) y h.1 in omega arith)
              ],
              elim (f.owes u un) [ inl h ↦ inl h | inr h ↦ absurd (not_late (subst (λ z. S.late (local_of s z)) y h.0)) ],
            )
            | inr y ↦ subst (λ l. Fits (sizes op) s'.words (f.time u) l × Owes (f.stores u) l) (sym (same_other u y))
                (fits_on same (f.time u) (local_of s u) (f.times u un), f.owes u un)
          ]),
        )

      module _ (one : calls L.call ≡ 1) (n : ℕ) (is : f.time t ≡ suc n)
          (time : Timed S (node_count (sizes op)) s.words (suc n) L) where
        -- Returns, for each thread, a number of steps that is enough after a write: n for thread t, and the maximum for
        -- all other threads.
        abbrev again : ℕ → ℕ
        again = put (λ u. most (sizes op)) t n

        weighs_one : moves calls T s (Go t) ≡ 1
        weighs_one = weight ∙ one

        module _ (g : (L'.pc ≢ 0) × Timed S (node_count (sizes op)) s'.words n L')
            (late : S.late L → LateBy S (S.left 0 (λ a. 0) L) L') where
          own : Fits (sizes op) s'.words n L'
          own = inr (g.0, (ap calls same_call ∙ one), g.1)

          times_by : (b : ℕ → ℕ) → b t ≡ n → ((u : ℕ) → u < op.threads → u ≢ t → Fits (sizes op) s'.words (b u) (local_of s u))
              → (u : ℕ) → u < op.threads → Fits (sizes op) s'.words (b u) (local_of s' u)
          times_by b e others u un = elim (same_or_not u t) [
            | inl y ↦ subst (λ z. Fits (sizes op) s'.words (b z) (local_of s' z)) (sym y)
                (subst (λ m. Fits (sizes op) s'.words m L') (sym e) own)
            | inr y ↦ subst (λ l. Fits (sizes op) s'.words (b u) l) (sym (same_other u y)) (others u un y)
          ]

          owes_by : (b : ℕ → ℕ) → Owes (b t) L' → ((u : ℕ) → u ≢ t → b u ≡ f.stores u) → (u : ℕ) → u < op.threads
              → Owes (b u) (local_of s' u)
          owes_by b mine others u un = elim (same_or_not u t) [
            | inl y ↦ subst (λ z. Owes (b z) (local_of s' z)) (sym y) mine
            | inr y ↦ subst (λ l. Owes (b u) l) (sym (same_other u y))
                (subst (λ m. Owes m (local_of s u)) (sym (others u y)) (f.owes u un))
          ]

          quiet : Kept → Later
          quiet same =
              let fewer : total (put f.time t n) op.threads + 1 ≤ total f.time op.threads =
              total_less f.time (put f.time t n) op.threads t tn
              (let e : put f.time t n t ≡ n = put_this f.time t n in omega arith) (λ v d. put_that f.time t n v d) in (
                price (sizes op) * total f.stores op.threads + total (put f.time t n) op.threads,
                (let z : moves calls T s (Go t) ≡ 1 = weighs_one in let w = f.within in omega arith),
                record {
                  time = put f.time t n;
                  stores = f.stores;
                  times = times_by (put f.time t n) (put_this f.time t n) (λ u un d.
                      subst (λ m. Fits (sizes op) s'.words m (local_of s u)) (sym (put_that f.time t n u d))
                      (fits_on same (f.time u) (local_of s u) (f.times u un)));
                  owes = owes_by f.stores (elim (f.owes t tn) [
                    | inl h ↦ inl h
                    | inr h ↦
                        (let q = late h.0 in
                        let a : S.left 0 (λ a. 0) L' < S.left 0 (λ a. 0) L = q.1 in
                        let b : S.left 0 (λ a. 0) L < f.stores t = h.1 in
                        inr (q.0, omega arith))
                  ]) (λ u d. refl);
                  within = omega arith;
                },
              )

          stores_on : LateBy S 5 L → (m : ℕ) → f.stores t ≡ suc m → S.left 0 (λ a. 0) L < suc m → Later
          stores_on x m e few =
              let fewer : total (put f.stores t m) op.threads + 1 ≤ total f.stores op.threads =
              total_less f.stores (put f.stores t m) op.threads t tn
              (let e' : put f.stores t m t ≡ m = put_this f.stores t m in omega arith) (λ v d. put_that f.stores t m v d) in
              let costs : price (sizes op) * total (put f.stores t m) op.threads + price (sizes op)
              ≤ price (sizes op) * total f.stores op.threads = one_price (price (sizes op)) (total (put f.stores t m) op.threads)
              (total f.stores op.threads) (omega arith) in
              let less : total again op.threads + 1 ≤ total f.time op.threads + op.threads * most (sizes op) =
              total_step f.time again op.threads t (most (sizes op)) 1 tn
              (let e' : again t ≡ n = put_this (λ u. most (sizes op)) t n in omega arith)
              (λ v vn d. let e' : again v ≡ most (sizes op) = put_that (λ u. most (sizes op)) t n v d in omega arith) in (
                price (sizes op) * total (put f.stores t m) op.threads + total again op.threads,
                (let z : moves calls T s (Go t) ≡ 1 = weighs_one in let w = f.within in omega arith),
                record {
                  time = again;
                  stores = put f.stores t m;
                  times = times_by again (put_this (λ u. most (sizes op)) t n) (λ u un d.
                      inl (let e' : again u ≡ most (sizes op) = put_that (λ u. most (sizes op)) t n u d in omega arith));
                  owes = owes_by (put f.stores t m) (
                      let q = late x.0 in
                      let a : S.left 0 (λ a. 0) L' < S.left 0 (λ a. 0) L = q.1 in
                      let e' : put f.stores t m t ≡ m = put_this f.stores t m in
                      inr (q.0, omega arith)) (λ u d. put_that f.stores t m u d);
                  within = omega arith;
                },
              )

          stores_more : LateBy S 5 L → Later
          stores_more x =
              let x' : S.left 0 (λ a. 0) L < 5 = x.1 in
              let few : S.left 0 (λ a. 0) L < f.stores t = elim (f.owes t tn) [
                | inl h ↦ omega arith
                | inr h ↦ h.1
              ] in
              elim (one_or_more (f.stores t)) [
                | inl z ↦ absurd (omega arith)
                | inr z ↦ (let e : f.stores t ≡ z.0 + 1 = z.1 in stores_on x z.0 (omega arith) (omega arith))
              ]

      time_now : calls L.call ≡ 1 → Timed S (node_count (sizes op)) s.words (f.time t) L
      time_now one = elim (f.times t tn) [
        | inl h ↦ timed_more S (node_count (sizes op)) (node_key s.words) (node_link s.words) L (most (sizes op)) (f.time t) h
            (shows.rows op last k t es r (omega arith) tn en.1).time
        | inr h ↦ h.2
      ]

      freely : EndsNow ⊎ Later
      freely = elim (counts.one_or_none L.call) [
        | inl none ↦ inr (elim (late_or_keeps S T (sizes op) s.words t L (T.next L) here) [
          | inl x ↦ absurd (not_late none x.0)
          | inr same ↦ passes none same
        ])
        | inr one ↦ elim (one_or_more (f.time t)) [
          | inl z ↦ absurd (no_time S (node_count (sizes op)) (node_key s.words) (node_link s.words) L
              (subst (λ n. Timed S (node_count (sizes op)) s.words n L) z (time_now one)))
          | inr z ↦
              (let is : f.time t ≡ suc z.0 = z.1 ∙ (omega arith) in
              let time : Timed S (node_count (sizes op)) s.words (suc z.0) L =
              subst (λ n. Timed S (node_count (sizes op)) s.words n L) is (time_now one) in
              elim (own_step T law S most shows op last k t es r (omega arith) tn en.1 free) [
                | inl a ↦ inl (a, weighs_one one z.0 is time)
                | inr g ↦
                    (let calm = counts.calm op last k t es r (omega arith) tn en.1 one free in
                    let goes_on : (L'.pc ≢ 0) × Timed S (node_count (sizes op)) s'.words z.0 L' =
                    (g.busy, g.near calm z.0 time) in
                    inr (elim (late_or_keeps S T (sizes op) s.words t L (T.next L) here) [
                      | inl x ↦ stores_more one z.0 is time goes_on g.late x
                      | inr same ↦ quiet one z.0 is time goes_on g.late same
                    ]))
              ])
        ]
      ]

    by_action : (a : Action) → T.next L ≡ a → Row a → EndsNow ⊎ Later
    by_action (Load w) acts y = freely (subst (λ a. IsFree s.words a) (sym acts) tt)
    by_action (Store w v) acts y = freely (subst (λ a. IsFree s.words a) (sym acts) tt)
    by_action (Exchange w from to) acts y = elim (same_or_not (slice_index s.words w) 0) [
      | inl z ↦ freely (subst (λ a. IsFree s.words a) (sym acts) z)
      | inr z ↦ inr (fails w from to acts y z)
    ]

    goes_down : EndsNow ⊎ Later
    goes_down = by_action (T.next L) refl (row T law S most shows op last k t es r (omega arith) tn en.1)

  -- ---- Proof for a whole run
  module _ (op : Opening) (last : ℕ) (es : ℕ → Event) (r : Run T op es last) where
    one_event : (k p : ℕ) → k < last → Phase (sizes op) (state_at T op es k) p → (e : Event) → es k ≡ e
        → Enabled (state_at T op es k) e → Then T (moves calls T) op es (Phase (sizes op)) k p e
    one_event k p l f (Begin t c) ee en = inr (p, omega arith, begins (sizes op) (state_at T op es k) t c en p f)
    one_event k p l f (Go t) ee en = elim (goes_down op last k es r l t ee en p f) [
      | inl a ↦ inl (t, refl, a.0, a.1)
      | inr x ↦ inr x
    ]

    none_left : 0 < most (sizes op) → (k : ℕ) → k ≤ last → Phase (sizes op) (state_at T op es k) 0 → ⊥
    none_left some k l f =
        let first : 0 < op.threads = r.opens.within.some in
        let h : f.time 0 ≤ total f.time op.threads = total_at f.time op.threads 0 first in
        let w : price (sizes op) * total f.stores op.threads + total f.time op.threads ≤ 0 = f.within in
        let z : f.time 0 ≡ 0 = omega arith in
        elim (subst (λ n. Fits (sizes op) (state_at T op es k).words n (local_of (state_at T op es k) 0)) z (f.times 0 first)) [
          | inl g ↦ omega arith
          | inr g ↦ no_time S (node_count _) (node_key _) (node_link _) _ g.2
        ]

    starts : (k : ℕ) → Phase (sizes op) (state_at T op es k) (lock_window most (sizes op))
    starts k =
        let a : total (λ u. 5) op.threads ≡ op.threads * 5 = total_all 5 op.threads in
        let b : total (λ u. most (sizes op)) op.threads ≡ op.threads * most (sizes op) = total_all (most (sizes op)) op.threads in
        record {
          time = λ u. most (sizes op);
          stores = λ u. 5;
          times = λ u un. inl (omega arith);
          owes = λ u un. inl (omega arith);
          within = rw (a, b) (omega arith);
        }

  pub is_livelock_free : ((sz : Sizes) → 0 < most sz) → IsLivelockFree calls T (lock_window most)
  is_livelock_free some op k n es r h = some_ends T (moves calls T) op es (Phase (sizes op)) (k + n)
      (λ j p l f. one_event op (k + n) es r j p l f (es j) refl (r.enabled j l)) (none_left op (k + n) es r (some (sizes op)))
      n k (lock_window most (sizes op)) (omega arith) (starts op (k + n) es r k) h

-- Lemma: if no step has a requirement on the shared words (`calm` always holds), the steps of all calls can be counted.
pub each_counts : (T : Table) (S : Shape) → ((ws : List ℕ) (l : Local) → S.calm ws l) → Counts T S (λ call. 1)
each_counts T S calm = record {
  one_or_none = λ call. inr refl;
  holds = λ op last k t x es r l tn h. refl;
  reads = λ op last k t es r l tn busy none. absurd (omega arith);
  late = λ op last k t es r l tn h. refl;
  calm = λ op last k t es r l tn busy one free. calm (state_at T op es k).words (local_of (state_at T op es k) t);
}
