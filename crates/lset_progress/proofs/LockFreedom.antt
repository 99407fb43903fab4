-- Proof that LockFreeList is lock-free. As long as no call ends, no node is added, so each thread marks at most one
-- node, and each node is unlinked at most once. Between two exchanges that mark or unlink a node, each thread takes at
-- most the steps of its current walk and of one additional walk. A potential, computed from the numbers of exchanges
-- and steps, decreases with each counted step.
use Rattle.std.specs.Prelude.{◌≡◌, ◌≢◌, ℕ, ◌+◌, ◌*◌, ◌%◌, ◌<◌, ◌≤◌, ◌⊎◌, Bool, true, List, if◌then◌else◌, ◌==◌, refl}
use Rattle.std.proofs.Common.{arith, inl, inr, sym, ◌∙◌, ap, subst, suc}
use Rattle.lset_words.proofs.Numbers.{same_or_not, if_same, if_other}
use Rattle.lset_words.specs.declared.Call.{Call}
use Rattle.lset_words.specs.declared.Call.TheVariants as call
use Rattle.lset_words.specs.Words.{node_count, Sizes, Opening, sizes}
use Rattle.lset_words.specs.Log.{has_changed}
use Rattle.lset_steps.specs.declared.Event.{Event}
use Rattle.lset_steps.specs.declared.Event.TheVariants.{Begin, Go}
use Rattle.lset_steps.specs.declared.Local.{Local}
use Rattle.lset_steps.specs.Steps.{State, Run, Enabled, state_at, after, local_of, seen_next, log_of}
use Rattle.lset_steps.specs.Chain.{View, InChain, view, node_link}
use Rattle.lset_steps.specs.Laws.{views, view_of, used_in}
use Rattle.lset_steps.proofs.Discipline.{put_same, put_other}
use Rattle.lset_steps.proofs.MarkMove.{mark_back}
use Rattle.lset_steps.proofs.Memory.{inside}
use Rattle.lset_steps.proofs.Moves.{Quiet, Marks, Unlinks}
use Rattle.lset_steps.proofs.QuietMove.{in_chain_published, quiet_back, quiet_keeps, quiet-ordered}
use Rattle.lset_steps.proofs.UnlinkMove.{unlink_back, unlink_curr}
use Rattle.lset_lock_free.specs.LockFree.{lock_free}
use Rattle.lset_lock_free.specs.Lawful.{lock_free_lawful}
use Rattle.lset_progress.specs.Progress.{IsCeiling, Answers, IsLockFree, counted, steps_of, lock_free_steps, lock_free_window}
use Rattle.lset_progress.proofs.Holders.{one_or_more}
use Rattle.lset_progress.proofs.LockFreeProgress.{Timed, Valid, shape, round, left, full_time, own_step}
use Rattle.lset_progress.proofs.LockFreeSteps.{IsUpdate, Known, Place, Stepped, known, place_of, walk_at, ceiling_at_marks}
use Rattle.lset_progress.proofs.LockFreeSteps.{step_is, same_call, keys_on}
use Rattle.lset_progress.proofs.LockFreeSteps.Stepped.{still, marks, unlinks}
use Rattle.lset_progress.proofs.Rest.{SameKeys}
use Rattle.lset_progress.proofs.RowsWithLocks.{no_time, timed_more}
use Rattle.lset_progress.proofs.StepTotals.{total, total_less, total_all, total_at, total_step, one_price, put, put_this, put_that}
use Rattle.lset_progress.proofs.Windows.{Then, some_ends, counted_or_not}

-- Holds if m steps are enough for any whole call, or if the thread has a pending call whose steps are counted and m
-- steps are enough for the rest of the call. The rest includes one additional walk if other threads have changed the
-- nodes of the current walk.
abbrev Fits : Bool → Sizes → (ℕ → ℕ) → List ℕ → ℕ → Local → Type 0
Fits reads sz key ws m l = (lock_free_steps sz ≤ m)
    ⊎ ((l.pc ≢ 0) × (counted reads l.call ≡ 1) × Timed (node_count sz) key ws m l)

-- Returns an upper bound on the number of steps that a single successful exchange can add to the steps that all threads
-- together still need.
abbrev price : Sizes → ℕ
price sz = sz.threads * round (node_count sz)

record Phase (reads : Bool) (sz : Sizes) (s : State) (p : ℕ) : Type 0 where
  key : ℕ → ℕ
  -- For each thread, `time` is a number of steps that is enough for the thread's call (see `Fits`), and `may_mark` is 1
  -- if the thread can still mark a node. For each node, `may_leave` is 1 if the node can still be unlinked.
  time : ℕ → ℕ
  may_mark : ℕ → ℕ
  may_leave : ℕ → ℕ
  agrees : SameKeys key (view_of sz s)
  times : (u : ℕ) → u < sz.threads → Fits reads sz key s.words (time u) (local_of s u)
  markers : (u : ℕ) → u < sz.threads → (local_of s u).pc ≢ 10 → may_mark u ≡ 1
  nodes : (a : ℕ) → a < node_count sz → InChain (view_of sz s) a → may_leave a ≡ 1
  within : price sz * (total may_leave (node_count sz) + total may_mark sz.threads) + total time sz.threads ≤ p

no_ceiling : (reads : Bool) (c : Call) → counted reads c ≡ 1 → IsCeiling c → ⊥
no_ceiling reads (call.Add k) e i = i
no_ceiling reads (call.Remove k) e i = i
no_ceiling reads (call.Contains k) e i = i
no_ceiling reads (call.Ceiling k) e i = omega arith

update_counts : (reads : Bool) (c : Call) → IsUpdate c → counted reads c ≡ 1
update_counts reads c (inl x) = subst (λ z. counted reads z ≡ 1) (sym x.1) refl
update_counts reads c (inr x) = subst (λ z. counted reads z ≡ 1) (sym x.1) refl

-- ---- Lemmas about the number of steps that is enough for a thread after a step of another thread
module _ (reads : Bool) (sz : Sizes) (s s' : State) (done : Bool) (l : Local) (x : Quiet (view_of sz s) (view_of sz s'))
    (place : Place (view_of sz s) done l) where
  valid_on : (IsCeiling l.call → ⊥) → Valid (node_link s.words) l → Valid (node_link s'.words) l
  valid_on other v = record {
    follows = λ a b. x.links l.pred (walk_at place a (omega arith)).0 ∙ v.follows a b;
    unmarked = λ e. x.links l.curr (walk_at place (omega arith) (omega arith)).1 ∙ v.unmarked e;
    plain = λ e. ap (λ z. z % 2) (x.links l.curr (walk_at place (omega arith) (omega arith)).1) ∙ v.plain e;
    same = λ e. x.links l.curr (walk_at place (omega arith) (omega arith)).1 ∙ v.same e;
    along = λ h. absurd (other (ceiling_at_marks place h));
  }

  fits_on : (key : ℕ → ℕ) (m : ℕ) → Fits reads sz key s.words m l → Fits reads sz key s'.words m l
  fits_on key m (inl h) = inl h
  fits_on key m (inr f) = inr (
    f.0,
    f.1,
    elim f.2 [
      | inl v ↦ inl (valid_on (no_ceiling reads l.call f.1) v.0, v.1)
      | inr h ↦ inr h
    ],
  )

fits_later : (reads : Bool) (sz : Sizes) (key : ℕ → ℕ) (ws ws' : List ℕ) (m : ℕ) (l : Local) → Fits reads sz key ws m l
    → Fits reads sz key ws' (m + round (node_count sz)) l
fits_later reads sz key ws ws' m l (inl h) = inl (omega arith)
fits_later reads sz key ws ws' m l (inr f) = inr (
  f.0,
  f.1,
  elim f.2 [
    | inl v ↦ inr (let h : left (node_count sz) key l < m = v.1 in omega arith)
    | inr h ↦ inr (omega arith)
  ],
)

module _ (reads : Bool) (op : Opening) (last k : ℕ) (es : ℕ → Event) (r : Run lock_free op es last) (upto : k ≤ last) (t : ℕ)
    (c : Call)
    (en : Enabled (state_at lock_free op es k) (Begin t c)) (p : ℕ)
    (f : Phase reads (sizes op) (state_at lock_free op es k) p) where
  abbrev B : State
  B = state_at lock_free op es k

  abbrev B' : State
  B' = after lock_free B (Begin t c)

  other : (u : ℕ) → u ≢ t → local_of B' u ≡ local_of B u
  other u d = put_other B t u (lock_free.begin c (local_of B t)) d

  used_at : (u : ℕ) → used_in B' u ≡ used_in B u
  used_at u = elim (same_or_not u t) [
    | inl y ↦ subst (λ z. used_in B' z ≡ used_in B z) (sym y)
        (ap (λ (l : Local). l.used) (put_same B t (lock_free.begin c (local_of B t)) en.0)
        ∙ (lock_free_lawful.begins c (local_of B t)).used)
    | inr y ↦ ap (λ (l : Local). l.used) (other u y)
  ]

  same_view : view_of (sizes op) B' ≡ view_of (sizes op) B
  same_view = ap (λ u. view (sizes op) B.words u) (λ j u. used_at u j)

  begins : Phase reads (sizes op) B' p
  begins = record {
    key = f.key;
    time = f.time;
    may_mark = f.may_mark;
    may_leave = f.may_leave;
    agrees = subst (λ v. SameKeys f.key v) (sym same_view) f.agrees;
    times = λ u un. elim (same_or_not u t) [
      | inl y ↦ elim (f.times u un) [
        | inl h ↦ inl h
        | inr h ↦ absurd (h.0 (ap (λ z. (local_of B z).pc) y ∙ en.1))
      ]
      | inr y ↦ subst (λ l. Fits reads (sizes op) f.key B.words (f.time u) l) (sym (other u y)) (f.times u un)
    ];
    markers = λ u un h. elim (same_or_not u t) [
      | inl y ↦ f.markers u un (λ z. let e : (local_of B u).pc ≡ 0 = ap (λ z. (local_of B z).pc) y ∙ en.1 in omega arith)
      | inr y ↦ f.markers u un (λ z. h (ap (λ (l : Local). l.pc) (other u y) ∙ z))
    ];
    nodes = λ a an i. f.nodes a an (subst (λ v. InChain v a) same_view i);
    within = f.within;
  }

-- Lemmas: a counted step decreases the potential by at least 1, unless the step ends its call. No other step increases
-- the potential.
module _ (reads : Bool) (op : Opening) (last k : ℕ) (es : ℕ → Event) (r : Run lock_free op es last) (below : k < last) (t : ℕ)
    (en : Enabled (state_at lock_free op es k) (Go t)) (p : ℕ) (f : Phase reads (sizes op) (state_at lock_free op es k) p) where
  abbrev S : State
  S = state_at lock_free op es k

  abbrev S' : State
  S' = after lock_free S (Go t)

  abbrev V : View
  V = view_of (sizes op) S

  abbrev W : View
  W = view_of (sizes op) S'

  abbrev size : ℕ
  size = node_count (sizes op)

  i : Known op k es
  i = known op last k es r (omega arith)

  tn : t < op.threads
  tn = rw (sym i.locals) en.0

  other_same : (u : ℕ) → u ≢ t → local_of S' u ≡ local_of S u
  other_same u d = put_other S t u (lock_free.feed (local_of S t) (seen_next lock_free S t)).local d

  abbrev EndsNow : Type 0
  EndsNow = Answers lock_free S t × (counted reads (local_of S t).call ≡ 1)

  record Own : Type 0 where
    left_now : ℕ
    less : left_now + counted reads (local_of S t).call ≤ f.time t
    fits : Fits reads (sizes op) f.key S'.words left_now (local_of S' t)

  counts_down : counted reads (local_of S t).call ≡ 1
      → Timed size f.key S.words (f.time t) (local_of S t) → EndsNow ⊎ Own
  counts_down one time = elim (one_or_more (f.time t)) [
    | inl z ↦ absurd (no_time shape size f.key (node_link S.words) (local_of S t)
        (subst (λ n. Timed size f.key S.words n (local_of S t)) z time))
    | inr z ↦
        (let is : f.time t ≡ suc z.0 = z.1 ∙ (omega arith) in
        elim (own_step op last k es r (omega arith) f.key f.agrees t tn z.0 (record {
          open_call = en.1;
          plain = λ h. absurd (no_ceiling reads (local_of S t).call one (ceiling_at_marks (place_of (i.threads t tn).at) h));
          time = subst (λ n. Timed size f.key S.words n (local_of S t)) is time;
        })) [
          | inl a ↦ inl (a, one)
          | inr g ↦ inr (record {
            left_now = z.0;
            less = omega arith;
            fits = inr (g.open_call, subst (λ c. counted reads c ≡ 1) (sym (same_call op last es r k below t en)) one, g.time);
          })
        ])
  ]

  own : EndsNow ⊎ Own
  own = elim (counted_or_not reads (local_of S t).call) [
    | inl none ↦ elim (f.times t tn) [
      | inl h ↦ inr (record { left_now = f.time t; less = omega arith; fits = inl h })
      | inr h ↦ absurd (let one : counted reads (local_of S t).call ≡ 1 = h.1 in omega arith)
    ]
    | inr one ↦ elim (f.times t tn) [
      | inl h ↦ counts_down one (timed_more shape size f.key (node_link S.words) (local_of S t) (lock_free_steps (sizes op))
          (f.time t) h
          (full_time op last k es r (omega arith) f.key f.agrees t tn en.1))
      | inr h ↦ counts_down one h.2
    ]
  ]

  abbrev Later : Type 0
  Later = (p' : ℕ) × (p' + counted reads (local_of S t).call ≤ p) × Phase reads (sizes op) S' p'

  module _ (o : Own) (x : Stepped V W (local_of S' t)) (marked : (local_of S t).pc ≢ 10) where
    abbrev time_then : ℕ → ℕ → ℕ
    time_then more u = if u == t then o.left_now else f.time u + more

    agrees_then : SameKeys f.key W
    agrees_then = keys_on f.key x f.agrees

    times_then : (more : ℕ) → ((u : ℕ) → u < op.threads → u ≢ t
        → Fits reads (sizes op) f.key S'.words (f.time u + more) (local_of S u)) → (u : ℕ) → u < op.threads
        → Fits reads (sizes op) f.key S'.words (time_then more u) (local_of S' u)
    times_then more others u un = elim (same_or_not u t) [
      | inl y ↦ subst (λ z. Fits reads (sizes op) f.key S'.words (time_then more z) (local_of S' z)) (sym y)
          (subst (λ n. Fits reads (sizes op) f.key S'.words n (local_of S' t))
          (sym (if_same t t refl o.left_now (f.time t + more))) o.fits)
      | inr y ↦ subst (λ n. Fits reads (sizes op) f.key S'.words n (local_of S' u))
          (sym (if_other u t y o.left_now (f.time u + more)))
          (subst (λ l. Fits reads (sizes op) f.key S'.words (f.time u + more) l) (sym (other_same u y)) (others u un y))
    ]

    total_then : (more : ℕ) → total (time_then more) op.threads + counted reads (local_of S t).call
        ≤ total f.time op.threads + op.threads * more
    total_then more = total_step f.time (time_then more) op.threads t more (counted reads (local_of S t).call) tn
        (let e : time_then more t ≡ o.left_now = if_same t t refl o.left_now (f.time t + more) in
        let h : o.left_now + counted reads (local_of S t).call ≤ f.time t = o.less in omega arith)
        (λ u un d. let e : time_then more u ≡ f.time u + more = if_other u t d o.left_now (f.time u + more) in omega arith)

    markers_then : (u : ℕ) → u < op.threads → (local_of S' u).pc ≢ 10 → f.may_mark u ≡ 1
    markers_then u un h = elim (same_or_not u t) [
      | inl y ↦ f.markers u un (λ z. marked (ap (λ z. (local_of S z).pc) (sym y) ∙ z))
      | inr y ↦ f.markers u un (λ z. h (ap (λ (l : Local). l.pc) (other_same u y) ∙ z))
    ]

    disturbed : (u : ℕ) → u < op.threads → u ≢ t → Fits reads (sizes op) f.key S'.words (f.time u + round size) (local_of S u)
    disturbed u un d = fits_later reads (sizes op) f.key S.words S'.words (f.time u) (local_of S u) (f.times u un)

    later : (more : ℕ) (mark leave : ℕ → ℕ)
        → price (sizes op) * (total leave size + total mark op.threads) + total (time_then more) op.threads
        + counted reads (local_of S t).call ≤ p
        → ((u : ℕ) → u < op.threads → u ≢ t → Fits reads (sizes op) f.key S'.words (f.time u + more) (local_of S u))
        → ((u : ℕ) → u < op.threads → (local_of S' u).pc ≢ 10 → mark u ≡ 1)
        → ((a : ℕ) → a < size → InChain W a → leave a ≡ 1) → Later
    later more mark leave within others markers nodes = (
      price (sizes op) * (total leave size + total mark op.threads) + total (time_then more) op.threads,
      within,
      record {
        key = f.key;
        time = time_then more;
        may_mark = mark;
        may_leave = leave;
        agrees = agrees_then;
        times = times_then more others;
        markers = markers;
        nodes = nodes;
        within = omega arith;
      },
    )

    quietly : Quiet V W → Later
    quietly q = later 0 f.may_mark f.may_leave
        (let a : total (time_then 0) op.threads + counted reads (local_of S t).call ≤ total f.time op.threads + op.threads * 0 =
        total_then 0 in
        let b = f.within in omega arith)
        (λ u un d. subst (λ n. Fits reads (sizes op) f.key S'.words n (local_of S u)) (omega arith)
        (fits_on reads (sizes op) S S' (has_changed (log_of lock_free op es) u k) (local_of S u) q
        (place_of (i.threads u un).at) f.key
        (f.time u) (f.times u un)))
        markers_then
        (λ a an ia. f.nodes a an (quiet_keeps W V (quiet-ordered V W i.memory.ordered q) (quiet_back V W q) a ia))

    -- Lemma: a successful exchange makes up for the additional walks that it causes. After the exchange, one thread
    -- fewer can mark a node, or one node fewer can be unlinked.
    disturbs : (mark leave : ℕ → ℕ) → total leave size + total mark op.threads + 1 ≤ total f.may_leave size + total f.may_mark
        op.threads
        → ((u : ℕ) → u < op.threads → (local_of S' u).pc ≢ 10 → mark u ≡ 1)
        → ((a : ℕ) → a < size → InChain W a → leave a ≡ 1) → Later
    disturbs mark leave less markers nodes = later (round size) mark leave
        (let m : price (sizes op) * (total leave size + total mark op.threads) + price (sizes op)
        ≤ price (sizes op) * (total f.may_leave size + total f.may_mark op.threads) =
        one_price (price _) (total leave size + total mark op.threads) (total f.may_leave size + total f.may_mark op.threads)
        less in
        let a : total (time_then (round size)) op.threads + counted reads (local_of S t).call
        ≤ total f.time op.threads + price (sizes op) = total_then (round size) in
        let b = f.within in omega arith) disturbed markers nodes

    marking : (b j : ℕ) → Marks V W b j → (local_of S' t).pc ≡ 10 → Later
    marking b j q ten =
        let fewer : total (put f.may_mark t 0) op.threads + 1 ≤ total f.may_mark op.threads =
        total_less f.may_mark (put f.may_mark t 0) op.threads t tn
        (let e : put f.may_mark t 0 t ≡ 0 = put_this f.may_mark t 0 in
        let g : f.may_mark t ≡ 1 = f.markers t tn marked in omega arith)
        (λ v d. put_that f.may_mark t 0 v d) in
        disturbs (put f.may_mark t 0) f.may_leave (omega arith)
        (λ u un h. elim (same_or_not u t) [
          | inl y ↦ absurd (h (ap (λ z. (local_of S' z).pc) y ∙ ten))
          | inr y ↦ put_that f.may_mark t 0 u y ∙ markers_then u un h
        ])
        (λ a an ia. f.nodes a an (mark_back V W i.memory.ordered b j q a ia))

    unlinking : (pred curr : ℕ) → Unlinks V W pred curr → Later
    unlinking pred curr q =
        let was : InChain V curr = unlink_curr V W i.memory.ordered pred curr q in
        let inn : curr < node_count (sizes op) = inside true (sizes op) S.words (used_in S) i.memory curr
        (in_chain_published V i.memory.ordered curr was) in
        let fewer : total (put f.may_leave curr 0) size + 1 ≤ total f.may_leave size =
        total_less f.may_leave (put f.may_leave curr 0) size curr inn
        (let e : put f.may_leave curr 0 curr ≡ 0 = put_this f.may_leave curr 0 in
        let g : f.may_leave curr ≡ 1 = f.nodes curr inn was in omega arith)
        (λ v d. put_that f.may_leave curr 0 v d) in
        disturbs f.may_mark (put f.may_leave curr 0) (omega arith) markers_then (λ a an ia.
        let b : InChain V a × (a ≢ curr) = unlink_back V W i.memory.ordered pred curr q a ia in
        put_that f.may_leave curr 0 a b.1 ∙ f.nodes a an b.0)

    onward : Stepped V W (local_of S' t) → Later
    onward (still q) = quietly q
    onward (marks b j q ten) = marking b j q ten
    onward (unlinks pred curr q) = unlinking pred curr q

  goes : EndsNow ⊎ Later
  goes = elim (step_is op last es r k below t en) [
    | inl a ↦ inl (a.0, update_counts reads (local_of S t).call a.1)
    | inr x ↦ elim own [
      | inl a ↦ inl a
      | inr o ↦ inr (onward o x.0 x.1 x.0)
    ]
  ]

-- Lemmas: in a whole run, the potential bounds the number of counted steps until a call ends. A step is counted if it
-- is a step of an `add`, a `remove`, or, if `reads` is true, a `contains`.
module _ (reads : Bool) (op : Opening) (last : ℕ) (es : ℕ → Event) (r : Run lock_free op es last) where
  abbrev Event' : ℕ → ℕ → Event → Type 0
  Event' k p e = Then lock_free (steps_of reads) op es (Phase reads (sizes op)) k p e

  one_event : (k p : ℕ) → k < last → Phase reads (sizes op) (state_at lock_free op es k) p → (e : Event)
      → Enabled (state_at lock_free op es k) e → Event' k p e
  one_event k p l f (Begin t c) en = inr (p, omega arith, begins reads op last k es r (omega arith) t c en p f)
  one_event k p l f (Go t) en = elim (goes reads op last k es r l t en p f) [
    | inl a ↦ inl (t, refl, a.0, a.1)
    | inr x ↦ inr x
  ]

  none_left : (k : ℕ) → k ≤ last → Phase reads (sizes op) (state_at lock_free op es k) 0 → ⊥
  none_left k l f =
      let some : 0 < op.threads = r.opens.within.some in
      let h : f.time 0 ≤ total f.time op.threads = total_at f.time op.threads 0 some in
      let w : price (sizes op) * (total f.may_leave (node_count (sizes op)) + total f.may_mark op.threads)
      + total f.time op.threads ≤ 0 = f.within in
      let z : f.time 0 ≡ 0 = omega arith in
      elim (subst (λ n. Fits reads (sizes op) f.key (state_at lock_free op es k).words n
      (local_of (state_at lock_free op es k) 0)) z (f.times 0 some)) [
        | inl g ↦ omega arith
        | inr g ↦ no_time shape (node_count _) f.key (node_link _) _ g.2
      ]

  starts : (k : ℕ) → Phase reads (sizes op) (state_at lock_free op es k) (lock_free_window (sizes op))
  starts k =
      let a : total (λ b. 1) (node_count (sizes op)) ≡ node_count (sizes op) = total_all 1 (node_count (sizes op))
      ∙ (omega arith) in
      let b : total (λ u. 1) op.threads ≡ op.threads = total_all 1 op.threads ∙ (omega arith) in
      let c : total (λ u. lock_free_steps (sizes op)) op.threads ≡ op.threads * lock_free_steps (sizes op) =
      total_all (lock_free_steps (sizes op)) op.threads in
      record {
        key = (views lock_free op es k).key;
        time = λ u. lock_free_steps (sizes op);
        may_mark = λ u. 1;
        may_leave = λ b. 1;
        agrees = λ a p. refl;
        times = λ u un. inl (omega arith);
        markers = λ u un h. refl;
        nodes = λ a an ia. refl;
        within = rw (a, b, c) (omega arith);
      }

pub lock_free_is_lock_free : IsLockFree lock_free lock_free_window
lock_free_is_lock_free reads op k n es r h =
    some_ends lock_free (steps_of reads) op es (Phase reads (sizes op)) (k + n)
    (λ j p l f. one_event reads op (k + n) es r j p l f (es j) (r.enabled j l)) (none_left reads op (k + n) es r)
    n k (lock_free_window (sizes op)) (omega arith) (starts reads op (k + n) es r k) h
