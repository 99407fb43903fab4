-- Proof of the laws of progress for a list with locks, from the facts about each row of the step table. A call that
-- runs alone ends. While a call is pending, some thread can take a step that is not a failed attempt to take a lock.
use Rattle.std.specs.Prelude.{◌≡◌, ◌≢◌, ℕ, ◌+◌, ◌<◌, ◌≤◌, ◌⊎◌, List, slice_index, length, Some, refl}
use Rattle.std.proofs.Common.{arith, inl, inr, sym, ◌∙◌, ap, subst, zero, suc}
use Rattle.lset_words.proofs.Numbers.{same_or_not}
use Rattle.lset_words.specs.declared.Call.{Call}
use Rattle.lset_words.specs.declared.Reply.{Reply}
use Rattle.lset_words.specs.Words.{node_count, word_count, Sizes, Opening, sizes}
use Rattle.lset_steps.specs.declared.Action.{Action}
use Rattle.lset_steps.specs.declared.Action.TheVariants.{Load, Store, Exchange}
use Rattle.lset_steps.specs.declared.Event.{Event}
use Rattle.lset_steps.specs.declared.Event.TheVariants.{Go}
use Rattle.lset_steps.specs.declared.Fed.{Fed}
use Rattle.lset_steps.specs.declared.Local.{Local}
use Rattle.lset_steps.specs.Steps.{Table, State, Run, Enabled, state_at, after, local_of, seen_by, seen_next, left_by}
use Rattle.lset_steps.specs.Chain.{node_key, node_link}
use Rattle.lset_steps.specs.Laws.{Lawful, IsLockWord, word_named}
use Rattle.lset_steps.specs.Promises.{held}
use Rattle.lset_steps.proofs.Discipline.{put_same}
use Rattle.lset_progress.specs.Progress.{IsPending, Answers, NoOtherHolds, CallsEndAlone, GetsOn, SomeThreadGetsOn}
use Rattle.lset_progress.proofs.Alone.{Nears, ends_alone}
use Rattle.lset_progress.proofs.Holders.{MayHold, after_store, after_try, holder_known, one_or_more, try_succeeds, others_wait}
use Rattle.lset_progress.proofs.Rest.{SameList, stay, tried}
use Rattle.lset_progress.proofs.RowsWithLocks.{Shape, LateBy, Timed, Goes, RowBy, RowOf, rank, timed_same, no_time}

pub record Shows (T : Table) (S : Shape) (most : Sizes → ℕ) : Type 0 where
  pub rows : (op : Opening) (last k t : ℕ) (es : ℕ → Event) → Run T op es last → k ≤ last → t < op.threads
      → IsPending (state_at T op es k) t
      → RowOf S (node_count (sizes op)) T (sizes op) (state_at T op es k).words t (most (sizes op))
      (local_of (state_at T op es k) t)
  pub rests : (l : Local) (x : ℕ) → l.pc ≡ 0 → S.may l x → ⊥
  pub late_busy : (l : Local) → S.late l → l.pc ≢ 0
  pub calm_alone : (op : Opening) (last k t : ℕ) (es : ℕ → Event) → Run T op es last → k ≤ last
      → NoOtherHolds (sizes op) (state_at T op es k) t → S.calm (state_at T op es k).words (local_of (state_at T op es k) t)

-- Returns the value that an exchange expects to find in the word, or `other` if the action is not an exchange.
abbrev expected : Action → ℕ → ℕ
expected (Exchange x old new) other = old
expected a other = other

-- Holds if the action is not an exchange, or if it is an exchange on a word that is 0 (a free lock).
abbrev pub IsFree : List ℕ → Action → Type 0
IsFree ws (Load w) = Unit {0}
IsFree ws (Store w v) = Unit {0}
IsFree ws (Exchange w from to) = slice_index ws w ≡ 0

-- ---- Lemmas about one step
module _ (S : Shape) (T : Table) (sz : Sizes) (ws : List ℕ) (t : ℕ) (l : Local) where
  abbrev size : ℕ
  size = node_count sz

  abbrev Row : Action → Type 0
  Row a = RowBy S size T sz ws t l a

  may_after : (x : ℕ) → (slice_index ws x ≡ t + 1 → S.may l x) → (a : Action) → Row a → held x t (slice_index ws x) a ≡ t + 1
      → S.may (T.feed l (seen_by ws a)).local x
  may_after x before (Load w) row h = row.keeps x tt (before h)
  may_after x before (Store w v) row h =
      let old = after_store x t t (slice_index ws x) w v h in
      elim row [
        | inl y ↦ y.0.keeps x (λ e. old.1 (sym e)) (before old.0)
        | inr y ↦ y.1.keeps x (λ e. old.1 (sym e)) (before old.0)
      ]
  may_after x before (Exchange w from to) row h = elim (same_or_not (slice_index ws w) 0) [
    | inl z ↦ subst (λ s. S.may (T.feed l s).local x) (sym z) (elim (after_try x t t (slice_index ws x) w from to h) [
      | inl old ↦ (row.taken z).keeps x tt (before old)
      | inr took ↦ subst (λ y. S.may (T.feed l 0).local y) took.0 row.mine
    ])
    | inr z ↦ subst (λ k. S.may k x) (sym (row.missed (slice_index ws w) z))
        (elim (after_try x t t (slice_index ws x) w from to h) [
          | inl old ↦ before old
          | inr took ↦ absurd (z (ap (slice_index ws) took.0 ∙ took.1))
        ])
  ]

  -- Holds if the action changes neither keys nor links.
  abbrev pub Keeps : Action → Type 0
  Keeps a = SameList ws (left_by ws a)

  pub late_or_keeps : (a : Action) → Row a → LateBy S 5 l ⊎ Keeps a
  late_or_keeps (Load w) row = inr (refl, refl)
  late_or_keeps (Store w v) (inl y) = inl y.1
  late_or_keeps (Store w v) (inr y) = inr (stay ws w v y.0)
  late_or_keeps (Exchange w from to) row = inr (tried ws w from to row.is_lock)

  -- Holds if the step ends the call, or leaves the call with fewer remaining steps.
  abbrev Comes : List ℕ → Fed → Type 0
  Comes ws' f = ((r : Reply) × (f.answer ≡ Some r)) ⊎ Goes S size (node_key ws) ws l (node_key ws') ws' f.local

  same_list : (ws' : List ℕ) (f : Fed) → SameList ws ws' → Comes ws f → Comes ws' f
  same_list ws' f same (inl a) = inl a
  same_list ws' f same (inr g) = inr (record {
    busy = g.busy;
    late = g.late;
    near = λ calm n time. timed_same S size ws ws' n f.local same.0 same.1 (g.near calm n time);
  })

  comes_by : (a : Action) → Row a → IsFree ws a → Comes (left_by ws a) (T.feed l (seen_by ws a))
  comes_by (Load w) row free = row.then
  comes_by (Store w v) (inl y) free = y.0.then
  comes_by (Store w v) (inr y) free = same_list (left_by ws (Store w v)) (T.feed l v) (stay ws w v y.0) y.1.then
  comes_by (Exchange w from to) row free = same_list (left_by ws (Exchange w from to)) (T.feed l (slice_index ws w))
      (tried ws w from to row.is_lock) (subst (λ s. Comes ws (T.feed l s)) (sym free) (row.taken free).then)

module _ (T : Table) (law : Lawful T) (S : Shape) (most : Sizes → ℕ) (shows : Shows T S most) where
  pub may : MayHold T S.may
  may = record {
    rests = shows.rests;
    steps = λ op last k t x es r l ee tn is inn before now.
        let s : State = state_at T op es k in
        let en : Enabled (state_at T op es k) (Go t) = subst (λ e. Enabled (state_at T op es k) e) ee (r.enabled k l) in
        may_after S T _ _ t _ x before (T.next _) (shows.rows op last k t es r (omega arith) tn en.1).by now;
  }

  -- Lemmas about a thread t with a pending call after the first k events of a run.
  module _ (op : Opening) (last k t : ℕ) (es : ℕ → Event) (r : Run T op es last) (upto : k ≤ last) (tn : t < op.threads)
      (busy : IsPending (state_at T op es k) t) where
    abbrev s : State
    s = state_at T op es k

    abbrev L : Local
    L = local_of s t

    pub row : RowBy S (node_count (sizes op)) T (sizes op) s.words t L (T.next L)
    row = (shows.rows op last k t es r upto tn busy).by

    inside : t < length s.locals
    inside = rw (law.states op last k es r upto).locals tn

    abbrev pub Nearer : Local → Type 0
    Nearer l = Goes S (node_count (sizes op)) (node_key s.words) s.words L (node_key (after T s (Go t)).words)
        (after T s (Go t)).words l

    pub own_step : IsFree s.words (T.next L) → Answers T s t ⊎ Nearer (local_of (after T s (Go t)) t)
    own_step free = elim (comes_by S T (sizes op) s.words t L (T.next L) row free) [
      | inl a ↦ inl a
      | inr p ↦ inr (subst (λ l. Nearer l) (sym (put_same s t (T.feed L (seen_next T s t)).local inside)) p)
    ]

    free_alone : NoOtherHolds (sizes op) s t → (a : Action) → RowBy S (node_count (sizes op)) T (sizes op) s.words t L a
        → IsFree s.words a
    free_alone others (Load w) y = tt
    free_alone others (Store w v) y = tt
    free_alone others (Exchange w from to) y = try_succeeds T law S.may may op es last r k upto t others w y.is_lock y.inside
        (λ m. let h : rank (node_count (sizes op)) s.words w < rank (node_count (sizes op)) s.words w = y.last w m in omega arith)

  -- ---- Proof that a call that runs alone ends
  abbrev Stage : Sizes → State → ℕ → ℕ → Type 0
  Stage sz s t n = NoOtherHolds sz s t × IsPending s t × Timed S (node_count sz) s.words n (local_of s t)

  nears : Nears T Stage
  nears = record {
    some = λ sz s t g. no_time S (node_count sz) (node_key s.words) (node_link s.words) _ g.2;
    pending = λ sz s t n g. g.1;
    steps = λ op es k t n r ee tn g.
        elim (own_step op (suc k) k t es r (omega arith) tn g.1
        (free_alone op (suc k) k t es r (omega arith) tn g.1 g.0 (T.next _) (row op (suc k) k t es r (omega arith) tn g.1))) [
          | inl a ↦ inl a
          | inr p ↦ inr (
            others_wait T law op es k t r ee g.0,
            p.busy,
            p.near (shows.calm_alone op (suc k) k t es r (omega arith) g.0) n g.2,
          )
        ];
  }

  pub calls_end : CallsEndAlone T most
  calls_end op k t es r tn busy others = ends_alone T law Stage nears op t tn (most (sizes op)) k es r
      (others, busy, (shows.rows op k k t es r (omega arith) tn busy).time)

  -- Lemmas: there is no deadlock, because a thread that waits for a lock holds only locks of nodes that are earlier in
  -- the list.
  module _ (calls : Call → ℕ) (op : Opening) (k : ℕ) (es : ℕ → Event) (r : Run T op es k)
      (holds : (u x : ℕ) → u < op.threads → S.may (local_of (state_at T op es k) u) x
      → calls (local_of (state_at T op es k) u).call ≡ 1) where
    abbrev now : State
    now = state_at T op es k

    abbrev rank_of : ℕ → ℕ
    rank_of w = rank (node_count (sizes op)) now.words w

    record Waits (u w : ℕ) : Type 0 where
      taken : slice_index now.words w ≢ 0
      is_lock : IsLockWord w
      inside : w < word_count (sizes op)
      last : (x : ℕ) → S.may (local_of now u) x → rank_of w < rank_of x

    goes_by : (u : ℕ) → Enabled now (Go u) → (a : Action) → T.next (local_of now u) ≡ a
        → RowBy S (node_count (sizes op)) T (sizes op) now.words u (local_of now u) a → GetsOn T now u ⊎ ((w : ℕ) × Waits u w)
    goes_by u en (Load w) acts y =
        inl (record { enabled = en; tries = λ x old new is e. absurd (let z = sym acts ∙ e in cc) })
    goes_by u en (Store w v) acts y =
        inl (record { enabled = en; tries = λ x old new is e. absurd (let z = sym acts ∙ e in cc) })
    goes_by u en (Exchange w from to) acts y = elim (same_or_not (slice_index now.words w) 0) [
      | inl z ↦ inl (record {
        enabled = en;
        tries = λ x old new is e. let same : Exchange w from to ≡ Exchange x old new = sym acts ∙ e in
            ap (slice_index now.words) (sym (ap word_named same)) ∙ z ∙ sym y.free ∙ ap (λ a. expected a 0) same;
      })
      | inr z ↦ inr (w, record { taken = z; is_lock = y.is_lock; inside = y.inside; last = y.last })
    ]

    goes_or_waits : (u : ℕ) → u < op.threads → IsPending now u → GetsOn T now u ⊎ ((w : ℕ) × Waits u w)
    goes_or_waits u un busy = goes_by u (rw (law.states op k k es r (omega arith)).locals un, busy) (T.next (local_of now u)) refl
        (row op k k u es r (omega arith) un busy)

    abbrev Meant : ℕ → Type 0
    Meant u = calls (local_of now u).call ≡ 1

    its_holder : (u w : ℕ) → Waits u w → (v : ℕ) × (v < op.threads) × IsPending now v × Meant v × S.may (local_of now v) w
    its_holder u w y = elim (one_or_more (slice_index now.words w)) [
      | inl z ↦ absurd (y.taken z)
      | inr h ↦
          (let x = holder_known T law S.may may op es k r w y.is_lock y.inside k (omega arith) h.0 h.1 in
          (h.0, x.0, (λ z. shows.rests (local_of now h.0) w z x.1), holds h.0 w x.0 x.1, x.1))
    ]

    abbrev SomeMeant : Type 0
    SomeMeant = (u : ℕ) × (u < op.threads) × Meant u × GetsOn T now u

    -- Lemma: if a thread waits for a lock whose holder also waits, the holder waits for the lock of a later node in the
    -- list. By induction, some holder does not wait.
    climbs : (n u w : ℕ) → Waits u w → rank_of w < n → SomeMeant
    climbs zero u w y less = absurd (omega arith)
    climbs (suc n) u w y less =
        let h = its_holder u w y in
        elim (goes_or_waits h.0 h.1 h.2) [
          | inl g ↦ (h.0, h.1, h.3, g)
          | inr x ↦ (let low : rank_of x.0 < rank_of w = x.1.last w h.4 in climbs n h.0 x.0 x.1 (omega arith))
        ]

    pub some_meant : (t : ℕ) → t < op.threads → IsPending now t → Meant t → SomeMeant
    some_meant t tn busy meant = elim (goes_or_waits t tn busy) [
      | inl g ↦ (t, tn, meant, g)
      | inr x ↦ climbs (suc (rank_of x.0)) t x.0 x.1 (omega arith)
    ]

  pub gets_on : SomeThreadGetsOn T
  gets_on op k t es r tn busy =
      let x = some_meant (λ call. 1) op k es r (λ u w un h. refl) t tn busy refl in (x.0, x.1, x.3)
