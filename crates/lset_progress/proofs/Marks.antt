-- Proof for a list that marks nodes while it holds two locks: a thread that has marked a node holds the node's lock
-- until it has unlinked the node. Therefore, if a node of the chain is marked, some thread is about to unlink the node.
use Rattle.std.specs.Prelude.{◌≡◌, ◌≢◌, ℕ, ◌+◌, ◌*◌, ◌/◌, ◌%◌, ◌<◌, ◌≤◌, Bool, true, false, Option, Some, List, refl}
use Rattle.std.specs.Prelude.{◌⊎◌, slice_index, slice_set}
use Rattle.std.proofs.Common.{arith, inl, inr, sym, ◌∙◌, ap, subst, zero, suc}
use Rattle.lset_words.proofs.Numbers.{same_or_not}
use Rattle.lset_words.specs.declared.Call.TheVariants.{Ceiling}
use Rattle.lset_words.specs.declared.Key.{Key}
use Rattle.lset_words.specs.Words.{link_index, lock_index, node_count, target, Opening, sizes, key_of}
use Rattle.lset_words.specs.Log.{last_at, begun_at, has_changed}
use Rattle.lset_steps.specs.declared.Action.TheVariants.{Store}
use Rattle.lset_steps.specs.declared.Event.{Event}
use Rattle.lset_steps.specs.declared.Event.TheVariants.{Begin, Go}
use Rattle.lset_steps.specs.declared.Local.{Local}
use Rattle.lset_steps.specs.Steps.{Table, State, Run, Enabled, state_at, after, local_of, left_by, seen_by, seen_next, log_of, opening}
use Rattle.lset_steps.specs.Chain.{View, InChain, view, node_key, node_link}
use Rattle.lset_steps.specs.Laws.{view_of, views, used_in}
use Rattle.lset_steps.proofs.AfterWrite.{key_after_link, link_after_link}
use Rattle.lset_steps.proofs.Discipline.{Outline, Discipline, StepOf, Inv, inv_at, put_same, put_other}
use Rattle.lset_steps.proofs.Held.{Between}
use Rattle.lset_steps.proofs.Memory.{Memory, inside, link_same}
use Rattle.lset_steps.proofs.Moves.{Move, KeepsNodes}
use Rattle.lset_steps.proofs.Moves.Move.{quiet, inserts, sets, clears, removes}
use Rattle.lset_steps.proofs.Openings.{opening_memory}
use Rattle.lset_steps.proofs.QuietMove.{in_chain_published, chain_before}
use Rattle.lset_steps.proofs.ReadOutline.{even_or_odd}
use Rattle.lset_steps.proofs.Segments.{gap}
use Rattle.lset_progress.specs.Progress.{NoOtherHolds}
use Rattle.lset_progress.proofs.HeadPlain.{the_step, words_are, the_move, the_memory, the_keeping}
use Rattle.lset_progress.proofs.Paths.{Path, in_chain_of, path_of}
use Rattle.lset_progress.proofs.ReadProgress.{Plain}

-- Holds if some thread is about to unlink node b: the thread is at row 12 of the step table, and its `curr` is b.
pub record TakesOut (threads : ℕ) (locals : ℕ → Local) (b : ℕ) : Type 0 where
  pub by : ℕ
  pub thread : by < threads
  pub row : (locals by).pc ≡ 12
  pub node : (locals by).curr ≡ b

-- Holds if, for each marked node of the chain, some thread is about to unlink the node.
abbrev pub Marked : ℕ → List ℕ → (ℕ → Local) → Type 0
Marked threads ws locals = (b : ℕ) → Path (node_link ws) 0 b → node_link ws b % 2 ≡ 1 → TakesOut threads locals b

-- Holds if thread t satisfies two conditions. If t is at row 12 of the step table (just before it unlinks `curr`), t
-- holds the locks of `pred` and `curr`, and `curr` is marked. If t is at row 23 or later, t executes a `ceiling`.
pub record Stands (v : View) (t : ℕ) (l : Local) : Type 0 where
  pub takes_out : l.pc ≡ 12 → Between v t (target l.call) l.pred l.curr × (v.link l.curr ≡ 2 * l.succ + 1)
  pub ceiling : 23 ≤ l.pc → l.call ≡ Ceiling (key_of l.call)

-- The proof obligations for a list's step table: row 11 marks `curr` while the thread holds both locks, row 12 unlinks
-- `curr`, and only a `ceiling` reaches row 23 or later.
pub record Marking (T : Table) (At : Outline) : Type 1 where
  pub lists : T.marks ≡ true
  pub stands : (q t : ℕ) (vs : ℕ → View) (first now : ℕ) (v : View) (done : Bool) (l : Local) → At q t vs first now v done l
      → Stands v t l
  pub marks : (l : Local) → l.pc ≡ 11 → (T.next l ≡ Store (link_index l.curr) (2 * l.succ + 1))
      × ((seen : ℕ) → (T.feed l seen).local ≡ record l { pc = 12 })
  pub takes_out : (l : Local) → l.pc ≡ 12 → T.next l ≡ Store (link_index l.pred) (2 * l.succ)
  pub takes_at : (l : Local) (seen : ℕ) (k : Key) → T.effect l seen ≡ Some (k, false) → l.pc ≡ 11

module _ (T : Table) (At : Outline) (follows : Discipline T T.marks At) (rows : Marking T At) where
  -- The invariant of the list after the first k events of a run.
  abbrev Known : Opening → ℕ → (ℕ → Event) → Type 1
  Known op k es = Inv T.marks At (sizes op) (views T op es) k (state_at T op es k)
      (λ u. last_at (log_of T op es) u k)

  known : (op : Opening) (last k : ℕ) (es : ℕ → Event) → Run T op es last → k ≤ last → Known op k es
  known op last k es r l = inv_at T T.marks At follows op es last r k l

  -- ---- Lemmas about one step of thread t
  module _ (op : Opening) (es : ℕ → Event) (last : ℕ) (r : Run T op es last) (k : ℕ) (upto : k < last) (t : ℕ)
      (en : Enabled (state_at T op es k) (Go t))
      (before : Marked op.threads (state_at T op es k).words (local_of (state_at T op es k))) where
    abbrev S : State
    S = state_at T op es k

    abbrev V : View
    V = view_of (sizes op) S

    i : Known op k es
    i = known op last k es r (omega arith)

    tn : t < op.threads
    tn = rw (sym i.locals) en.0

    abbrev step : StepOf T T.marks At (sizes op) t (views T op es) (λ u. begun_at (log_of T op es) u k) k S.words (used_in S)
        (λ u. has_changed (log_of T op es) u k) (local_of S)
    step = the_step T At follows op es last r k upto t en

    abbrev W : View
    W = view (sizes op) step.words' step.used'

    words : (after T S (Go t)).words ≡ step.words'
    words = words_are T At follows op es last r k upto t en

    memory : Memory T.marks (sizes op) step.words' step.used'
    memory = the_memory T At follows op es last r k upto t en

    keeping : KeepsNodes V W
    keeping = the_keeping T At follows op es last r k upto t en

    abbrev L : Local
    L = local_of S t

    abbrev L' : Local
    L' = (T.feed L (seen_next T S t)).local

    mine : local_of (after T S (Go t)) t ≡ L'
    mine = put_same S t L' en.0

    others : (u : ℕ) → u ≢ t → local_of (after T S (Go t)) u ≡ local_of S u
    others u d = put_other S t u L' d

    abbrev After : ℕ → Type 0
    After b = TakesOut op.threads (local_of (after T S (Go t))) b

    is_out : L.pc ≡ 12 → Path W.link 0 L.curr → ⊥
    is_out e p =
        let x = (rows.stands _ _ _ _ _ _ _ _ (i.threads t tn).at).takes_out e in
        let b = x.0 in
        let marked : node_link S.words L.curr ≡ 2 * L.succ + 1 = x.1 in
        let acts : T.next L ≡ Store (link_index L.pred) (2 * L.succ) = rows.takes_out L e in
        let is : step.words' ≡ slice_set S.words (link_index L.pred) (2 * L.succ) =
        sym words ∙ ap (λ a. left_by S.words a) acts in
        let follows : node_link S.words L.pred ≡ 2 * L.curr = b.walk.follows in
        let user : L.curr ≢ 1 = λ f. (let tail : node_link S.words 1 ≡ 2 = i.memory.tail_link in
        let g : node_link S.words L.curr ≡ node_link S.words 1 = ap (node_link S.words) f in omega arith) in
        let half : node_link S.words L.pred / 2 ≡ L.curr = omega arith in
        let half' : node_link S.words L.curr / 2 ≡ L.succ = omega arith in
        let up : node_key S.words L.pred < node_key S.words L.curr =
        subst (λ z. node_key S.words L.pred < node_key S.words z) half
        (i.memory.ordered.increases L.pred b.walk.held.published b.walk.inner) in
        let up' : node_key S.words L.curr < node_key S.words L.succ =
        subst (λ z. node_key S.words L.curr < node_key S.words z) half' (i.memory.ordered.increases L.curr b.walk.next user) in
        let links : (a : ℕ) → a ≢ L.pred → node_link step.words' a ≡ node_link S.words a =
        λ a d. ap (λ w. node_link w a) is ∙ link_after_link S.words L.pred (2 * L.succ) a d in
        let keys : (a : ℕ) → node_key step.words' a ≡ node_key S.words a =
        λ a. ap (λ w. node_key w a) is ∙ key_after_link S.words L.pred (2 * L.succ) a in
        let wrote : node_link step.words' L.pred ≡ 2 * L.succ = ap (λ w. node_link w L.pred) is
        ∙ link_same T.marks (sizes op) S.words (used_in S) i.memory L.pred (2 * L.succ) b.walk.held.published in
        let at : InChain W L.pred = chain_before V W i.memory.ordered L.pred L.pred
        (λ a m lt. ap (λ z. z / 2) (links a (λ f. let g : node_key S.words a ≡ node_key S.words L.pred = ap (node_key S.words) f in
        omega arith))) (omega arith) b.walk.held.at in
        let ka : node_key step.words' L.pred ≡ node_key S.words L.pred = keys L.pred in
        let kb : node_key step.words' L.curr ≡ node_key S.words L.curr = keys L.curr in
        let kc : node_key step.words' L.succ ≡ node_key S.words L.succ = keys L.succ in
        let next : node_link step.words' L.pred / 2 ≡ L.succ = omega arith in
        let hi : node_key step.words' L.curr < node_key step.words' (node_link step.words' L.pred / 2) =
        subst (λ z. node_key step.words' L.curr < node_key step.words' z) (sym next) (omega arith) in
        gap W memory.ordered L.pred L.curr at (in_chain_of W L.curr p) b.walk.inner (omega arith) hi

    as_before : (b : ℕ) → Path W.link 0 b → W.link b % 2 ≡ 1 → V.published b → W.link b ≡ V.link b → After b
    as_before b p odd published same =
        let x = before b (path_of V b (keeping.back b published (in_chain_of W b p))) (omega arith) in
        elim (same_or_not x.by t) [
          | inl y ↦ absurd (is_out (subst (λ u. (local_of S u).pc ≡ 12) y x.row)
              (subst (λ z. Path W.link 0 z) (sym x.node ∙ ap (λ u. (local_of S u).curr) y) p))
          | inr y ↦ record {
            by = x.by;
            thread = x.thread;
            row = ap (λ (l : Local). l.pc) (others x.by y) ∙ x.row;
            node = ap (λ (l : Local). l.curr) (others x.by y) ∙ x.node;
          }
        ]

    as_now : (b : ℕ) → L.pc ≡ 11 → V.link b % 2 ≡ 0 → W.link b % 2 ≡ 1 → After b
    as_now b e even odd =
        let acts : T.next L ≡ Store (link_index L.curr) (2 * L.succ + 1) = (rows.marks L e).0 in
        let after : L' ≡ record L { pc = 12 } = (rows.marks L e).1 (seen_next T S t) in
        let is : step.words' ≡ slice_set S.words (link_index L.curr) (2 * L.succ + 1) =
        sym words ∙ ap (λ a. left_by S.words a) acts in
        elim (same_or_not b L.curr) [
          | inl y ↦ record {
            by = t;
            thread = tn;
            row = ap (λ (l : Local). l.pc) (mine ∙ after);
            node = ap (λ (l : Local). l.curr) (mine ∙ after) ∙ sym y;
          }
          | inr y ↦ absurd (let same : node_link step.words' b ≡ node_link S.words b = ap (λ w. node_link w b) is
              ∙ link_after_link S.words L.curr (2 * L.succ + 1) b y in omega arith)
        ]

    marked_by : (change : Option (Key × Bool)) → T.effect L (seen_by S.words step.action) ≡ change → Move T.marks V W change
        → (b : ℕ) → Path W.link 0 b → W.link b % 2 ≡ 1 → W.published b → After b
    marked_by change tells (quiet q) b p odd m =
        let m' : V.published b = q.published_from b m in as_before b p odd m' (q.links b m')
    marked_by change tells (inserts pred own k x) b p odd m = elim (x.published_from b m) [
      | inl m' ↦ elim (same_or_not b pred) [
        | inl y ↦ absurd (let e : W.link pred ≡ 2 * own = x.pred_link in let f : W.link b ≡ W.link pred = ap W.link y in
            omega arith)
        | inr y ↦ as_before b p odd m' (x.links b m' y)
      ]
      | inr y ↦ absurd (let e : W.link own ≡ 2 * (V.link pred / 2) = x.own_link in
          let f : W.link b ≡ W.link own = ap W.link y in omega arith)
    ]
    marked_by change tells (sets c k is x) b p odd m =
        let m' : V.published b = x.published_from b m in
        elim (same_or_not b c) [
          | inl y ↦ as_now b (rows.takes_at L (seen_by S.words step.action) k tells)
              (subst (λ z. V.link z % 2 ≡ 0) (sym y) x.unmarked) odd
          | inr y ↦ as_before b p odd m' (x.links b m' y)
        ]
    marked_by change tells (clears pred curr x o) b p odd m =
        let m' : V.published b = x.published_from b m in
        elim (same_or_not b pred) [
          | inl y ↦ absurd (let e = x.pred_link in let f : W.link b ≡ W.link pred = ap W.link y in omega arith)
          | inr y ↦ as_before b p odd m' (x.links b m' y)
        ]
    marked_by change tells (removes pred curr k is x o u key) b p odd m = absurd (let z : true ≡ false = sym rows.lists ∙ is in cc)

    marked_step : Marked op.threads (after T S (Go t)).words (local_of (after T S (Go t)))
    marked_step = subst (λ ws. Marked op.threads ws (local_of (after T S (Go t)))) (sym words)
        (λ b p odd. marked_by step.effect step.tells
        (the_move T At follows op es last r k upto t en) b p odd
        (in_chain_published W memory.ordered b (in_chain_of W b p)))

  module _ (op : Opening) (es : ℕ → Event) (last : ℕ) (r : Run T op es last) where
    abbrev pub MarkedAt : ℕ → Type 0
    MarkedAt k = Marked op.threads (state_at T op es k).words (local_of (state_at T op es k))

    marked_after : (k : ℕ) → k < last → (e : Event) → Enabled (state_at T op es k) e → MarkedAt k
        → Marked op.threads (after T (state_at T op es k) e).words (local_of (after T (state_at T op es k) e))
    marked_after k l (Begin t call) en m b p odd =
        let x = m b p odd in
        let d : x.by ≢ t = λ f. (let row : (local_of (state_at T op es k) x.by).pc ≡ 12 = x.row in
        let rest : (local_of (state_at T op es k) t).pc ≡ 0 = en.1 in
        let same : (local_of (state_at T op es k) x.by).pc ≡ (local_of (state_at T op es k) t).pc =
        ap (λ u. (local_of (state_at T op es k) u).pc) f in omega arith) in
        let same : local_of (after T (state_at T op es k) (Begin t call)) x.by ≡ local_of (state_at T op es k) x.by =
        put_other (state_at T op es k) t x.by (T.begin call (local_of (state_at T op es k) t)) d in
        record {
          by = x.by;
          thread = x.thread;
          row = ap (λ (l : Local). l.pc) same ∙ x.row;
          node = ap (λ (l : Local). l.curr) same ∙ x.node;
        }
    marked_after k l (Go t) en m b p odd = marked_step op es last r k l t en m b p odd

    none_opens : MarkedAt 0
    none_opens b p odd =
        let m : Memory false (sizes op) (opening op).words (used_in (opening op)) = opening_memory op r.opens false in
        let inn : b < node_count (sizes op) = inside false (sizes op) (opening op).words (used_in (opening op)) m b
        (in_chain_published (view_of (sizes op) (opening op)) m.ordered b (in_chain_of (view_of (sizes op) (opening op)) b p)) in
        absurd (let even : node_link (opening op).words b % 2 ≡ 0 = m.unmarked refl b inn in omega arith)

    pub marked_at : (k : ℕ) → k ≤ last → MarkedAt k
    marked_at zero l = none_opens
    marked_at (suc k) l = marked_after k (omega arith) (es k) (r.enabled k (omega arith)) (marked_at k (omega arith))

  plain_unless : (op : Opening) (last k : ℕ) (es : ℕ → Event) → Run T op es last → k ≤ last → (b : ℕ)
      → Path (node_link (state_at T op es k).words) 0 b → (TakesOut op.threads (local_of (state_at T op es k)) b → ⊥)
      → node_link (state_at T op es k).words b % 2 ≡ 0
  plain_unless op last k es r l b p none = elim (even_or_odd (node_link (state_at T op es k).words b)) [
    | inl even ↦ even
    | inr odd ↦ absurd (none (marked_at op es last r k l b p odd))
  ]

  -- Holds if thread u, which is about to unlink a node, holds the locks of the node and of the node before it.
  abbrev Taking : Opening → ℕ → (ℕ → Event) → ℕ → Type 0
  Taking op k es u = Between (view_of (sizes op) (state_at T op es k)) u (target (local_of (state_at T op es k) u).call)
      (local_of (state_at T op es k) u).pred (local_of (state_at T op es k) u).curr

  taking : (op : Opening) (last k : ℕ) (es : ℕ → Event) → Run T op es last → k ≤ last → (u : ℕ) → u < op.threads
      → (local_of (state_at T op es k) u).pc ≡ 12 → Taking op k es u
  taking op last k es r l u un e = ((rows.stands _ _ _ _ _ _ _ _ ((known op last k es r l).threads u un).at).takes_out e).0

  pub no_marks : (op : Opening) (last k t : ℕ) (es : ℕ → Event) → Run T op es last → k ≤ last
      → NoOtherHolds (sizes op) (state_at T op es k) t → (local_of (state_at T op es k) t).pc ≢ 12
      → Plain (state_at T op es k).words
  no_marks op last k t es r l free never b p = plain_unless op last k es r l b p (λ x.
      let pred : (local_of (state_at T op es k) x.by).pred < node_count (sizes op) =
      ((known op last k es r l).threads x.by x.thread).registers.pred in
      free x.by (lock_index (local_of (state_at T op es k) x.by).pred) x.thread
      (λ f. never (subst (λ z. (local_of (state_at T op es k) z).pc ≡ 12) f x.row))
      (record {
        is_lock = inr ((local_of (state_at T op es k) x.by).pred, refl);
        inside = omega arith;
        mine = (taking op last k es r l x.by x.thread x.row).walk.held.mine;
      }))

  pub plain_then : (op : Opening) (k : ℕ) (es : ℕ → Event) → Run T op es k
      → ((u : ℕ) → u < op.threads → (local_of (state_at T op es k) u).pc ≢ 12) → Plain (state_at T op es k).words
  plain_then op k es r none b p = plain_unless op k k es r (omega arith) b p (λ x. none x.by x.thread x.row)

  -- Lemma: a marked node of the chain is locked by the thread that is about to unlink it. Therefore a node of the chain
  -- is not marked if its lock is free, or if its lock is held by a thread that is not about to unlink a node.
  pub unmarked_unless : (op : Opening) (last k t : ℕ) (es : ℕ → Event) → Run T op es last → k ≤ last
      → (local_of (state_at T op es k) t).pc ≢ 12 → (b : ℕ) → Path (node_link (state_at T op es k).words) 0 b
      → (slice_index (state_at T op es k).words (lock_index b) ≡ 0)
      ⊎ (slice_index (state_at T op es k).words (lock_index b) ≡ t + 1)
      → node_link (state_at T op es k).words b % 2 ≡ 0
  unmarked_unless op last k t es r l never b p own = plain_unless op last k es r l b p (λ x.
      let u : ℕ = x.by in
      let locked : slice_index (state_at T op es k).words (lock_index b) ≡ x.by + 1 =
      ap (λ a. slice_index (state_at T op es k).words (lock_index a)) (sym x.node)
      ∙ (taking op last k es r l x.by x.thread x.row).mine in
      elim own [
        | inl z ↦ omega arith
        | inr z ↦ never (let same : x.by ≡ t = omega arith in subst (λ u. (local_of (state_at T op es k) u).pc ≡ 12) same x.row)
      ])

  pub ceiling_row : (op : Opening) (last k t : ℕ) (es : ℕ → Event) → Run T op es last → k ≤ last → t < op.threads
      → 23 ≤ (local_of (state_at T op es k) t).pc
      → (local_of (state_at T op es k) t).call ≡ Ceiling (key_of (local_of (state_at T op es k) t).call)
  ceiling_row op last k t es r l tn high = (rows.stands _ _ _ _ _ _ _ _ ((known op last k es r l).threads t tn).at).ceiling high
