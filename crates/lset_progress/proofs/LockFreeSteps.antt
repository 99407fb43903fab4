-- Proofs about what a step of LockFreeList that does not end its call can change in the nodes. A step that does not end
-- its call never links a node, because an `add` links its node in its last step.
use Rattle.std.specs.Prelude.{◌≡◌, ◌≢◌, ℕ, ◌<◌, ◌≤◌, ◌⊎◌, Bool, true, false, Option, Some, None, ◌||◌, refl}
use Rattle.std.proofs.Common.{arith, inl, inr, sym, ◌∙◌, ap, subst, suc}
use Rattle.lset_words.proofs.Numbers.{same_or_not}
use Rattle.lset_words.specs.declared.Call.{Call}
use Rattle.lset_words.specs.declared.Call.TheVariants.{Add, Remove}
use Rattle.lset_words.specs.declared.Key.{Key}
use Rattle.lset_words.specs.declared.Reply.{Reply}
use Rattle.lset_words.specs.declared.Reply.TheVariants.{True}
use Rattle.lset_words.specs.Words.{Opening, sizes, key_of}
use Rattle.lset_words.specs.Log.{last_at, begun_at, has_changed, is_change}
use Rattle.lset_words.specs.Account.{MayChange}
use Rattle.lset_steps.specs.declared.Event.{Event}
use Rattle.lset_steps.specs.declared.Event.TheVariants.{Go}
use Rattle.lset_steps.specs.declared.Fed.{Fed}
use Rattle.lset_steps.specs.declared.Local.{Local}
use Rattle.lset_steps.specs.Steps.{State, Run, Enabled, state_at, after, local_of, seen_by, seen_next, log_of}
use Rattle.lset_steps.specs.Chain.{View, view}
use Rattle.lset_steps.specs.Laws.{Answered, views, view_of, used_in}
use Rattle.lset_steps.proofs.Discipline.{Discipline, StepOf, Inv, inv_at, put_same, put_other}
use Rattle.lset_steps.proofs.Memory.{others_counted}
use Rattle.lset_steps.proofs.Moves.{Move, Quiet, Marks, Unlinks}
use Rattle.lset_steps.proofs.Moves.Move.{quiet, inserts, sets, clears, removes}
use Rattle.lset_steps.proofs.ReadOutline.Reading.{reads20, reads21, reads22, reads23, reads24, reads25}
use Rattle.lset_steps.proofs.Turns.{discipline_of, no_locks}
use Rattle.lset_lock_free.specs.LockFree.{lock_free}
use Rattle.lset_lock_free.specs.Lawful.Outline.{At, lock_free_follows}
use Rattle.lset_lock_free.specs.Lawful.Outline.At.{at0, at1, at2, at2_now, at3, at4, at5, at6, at7, at8, at9, at10, at_read}
use Rattle.lset_progress.specs.Progress.{IsCeiling, Answers}
use Rattle.lset_progress.proofs.Rest.{SameKeys}
use Rattle.lset_progress.proofs.HeadPlain.{the_step, words_are, the_move}

-- The invariant of LockFreeList after the first k events of a run.
abbrev pub Known : Opening → ℕ → (ℕ → Event) → Type 1
Known op k es = Inv true At (sizes op) (views lock_free op es) k (state_at lock_free op es k)
    (λ u. last_at (log_of lock_free op es) u k)

pub keeps : Discipline lock_free true At
keeps = discipline_of lock_free (no_locks true) At lock_free_follows

pub known : (op : Opening) (last k : ℕ) (es : ℕ → Event) → Run lock_free op es last → k ≤ last → Known op k es
known op last k es r l = inv_at lock_free true At keeps op es last r k l

-- The possible changes of the nodes by a step. A step changes nothing, marks a node (a `remove` then continues at row
-- 10 of the step table), or unlinks a marked node.
pub data Stepped (v w : View) (l' : Local) : Type 0 where
  still : Quiet v w → Stepped v w l'
  marks : (b k : ℕ) → Marks v w b k → l'.pc ≡ 10 → Stepped v w l'
  unlinks : (pred curr : ℕ) → Unlinks v w pred curr → Stepped v w l'

pub keys_on : (key : ℕ → ℕ) {v w : View} {l' : Local} → Stepped v w l' → SameKeys key v → SameKeys key w
keys_on key (still q) h a p = let p' = q.published_from a p in h a p' ∙ sym (q.keys a p')
keys_on key (marks b k q x) h a p = let p' = q.published_from a p in h a p' ∙ sym (q.keys a p')
keys_on key (unlinks pred curr q) h a p = let p' = q.published_from a p in h a p' ∙ sym (q.keys a p')

not_both : {done : Bool} → done ≡ true → done ≡ false → ⊥
not_both y n = let z : true ≡ false = sym y ∙ n in cc

-- The known facts about a thread's call at each row of the step table. Rows with the same facts are combined.
pub data Place (v : View) (done : Bool) (l : Local) : Type 0 where
  idle : l.pc ≡ 0 → Place v done l
  begins : l.pc ≡ 1 → done ≡ false → Place v done l
  walks : 2 ≤ l.pc → l.pc ≤ 9 → done ≡ false → v.published l.pred → v.published l.curr → Place v done l
  has_marked : l.pc ≡ 10 → l.call ≡ Remove (key_of l.call) → v.published l.pred → v.published l.curr → Place v done l
  reads : 20 ≤ l.pc → l.pc ≤ 22 → done ≡ false → Place v done l
  reads_marks : 23 ≤ l.pc → done ≡ false → IsCeiling l.call → Place v done l

pub place_of : {q t : ℕ} {vs : ℕ → View} {first now : ℕ} {v : View} {done : Bool} {l : Local} → At q t vs first now v done l
    → Place v done l
place_of (at0 e) = idle e
place_of (at1 e d) = begins e d
place_of (at2 e d s k) = walks (omega arith) (omega arith) d s.pred_published s.curr_published
place_of (at2_now e d s f i x) = walks (omega arith) (omega arith) d s.pred_published s.curr_published
place_of (at3 e d s p o) = walks (omega arith) (omega arith) d s.pred_published s.curr_published
place_of (at4 e d s p k o b) = walks (omega arith) (omega arith) d s.pred_published s.curr_published
place_of (at5 e d s a) = walks (omega arith) (omega arith) d s.pred_published s.curr_published
place_of (at6 e d s a x) = walks (omega arith) (omega arith) d s.pred_published s.curr_published
place_of (at7 e d s a x y) = walks (omega arith) (omega arith) d s.pred_published s.curr_published
place_of (at8 e d s a) = walks (omega arith) (omega arith) d s.pred_published s.curr_published
place_of (at9 e d s a p) = walks (omega arith) (omega arith) d s.pred_published s.curr_published
place_of (at10 e d s a x) = has_marked e a.call s.pred_published s.curr_published
place_of (at_read (reads20 e d c a)) = reads (omega arith) (omega arith) d
place_of (at_read (reads21 e d c a)) = reads (omega arith) (omega arith) d
place_of (at_read (reads22 e d c a)) = reads (omega arith) (omega arith) d
place_of (at_read (reads23 e d c a)) = reads_marks (omega arith) d (subst IsCeiling (sym c) tt)
place_of (at_read (reads24 e d c a)) = reads_marks (omega arith) d (subst IsCeiling (sym c) tt)
place_of (at_read (reads25 e d c a)) = reads_marks (omega arith) d (subst IsCeiling (sym c) tt)

changed_at : {v : View} {done : Bool} {l : Local} → done ≡ true → Place v done l
    → (l.pc ≡ 0) ⊎ ((l.pc ≡ 10) × (l.call ≡ Remove (key_of l.call)))
changed_at y p = grind arith

remove_at : {v : View} {done : Bool} {l : Local} → Place v done l → l.pc ≡ 10 → l.call ≡ Remove (key_of l.call)
remove_at p h = grind arith

pub ceiling_at_marks : {v : View} {done : Bool} {l : Local} → Place v done l → 23 ≤ l.pc → IsCeiling l.call
ceiling_at_marks p h = grind arith

-- Lemma: the nodes `pred` and `curr` of a walk are published, which means that they have been in the chain.
pub walk_at : {v : View} {done : Bool} {l : Local} → Place v done l → 2 ≤ l.pc → l.pc ≤ 10
    → v.published l.pred × v.published l.curr
walk_at p low high = (grind arith, grind arith)

-- Holds if the call is an `add` or a `remove`.
abbrev pub IsUpdate : Call → Type 0
IsUpdate c = ((k : Key) × (c ≡ Add k)) ⊎ ((k : Key) × (c ≡ Remove k))

add_or_remove : {c : Call} {k j : Key} → c ≡ Add k → c ≡ Remove j → ⊥
add_or_remove e f = let z = sym e ∙ f in cc

after_change : (done : Bool) → (done || true) ≡ true
after_change true = refl
after_change false = refl

-- Holds if the step ends its call, which is an `add` or a `remove`.
abbrev Ends : Call → Option Reply → Type 0
Ends call answer = ((r : Reply) × (answer ≡ Some r)) × IsUpdate call

module _ (q count t : ℕ) (vs : ℕ → View) (first now : ℕ) (done : Bool) (l l' : Local) (call : l'.call ≡ l.call) where
  abbrev After : Option (Key × Bool) → View → Option Reply → Type 0
  After ch w answer = At q t vs first (suc now) w (done || is_change ch) l'
      × Answered (done || is_change ch) q vs first now t l.call l'.pc answer

  answers_at : (ch : Option (Key × Bool)) (answer : Option Reply) → l'.pc ≡ 0
      → Answered (done || is_change ch) q vs first now t l.call l'.pc answer → (r : Reply) × (answer ≡ Some r)
  answers_at ch None e a = absurd (a e)
  answers_at ch (Some r) e a = (r, refl)

  moved_by : (v w : View) (ch : Option (Key × Bool)) → Move true v w ch → MayChange q count l.call done ch
      → (answer : Option Reply) → After ch w answer → Ends l.call answer ⊎ Stepped v w l'
  moved_by v w ch (quiet x) may answer known_then = inr (still x)
  moved_by v w ch (clears pred curr x odd) may answer known_then = inr (unlinks pred curr x)
  moved_by v w ch (removes pred curr k bare x even user is) may answer known_then = absurd (let z : true ≡ false = bare in cc)
  moved_by v w ch (inserts pred own k x) may answer known_then = elim (changed_at (after_change done) (place_of known_then.0)) [
    | inl e ↦ inl (answers_at (Some (k, true)) answer e known_then.1, inl (k, may.0))
    | inr e ↦ absurd (add_or_remove may.0 (sym call ∙ e.1))
  ]
  moved_by v w ch (sets b k is x) may answer known_then = elim (changed_at (after_change done) (place_of known_then.0)) [
    | inl e ↦ inl (answers_at (Some (k, false)) answer e known_then.1, inr (k, may.0))
    | inr e ↦ inr (marks b k.0 x e.0)
  ]

module _ (op : Opening) (last : ℕ) (es : ℕ → Event) (r : Run lock_free op es last) (k : ℕ) (below : k < last) (t : ℕ)
    (en : Enabled (state_at lock_free op es k) (Go t)) where
  abbrev S : State
  S = state_at lock_free op es k

  abbrev S' : State
  S' = after lock_free S (Go t)

  i : Known op k es
  i = known op last k es r (omega arith)

  abbrev First : ℕ → ℕ
  First u = begun_at (log_of lock_free op es) u k

  abbrev Done : ℕ → Bool
  Done u = has_changed (log_of lock_free op es) u k

  abbrev m : StepOf lock_free true At (sizes op) t (views lock_free op es) First k S.words (used_in S) Done (local_of S)
  m = the_step lock_free At keeps op es last r k below t en

  tn : t < op.threads
  tn = rw (sym i.locals) en.0

  fed : lock_free.feed (local_of S t) (seen_next lock_free S t) ≡ record { local = m.local'; answer = m.answer }
  fed = ap (λ a. lock_free.feed (local_of S t) (seen_by S.words a)) m.acts ∙ m.feeds

  local_is : local_of S' t ≡ m.local'
  local_is = put_same S t (lock_free.feed (local_of S t) (seen_next lock_free S t)).local en.0 ∙ ap (λ (f : Fed). f.local) fed

  used_at : (u : ℕ) → used_in S' u ≡ m.used' u
  used_at u = elim (same_or_not u t) [
    | inl y ↦ subst (λ z. used_in S' z ≡ m.used' z) (sym y) (ap (λ (l : Local). l.used) local_is ∙ m.counts)
    | inr y ↦ ap (λ (l : Local). l.used)
        (put_other S t u (lock_free.feed (local_of S t) (seen_next lock_free S t)).local y)
        ∙ sym (others_counted true (sizes op) S.words (used_in S) i.memory t tn u y m.action m.words' m.used' m.effect m.change)
  ]

  used_is : used_in S' ≡ m.used'
  used_is = λ j u. used_at u j

  view_is : view_of (sizes op) S' ≡ view (sizes op) m.words' m.used'
  view_is = ap (λ x. view (sizes op) x (used_in S')) (words_are lock_free At keeps op es last r k below t en)
      ∙ ap (λ f. view (sizes op) m.words' f) used_is

  pub same_call : (local_of S' t).call ≡ (local_of S t).call
  same_call = ap (λ (l : Local). l.call) local_is ∙ m.same_call

  abbrev StepIs : Type 0
  StepIs = (Answers lock_free S t × IsUpdate (local_of S t).call)
      ⊎ (Stepped (view_of (sizes op) S) (view_of (sizes op) S') (local_of S' t) × ((local_of S t).pc ≢ 10))

  moves : (local_of S t).pc ≢ 10 → StepIs
  moves busy =
      elim (moved_by op.quota (used_in S t) t (views lock_free op es) (First t) k (Done t) (local_of S t) m.local' m.same_call
      (view_of (sizes op) S) (view (sizes op) m.words' m.used') m.effect (the_move lock_free At keeps op es last r k below t en)
      m.by_call m.answer (m.own, m.answered)) [
        | inl a ↦ inl ((a.0.0, ap (λ (f : Fed). f.answer) fed ∙ a.0.1), a.1)
        | inr x ↦ inr (
          subst (λ z. Stepped (view_of (sizes op) S) z (local_of S' t)) (sym view_is)
              (subst (λ z. Stepped (view_of (sizes op) S) (view (sizes op) m.words' m.used') z) (sym local_is) x),
          busy,
        )
      ]

  pub step_is : StepIs
  step_is = elim (same_or_not (local_of S t).pc 10) [
    | inl e ↦ inl ((True, rw e refl), inr (key_of (local_of S t).call, remove_at (place_of (i.threads t tn).at) e))
    | inr d ↦ moves d
  ]
