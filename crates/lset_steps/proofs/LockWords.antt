-- Proof that a lock word is t + 1 while thread t holds the lock, and 0 while the lock is free. A thread holds a lock
-- from the step that takes the lock until the store of 0 that releases the lock.
use Rattle.std.specs.Prelude.{◌≡◌, ◌≢◌, ℕ, ◌+◌, ◌<◌, ◌≤◌, ◌⊎◌, if◌then◌else◌, ◌==◌, List, slice_index, slice_set, length, refl}
use Rattle.std.proofs.Common.{arith, inl, inr, sym, ◌∙◌, ap, subst, zero, suc, get_or-set_other, get_or-set_same}
use Rattle.std.proofs.lemmas.List.FromFn.{get_or-map-range_with_len}
use Rattle.lset_words.proofs.Numbers.{same_or_not, if_same, if_other}
use Rattle.lset_words.specs.Words.{word_count, Opening, sizes}
use Rattle.lset_steps.specs.declared.Action.{Action}
use Rattle.lset_steps.specs.declared.Action.TheVariants.{Load, Store, Exchange}
use Rattle.lset_steps.specs.declared.Event.{Event}
use Rattle.lset_steps.specs.declared.Event.TheVariants.{Begin, Go}
use Rattle.lset_steps.specs.Steps.{Table, Run, state_at, after, left_by, local_of, opening_word}
use Rattle.lset_steps.specs.Laws.{Lawful, StateLaws, StepAt, IsLockWord, LockUse}
use Rattle.lset_steps.specs.Promises.{held, held_after, holder}
use Rattle.lset_steps.proofs.Openings.{lock_word as lock_opens}

lock_left : (ws : List ℕ) (x t : ℕ) (a : Action) → IsLockWord x → x < length ws → LockUse ws t a
    → slice_index (left_by ws a) x ≡ held x t (slice_index ws x) a
lock_left ws x t (Load w) i h u = refl
lock_left ws x t (Store w v) i h u = elim (same_or_not w x) [
  | inl e ↦ (let z = u (subst (λ y. IsLockWord y) (sym e) i) in
      ap (λ y. slice_index (slice_set ws y v) x) e ∙ get_or-set_same ws x v 0 h ∙ z.0
      ∙ sym (if_same w x e 0 (slice_index ws x)))
  | inr d ↦ get_or-set_other ws w x v 0 (λ e. d (sym e)) ∙ sym (if_other w x d 0 (slice_index ws x))
]
lock_left ws x t (Exchange w o v) i h u = elim (same_or_not w x) [
  | inl e ↦ (let z = u (subst (λ y. IsLockWord y) (sym e) i) in
      ap (λ y. slice_index (if slice_index ws y == o then slice_set ws y v else ws) x) e ∙ tried o v z.0 z.1
      ∙ sym (if_same w x e (if slice_index ws x == 0 then t + 1 else slice_index ws x) (slice_index ws x)))
  | inr d ↦ missed d (same_or_not (slice_index ws w) o)
      ∙ sym (if_other w x d (if slice_index ws x == 0 then t + 1 else slice_index ws x) (slice_index ws x))
]
  where
    tried : (o v : ℕ) → o ≡ 0 → v ≡ t + 1
        → slice_index (if slice_index ws x == o then slice_set ws x v else ws) x
        ≡ (if slice_index ws x == 0 then t + 1 else slice_index ws x)
    tried o v eo ev = elim (same_or_not (slice_index ws x) o) [
      | inl y ↦ ap (λ z. slice_index z x) (if_same (slice_index ws x) o y (slice_set ws x v) ws)
          ∙ get_or-set_same ws x v 0 h ∙ ev ∙ sym (if_same (slice_index ws x) 0 (y ∙ eo) (t + 1) (slice_index ws x))
      | inr y ↦ ap (λ z. slice_index z x) (if_other (slice_index ws x) o y (slice_set ws x v) ws)
          ∙ sym (if_other (slice_index ws x) 0 (λ f. y (f ∙ sym eo)) (t + 1) (slice_index ws x))
    ]

    missed : w ≢ x → (slice_index ws w ≡ o) ⊎ (slice_index ws w ≢ o)
        → slice_index (if slice_index ws w == o then slice_set ws w v else ws) x ≡ slice_index ws x
    missed d (inl y) = ap (λ z. slice_index z x) (if_same (slice_index ws w) o y (slice_set ws w v) ws)
        ∙ get_or-set_other ws w x v 0 (λ e. d (sym e))
    missed d (inr y) = ap (λ z. slice_index z x) (if_other (slice_index ws w) o y (slice_set ws w v) ws)

opens_free : (op : Opening) (x : ℕ) → IsLockWord x → opening_word op x ≡ 0
opens_free op x (inl e) = rw e refl
opens_free op x (inr i) = rw i.1 (lock_opens op i.0)

module _ (T : Table) (law : Lawful T) (op : Opening) (es : ℕ → Event) (last x : ℕ) (r : Run T op es last)
    (i : IsLockWord x) (h : x < word_count (sizes op)) where
  held_step : (k : ℕ) → k < last → (e : Event) → es k ≡ e
      → slice_index (after T (state_at T op es k) e).words x
      ≡ held_after T (state_at T op es k) x (slice_index (state_at T op es k).words x) e
  held_step k l (Begin t call) ee = refl
  held_step k l (Go t) ee =
      let o : StateLaws T.marks (sizes op) (state_at T op es k) = law.states op last k es r (omega arith) in
      let st : StepAt T op es k t = law.steps op last k t es r l ee in
      lock_left (state_at T op es k).words x t (T.next (local_of (state_at T op es k) t)) i (rw o.words h) st.lock_use

  pub lock_word : (k : ℕ) → k ≤ last → slice_index (state_at T op es k).words x ≡ holder T op es x k
  lock_word zero l = get_or-map-range_with_len (opening_word op) 0 (word_count (sizes op)) x x 0 h (omega arith)
      ∙ opens_free op x i
  lock_word (suc k) l = held_step k (omega arith) (es k) refl
      ∙ ap (λ z. held_after T (state_at T op es k) x z (es k)) (lock_word k (omega arith))
