-- Proof that a thread that holds a lock has a pending call, at a row of the step table where the thread can hold the
-- lock. Therefore no thread waits for itself, and the holder of a lock can always take another step.
use Rattle.std.specs.Prelude.{◌≡◌, ◌≢◌, ℕ, ◌+◌, ◌<◌, ◌≤◌, ◌⊎◌, if◌then◌else◌, ◌==◌, slice_index, length, refl}
use Rattle.std.proofs.Common.{arith, inl, inr, sym, ◌∙◌, ap, subst, zero, suc}
use Rattle.lset_words.proofs.Numbers.{same_or_not, if_same, if_other}
use Rattle.lset_words.specs.Words.{word_count, Opening, sizes}
use Rattle.lset_steps.specs.declared.Action.{Action}
use Rattle.lset_steps.specs.declared.Action.TheVariants.{Load, Store, Exchange}
use Rattle.lset_steps.specs.declared.Event.{Event}
use Rattle.lset_steps.specs.declared.Event.TheVariants.{Begin, Go}
use Rattle.lset_steps.specs.declared.Local.{Local}
use Rattle.lset_steps.specs.Steps.{Table, State, Run, Enabled, state_at, after, local_of, seen_next}
use Rattle.lset_steps.specs.Laws.{Lawful, IsLockWord}
use Rattle.lset_steps.specs.Promises.{held, held_after, holder}
use Rattle.lset_steps.proofs.LockWords.{lock_word}
use Rattle.lset_steps.proofs.Discipline.{put_same, put_other}
use Rattle.lset_progress.specs.Progress.{NoOtherHolds}

pub after_store : (x t u old w v : ℕ) → held x t old (Store w v) ≡ u + 1 → (old ≡ u + 1) × (w ≢ x)
after_store x t u old w v e = elim (same_or_not w x) [
  | inl y ↦ absurd (let z : 0 ≡ u + 1 = sym (if_same w x y 0 old) ∙ e in omega arith)
  | inr y ↦ (sym (if_other w x y 0 old) ∙ e, y)
]

pub after_try : (x t u old w o v : ℕ) → held x t old (Exchange w o v) ≡ u + 1 → (old ≡ u + 1) ⊎ ((w ≡ x) × (old ≡ 0) × (u ≡ t))
after_try x t u old w o v e = elim (same_or_not w x) [
  | inl y ↦
      (let z : (if old == 0 then t + 1 else old) ≡ u + 1 =
      sym (if_same w x y (if old == 0 then t + 1 else old) old) ∙ e in
      elim (same_or_not old 0) [
        | inl f ↦ inr (let g : t + 1 ≡ u + 1 = sym (if_same old 0 f (t + 1) old) ∙ z in (y, f, omega arith))
        | inr f ↦ inl (sym (if_other old 0 f (t + 1) old) ∙ z)
      ])
  | inr y ↦ inl (sym (if_other w x y (if old == 0 then t + 1 else old) old) ∙ e)
]

pub others_keep : (x t u old : ℕ) (a : Action) → u ≢ t → held x t old a ≡ u + 1 → old ≡ u + 1
others_keep x t u old (Load w) d e = e
others_keep x t u old (Store w v) d e = (after_store x t u old w v e).0
others_keep x t u old (Exchange w o v) d e = elim (after_try x t u old w o v e) [
  | inl z ↦ z
  | inr z ↦ absurd (d z.2)
]

-- The proof obligations for a list: a thread holds only the locks that `May` allows for the thread's private state.
pub record MayHold (T : Table) (May : Local → ℕ → Type 0) : Type 0 where
  pub rests : (l : Local) (x : ℕ) → l.pc ≡ 0 → May l x → ⊥
  pub steps : (op : Opening) (last k t x : ℕ) (es : ℕ → Event) → Run T op es last → k < last → es k ≡ Go t → t < op.threads
      → IsLockWord x → x < word_count (sizes op)
      → (slice_index (state_at T op es k).words x ≡ t + 1 → May (local_of (state_at T op es k) t) x)
      → held x t (slice_index (state_at T op es k).words x) (T.next (local_of (state_at T op es k) t)) ≡ t + 1
      → May (T.feed (local_of (state_at T op es k) t) (seen_next T (state_at T op es k) t)).local x

module _ (T : Table) (law : Lawful T) (May : Local → ℕ → Type 0) (may : MayHold T May) (op : Opening) (es : ℕ → Event)
    (last : ℕ) (r : Run T op es last) (x : ℕ) (is : IsLockWord x) (inn : x < word_count (sizes op)) where
  abbrev word : ℕ → ℕ
  word k = slice_index (state_at T op es k).words x

  pub word_next : (k : ℕ) → k < last → (e : Event) → es k ≡ e
      → slice_index (state_at T op es (suc k)).words x
      ≡ held_after T (state_at T op es k) x (slice_index (state_at T op es k).words x) e
  word_next k l e ee = lock_word T law op es last x r is inn (suc k) (omega arith)
      ∙ ap (λ z. held_after T (state_at T op es k) x (holder T op es x k) z) ee
      ∙ ap (λ z. held_after T (state_at T op es k) x z e) (sym (lock_word T law op es last x r is inn k (omega arith)))

  abbrev Known : ℕ → Type 0
  Known k = (u : ℕ) → slice_index (state_at T op es k).words x ≡ u + 1
      → (u < op.threads) × May (local_of (state_at T op es k) u) x

  known_after : (k : ℕ) → k < last → (e : Event) → es k ≡ e → Enabled (state_at T op es k) e → Known k → Known (suc k)
  known_after k l (Begin t call) ee en i u h =
      let old : slice_index (state_at T op es k).words x ≡ u + 1 = sym (word_next k l (Begin t call) ee) ∙ h in
      let p : (u < op.threads) × May (local_of (state_at T op es k) u) x = i u old in
      elim (same_or_not u t) [
        | inl y ↦ absurd (may.rests (local_of (state_at T op es k) u) x
            (subst (λ z. (local_of (state_at T op es k) z).pc ≡ 0) (sym y) en.1) p.1)
        | inr y ↦ (
          p.0,
          subst (λ z. May z x)
              (sym (ap (λ z. local_of (after T (state_at T op es k) z) u) ee
              ∙ put_other (state_at T op es k) t u (T.begin call (local_of (state_at T op es k) t)) y)) p.1,
        )
      ]
  known_after k l (Go t) ee en i u h =
      let s : State = state_at T op es k in
      let locals : length (state_at T op es k).locals ≡ op.threads = (law.states op last k es r (omega arith)).locals in
      let tn : t < op.threads = rw (sym locals) en.0 in
      let now : held x t (slice_index (state_at T op es k).words x) (T.next (local_of (state_at T op es k) t)) ≡ u + 1 =
      sym (word_next k l (Go t) ee) ∙ h in
      elim (same_or_not u t) [
        | inl y ↦
            (let mine : held x t (slice_index (state_at T op es k).words x) (T.next (local_of (state_at T op es k) t)) ≡ t + 1 =
            now ∙ ap (λ z. z + 1) y in
            let fed = (T.feed (local_of (state_at T op es k) t) (seen_next T (state_at T op es k) t)).local in
            let m : May (T.feed (local_of (state_at T op es k) t) (seen_next T (state_at T op es k) t)).local x =
            may.steps op last k t x es r l ee tn is inn (λ f. (i t f).1) mine in
            subst (λ z. (z < op.threads) × May (local_of (state_at T op es (suc k)) z) x) (sym y) (
              tn,
              subst (λ z. May z x) (sym (ap (λ z. local_of (after T (state_at T op es k) z) t) ee
                  ∙ put_same (state_at T op es k) t
                  (T.feed (local_of (state_at T op es k) t) (seen_next T (state_at T op es k) t)).local en.0)) m,
            ))
        | inr y ↦
            (let old : slice_index (state_at T op es k).words x ≡ u + 1 =
            others_keep x t u (slice_index (state_at T op es k).words x) (T.next (local_of (state_at T op es k) t)) y now in
            let p : (u < op.threads) × May (local_of (state_at T op es k) u) x = i u old in (
              p.0,
              subst (λ z. May z x)
                  (sym (ap (λ z. local_of (after T (state_at T op es k) z) u) ee
                  ∙ put_other (state_at T op es k) t u
                  (T.feed (local_of (state_at T op es k) t) (seen_next T (state_at T op es k) t)).local y)) p.1,
            ))
      ]

  opens_free : Known 0
  opens_free u h =
      let z : slice_index (state_at T op es 0).words x ≡ 0 = lock_word T law op es last x r is inn 0 (omega arith) in
      absurd (omega arith)

  pub holder_known : (k : ℕ) → k ≤ last → Known k
  holder_known zero l = opens_free
  holder_known (suc k) l = known_after k (omega arith) (es k) refl (r.enabled k (omega arith)) (holder_known k (omega arith))

pub one_or_more : (x : ℕ) → (x ≡ 0) ⊎ ((u : ℕ) × (x ≡ u + 1))
one_or_more zero = inl refl
one_or_more (suc u) = inr (u, omega arith)

module _ (T : Table) (law : Lawful T) (May : Local → ℕ → Type 0) (may : MayHold T May) (op : Opening) (es : ℕ → Event)
    (last : ℕ) (r : Run T op es last) (k : ℕ) (upto : k ≤ last) (t : ℕ)
    (free : NoOtherHolds (sizes op) (state_at T op es k) t) where
  pub try_succeeds : (x : ℕ) → IsLockWord x → x < word_count (sizes op)
      → (May (local_of (state_at T op es k) t) x → ⊥) → slice_index (state_at T op es k).words x ≡ 0
  try_succeeds x is inn not = elim (one_or_more (slice_index (state_at T op es k).words x)) [
    | inl z ↦ z
    | inr h ↦
        (let p : (h.0 < op.threads) × May (local_of (state_at T op es k) h.0) x =
        holder_known T law May may op es last r x is inn k upto h.0 h.1 in
        elim (same_or_not h.0 t) [
          | inl y ↦ absurd (not (subst (λ z. May (local_of (state_at T op es k) z) x) y p.1))
          | inr y ↦ absurd (free h.0 x p.0 y (record { is_lock = is; inside = inn; mine = h.1 }))
        ])
  ]

-- Lemmas: a step of thread t cannot make another thread the holder of a lock.
module _ (T : Table) (law : Lawful T) (op : Opening) (es : ℕ → Event) (k t : ℕ) (r : Run T op es (suc k)) (ee : es k ≡ Go t) where
  word_after : (x : ℕ) → IsLockWord x → x < word_count (sizes op)
      → slice_index (after T (state_at T op es k) (Go t)).words x
      ≡ held x t (slice_index (state_at T op es k).words x) (T.next (local_of (state_at T op es k) t))
  word_after x is inn =
      ap (λ z. slice_index (after T (state_at T op es k) z).words x) (sym ee)
      ∙ lock_word T law op es (suc k) x r is inn (suc k) (omega arith)
      ∙ ap (λ z. held_after T (state_at T op es k) x (holder T op es x k) z) ee
      ∙ ap (λ z. held_after T (state_at T op es k) x z (Go t)) (sym (lock_word T law op es (suc k) x r is inn k (omega arith)))

  pub others_wait : NoOtherHolds (sizes op) (state_at T op es k) t
      → NoOtherHolds (sizes op) (after T (state_at T op es k) (Go t)) t
  others_wait free u x un d h =
      let old : slice_index (state_at T op es k).words x ≡ u + 1 = others_keep x t u (slice_index _ x) (T.next _) d
      (sym (word_after x h.is_lock h.inside) ∙ h.mine) in
      free u x un d (record { is_lock = h.is_lock; inside = h.inside; mine = old })
