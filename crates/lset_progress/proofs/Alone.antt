-- Proof that a call that runs alone ends if each of its steps either ends the call or decreases a bound on the number
-- of remaining steps.
use Rattle.std.specs.Prelude.{◌≡◌, ℕ, ◌<◌, ◌≤◌, ◌⊎◌, if◌then◌else◌, ◌==◌, length, refl}
use Rattle.std.proofs.Common.{arith, inl, inr, sym, ◌∙◌, ap, subst, zero, suc}
use Rattle.lset_words.proofs.Numbers.{if_same, if_other}
use Rattle.lset_words.specs.Words.{Sizes, Opening, sizes}
use Rattle.lset_steps.specs.declared.Event.{Event}
use Rattle.lset_steps.specs.declared.Event.TheVariants.{Go}
use Rattle.lset_steps.specs.Steps.{Table, State, Run, Enabled, state_at, after}
use Rattle.lset_steps.specs.Laws.{Lawful}
use Rattle.lset_steps.proofs.MoreEvents.{state_agree}
use Rattle.lset_progress.specs.Progress.{IsPending, Answers, EndsAlone}

-- Returns the events `es`, with event number k (counted from 0) replaced by a step of thread t.
abbrev pub then_go : (ℕ → Event) → ℕ → ℕ → ℕ → Event
then_go es k t j = if j == k then Go t else es j

pub last_is : (es : ℕ → Event) (k t : ℕ) → then_go es k t k ≡ Go t
last_is es k t = if_same k k refl (Go t) (es k)

first_are : (es : ℕ → Event) (k t j : ℕ) → j < k → then_go es k t j ≡ es j
first_are es k t j l = if_other j k (omega arith) (Go t) (es j)

this_or_before : (j k : ℕ) → j < suc k → (j ≡ k) ⊎ (j < k)
this_or_before j k l = grind arith

module _ (T : Table) (op : Opening) (es : ℕ → Event) (k t : ℕ) where
  pub same_until : (j : ℕ) → j ≤ k → state_at T op (then_go es k t) j ≡ state_at T op es j
  same_until j l = state_agree T op es (then_go es k t) j (λ i m. first_are es k t i (omega arith))

  pub goes_on : Run T op es k → Enabled (state_at T op es k) (Go t) → Run T op (then_go es k t) (suc k)
  goes_on r en = record {
    opens = r.opens;
    enabled = λ j l. elim (this_or_before j k l) [
      | inl e ↦ subst (λ z. Enabled (state_at T op (then_go es k t) z) (then_go es k t z)) (sym e)
          (subst (λ z. Enabled (state_at T op (then_go es k t) k) z) (sym (last_is es k t))
          (subst (λ s. Enabled s (Go t)) (sym (same_until k (omega arith))) en))
      | inr h ↦ subst (λ z. Enabled (state_at T op (then_go es k t) j) z) (sym (first_are es k t j h))
          (subst (λ s. Enabled s (es j)) (sym (same_until j (omega arith))) (r.enabled j h))
    ];
  }

-- The type of a predicate that says that a thread's pending call ends within n steps. Its arguments are the size bounds
-- of the list, the list's state, the thread, and n.
abbrev pub Stages : Type 1
Stages = Sizes → State → ℕ → ℕ → Type 0

pub record Nears (T : Table) (Stage : Stages) : Type 0 where
  pub some : (sz : Sizes) (s : State) (t : ℕ) → Stage sz s t 0 → ⊥
  pub pending : (sz : Sizes) (s : State) (t n : ℕ) → Stage sz s t n → IsPending s t
  -- Each step of thread t ends the thread's call or decreases the number of remaining steps by 1.
  pub steps : (op : Opening) (es : ℕ → Event) (k t n : ℕ) → Run T op es (suc k) → es k ≡ Go t → t < op.threads
      → Stage (sizes op) (state_at T op es k) t (suc n)
      → Answers T (state_at T op es k) t ⊎ Stage (sizes op) (after T (state_at T op es k) (Go t)) t n

module _ (T : Table) (law : Lawful T) (Stage : Stages) (near : Nears T Stage) (op : Opening) (t : ℕ) (tn : t < op.threads) where
  pub ends_alone : (n k : ℕ) (es : ℕ → Event) → Run T op es k → Stage (sizes op) (state_at T op es k) t n
      → EndsAlone T (state_at T op es k) t n
  ends_alone zero k es r g = absurd (near.some (sizes op) (state_at T op es k) t g)
  ends_alone (suc n) k es r g =
      let s : State = state_at T op es k in
      let es' : ℕ → Event = then_go es k t in
      let locals : length (state_at T op es k).locals ≡ op.threads = (law.states op k k es r (omega arith)).locals in
      let en : Enabled (state_at T op es k) (Go t) = (rw locals tn, near.pending (sizes op) (state_at T op es k) t (suc n) g) in
      let r' : Run T op (then_go es k t) (suc k) = goes_on T op es k t r en in
      let same : state_at T op (then_go es k t) k ≡ state_at T op es k = same_until T op es k t k (omega arith) in
      let on : state_at T op (then_go es k t) (suc k) ≡ after T (state_at T op es k) (Go t) =
      ap (λ e. after T (state_at T op (then_go es k t) k) e) (last_is es k t) ∙ ap (λ x. after T x (Go t)) same in
      let next : Answers T (state_at T op es k) t ⊎ Stage (sizes op) (after T (state_at T op es k) (Go t)) t n =
      subst (λ x. Answers T x t ⊎ Stage (sizes op) (after T x (Go t)) t n) same
      (near.steps op (then_go es k t) k t n r' (last_is es k t) tn
      (subst (λ x. Stage (sizes op) x t (suc n)) (sym same) g)) in (
        en,
        elim next [
          | inl a ↦ inl a
          | inr g' ↦ inr (subst (λ x. EndsAlone T x t n) on
              (ends_alone n (suc k) (then_go es k t) r' (subst (λ x. Stage (sizes op) x t n) (sym on) g')))
        ],
      )
