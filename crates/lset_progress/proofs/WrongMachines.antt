-- Proofs that the laws of progress are false for the broken lists. Each proof is an explicit run.
use Rattle.std.specs.Prelude.{◌≡◌, ℕ, ◌<◌, List, [], ◌∷◌, length, slice_index, refl}
use Rattle.std.proofs.Common.{arith, inl, inr, sym, ◌∙◌, ap, subst, zero, suc}
use Rattle.lset_words.specs.declared.Call.TheVariants.{Add, Remove}
use Rattle.lset_words.specs.Words.{lock_index, sizes}
use Rattle.lset_steps.specs.declared.Event.{Event}
use Rattle.lset_steps.specs.declared.Event.TheVariants.{Begin, Go}
use Rattle.lset_steps.specs.Steps.{State, opening, local_of}
use Rattle.lset_steps.specs.Laws.{IsLockWord, views}
use Rattle.lset_progress.specs.Progress.{IsPending, IsCeiling, NoMarkInChain, NoOtherHolds, EndsAlone, GetsOn, SomeThreadGetsOn}
use Rattle.lset_progress.specs.Progress.{steps_of}
use Rattle.lset_progress.specs.Wrong.{spinning, keeping, crossed, NoCallsEndAlone, NoCallsEndUnhindered, NotLockFree}
use Rattle.lset_progress.proofs.WrittenRuns.{op, run, is_run, is_after, state_after, rounds_never_end, never_ends_alone}

two_values : (n a b : ℕ) → (a ≡ b → ⊥) → n ≡ a → n ≡ b → ⊥
two_values n a b d e f = d (sym e ∙ f)

-- The events before the events that repeat forever. Thread 1 marks the node with key 5. Thread 0 is about to unlink the
-- node, but thread 1 unlinks it first. Thread 0 then repeats its attempt forever.
abbrev spins : List Event
spins = Begin 0 (Add (record { 0 = 5 })) ∷ Go 0 ∷ Go 0 ∷ Go 0 ∷ Go 0 ∷ Go 0 ∷ Go 0 ∷ Begin 1
    (Remove (record { 0 = 5 })) ∷ Go 1 ∷ Go 1
    ∷ Go 1 ∷ Go 1 ∷ Go 1 ∷ Begin 0 (Remove (record { 0 = 5 })) ∷ Go 0 ∷ Go 0 ∷ Go 1 ∷ []

abbrev spinning_state : State
spinning_state = state_after spinning (opening op) spins

pub spinning_is_refused : NoCallsEndUnhindered spinning
spinning_is_refused most law =
    let is = is_after spinning spins (Go 0) [] refl in
    let e = law op (length spins) 0 (run spinning spins (Go 0) [] refl) (is_run spinning spins (Go 0) [] refl) (omega arith)
    (subst (λ s. IsPending s 0) (sym is) (λ z. omega arith)) (subst (λ s. IsCeiling (local_of s 0).call
    → NoMarkInChain (views spinning op (run spinning spins (Go 0) [] refl) (length spins))) (sym is) (λ z. absurd z)) in
    never_ends_alone spinning 0 spinning_state 0 refl refl (most _) (subst (λ s. EndsAlone spinning s 0 (most (sizes op))) is e)

pub spinning_is_not_lock_free : NotLockFree spinning
spinning_is_not_lock_free reads most law = rounds_never_end spinning spins (Go 0) [] refl refl refl refl
    (steps_of reads) refl most law

-- The events before the events that repeat forever. The walk of thread 0 has found the head and the tail, and thread 1
-- adds 7 between the head and the tail. The validation of thread 0 fails, and thread 0 keeps the lock of the head. The
-- next walk of thread 0 leads to the head again, and thread 0 waits forever for the lock of the head.
abbrev keeps : List Event
keeps = Begin 0 (Add (record { 0 = 5 })) ∷ Go 0 ∷ Go 0 ∷ Begin 1
    (Add (record { 0 = 7 })) ∷ Go 1 ∷ Go 1 ∷ Go 1 ∷ Go 1 ∷ Go 1 ∷ Go 1
    ∷ Go 1 ∷ Go 1 ∷ Go 1 ∷ Go 1 ∷ Go 0 ∷ Go 0 ∷ Go 0 ∷ Go 0 ∷ Go 0 ∷ Go 0 ∷ []

abbrev keeping_state : State
keeping_state = state_after keeping (opening op) keeps

none_of_1 : (x : ℕ) → IsLockWord x → x < 21 → slice_index keeping_state.words x ≡ 2 → ⊥
none_of_1 x (inl e) h m = two_values (slice_index keeping_state.words 0) 0 2 (λ z. omega arith) refl
    (sym (ap (λ i. slice_index keeping_state.words i) e) ∙ m)
none_of_1 x (inr (i, e)) h m = none_at i (omega arith) (sym (ap (λ i. slice_index keeping_state.words i) e) ∙ m)
  where
    none_at : (i : ℕ) → i < 6 → slice_index keeping_state.words (lock_index i) ≡ 2 → ⊥
    none_at zero h m = omega arith
    none_at (suc zero) h m = omega arith
    none_at (suc (suc zero)) h m = omega arith
    none_at (suc (suc (suc zero))) h m = omega arith
    none_at (suc (suc (suc (suc zero)))) h m = omega arith
    none_at (suc (suc (suc (suc (suc zero))))) h m = omega arith
    none_at (suc (suc (suc (suc (suc (suc i)))))) h m = omega arith

others : NoOtherHolds (sizes op) keeping_state 0
others zero x h d b = d refl
others (suc zero) x h d b = none_of_1 x b.is_lock b.inside b.mine
others (suc (suc u)) x h d b = omega arith

pub keeping_is_refused : NoCallsEndAlone keeping
keeping_is_refused most law =
    let is = is_after keeping keeps (Go 0) [] refl in
    let e = law op (length keeps) 0 (run keeping keeps (Go 0) [] refl) (is_run keeping keeps (Go 0) [] refl) (omega arith)
    (subst (λ s. IsPending s 0) (sym is) (λ z. omega arith)) (subst (λ s. NoOtherHolds (sizes op) s 0) (sym is) others) in
    never_ends_alone keeping 0 keeping_state 0 refl refl (most _) (subst (λ s. EndsAlone keeping s 0 (most (sizes op))) is e)

-- The events before the deadlock. The walks of both threads have found the head and the node with key 5. Thread 0,
-- which adds 3, holds the lock of the head. Thread 1, which removes 5, holds the lock of the node with key 5.
abbrev crosses : List Event
crosses = Begin 0 (Add (record { 0 = 5 })) ∷ Go 0 ∷ Go 0 ∷ Go 0 ∷ Go 0 ∷ Go 0 ∷ Go 0 ∷ Go 0 ∷ Go 0 ∷ Go 0 ∷ Go 0 ∷ Go 0
    ∷ Begin 0 (Add (record { 0 = 3 })) ∷ Go 0 ∷ Go 0 ∷ Go 0 ∷ Begin 1 (Remove (record { 0 = 5 })) ∷ Go 1 ∷ Go 1 ∷ Go 1 ∷ []

abbrev crossed_state : State
crossed_state = state_after crossed (opening op) crosses

none_gets_on : (u : ℕ) → u < 2 → GetsOn crossed crossed_state u → ⊥
none_gets_on zero h g = two_values (slice_index crossed_state.words (lock_index 2)) 2 0 (λ z. omega arith) refl
    (g.tries (lock_index 2) 0 1 (inr (2, refl)) refl)
none_gets_on (suc zero) h g = two_values (slice_index crossed_state.words (lock_index 0)) 1 0 (λ z. omega arith) refl
    (g.tries (lock_index 0) 0 2 (inr (0, refl)) refl)
none_gets_on (suc (suc u)) h g = omega arith

pub crossed_is_refused : SomeThreadGetsOn crossed → ⊥
crossed_is_refused law =
    let is = is_after crossed crosses (Go 0) [] refl in
    let x = law op (length crosses) 0 (run crossed crosses (Go 0) [] refl) (is_run crossed crosses (Go 0) [] refl) (omega arith)
    (subst (λ s. IsPending s 0) (sym is) (λ z. omega arith)) in
    none_gets_on x.0 x.1 (subst (λ s. GetsOn crossed s x.0) is x.2)
