-- Proof that a `ceiling` of LockFreeList can run forever although every other thread is idle. The proof is an explicit
-- run: after 27 events, five steps of the `ceiling` lead back to the same state.
use Rattle.std.specs.Prelude.{◌≡◌, ◌≢◌, ℕ, ◌<◌, List, [], ◌∷◌, length, refl}
use Rattle.std.proofs.Common.{arith, sym, subst, zero, suc}
use Rattle.lset_words.specs.declared.Call.TheVariants.{Add, Remove, Ceiling}
use Rattle.lset_steps.specs.declared.Event.{Event}
use Rattle.lset_steps.specs.declared.Event.TheVariants.{Begin, Go}
use Rattle.lset_steps.specs.Steps.{State, opening, local_of}
use Rattle.lset_lock_free.specs.LockFree.{lock_free}
use Rattle.lset_progress.proofs.WrittenRuns.{op, run, is_run, is_after, state_after, never_ends_alone}
use Rattle.lset_progress.specs.Progress.{IsPending, IsCeiling, EndsAlone, SomeCeilingNeverEnds}

-- The first 27 events of the run; the events after them repeat forever. Thread 0 adds 5, and is about to link a new
-- node with key 3 before the node with key 5. Thread 1 marks the node with key 5, but fails to unlink it because thread
-- 0 links the new node first. Thread 0 then begins a `ceiling` of 4 and takes the first five steps.
abbrev events : List Event
events = Begin 0 (Add (record { 0 = 5 })) ∷ Go 0 ∷ Go 0 ∷ Go 0 ∷ Go 0 ∷ Go 0 ∷ Go 0
    ∷ Begin 0 (Add (record { 0 = 3 })) ∷ Go 0 ∷ Go 0 ∷ Go 0 ∷ Go 0 ∷ Go 0
    ∷ Begin 1 (Remove (record { 0 = 5 })) ∷ Go 1 ∷ Go 1 ∷ Go 1 ∷ Go 1 ∷ Go 1
    ∷ Go 0 ∷ Go 1
    ∷ Begin 0 (Ceiling (record { 0 = 4 })) ∷ Go 0 ∷ Go 0 ∷ Go 0 ∷ Go 0 ∷ Go 0 ∷ []

abbrev S0 : State
S0 = state_after lock_free (opening op) events

idle_others : (u : ℕ) → u < 2 → u ≢ 0 → (local_of S0 u).pc ≡ 0
idle_others zero h d = absurd (d refl)
idle_others (suc zero) h d = refl
idle_others (suc (suc u)) h d = absurd (omega arith)

pub ceiling_waits : SomeCeilingNeverEnds lock_free
ceiling_waits =
    let is = sym (is_after lock_free events (Go 0) [] refl) in record {
      opening = op;
      events = run lock_free events (Go 0) [] refl;
      moment = length events;
      thread = 0;
      run = is_run lock_free events (Go 0) [] refl;
      in_threads = omega arith;
      pending = subst (λ s. IsPending s 0) is (λ z. omega arith);
      is_ceiling = subst (λ s. IsCeiling (local_of s 0).call) is tt;
      others_idle = λ u h d. subst (λ s. (local_of s u).pc ≡ 0) is (idle_others u h d);
      never = λ n e. never_ends_alone lock_free 0 S0 4 refl refl n (subst (λ s. EndsAlone lock_free s 0 n) (sym is) e);
    }
