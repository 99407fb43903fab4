-- Proofs by two explicit runs. In each run, two threads hinder each other forever. In the first run, two threads add
-- keys to a broken list without locks. Therefore this list is not lock-free. In the second run, one thread adds a key
-- to a broken list with locks, and the other thread removes a key. Therefore this list is free neither from livelock
-- nor from deadlock.
use Rattle.std.specs.Prelude.{◌≡◌, ℕ, ◌<◌, Bool, List, [], ◌∷◌, refl}
use Rattle.std.proofs.Common.{arith, zero, suc}
use Rattle.lset_words.specs.declared.Call.TheVariants.{Add, Remove}
use Rattle.lset_steps.specs.declared.Event.{Event}
use Rattle.lset_steps.specs.declared.Event.TheVariants.{Begin, Go}
use Rattle.lset_progress.specs.Progress.{counted, steps_of}
use Rattle.lset_progress.specs.DeadlockFreedom.{IsDeadlockFree, moves}
use Rattle.lset_progress.specs.Wrong.{claiming, yielding, NotLivelockFree, NotLockFree}
use Rattle.lset_progress.proofs.WrittenRuns.{turn, rounds_never_end, rounds_are_fair}

-- The events before the events that repeat forever. The walks of both threads have found the head and the tail. Both
-- threads have written their numbers into the head's lock word, thread 1 last.
abbrev claims : List Event
claims = Begin 0 (Add (record { 0 = 3 })) ∷ Go 0 ∷ Go 0 ∷ Go 0 ∷ Begin 1 (Add (record { 0 = 5 })) ∷ Go 1 ∷ Go 1 ∷ Go 1 ∷ Go 0
    ∷ Go 1 ∷ []

-- Lemma: the list `claiming` is not lock-free. In the events that repeat forever, each thread reads the other thread's
-- number, and writes its own number again.
pub claiming_is_not_lock_free : NotLockFree claiming
claiming_is_not_lock_free reads most law = rounds_never_end claiming claims (Go 0) (Go 0 ∷ Go 1 ∷ Go 1 ∷ []) refl refl refl refl
    (steps_of reads) refl most law

-- The events before the events that repeat forever. Thread 0 has added 5. Now thread 0 adds 3, thread 1 removes 5, and
-- both walks have found the head and the node with key 5.
abbrev yields : List Event
yields = Begin 0 (Add (record { 0 = 5 })) ∷ Go 0 ∷ Go 0 ∷ Go 0 ∷ Go 0 ∷ Go 0 ∷ Go 0 ∷ Go 0 ∷ Go 0 ∷ Go 0 ∷ Go 0 ∷ Go 0 ∷ Go 0
    ∷ Begin 0 (Add (record { 0 = 3 })) ∷ Go 0 ∷ Go 0 ∷ Begin 1 (Remove (record { 0 = 5 })) ∷ Go 1 ∷ Go 1 ∷ []

-- The events that repeat forever: each thread locks its first node, reads that its second node is locked, releases its
-- first lock, and walks to the same two nodes again.
abbrev gives_back : List Event
gives_back = Go 1 ∷ Go 0 ∷ Go 1 ∷ Go 0 ∷ Go 1 ∷ Go 0 ∷ Go 0 ∷ Go 1 ∷ Go 1 ∷ []

pub yielding_is_refused : (reads : Bool) → NotLivelockFree (counted reads) yielding
yielding_is_refused reads most law = rounds_never_end yielding yields (Go 0) gives_back refl refl refl refl
    (moves (counted reads) yielding) refl most law

-- Lemma: the run is fair, because each thread takes a step among the events that repeat forever.
turns : (t : ℕ) → t < 2 → (d : ℕ) × (turn (Go 0) gives_back [] d ≡ Go t)
turns zero l = (0, refl)
turns (suc zero) l = (1, refl)
turns (suc (suc t)) l = absurd (omega arith)

pub yielding_goes_on : (reads : Bool) → IsDeadlockFree (counted reads) yielding → ⊥
yielding_goes_on reads law = rounds_are_fair yielding yields (Go 0) gives_back refl refl refl refl (counted reads) turns
    (λ z. omega arith) refl law
