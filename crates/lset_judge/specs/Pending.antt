-- The pending calls as the judge stores them: a few in a vector, the others in a hash table whose keys are the moments
-- when the calls end.
use Rattle.std.specs.Prelude.{◌≡◌, ℕ, ◌<◌, nat_lt, if◌then◌else◌, ◌≤◌, List, ◌∷◌, length, Option, Some, None, All, Contains, slice_index_or}
use Rattle.std.specs.Bool.{nat_eq}
use Rattle.std.specs.HashMap.{get}
use Rattle.std.specs.List.Sorted.{IsPermutation}
use Rattle.lset_words.specs.declared.Reply.{Reply}
use Rattle.lset_judge.specs.declared.stream.StreamCall.{StreamCall}
use Rattle.lset_judge.specs.declared.stream.Pending.{Pending}
use Rattle.lset_judge.specs.declared.busy.Busy.{Busy}

abbrev pub pending_at : ℕ × StreamCall → Pending
pending_at e = record { end = e.0; call = e.1 }

-- Holds if `place` is the index of the call in `few` that ends first.
pub record IsFirst (place : ℕ) (few : List Pending) : Type 0 where
  pub inside : 0 < length few → place < length few
  pub smallest : (d : Pending) → All (λ (p : Pending). (slice_index_or few place d).end ≤ p.end) few

abbrev pub or_zero : Option ℕ → ℕ
or_zero None = 0
or_zero (Some n) = n

-- Returns the moment that is stored for thread t: the end of the thread's last call that was stored. Returns 0 if no
-- moment is stored.
abbrev pub last_end : Busy → ℕ → ℕ
last_end b t = if nat_lt t 65536 then slice_index_or b.low.items t 0 else or_zero (get nat_eq b.high t)

-- Holds if, for each call in the hash table `calls`, the heap `ends` contains the moment when the call ends, and `busy`
-- stores this moment for the call's thread.
pub record AreHeld (calls : List (ℕ × StreamCall)) (ends : List ℕ) (busy : Busy) : Type 0 where
  pub known : All (λ (e : ℕ × StreamCall). last_end busy e.1.thread ≡ e.0) calls
  pub held : All (λ (e : ℕ × StreamCall). Contains ends e.0) calls

abbrev pub end_or : ℕ → Option (ℕ × Reply) → ℕ
end_or moment None = moment
end_or moment (Some e) = e.0

-- Holds if `next` is the call in `old` that ends first, `next` ends before `moment`, and `new` contains all calls in
-- `old` except `next`.
pub record IsNext (moment : ℕ) (old : List Pending) (next : Pending) (new : List Pending) : Type 0 where
  pub early : next.end < moment
  pub is : IsPermutation old (next ∷ new)
  pub smallest : All (λ (p : Pending). next.end ≤ p.end) old
