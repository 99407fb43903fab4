-- The moments when each key was added to a set or removed from the set, and the first moment when a key is present or
-- absent. A moment is a number that dates an event.
use Rattle.std.specs.Prelude.{◌≡◌, ◌^◌, ℕ, zero, suc, ◌-◌, ◌<◌, ◌≤◌, ◌==◌, length, map, slice_index, nat_lt, Bool, true, false}
use Rattle.std.specs.Prelude.{IsTrue, not, if◌then◌else◌, List, [], ◌∷◌, ◌++◌, All, Option, Some, None, Vec}
use Rattle.std.specs.declared.alloc.Global.{Global}
use Rattle.std.specs.List.Sorted.{IsStrictlyIncreasing}
use Rattle.std.specs.Ordering.{nat_cmp}
use Rattle.std.specs.Map.{lookup}
use Rattle.std.specs.BTreeMap.{BTreeMap, get, is_at}
use Rattle.std.specs.BTreeSet.{BTreeSet, contains}
use Rattle.lset_words.specs.SequentialSet.{has_key}

-- The opening keys (the keys in the set before all events) and, for each key, the moments when the key was later added
-- and removed in turn. The moments of a key increase strictly, and are at least 1.
pub record ChangesValue : Type 0 where
  pub opening : List ℕ
  pub entries : List (ℕ × List ℕ)

abbrev pub no_changes : ChangesValue
no_changes = record { opening = []; entries = [] }

-- Returns the list of moment 0 alone if `key` is an opening key (in the set before all events), else the empty list.
abbrev pub opened_moments : List ℕ → ℕ → List ℕ
opened_moments keys key = if has_key key keys then 0 ∷ [] else []

abbrev pub moments_in : Option (List ℕ) → List ℕ
moments_in None = []
moments_in (Some ms) = ms

abbrev pub noted_of : ChangesValue → ℕ → List ℕ
noted_of c key = moments_in (lookup (is_at (nat_cmp key)) c.entries)

-- Returns all moments when the key was added or removed, including moment 0 if the key is an opening key (in the set
-- before all events).
abbrev pub moments_of : ChangesValue → ℕ → List ℕ
moments_of c key = opened_moments c.opening key ++ noted_of c key

-- Returns whether a key is present at `moment`. Each moment in the list is a change that flips the key's presence.
-- `present` is true if the key is present before the first change.
abbrev pub state_at : Bool → List ℕ → ℕ → Bool
state_at present [] moment = present
state_at present (m ∷ ms) moment = if nat_lt moment m then present else state_at (not present) ms moment

-- Returns whether a key is present after the last change. Each moment in the list is a change that flips the key's
-- presence. `present` is true if the key is present before the first change.
abbrev pub state_after : Bool → List ℕ → Bool
state_after present [] = present
state_after present (m ∷ ms) = state_after (not present) ms

-- Returns whether a key is present at a moment. `changes` maps each key to the moments when the key changes.
abbrev pub is_present : (ℕ → List ℕ) → ℕ → ℕ → Bool
is_present changes key moment = state_at false (changes key) moment

abbrev pub is_present_now : (ℕ → List ℕ) → ℕ → Bool
is_present_now changes key = state_after false (changes key)

-- Holds if `moment` is at least 1, and after every moment in `changes`.
abbrev pub IsLaterThanAll : (ℕ → List ℕ) → ℕ → Type 0
IsLaterThanAll changes moment = (0 < moment) × ((key : ℕ) → All (λ m. m < moment) (changes key))

-- Returns the moments when key `k` changes, once a change of `key` at `moment` has been appended to `changes`.
abbrev pub with_change : (ℕ → List ℕ) → ℕ → ℕ → ℕ → List ℕ
with_change changes key moment k = if k == key then changes k ++ moment ∷ [] else changes k

-- Holds if the argument of type `Option` is the first moment from `first` to `last` when `P` holds, or `None` if there
-- is no such moment.
abbrev pub IsFirst : (ℕ → Type 0) → ℕ → ℕ → Option ℕ → Type 0
IsFirst P first last None = (m : ℕ) → first ≤ m → m ≤ last → P m → ⊥
IsFirst P first last (Some k) = (first ≤ k) × (k ≤ last) × P k × ((m : ℕ) → first ≤ m → m < k → P m → ⊥)

abbrev pub is_same : Bool → Bool → Bool
is_same true b = b
is_same false b = not b

-- Returns the first `m` from `first` to `first + n` such that `f m` equals `asked`, or `None` if there is no such `m`.
abbrev pub first_passing : Bool → (ℕ → Bool) → ℕ → ℕ → Option ℕ
first_passing asked f first zero = if is_same asked (f first) then Some first else None
first_passing asked f first (suc n) = if is_same asked (f first) then Some first else first_passing asked f (suc first) n

abbrev pub same_key : Option ℕ → Option ℕ → Bool
same_key None None = true
same_key None (Some b) = false
same_key (Some a) None = false
same_key (Some a) (Some b) = a == b

abbrev pub smallest_present : (ℕ → List ℕ) → ℕ → ℕ → Option ℕ
smallest_present changes key m = first_passing true (λ j. is_present changes j m) key (4294967295 - key)

-- Returns whether `found` is the smallest key at or above `key` that is present at moment `m`. If `found` is `None`,
-- returns whether no key at or above `key` is present at moment `m`. All keys must be below 2^32.
abbrev pub has_ceiling : (ℕ → List ℕ) → ℕ → Option ℕ → ℕ → Bool
has_ceiling changes key found m = same_key (smallest_present changes key m) found

-- Converts the fields of the Rust type `Changes` to the value that its contracts use.
abbrev pub changes_in : List ℕ → BTreeMap ℕ (Vec ℕ Global) → ChangesValue
changes_in opening kept = record { opening = opening; entries = map (λ (e : ℕ × Vec ℕ Global). (e.0, e.1.items)) kept.entries }

abbrev pub Increase : ChangesValue → Type 0
Increase c = (key : ℕ) → IsStrictlyIncreasing (moments_of c key)

-- Holds if `changes` contains no change of a number from 2^32 up, which cannot be a key.
abbrev pub IsBounded : (ℕ → List ℕ) → Type 0
IsBounded changes = (key : ℕ) → 2 ^ 32 ≤ key → changes key ≡ []

-- Holds if `keys_at` maps `moment` to `key`. Always holds for moment 0, since `keys_at` does not contain the opening
-- keys (the keys in the set before all events).
abbrev pub IsListed : BTreeMap ℕ ℕ → ℕ → ℕ → Type 0
IsListed keys_at key moment = 0 < moment → get nat_cmp keys_at moment ≡ Some key

-- The invariant of the Rust type `Changes`: `keys_at` contains the key of each change, and `keys_now` contains each key
-- that is present after the last change. Both indexes can have surplus entries.
pub record AreKept (c : ChangesValue) (keys_at : BTreeMap ℕ ℕ) (keys_now : BTreeSet ℕ) : Type 0 where
  pub opening : IsStrictlyIncreasing c.opening
  pub increase : Increase c
  pub bounded : IsBounded (moments_of c)
  pub listed : (key : ℕ) → All (IsListed keys_at key) (moments_of c key)
  pub present : (key : ℕ) → is_present_now (moments_of c) key ≡ true → IsTrue (contains nat_cmp keys_now key)

-- Holds if exactly the first `count` moments in `ms` are at or before `moment`.
pub record IsCountUpTo (ms : List ℕ) (moment count : ℕ) : Type 0 where
  pub inside : count ≤ length ms
  pub upto : (i : ℕ) → i < count → slice_index ms i ≤ moment
  pub past : (i : ℕ) → count ≤ i → i < length ms → moment < slice_index ms i
