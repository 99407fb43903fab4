-- Definitions for a private search: at which moment is a key first the smallest present key at or above a given key?
use Rattle.std.specs.Prelude.{◌≡◌, ℕ, ◌<◌, ◌≤◌, ◌==◌, nat_lt, Bool, true, false, not, if◌then◌else◌, List, All, Option, Some}
use Rattle.std.specs.Prelude.{None}
use Rattle.lset_history.specs.Changes.{is_present, is_present_now}

-- Holds if no key changes between `moment` and the moment in the result, and only the key in the result can change at
-- the result's moment. `None` means that no key changes after `moment`.
abbrev pub IsNextNote : (ℕ → List ℕ) → ℕ → Option (ℕ × ℕ) → Type 0
IsNextNote changes moment None = (j : ℕ) → All (λ m. m ≤ moment) (changes j)
IsNextNote changes moment (Some n) = (moment < n.0)
    × ((j : ℕ) → All (λ m. moment < m → m ≤ n.0 → (m ≡ n.0) × (j ≡ n.1)) (changes j))

-- Holds if no key between `key` and the result is present after the last change of the set. `None` means that no key
-- above `key` is present.
abbrev pub IsNextPresent : (ℕ → List ℕ) → ℕ → Option ℕ → Type 0
IsNextPresent changes key None = (j : ℕ) → key < j → is_present_now changes j ≡ false
IsNextPresent changes key (Some k) = (key < k) × ((j : ℕ) → key < j → j < k → is_present_now changes j ≡ false)

-- Returns whether key `j` refutes the claim that, at `moment`, `found` is the smallest present key at or above `key`.
-- If `found` is `None`, the claim is that no key at or above `key` is present.
abbrev pub is_against : (ℕ → List ℕ) → ℕ → Option ℕ → ℕ → ℕ → Bool
is_against changes key None j moment = if nat_lt j key then false else is_present changes j moment
is_against changes key (Some x) j moment =
    if nat_lt j key then false else if nat_lt x j then false else if x == j then not (is_present changes j moment)
    else is_present changes j moment

-- Holds if `moment` is a correct intermediate result of the search for the first moment when `found` is the smallest
-- present key at or above `key`. The search has read the changes up to `last`. At each moment from `from` to just
-- before `moment`, some key refutes the claim that `found` is the smallest (see `is_against`). A key that refutes the
-- claim at `moment` also refutes it at all later moments up to `last`.
pub record IsCandidateUpTo (changes : ℕ → List ℕ) (key : ℕ) (found : Option ℕ) (from moment last : ℕ) : Type 0 where
  pub low : from ≤ moment
  pub before : (m : ℕ) → from ≤ m → m < moment → (j : ℕ) × (is_against changes key found j m ≡ true)
  pub stays : (j m : ℕ) → is_against changes key found j moment ≡ true → moment ≤ m → m ≤ last →
      is_against changes key found j m ≡ true

abbrev pub IsCandidate : (ℕ → List ℕ) → ℕ → Option ℕ → ℕ → ℕ → Type 0
IsCandidate changes key found from moment = (last : ℕ) → moment ≤ last → IsCandidateUpTo changes key found from moment last

abbrev pub IsBelow : ℕ → Option ℕ → Type 0
IsBelow j None = Unit {0}
IsBelow j (Some end) = j < end

-- Holds if some key from `key` to just below `end` is present at `moment`. If `end` is `None`, the range has no upper
-- bound.
abbrev pub IsSomeThere : (ℕ → List ℕ) → ℕ → Option ℕ → ℕ → Type 0
IsSomeThere changes key end moment = (j : ℕ) × (key ≤ j) × IsBelow j end × (is_present changes j moment ≡ true)

-- Holds if each key from `key` to just below `end` that is present after the last change of the set was absent at
-- `moment`.
abbrev pub CameAfter : (ℕ → List ℕ) → ℕ → Option ℕ → ℕ → Type 0
CameAfter changes key end moment = (j : ℕ) → key ≤ j → IsBelow j end → is_present_now changes j ≡ true →
    is_present changes j moment ≡ false
