-- Lemmas about how appending a change of a key affects the moments when the key is present.
use Rattle.std.proofs.lemmas.Grind.{common_steps}
use Rattle.std.proofs.Common.{◌≡◌, ◌≢◌, ℕ, zero, suc, ◌<◌, ◌≤◌, Bool, true, false, not, List, [], ◌∷◌, ◌++◌, length, get_or}
use Rattle.std.proofs.Common.{sym, refl, ap, ◌∙◌, arith}
use Rattle.std.specs.Prelude.{All, ◌==◌, nat_lt, if◌then◌else◌}
use Rattle.std.proofs.lemmas.Bool.{lt-ltb, le-ltb}
use Rattle.std.proofs.lemmas.List.Elements.{All-get_or, All-from_get_or}
use Rattle.lset_words.proofs.Numbers.{equal_test, unequal_test}
use Rattle.lset_history.specs.Changes.{ChangesValue, moments_of, state_at, state_after, is_present, is_present_now, with_change}

-- Negates a `Bool` as many times as the first argument says.
abbrev pub turned : ℕ → Bool → Bool
turned zero b = b
turned (suc i) b = turned i (not b)

-- Lemma: a key's presence at moment `m` is its presence before the first change, flipped once for each change at or
-- before `m`.
pub state_between : (b : Bool) (ms : List ℕ) (i m : ℕ) → i ≤ length ms → ((j : ℕ) → j < i → get_or ms j 0 ≤ m)
    → (i < length ms → m < get_or ms i 0) → state_at b ms m ≡ turned i b
state_between b [] zero m l f g = refl
state_between b [] (suc i) m l f g = absurd (omega arith)
state_between b (x ∷ ms) zero m l f g = rw (lt-ltb m x (g (omega arith))) refl
state_between b (x ∷ ms) (suc i) m l f g = rw (le-ltb m x (f 0 (omega arith)))
    (state_between (not b) ms i m (omega arith) (λ j n. f (suc j) (omega arith)) (λ n. g (omega arith)))

pub state_past : (b : Bool) (ms : List ℕ) (m : ℕ) → ((j : ℕ) → j < length ms → get_or ms j 0 ≤ m)
    → state_at b ms m ≡ state_after b ms
state_past b [] m f = refl
state_past b (x ∷ ms) m f = rw (le-ltb m x (f 0 (omega arith)))
    (state_past (not b) ms m (λ j n. f (suc j) (omega arith)))

pub state_before_change : (b : Bool) (ms : List ℕ) (at m : ℕ) → m < at → state_at b (ms ++ at ∷ []) m ≡ state_at b ms m
state_before_change b [] at m l = rw (lt-ltb m at l) refl
state_before_change b (x ∷ ms) at m l = ap (λ z. if nat_lt m x then b else z) (state_before_change (not b) ms at m l)

pub state_from_change : (b : Bool) (ms : List ℕ) (at m : ℕ) → ((j : ℕ) → j < length ms → get_or ms j 0 ≤ m) → at ≤ m
    → state_at b (ms ++ at ∷ []) m ≡ not (state_after b ms)
state_from_change b [] at m f l = rw (le-ltb m at l) refl
state_from_change b (x ∷ ms) at m f l = rw (le-ltb m x (f 0 (omega arith)))
    (state_from_change (not b) ms at m (λ j n. f (suc j) (omega arith)) l)

module _ (changes : ℕ → List ℕ) (key at : ℕ) where
  pub others_stay : (k m : ℕ) → k ≢ key → is_present (with_change changes key at) k m ≡ is_present changes k m
  others_stay k m n = rw (unequal_test k key n) refl

  pub earlier_stays : (k m : ℕ) → m < at → is_present (with_change changes key at) k m ≡ is_present changes k m
  earlier_stays k m l = by_test (k == key)
    where
      by_test : (b : Bool) → state_at false (if b then changes k ++ at ∷ [] else changes k) m ≡ state_at false (changes k) m
      by_test true = state_before_change false (changes k) at m l
      by_test false = refl

  pub turns_there : All (λ x. x < at) (changes key)
      → is_present (with_change changes key at) key at ≡ not (is_present_now changes key)
  turns_there h = rw (equal_test key key refl)
      (state_from_change false (changes key) at at (λ j n. let a : get_or (changes key) j 0 < at =
      All-get_or (λ x. x < at) (changes key) j 0 n h in omega arith) (omega arith))

pub present_past : (changes : ℕ → List ℕ) (k m : ℕ) → All (λ x. x ≤ m) (changes k)
    → is_present changes k m ≡ is_present_now changes k
present_past changes k m h = state_past false (changes k) m (λ j n. All-get_or (λ x. x ≤ m) (changes k) j 0 n h)

all_pushed : (ms : List ℕ) (k at : ℕ) → All (λ x. x ≤ k) ms → k ≤ at → All (λ x. x ≤ at) (ms ++ at ∷ [])
all_pushed ms k at h l = grind (arith, common_steps)

pub all_upto_later : (ms : List ℕ) (k at : ℕ) → k ≤ at → All (λ x. x ≤ k) ms → All (λ x. x ≤ at) ms
all_upto_later ms k at l h = All-from_get_or (λ x. x ≤ at) ms 0 (λ i below.
    let b : get_or ms i 0 ≤ k = All-get_or (λ x. x ≤ k) ms i 0 below h in omega arith)

pub all_below : (ms : List ℕ) (k at : ℕ) → k < at → All (λ x. x ≤ k) ms → All (λ x. x < at) ms
all_below ms k at l h = All-from_get_or (λ x. x < at) ms 0 (λ i below.
    let b : get_or ms i 0 ≤ k = All-get_or (λ x. x ≤ k) ms i 0 below h in omega arith)

pub all_upto_change : (changes : ℕ → List ℕ) (key k at j : ℕ) → All (λ x. x ≤ k) (changes j) → k ≤ at
    → All (λ x. x ≤ at) (with_change changes key at j)
all_upto_change changes key k at j h l = by_test (j == key)
  where
    by_test : (b : Bool) → All (λ x. x ≤ at) (if b then changes j ++ at ∷ [] else changes j)
    by_test true = all_pushed (changes j) k at h l
    by_test false = all_upto_later (changes j) k at l h

state_after_change : (b : Bool) (ms : List ℕ) (at : ℕ) → state_after b (ms ++ at ∷ []) ≡ not (state_after b ms)
state_after_change b [] at = refl
state_after_change b (m ∷ ms) at = state_after_change (not b) ms at

module _ (c d : ChangesValue) (key last at : ℕ) (noted : (k : ℕ) → moments_of d k ≡ with_change (moments_of c) key at k) where
  pub noted_now : (present : Bool) → present ≡ not (is_present_now (moments_of c) key) →
      is_present_now (moments_of d) key ≡ present
  noted_now present turn = ap (λ ms. state_after false ms) (noted key)
      ∙ ap (λ b. state_after false (if b then moments_of c key ++ at ∷ [] else moments_of c key)) (equal_test key key refl)
      ∙ state_after_change false (moments_of c key) at ∙ sym turn
