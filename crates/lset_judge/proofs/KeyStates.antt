-- Proofs about the states of all keys that the judge stores, after an event of one key.
use Rattle.std.proofs.Common.{◌≡◌, ℕ, ◌+◌, ◌<◌, List, [], ◌∷◌, true, false, inl, inr, refl, sym, ap, ◌∙◌, subst, length, get_or, take, Bool}
use Rattle.std.specs.Prelude.{◌==◌, ◌||◌, Option, Some, None, is_some}
use Rattle.std.specs.List.{list_any}
use Rattle.std.specs.Bool.{nat_eq}
use Rattle.std.specs.HashMap.{get, UpdatesBy}
use mathlib.Core.Bool.{cond}
use Rattle.std.proofs.lemmas.Bool.{cases_Bool, true≢false}
use Rattle.std.proofs.lemmas.List.Folds.{list_any_more, list_any_at}
use Rattle.lset_words.specs.Effects.{is_there, presence}
use Rattle.lset_words.specs.SequentialSet.{has_key}
use Rattle.lset_words.proofs.Numbers.{same_number, equal_test}
use Rattle.lset_judge.specs.declared.rule.KeyState.{KeyState}
use Rattle.lset_judge.specs.Stream.{States}

-- ---- Lemmas about a loop over the keys

pub any_key : (k : ℕ) (xs : List ℕ) → has_key k xs ≡ list_any (λ x. x == k) xs
any_key k [] = refl
any_key k (x ∷ xs) = ap (λ b. (x == k) || b) (any_key k xs)

pub has_at : (k : ℕ) (xs : List ℕ) (i : ℕ) → i < length xs → get_or xs i 0 ≡ k → has_key k xs ≡ true
has_at k xs i low own = any_key k xs ∙ list_any_at (λ x. x == k) xs i 0 low (equal_test _ _ own)

pub has_more : (k : ℕ) (xs : List ℕ) (i : ℕ) → i < length xs → has_key k (take (i + 1) xs) ≡ (has_key k (take i xs) || (get_or xs i 0 == k))
has_more k xs i low = any_key k (take (i + 1) xs) ∙ list_any_more (λ x. x == k) xs i 0 low
    ∙ sym (ap (λ b. b || (get_or xs i 0 == k)) (any_key k (take i xs)))

pub each_more : (P : ℕ → Type 0) (xs : List ℕ) (i : ℕ) → i < length xs → ((k : ℕ) → has_key k (take i xs) ≡ true → P k) → P (get_or xs i 0)
    → (k : ℕ) → has_key k (take (i + 1) xs) ≡ true → P k
each_more P xs i low before here k has = elim (cases_Bool (has_key k (take i xs))) [
  | inl t ↦ before k t
  | inr f ↦ elim (cases_Bool (get_or xs i 0 == k)) [
    | inl t ↦ subst P (same_number _ _ t) here
    | inr g ↦ absurd (let e : false ≡ true = sym (has_more k xs i low ∙ rw (f, g) refl) ∙ has in cc)
  ]
]

pub seen_more : {A : Type 0} (see : Option KeyState → A) (opens : Bool → A) (m n : States) (keys : List ℕ) (i : ℕ) (w : KeyState) → i < length keys
    → see (Some w) ≡ opens true → UpdatesBy nat_eq (nat_eq (get_or keys i 0)) m n (Some w) → ((k : ℕ) → see (get nat_eq m k) ≡ opens (has_key k (take i keys)))
    → (k : ℕ) → see (get nat_eq n k) ≡ opens (has_key k (take (i + 1) keys))
seen_more {A} see opens m n keys i w low there up before k = ap see (up.0 k)
    ∙ step (get_or keys i 0 == k) (get nat_eq m k) (has_key k (take i keys)) (before k) ∙ ap opens (sym (has_more k keys i low))
  where
    step : (t : Bool) (o : Option KeyState) (b : Bool) → see o ≡ opens b → see (cond t (Some w) o) ≡ opens (b || t)
    step true o true e = there
    step true o false e = there
    step false o true e = e
    step false o false e = e

pub there_again : (b : Bool) → b ≡ is_there (presence b)
there_again true = refl
there_again false = refl

pub none_of : (o : Option KeyState) → is_some o ≡ false → o ≡ None
none_of None e = refl
none_of (Some s) e = absurd (true≢false e)
