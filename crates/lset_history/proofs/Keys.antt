-- Lemmas about lists of keys: membership, and the effect of adding or removing a key.
use Rattle.std.proofs.Common.{◌≡◌, ◌≢◌, ℕ, ◌+◌, ◌<◌, ◌≤◌, ◌⊎◌, true, false, inl, inr, List, [], ◌∷◌, sym, refl, ◌∙◌, arith}
use Rattle.std.specs.Prelude.{Contains, nat_lt, ◌==◌}
use Rattle.std.proofs.lemmas.Bool.Decides.{nat_tests}
use Rattle.lset_words.proofs.IncreasingLists.{contains-cons, contains-head, contains-tail, contains-nil, IncreasesFrom, increases_less}
use Rattle.lset_words.specs.SequentialSet.{has_key, with_key, without_key}
use Rattle.lset_words.proofs.Numbers.{same_number, equal_test, unequal_test, same_or_not}
use Rattle.std.proofs.lemmas.Bool.{cases_Bool}

-- ---- Lemmas about membership as a `Bool`
pub has_true : (k : ℕ) (xs : List ℕ) → Contains xs k → has_key k xs ≡ true
has_true k [] c = absurd (contains-nil k c)
has_true k (x ∷ xs) c = elim (cases_Bool (x == k)) [
  | inl e ↦ rw e refl
  | inr e ↦ rw e (elim (contains-cons x k xs c) [
    | inl f ↦ absurd (let g : (x == k) ≡ true = grind (arith, nat_tests) in cc)
    | inr d ↦ has_true k xs d
  ])
]

pub has_from : (k : ℕ) (xs : List ℕ) → has_key k xs ≡ true → Contains xs k
has_from k [] e = absurd (cc)
has_from k (x ∷ xs) e = elim (cases_Bool (x == k)) [
  | inl f ↦ contains-head x k xs (grind (arith, nat_tests))
  | inr f ↦ contains-tail x k xs (has_from k xs (rw f at e))
]

pub has_false : (k : ℕ) (xs : List ℕ) → (Contains xs k → ⊥) → has_key k xs ≡ false
has_false k xs h = elim (cases_Bool (has_key k xs)) [ inl e ↦ absurd (h (has_from k xs e)) | inr e ↦ e ]

pub has_none : (k : ℕ) (xs : List ℕ) → has_key k xs ≡ false → Contains xs k → ⊥
has_none k xs e c = let f : has_key k xs ≡ true = has_true k xs c in absurd (cc)

pub member_or_not : (k : ℕ) (xs : List ℕ) → Contains xs k ⊎ (Contains xs k → ⊥)
member_or_not k xs = elim (cases_Bool (has_key k xs)) [ inl e ↦ inl (has_from k xs e) | inr e ↦ inr (has_none k xs e) ]

-- ---- Lemmas about adding or removing a key, with membership as a `Bool`
pub has_with : (k : ℕ) (xs : List ℕ) → has_key k (with_key k xs) ≡ true
has_with k [] = rw (equal_test k k refl) refl
has_with k (x ∷ xs) = elim (cases_Bool (nat_lt k x)) [
  | inl t ↦ rw t (rw (equal_test k k refl) refl)
  | inr f ↦ rw f (elim (cases_Bool (x == k)) [ inl s ↦ rw s refl | inr n ↦ rw n (has_with k xs) ])
]

pub has_with_other : (k j : ℕ) (xs : List ℕ) → j ≢ k → has_key k (with_key j xs) ≡ has_key k xs
has_with_other k j [] n = rw (unequal_test j k n) refl
has_with_other k j (x ∷ xs) n = elim (cases_Bool (nat_lt j x)) [
  | inl t ↦ rw t (rw (unequal_test j k n) refl)
  | inr f ↦ rw f (rw (has_with_other k j xs n) refl)
]

pub has_without : (k : ℕ) (xs : List ℕ) → has_key k (without_key k xs) ≡ false
has_without k [] = refl
has_without k (x ∷ xs) = elim (cases_Bool (x == k)) [
  | inl t ↦ rw t (has_without k xs)
  | inr f ↦ rw f (rw f (has_without k xs))
]

pub has_without_other : (k j : ℕ) (xs : List ℕ) → j ≢ k → has_key k (without_key j xs) ≡ has_key k xs
has_without_other k j [] n = refl
has_without_other k j (x ∷ xs) n = elim (cases_Bool (x == j)) [
  | inl t ↦ (let e : (x == k) ≡ false = unequal_test x k (λ q. n (sym (same_number x j t) ∙ q)) in
      rw t (rw e (has_without_other k j xs n)))
  | inr f ↦ rw f (rw (has_without_other k j xs n) refl)
]

-- ---- Lemmas about adding or removing a key, with membership as a proposition
pub with_keeps : (k j : ℕ) (xs : List ℕ) → (j ≡ k) ⊎ Contains xs j → Contains (with_key k xs) j
with_keeps k j xs h = elim (same_or_not k j) [
  | inl e ↦ has_from j (with_key k xs) (rw e (has_with j xs))
  | inr n ↦ has_from j (with_key k xs) (has_with_other j k xs n ∙ elim h [ inl e ↦ absurd (n (sym e)) | inr c ↦ has_true j xs c ])
]

pub with_from : (k j : ℕ) (xs : List ℕ) → Contains (with_key k xs) j → (j ≡ k) ⊎ Contains xs j
with_from k j xs c = elim (same_or_not k j) [
  | inl e ↦ inl (sym e)
  | inr n ↦ inr (has_from j xs (sym (has_with_other j k xs n) ∙ has_true j (with_key k xs) c))
]

pub without_keeps : (k j : ℕ) (xs : List ℕ) → j ≢ k → Contains xs j → Contains (without_key k xs) j
without_keeps k j xs n c = has_from j (without_key k xs) (has_without_other j k xs (λ e. n (sym e)) ∙ has_true j xs c)

pub without_from : (k j : ℕ) (xs : List ℕ) → Contains (without_key k xs) j → Contains xs j × (j ≢ k)
without_from k j xs c = elim (same_or_not k j) [
  | inl e ↦ absurd (has_none j (without_key k xs) (rw e (has_without j xs)) c)
  | inr n ↦ (has_from j xs (sym (has_without_other j k xs n) ∙ has_true j (without_key k xs) c), λ e. n (sym e))
]

-- ---- Lemmas about increasing lists
pub with_increases : (k lo : ℕ) (xs : List ℕ) → IncreasesFrom lo xs → lo ≤ k → (Contains xs k → ⊥) → IncreasesFrom lo (with_key k xs)
with_increases k lo [] r l h = (l, tt)
with_increases k lo (x ∷ xs) r l h = elim (cases_Bool (nat_lt k x)) [
  | inl f ↦ rw f (let g : k < x = grind (arith, nat_tests) in (l, ((omega arith), r.1)))
  | inr f ↦ rw f (let g : x ≤ k = grind (arith, nat_tests) in
      let n : x ≢ k = λ e. h (contains-head x k xs e) in
      (r.0, with_increases k (x + 1) xs r.1 (omega arith) (λ c. h (contains-tail x k xs c))))
]

pub without_increases : (k lo : ℕ) (xs : List ℕ) → IncreasesFrom lo xs → IncreasesFrom lo (without_key k xs)
without_increases k lo [] r = tt
without_increases k lo (x ∷ xs) r =
    let a : lo ≤ x = r.0 in
    let i : IncreasesFrom (x + 1) (without_key k xs) = without_increases k (x + 1) xs r.1 in
    elim (cases_Bool (x == k)) [
      | inl f ↦ rw f (increases_less lo (x + 1) (without_key k xs) (omega arith) i)
      | inr f ↦ rw f (r.0, i)
    ]
