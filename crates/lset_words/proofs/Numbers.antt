-- Lemmas about comparisons of two numbers.
use Rattle.std.specs.Prelude.{◌≡◌, ◌≢◌, ℕ, ◌<◌, ◌≤◌, ◌⊎◌, true, false, if◌then◌else◌, ◌==◌, nat_lt}
use Rattle.std.proofs.Common.{arith}
use Rattle.std.proofs.lemmas.Bool.Decides.{nat_tests}

pub same_or_not : (a b : ℕ) → (a ≡ b) ⊎ (a ≢ b)
same_or_not a b = grind arith

pub below_or_not : (a b : ℕ) → (a < b) ⊎ (b ≤ a)
below_or_not a b = grind arith

-- ---- Lemmas: the Boolean result of comparing two numbers, given which number is smaller
pub equal_test : (a b : ℕ) → a ≡ b → (a == b) ≡ true
equal_test a b e = grind (arith, nat_tests)

pub unequal_test : (a b : ℕ) → a ≢ b → (a == b) ≡ false
unequal_test a b e = grind (arith, nat_tests)

-- ---- Lemmas: which of two numbers is smaller, given the Boolean result of comparing them
pub same_number : (a b : ℕ) → (a == b) ≡ true → a ≡ b
same_number a b e = grind (arith, nat_tests)

pub other_number : (a b : ℕ) → (a == b) ≡ false → a ≢ b
other_number a b e f = grind (arith, nat_tests)

pub lower_number : (a b : ℕ) → nat_lt a b ≡ true → a < b
lower_number a b e = grind (arith, nat_tests)

pub not_lower_number : (a b : ℕ) → nat_lt a b ≡ false → b ≤ a
not_lower_number a b e = grind (arith, nat_tests)

-- ---- Lemmas: the value of an `if` that compares two numbers, given which number is smaller
pub if_same : {A : Type 0} (a b : ℕ) → a ≡ b → (x y : A) → (if a == b then x else y) ≡ x
if_same a b e x y = grind (arith, nat_tests)

pub if_other : {A : Type 0} (a b : ℕ) → a ≢ b → (x y : A) → (if a == b then x else y) ≡ y
if_other a b e x y = grind (arith, nat_tests)

pub if_below : {A : Type 0} (a b : ℕ) → a < b → (x y : A) → (if nat_lt a b then x else y) ≡ x
if_below a b e x y = grind (arith, nat_tests)

pub if_not_below : {A : Type 0} (a b : ℕ) → b ≤ a → (x y : A) → (if nat_lt a b then x else y) ≡ y
if_not_below a b e x y = grind (arith, nat_tests)
