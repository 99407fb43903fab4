-- Recursive predicates on lists: for all elements, for all pairs of elements, and for some element.
use Rattle.std.proofs.Common.{◌≡◌, ℕ, zero, suc, ◌<◌, ◌⊎◌, Bool, true, false, inl, inr, List, [], ◌∷◌, ◌++◌, length, get_or, map}
use Rattle.std.proofs.Common.{refl, subst, ap, ◌∙◌, arith}
use Rattle.std.proofs.lemmas.List.{length-map, get_or-map}
use Rattle.std.specs.Prelude.{filter, Contains, AllPairs}
use Rattle.std.specs.List.{AllByRecursion}
use Rattle.std.proofs.lemmas.List.Elements.{All-from_recursion, recursion_from_All, filter_passes}
use Rattle.std.proofs.lemmas.List.Kept.{AllPairs-cons}
use Rattle.std.proofs.lemmas.Bool.{cases_Bool}

-- Holds if `R` relates each element to each later element.
abbrev pub Pairs : {X : Type 0} → (X → X → Type 0) → List X → Type 0
Pairs R [] = Unit {0}
Pairs R (x ∷ xs) = AllByRecursion (R x) xs × Pairs R xs

-- Holds if `P` holds for some item of the list.
abbrev pub SomeOf : {X : Type 0} → (X → Type 0) → List X → Type 0
SomeOf P [] = ⊥
SomeOf P (x ∷ xs) = P x ⊎ SomeOf P xs

module _ {X : Type 0} (P Q : X → Type 0) where
  pub all_imply : ((x : X) → P x → Q x) → (xs : List X) → AllByRecursion P xs → AllByRecursion Q xs
  all_imply f [] a = tt
  all_imply f (x ∷ xs) a = (f x a.0, all_imply f xs a.1)

  pub all_both : (xs : List X) → AllByRecursion P xs → AllByRecursion Q xs → AllByRecursion (λ x. P x × Q x) xs
  all_both [] a b = tt
  all_both (x ∷ xs) a b = ((a.0, b.0), all_both xs a.1 b.1)

  pub some_imply : ((x : X) → P x → Q x) → (xs : List X) → SomeOf P xs → SomeOf Q xs
  some_imply f [] a = a
  some_imply f (x ∷ xs) (inl a) = inl (f x a)
  some_imply f (x ∷ xs) (inr a) = inr (some_imply f xs a)

module _ {X Y : Type 0} (f : X → Y) where
  pub all_map : (P : Y → Type 0) (xs : List X) → AllByRecursion (λ x. P (f x)) xs → AllByRecursion P (map f xs)
  all_map P [] a = tt
  all_map P (x ∷ xs) a = (a.0, all_map P xs a.1)

  pub pairs_map : (R : Y → Y → Type 0) (xs : List X) → Pairs (λ x y. R (f x) (f y)) xs → Pairs R (map f xs)
  pairs_map R [] a = tt
  pairs_map R (x ∷ xs) a = (all_map (R (f x)) xs a.0, pairs_map R xs a.1)

  pub map_twice : {Z : Type 0} (g : Y → Z) (h : X → Z) (xs : List X) → AllByRecursion (λ x. g (f x) ≡ h x) xs
      → map g (map f xs) ≡ map h xs
  map_twice g h [] a = refl
  map_twice g h (x ∷ xs) a = let e : g (f x) ≡ h x = a.0 in let r : map g (map f xs) ≡ map h xs =
      map_twice g h xs a.1 in rw (e, r) refl

module _ {X : Type 0} (P : X → Type 0) where
  pub all_filter : (p : X → Bool) (xs : List X) → AllByRecursion P xs → AllByRecursion P (filter p xs)
  all_filter p [] a = tt
  all_filter p (x ∷ xs) a = elim (cases_Bool (p x)) [
    | inl b ↦ rw b (a.0, all_filter p xs a.1)
    | inr b ↦ rw b (all_filter p xs a.1)
  ]

  pub all-append : (xs ys : List X) → AllByRecursion P xs → AllByRecursion P ys → AllByRecursion P (xs ++ ys)
  all-append [] ys a b = b
  all-append (x ∷ xs) ys a b = (a.0, all-append xs ys a.1 b)

  pub some_first : (xs ys : List X) → SomeOf P xs → SomeOf P (xs ++ ys)
  some_first [] ys a = absurd a
  some_first (x ∷ xs) ys (inl a) = inl a
  some_first (x ∷ xs) ys (inr a) = inr (some_first xs ys a)

  pub some_last : (xs : List X) (y : X) → P y → SomeOf P (xs ++ y ∷ [])
  some_last [] y a = inl a
  some_last (x ∷ xs) y a = inr (some_last xs y a)

  pub all_at : (xs : List X) (d : X) (i : ℕ) → i < length xs → AllByRecursion P xs → P (get_or xs i d)
  all_at [] d i l a = absurd (omega arith)
  all_at (x ∷ xs) d zero l a = a.0
  all_at (x ∷ xs) d (suc i) l a = all_at xs d i (omega arith) a.1

pub some_contains : {X : Type 0} (y : X) (xs : List X) → SomeOf (λ x. x ≡ y) xs → Contains xs y
some_contains y [] a = absurd a
some_contains y (x ∷ xs) (inl a) = (0, omega arith, a)
some_contains y (x ∷ xs) (inr a) =
    let r : Contains xs y = some_contains y xs a in
    let l : r.0 < length xs = r.1 in
    (suc r.0, omega arith, r.2)

pub contains_some : {X : Type 0} (y : X) (xs : List X) → Contains xs y → SomeOf (λ x. x ≡ y) xs
contains_some y [] (k, l, e) = absurd (omega arith)
contains_some y (x ∷ xs) (zero, l, e) = inl e
contains_some y (x ∷ xs) (suc k, l, e) = inr (contains_some y xs (k, omega arith, e))

pub contains_map : {X Y : Type 0} (f : X → Y) (xs : List X) (x : X) → Contains xs x → Contains (map f xs) (f x)
contains_map f xs x (k, l, e) = (k, omega (arith, length-map xs f), get_or-map f xs k x (f x) l ∙ ap f e)

pub some_one : {X : Type 0} (P : X → Type 0) (xs : List X) → SomeOf P xs → (z : X) × P z × SomeOf (λ x. x ≡ z) xs
some_one P [] s = absurd s
some_one P (x ∷ xs) (inl p) = (x, p, inl refl)
some_one P (x ∷ xs) (inr s) = let o = some_one P xs s in (o.0, o.1, inr o.2)

pub some_all : {X : Type 0} (P : X → Type 0) (y : X) (xs : List X) → SomeOf (λ x. x ≡ y) xs → AllByRecursion P xs → P y
some_all P y [] s a = absurd s
some_all P y (x ∷ xs) (inl e) a = subst P e a.0
some_all P y (x ∷ xs) (inr s) a = some_all P y xs s a.1

pub pairs_imply : {X : Type 0} (P : X → Type 0) (R S : X → X → Type 0) → ((x y : X) → P x → P y → R x y → S x y) → (xs : List X)
    → AllByRecursion P xs → Pairs R xs → Pairs S xs
pairs_imply P R S f [] a b = tt
pairs_imply P R S f (x ∷ xs) a b = (
  all_imply (λ y. P y × R x y) (S x) (λ y q. f x y a.0 q.0 q.1) xs (all_both P (R x) xs a.1 b.0),
  pairs_imply P R S f xs
      a.1 b.1,
)

module _ {X : Type 0} (R : X → X → Type 0) where
  pub pairs_filter : (p : X → Bool) (xs : List X) → Pairs R xs → Pairs R (filter p xs)
  pairs_filter p [] a = tt
  pairs_filter p (x ∷ xs) a = elim (cases_Bool (p x)) [
    | inl b ↦ rw b (all_filter (R x) p xs a.0, pairs_filter p xs a.1)
    | inr b ↦ rw b (pairs_filter p xs a.1)
  ]

  pub pairs_std : (xs : List X) → Pairs R xs → AllPairs R xs
  pairs_std [] a = λ i j d l m. absurd (omega arith)
  pairs_std (x ∷ xs) a = AllPairs-cons R x xs (All-from_recursion (R x) xs a.0) (pairs_std xs a.1)

  pub pairs_rec : (xs : List X) → AllPairs R xs → Pairs R xs
  pairs_rec [] a = tt
  pairs_rec (x ∷ xs) a = (
    recursion_from_All (R x) xs (λ j d l. a zero (suc j) d (omega arith) (omega arith)),
    pairs_rec xs (λ i j d l m. a (suc i) (suc j) d (omega arith) (omega arith)),
  )

pub filter_none : {X : Type 0} (p : X → Bool) (xs : List X) → AllByRecursion (λ x. p x ≡ false) xs → filter p xs ≡ []
filter_none p [] a = refl
filter_none p (x ∷ xs) a = let e : p x ≡ false = a.0 in rw e (filter_none p xs a.1)

pub all_left : {X : Type 0} (p : X → Bool) (xs : List X) → AllByRecursion (λ x. p x ≡ true) (filter p xs)
all_left p xs = recursion_from_All (λ x. p x ≡ true) (filter p xs) (filter_passes p xs)
