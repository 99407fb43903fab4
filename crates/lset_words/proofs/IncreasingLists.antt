-- Lemmas about the members of a list, and about lists in increasing order.
use Rattle.std.proofs.Common.{◌≡◌, ℕ, zero, suc, ◌+◌, ◌<◌, ◌≤◌, ◌⊎◌, inl, inr, List, [], ◌∷◌, length, get_or, sym, refl, subst, arith}
use Rattle.std.specs.Prelude.{Contains}
use Rattle.std.specs.List.Sorted.{IsStrictlyIncreasing}

-- ---- Lemmas about members of lists
pub contains-cons : (x y : ℕ) (xs : List ℕ) → Contains (x ∷ xs) y → (x ≡ y) ⊎ Contains xs y
contains-cons x y xs c = at c.0 c.1 c.2
  where
    at : (k : ℕ) → k < length (x ∷ xs) → get_or (x ∷ xs) k y ≡ y → (x ≡ y) ⊎ Contains xs y
    at zero l e = inl e
    at (suc k) l e = inr (k, omega arith, e)

pub contains-head : (x y : ℕ) (xs : List ℕ) → x ≡ y → Contains (x ∷ xs) y
contains-head x y xs e = (0, omega arith, e)

pub contains-tail : (x y : ℕ) (xs : List ℕ) → Contains xs y → Contains (x ∷ xs) y
contains-tail x y xs c = let l : c.0 < length xs = c.1 in (suc c.0, omega arith, c.2)

pub contains-nil : (y : ℕ) → Contains [] y → ⊥
contains-nil y c = let l : c.0 < 0 = c.1 in omega arith

-- Holds if the list increases strictly and each element is at least `lo`. A recursive form of `IsStrictlyIncreasing`,
-- for proofs by induction.
abbrev pub IncreasesFrom : ℕ → List ℕ → Type 0
IncreasesFrom lo [] = Unit {0}
IncreasesFrom lo (x ∷ xs) = (lo ≤ x) × IncreasesFrom (x + 1) xs

pub increases_less : (lo hi : ℕ) (xs : List ℕ) → lo ≤ hi → IncreasesFrom hi xs → IncreasesFrom lo xs
increases_less lo hi [] l r = tt
increases_less lo hi (x ∷ xs) l r = let a : hi ≤ x = r.0 in (omega arith, r.1)

increase_bound : (lo y : ℕ) (xs : List ℕ) → IncreasesFrom lo xs → Contains xs y → lo ≤ y
increase_bound lo y [] r c = absurd (contains-nil y c)
increase_bound lo y (x ∷ xs) r c = elim (contains-cons x y xs c) [
  | inl e ↦ (let a : lo ≤ x = r.0 in omega arith)
  | inr d ↦ (let a : lo ≤ x = r.0 in let b : x + 1 ≤ y = increase_bound (x + 1) y xs r.1 d in omega arith)
]

pub same_increasing : (lo mo : ℕ) (xs ys : List ℕ) → IncreasesFrom lo xs → IncreasesFrom mo ys
    → ((k : ℕ) → Contains xs k → Contains ys k) → ((k : ℕ) → Contains ys k → Contains xs k) → xs ≡ ys
same_increasing lo mo [] [] r s f g = refl
same_increasing lo mo [] (y ∷ ys) r s f g = absurd (contains-nil y (g y (contains-head y y ys refl)))
same_increasing lo mo (x ∷ xs) [] r s f g = absurd (contains-nil x (f x (contains-head x x xs refl)))
same_increasing lo mo (x ∷ xs) (y ∷ ys) r s f g =
    let e : x ≡ y = heads in
    let t : xs ≡ ys = same_increasing (x + 1) (y + 1) xs ys r.1 s.1 (down x y xs ys r.1 f e) (down y x ys xs s.1 g (sym e)) in
    cc
  where
    heads : x ≡ y
    heads =
        let below : (u v : ℕ) (us vs : List ℕ) → IncreasesFrom (v + 1) vs → Contains (v ∷ vs) u → v ≤ u =
        λ u v us vs q c. elim (contains-cons v u vs c) [
          | inl e ↦ omega arith
          | inr d ↦ (let b : v + 1 ≤ u = increase_bound (v + 1) u vs q d in omega arith)
        ] in
        let p : y ≤ x = below x y xs ys s.1 (f x (contains-head x x xs refl)) in
        let q : x ≤ y = below y x ys xs r.1 (g y (contains-head y y ys refl)) in
        omega arith

    down : (x y : ℕ) (xs ys : List ℕ) → IncreasesFrom (x + 1) xs → ((k : ℕ) → Contains (x ∷ xs) k → Contains (y ∷ ys) k) → x ≡ y
        → (k : ℕ) → Contains xs k → Contains ys k
    down x y xs ys q h e k c = elim (contains-cons y k ys (h k (contains-tail x k xs c))) [
      | inl i ↦ absurd (let b : x + 1 ≤ k = increase_bound (x + 1) k xs q c in omega arith)
      | inr d ↦ d
    ]

increases_after : (x : ℕ) (xs : List ℕ) → IsStrictlyIncreasing (x ∷ xs) → IncreasesFrom (x + 1) xs
increases_after x [] h = tt
increases_after x (y ∷ ys) h =
    let a : x < y = h 0 (omega arith) in (
      omega arith,
      increases_after y ys (λ k l. let e : suc k + 1 ≡ suc (k + 1) = omega arith in
          subst (λ n. get_or (y ∷ ys) k 0 < get_or (x ∷ (y ∷ ys)) n 0) e (h (suc k) (omega arith))),
    )

pub increases_from_increasing : (xs : List ℕ) → IsStrictlyIncreasing xs → IncreasesFrom 0 xs
increases_from_increasing [] h = tt
increases_from_increasing (x ∷ xs) h = (omega arith, increases_after x xs h)

pub increasing_from_increases : (lo : ℕ) (xs : List ℕ) → IncreasesFrom lo xs → IsStrictlyIncreasing xs
increasing_from_increases lo [] r k l = absurd (omega arith)
increasing_from_increases lo (x ∷ []) r k l = absurd (omega arith)
increasing_from_increases lo (x ∷ (y ∷ xs)) r zero l = let a : x + 1 ≤ y = r.1.0 in omega arith
increasing_from_increases lo (x ∷ (y ∷ xs)) r (suc k) l =
    let e : suc (k + 1) ≡ suc k + 1 = omega arith in
    subst (λ n. get_or (y ∷ xs) k 0 < get_or (x ∷ (y ∷ xs)) n 0) e (increasing_from_increases (x + 1) (y ∷ xs) r.1 k (omega arith))
