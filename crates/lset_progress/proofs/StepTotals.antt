-- Proofs about sums over all threads, or over all nodes.
use Rattle.std.specs.Prelude.{◌≡◌, ◌≢◌, ℕ, ◌+◌, ◌*◌, ◌<◌, ◌≤◌, ◌==◌, if◌then◌else◌, refl}
use Rattle.std.proofs.Common.{arith, inl, inr, ap, zero, suc}
use Rattle.lset_words.proofs.Numbers.{same_or_not, if_same, if_other}

abbrev pub total : (ℕ → ℕ) → ℕ → ℕ
total b zero = 0
total b (suc n) = b n + total b n

pub total_all : (most n : ℕ) → total (λ t. most) n ≡ n * most
total_all most zero = omega arith
total_all most (suc n) = let r : total (λ t. most) n ≡ n * most = total_all most n in grind arith

pub total_at : (b : ℕ → ℕ) (n u : ℕ) → u < n → b u ≤ total b n
total_at b zero u l = absurd (omega arith)
total_at b (suc n) u l = elim (same_or_not u n) [
  | inl e ↦ let x : b u ≡ b n = ap b e in omega arith
  | inr d ↦ let x : b u ≤ total b n = total_at b n u (omega arith) in omega arith
]

total_most : (b c : ℕ → ℕ) (n d : ℕ) → ((v : ℕ) → v < n → c v ≤ b v + d) → total c n ≤ total b n + n * d
total_most b c zero d h = omega arith
total_most b c (suc n) d h =
    let x : c n ≤ b n + d = h n (omega arith) in
    let r : total c n ≤ total b n + n * d = total_most b c n d (λ v l. h v (omega arith)) in
    let m : suc n * d ≡ d + n * d = grind arith in
    omega arith

pub total_step : (b c : ℕ → ℕ) (n u d x : ℕ) → u < n → c u + x ≤ b u → ((v : ℕ) → v < n → v ≢ u → c v ≤ b v + d)
    → total c n + x ≤ total b n + n * d
total_step b c zero u d x l e h = absurd (omega arith)
total_step b c (suc n) u d x l e h =
    let m : suc n * d ≡ d + n * d = grind arith in
    elim (same_or_not n u) [
      | inl y ↦
          (let p : c n ≡ c u = ap c y in let q : b n ≡ b u = ap b y in
          let r : total c n ≤ total b n + n * d = total_most b c n d (λ v k. h v (omega arith) (omega arith)) in omega arith)
      | inr y ↦
          (let p : c n ≤ b n + d = h n (omega arith) y in
          let r : total c n + x ≤ total b n + n * d = total_step b c n u d x (omega arith) e (λ v k. h v (omega arith)) in
          omega arith)
    ]

pub total_less : (b c : ℕ → ℕ) (n u : ℕ) → u < n → c u + 1 ≤ b u → ((v : ℕ) → v ≢ u → c v ≡ b v) → total c n + 1 ≤ total b n
total_less b c n u l e h =
    let x : total c n + 1 ≤ total b n + n * 0 =
    total_step b c n u 0 1 l e (λ v vn d. let y : c v ≡ b v = h v d in omega arith) in
    omega arith

pub one_price : (c a b : ℕ) → a + 1 ≤ b → c * a + c ≤ c * b
one_price zero a b l = omega arith
one_price (suc c) a b l =
    let h : c * a + c ≤ c * b = one_price c a b l in
    let x : suc c * a ≡ c * a + a = grind arith in
    let y : suc c * b ≡ c * b + b = grind arith in
    omega arith

-- Returns the function b with its value at u replaced by n.
abbrev pub put : (ℕ → ℕ) → ℕ → ℕ → ℕ → ℕ
put b u n t = if t == u then n else b t

pub put_this : (b : ℕ → ℕ) (u n : ℕ) → put b u n u ≡ n
put_this b u n = if_same u u refl n (b u)

pub put_that : (b : ℕ → ℕ) (u n t : ℕ) → t ≢ u → put b u n t ≡ b t
put_that b u n t d = if_other t u d n (b t)
