-- Proofs about the nodes ahead of a walk (the nodes with greater keys than the node that the walk has reached). Because
-- keys increase along a walk, the number of nodes ahead bounds the number of the walk's remaining steps.
use Rattle.std.specs.Prelude.{◌≡◌, ℕ, ◌+◌, ◌<◌, ◌≤◌, if◌then◌else◌, nat_lt}
use Rattle.std.proofs.Common.{arith, inl, inr, ap, zero, suc}
use Rattle.lset_words.proofs.Numbers.{same_or_not, below_or_not, if_below, if_not_below}

abbrev pub above : ℕ → ℕ → ℕ
above c x = if nat_lt c x then 1 else 0

-- Returns how many of the nodes 0 to n - 1 have a key greater than `c`.
abbrev pub ahead : (ℕ → ℕ) → ℕ → ℕ → ℕ
ahead key zero c = 0
ahead key (suc n) c = above c (key n) + ahead key n c

above_is : (c x : ℕ) → c < x → above c x ≡ 1
above_is c x l = if_below c x l 1 0

above_not : (c x : ℕ) → x ≤ c → above c x ≡ 0
above_not c x l = if_not_below c x l 1 0

above_falls : (c d x : ℕ) → c ≤ d → above d x ≤ above c x
above_falls c d x l = elim (below_or_not d x) [
  | inl lt ↦ let a : above d x ≡ 1 = above_is d x lt in let b : above c x ≡ 1 = above_is c x (omega arith) in omega arith
  | inr ge ↦ let a : above d x ≡ 0 = above_not d x ge in omega arith
]

above_one : (c x : ℕ) → above c x ≤ 1
above_one c x = elim (below_or_not c x) [
  | inl lt ↦ let a : above c x ≡ 1 = above_is c x lt in omega arith
  | inr ge ↦ let a : above c x ≡ 0 = above_not c x ge in omega arith
]

pub ahead_falls : (key : ℕ → ℕ) (n c d : ℕ) → c ≤ d → ahead key n d ≤ ahead key n c
ahead_falls key zero c d l = omega arith
ahead_falls key (suc n) c d l =
    let a : above d (key n) ≤ above c (key n) = above_falls c d (key n) l in
    let b : ahead key n d ≤ ahead key n c = ahead_falls key n c d l in
    omega arith

pub ahead_less : (key : ℕ → ℕ) (n c i : ℕ) → i < n → c < key i → ahead key n (key i) < ahead key n c
ahead_less key zero c i h l = absurd (omega arith)
ahead_less key (suc n) c i h l = elim (same_or_not i n) [
  | inl e ↦
      (let f : key i ≡ key n = ap key e in
      let a : above (key i) (key n) ≡ 0 = above_not (key i) (key n) (omega arith) in
      let b : above c (key n) ≡ 1 = above_is c (key n) (omega arith) in
      let r : ahead key n (key i) ≤ ahead key n c = ahead_falls key n c (key i) (omega arith) in
      omega arith)
  | inr d ↦
      (let a : above (key i) (key n) ≤ above c (key n) = above_falls c (key i) (key n) (omega arith) in
      let r : ahead key n (key i) < ahead key n c = ahead_less key n c i (omega arith) l in
      omega arith)
]

pub ahead_most : (key : ℕ → ℕ) (n c : ℕ) → ahead key n c ≤ n
ahead_most key zero c = omega arith
ahead_most key (suc n) c =
    let a : above c (key n) ≤ 1 = above_one c (key n) in let b : ahead key n c ≤ n = ahead_most key n c in omega arith

pub ahead_few : (key : ℕ → ℕ) (n c i : ℕ) → i < n → key i ≤ c → ahead key n c < n
ahead_few key zero c i h l = absurd (omega arith)
ahead_few key (suc n) c i h l = elim (same_or_not i n) [
  | inl e ↦
      (let f : key i ≡ key n = ap key e in
      let a : above c (key n) ≡ 0 = above_not c (key n) (omega arith) in
      let b : ahead key n c ≤ n = ahead_most key n c in
      omega arith)
  | inr d ↦
      (let a : above c (key n) ≤ 1 = above_one c (key n) in
      let r : ahead key n c < n = ahead_few key n c i (omega arith) l in
      omega arith)
]
