-- The chain and the set as lists. Links lead from the head to the tail. The keys of the unmarked nodes of the chain
-- increase, and are exactly the keys of the set.
use Rattle.std.proofs.Common.{◌≡◌, ◌≢◌, ℕ, zero, suc, ◌+◌, ◌-◌, ◌/◌, ◌%◌, ◌<◌, ◌≤◌, true, false, inl, inr, List, [], ◌∷◌, sym}
use Rattle.std.proofs.Common.{refl, ap, subst, ◌∙◌, arith, rules}
use Rattle.std.specs.Prelude.{Contains, nat_lt, nat_eq, ◌&&◌}
use Rattle.std.proofs.lemmas.Bool.{cases_Bool}
use Rattle.lset_words.proofs.Numbers.{same_or_not}
use Rattle.lset_words.proofs.IncreasingLists.{contains-cons, contains-head, contains-tail, contains-nil, IncreasesFrom, increases_less}
use Rattle.lset_steps.specs.Chain.{View, Segment, InChain, IsChain, InContent, IsOrdered}
use Rattle.lset_steps.specs.Worlds.{keys_in}
use Rattle.lset_steps.proofs.Segments.{segment_increases}

-- Lemma: from every node that has been in the chain, links lead to the tail. Proof by induction on the difference
-- between the tail's key and the node's key, because keys increase along links.
reaches-by : (v : View) → IsOrdered v → (d i : ℕ) → v.published i → v.key 1 ≤ v.key i + d → (ns : List ℕ) × Segment v i ns 1
reaches-by v ord zero i m le = elim (same_or_not i 1) [
  | inl e ↦ ([], e)
  | inr n ↦ absurd (let a : v.key i < v.key (v.link i / 2) = ord.increases i m n in
      let b : v.key (v.link i / 2) ≤ v.key 1 = ord.top (v.link i / 2) (ord.next_published i m n) in omega arith)
]
reaches-by v ord (suc d) i m le = elim (same_or_not i 1) [
  | inl e ↦ ([], e)
  | inr n ↦ (let a : v.key i < v.key (v.link i / 2) = ord.increases i m n in
      let r : (ns : List ℕ) × Segment v (v.link i / 2) ns 1 =
      reaches-by v ord d (v.link i / 2) (ord.next_published i m n) (omega arith) in
      (i ∷ r.0, (refl, n, r.1)))
]

pub reaches : (v : View) → IsOrdered v → (i : ℕ) → v.published i → (ns : List ℕ) × Segment v i ns 1
reaches v ord i m = reaches-by v ord (v.key 1) i m (omega arith)

pub chain_is : (v : View) → IsOrdered v → (ns : List ℕ) × IsChain v ns
chain_is v ord = reaches v ord 0 ord.head_published

pub segment_prefix : (v : View) (i j b : ℕ) (ns : List ℕ) → Segment v i ns j → Contains ns b → (ps : List ℕ) × Segment v i ps b
segment_prefix v i j b [] s c = absurd (contains-nil b c)
segment_prefix v i j b (a ∷ ns) s c = elim (contains-cons a b ns c) [
  | inl e ↦ ([], sym s.0 ∙ e)
  | inr d ↦ (let r : (ps : List ℕ) × Segment v (v.link i / 2) ps b = segment_prefix v (v.link i / 2) j b ns s.2 d in
      (i ∷ r.0, (refl, s.1, r.1)))
]

pub chain_member : (v : View) (b : ℕ) (ns : List ℕ) → IsChain v ns → Contains ns b → InChain v b
chain_member v b ns s c = segment_prefix v 0 1 b ns s c

pub segment_member : (v : View) (i b : ℕ) (ns ps : List ℕ) → Segment v i ns 1 → Segment v i ps b → b ≢ 1 → Contains ns b
segment_member v i b [] [] s t n = absurd (n (sym t ∙ s))
segment_member v i b [] (p ∷ ps) s t n = absurd (t.1 s)
segment_member v i b (a ∷ ns) [] s t n = contains-head a b ns (s.0 ∙ t)
segment_member v i b (a ∷ ns) (p ∷ ps) s t n = contains-tail a b ns (segment_member v (v.link i / 2) b ns ps s.2 t.2 n)

kept-yes : (v : View) (b : ℕ) → 1 < b → v.link b % 2 ≡ 0 → (nat_lt 1 b && nat_eq (v.link b % 2) 0) ≡ true
kept-yes v b u e = search rules

kept-no : (v : View) (b : ℕ) → (nat_lt 1 b && nat_eq (v.link b % 2) 0) ≡ true → (1 < b) × (v.link b % 2 ≡ 0)
kept-no v b e = search rules

keys-yes : (v : View) (a : ℕ) (ns : List ℕ) → (nat_lt 1 a && nat_eq (v.link a % 2) 0) ≡ true
    → keys_in v (a ∷ ns) ≡ (v.key a - 1) ∷ keys_in v ns
keys-yes v a ns e = rw e refl

keys-no : (v : View) (a : ℕ) (ns : List ℕ) → (nat_lt 1 a && nat_eq (v.link a % 2) 0) ≡ false → keys_in v (a ∷ ns) ≡ keys_in v ns
keys-no v a ns e = rw e refl

pub keys_have : (v : View) (ns : List ℕ) (b k : ℕ) → Contains ns b → 1 < b → v.link b % 2 ≡ 0 → v.key b ≡ k + 1
    → Contains (keys_in v ns) k
keys_have v [] b k c u e f = absurd (contains-nil b c)
keys_have v (a ∷ ns) b k c u e f = elim (cases_Bool (nat_lt 1 a && nat_eq (v.link a % 2) 0)) [
  | inl t ↦ subst (λ x. Contains x k) (sym (keys-yes v a ns t)) (elim (contains-cons a b ns c) [
    | inl s ↦ contains-head (v.key a - 1) k (keys_in v ns) (let g : v.key a ≡ v.key b = ap v.key s in omega arith)
    | inr d ↦ contains-tail (v.key a - 1) k (keys_in v ns) (keys_have v ns b k d u e f)
  ])
  | inr t ↦ subst (λ x. Contains x k) (sym (keys-no v a ns t)) (elim (contains-cons a b ns c) [
    | inl s ↦ (let g : (nat_lt 1 b && nat_eq (v.link b % 2) 0) ≡ true = kept-yes v b u e in
        let h : (nat_lt 1 b && nat_eq (v.link b % 2) 0) ≡ false =
        subst (λ x. (nat_lt 1 x && nat_eq (v.link x % 2) 0) ≡ false) s t in
        absurd (cc))
    | inr d ↦ keys_have v ns b k d u e f
  ])
]

pub keys_from : (v : View) (ns : List ℕ) (k : ℕ) → Contains (keys_in v ns) k
    → (b : ℕ) × Contains ns b × (1 < b) × (v.link b % 2 ≡ 0) × (v.key b - 1 ≡ k)
keys_from v [] k c = absurd (contains-nil k c)
keys_from v (a ∷ ns) k c = elim (cases_Bool (nat_lt 1 a && nat_eq (v.link a % 2) 0)) [
  | inl t ↦ elim (contains-cons (v.key a - 1) k (keys_in v ns) (subst (λ x. Contains x k) (keys-yes v a ns t) c)) [
    | inl s ↦ (a, contains-head a a ns refl, (kept-no v a t).0, (kept-no v a t).1, s)
    | inr d ↦ (let r : (b : ℕ) × Contains ns b × (1 < b) × (v.link b % 2 ≡ 0) × (v.key b - 1 ≡ k) = keys_from v ns k d in
        (r.0, contains-tail a r.0 ns r.1, r.2, r.3, r.4))
  ]
  | inr t ↦ (let r : (b : ℕ) × Contains ns b × (1 < b) × (v.link b % 2 ≡ 0) × (v.key b - 1 ≡ k) =
      keys_from v ns k (subst (λ x. Contains x k) (keys-no v a ns t) c) in
      (r.0, contains-tail a r.0 ns r.1, r.2, r.3, r.4))
]

pub user_key : (v : View) → IsOrdered v → (b : ℕ) → InChain v b → 1 < b → 0 < v.key b
user_key v ord b ib u = at ib.0 ib.1
  where
    at : (ns : List ℕ) → Segment v 0 ns b → 0 < v.key b
    at [] s = absurd (let e : 0 ≡ b = s in omega arith)
    at (a ∷ ns) s = let h : v.key 0 < v.key (v.link 0 / 2) = ord.increases 0 ord.head_published s.1 in
        let r : v.key (v.link 0 / 2) ≤ v.key b =
        segment_increases v ord (v.link 0 / 2) b ns (ord.next_published 0 ord.head_published s.1) s.2 in
        omega arith

pub content_have : (v : View) (ns : List ℕ) (k : ℕ) → IsChain v ns → InContent v k → Contains (keys_in v ns) k
content_have v ns k s c =
    let u : 1 < c.0 = c.2 in
    keys_have v ns c.0 k (segment_member v 0 c.0 ns c.1.0 s c.1.1 (λ e. omega arith)) c.2 c.4 c.3

pub content_from : (v : View) → IsOrdered v → (ns : List ℕ) (k : ℕ) → IsChain v ns → Contains (keys_in v ns) k → InContent v k
content_from v ord ns k s c =
    let r : (b : ℕ) × Contains ns b × (1 < b) × (v.link b % 2 ≡ 0) × (v.key b - 1 ≡ k) = keys_from v ns k c in
    let ib : InChain v r.0 = chain_member v r.0 ns s r.1 in
    let p : 0 < v.key r.0 = user_key v ord r.0 ib r.2 in
    let e : v.key r.0 - 1 ≡ k = r.4 in
    (r.0, ib, r.2, omega arith, r.3)

keys_increase : (v : View) → IsOrdered v → (i j lo : ℕ) (ns : List ℕ) → v.published i → Segment v i ns j
    → lo + 1 ≤ v.key i → IncreasesFrom lo (keys_in v ns)
keys_increase v ord i j lo [] m s l = tt
keys_increase v ord i j lo (a ∷ ns) m s l =
    let h : v.key i < v.key (v.link i / 2) = ord.increases i m s.1 in
    let ka : v.key a ≡ v.key i = ap v.key s.0 in
    let r : IncreasesFrom (v.key a - 1 + 1) (keys_in v ns) =
    keys_increase v ord (v.link i / 2) j (v.key a - 1 + 1) ns (ord.next_published i m s.1) s.2 (omega arith) in
    elim (cases_Bool (nat_lt 1 a && nat_eq (v.link a % 2) 0)) [
      | inl t ↦ subst (IncreasesFrom lo) (sym (keys-yes v a ns t)) (omega arith, r)
      | inr t ↦ subst (IncreasesFrom lo) (sym (keys-no v a ns t)) (increases_less lo (v.key a - 1 + 1) (keys_in v ns) (omega arith) r)
    ]

pub content_increases : (v : View) → IsOrdered v → (ns : List ℕ) → IsChain v ns → IncreasesFrom 0 (keys_in v ns)
content_increases v ord [] s = tt
content_increases v ord (a ∷ ns) s =
    let h : v.key 0 < v.key (v.link 0 / 2) = ord.increases 0 ord.head_published s.1 in
    let r : IncreasesFrom 0 (keys_in v ns) =
    keys_increase v ord (v.link 0 / 2) 1 0 ns (ord.next_published 0 ord.head_published s.1) s.2 (omega arith) in
    elim (cases_Bool (nat_lt 1 a && nat_eq (v.link a % 2) 0)) [
      | inl t ↦ absurd (let u : 1 < a = (kept-no v a t).0 in let e : a ≡ 0 = s.0 in omega arith)
      | inr t ↦ subst (IncreasesFrom 0) (sym (keys-no v a ns t)) r
    ]
