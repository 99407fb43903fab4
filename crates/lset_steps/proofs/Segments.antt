-- Lemmas about segments (nodes that follow each other along links): segments can be joined, and keys increase along a
-- segment, so different nodes of a segment have different keys.
use Rattle.std.proofs.Common.{◌≡◌, ◌≢◌, ℕ, ◌/◌, ◌<◌, ◌≤◌, ◌⊎◌, inl, inr, List, [], ◌∷◌, ◌++◌, sym, refl, ap, subst, arith}
use Rattle.lset_steps.specs.Chain.{View, Segment, InChain, IsOrdered}

pub segment-append : (v : View) (i j k : ℕ) (ns bs : List ℕ) → Segment v i ns j → Segment v j bs k → Segment v i (ns ++ bs) k
segment-append v i j k [] bs s t = subst (λ x. Segment v x bs k) (sym s) t
segment-append v i j k (a ∷ ns) bs s t = (s.0, s.1, segment-append v (v.link i / 2) j k ns bs s.2 t)

pub segment_published : (v : View) → IsOrdered v → (i j : ℕ) (ns : List ℕ) → v.published i → Segment v i ns j → v.published j
segment_published v ord i j [] m s = subst (λ x. v.published x) s m
segment_published v ord i j (a ∷ ns) m s = segment_published v ord (v.link i / 2) j ns (ord.next_published i m s.1) s.2

pub segment_increases : (v : View) → IsOrdered v → (i j : ℕ) (ns : List ℕ) → v.published i → Segment v i ns j → v.key i ≤ v.key j
segment_increases v ord i j [] m s = let e : v.key i ≡ v.key j = ap v.key s in omega arith
segment_increases v ord i j (a ∷ ns) m s =
    let h : v.key i < v.key (v.link i / 2) = ord.increases i m s.1 in
    let r : v.key (v.link i / 2) ≤ v.key j = segment_increases v ord (v.link i / 2) j ns (ord.next_published i m s.1) s.2 in
    omega arith

pub segment_same : (v w : View) → IsOrdered v → (i j lo : ℕ) (ns : List ℕ)
    → ((a : ℕ) → v.published a → lo ≤ v.key a → v.key a < v.key j → w.link a / 2 ≡ v.link a / 2)
    → v.published i → lo ≤ v.key i → Segment v i ns j → Segment w i ns j
segment_same v w ord i j lo [] agree m l s = s
segment_same v w ord i j lo (a ∷ ns) agree m l s =
    let m' : v.published (v.link i / 2) = ord.next_published i m s.1 in
    let h : v.key i < v.key (v.link i / 2) = ord.increases i m s.1 in
    let r : v.key (v.link i / 2) ≤ v.key j = segment_increases v ord (v.link i / 2) j ns m' s.2 in
    let e : w.link i / 2 ≡ v.link i / 2 = agree i m l (omega arith) in (
      s.0,
      s.1,
      subst (λ x. Segment w x ns j) (sym e)
          (segment_same v w ord (v.link i / 2) j lo ns agree m' (omega arith) s.2),
    )

pub segment_meet : (v : View) (i j k : ℕ) (ns bs : List ℕ) → Segment v i ns j → Segment v i bs k
    → ((cs : List ℕ) × Segment v j cs k) ⊎ ((cs : List ℕ) × Segment v k cs j)
segment_meet v i j k [] bs s t = inl (bs, subst (λ x. Segment v x bs k) s t)
segment_meet v i j k (a ∷ ns) [] s t = inr (a ∷ ns, subst (λ x. Segment v x (a ∷ ns) j) t s)
segment_meet v i j k (a ∷ ns) (b ∷ bs) s t = segment_meet v (v.link i / 2) j k ns bs s.2 t.2

pub sides : (v : View) → IsOrdered v → (p b : ℕ) → InChain v p → InChain v b
    → (v.key b ≤ v.key p) ⊎ ((cs : List ℕ) × Segment v (v.link p / 2) cs b)
sides v ord p b ip ib = elim (segment_meet v 0 p b ip.0 ib.0 ip.1 ib.1) [
  | inl c ↦ after c.0 c.1
  | inr c ↦ inl (segment_increases v ord b p c.0 (segment_published v ord 0 b ib.0 ord.head_published ib.1) c.1)
]
  where
    after : (cs : List ℕ) → Segment v p cs b → (v.key b ≤ v.key p) ⊎ ((cs : List ℕ) × Segment v (v.link p / 2) cs b)
    after [] s = inl (let e : v.key p ≡ v.key b = ap v.key s in omega arith)
    after (c ∷ cs) s = inr (cs, s.2)

pub gap : (v : View) → IsOrdered v → (a c : ℕ) → InChain v a → InChain v c → a ≢ 1
    → v.key a < v.key c → v.key c < v.key (v.link a / 2) → ⊥
gap v ord a c ia ic na lo hi = elim (sides v ord a c ia ic) [
  | inl l ↦ omega arith
  | inr t ↦ let m : v.published a = segment_published v ord 0 a ia.0 ord.head_published ia.1 in
      let r : v.key (v.link a / 2) ≤ v.key c = segment_increases v ord (v.link a / 2) c t.0 (ord.next_published a m na) t.1 in
      omega arith
]

pub segment_strict : (v : View) → IsOrdered v → (i j : ℕ) (ns : List ℕ) → v.published i → Segment v i ns j
    → v.key i ≡ v.key j → i ≡ j
segment_strict v ord i j [] m s e = s
segment_strict v ord i j (a ∷ ns) m s e =
    let h : v.key i < v.key (v.link i / 2) = ord.increases i m s.1 in
    let r : v.key (v.link i / 2) ≤ v.key j = segment_increases v ord (v.link i / 2) j ns (ord.next_published i m s.1) s.2 in
    absurd (omega arith)

pub one_key : (v : View) → IsOrdered v → (b c : ℕ) → InChain v b → InChain v c → v.key b ≡ v.key c → b ≡ c
one_key v ord b c ib ic e = elim (segment_meet v 0 b c ib.0 ic.0 ib.1 ic.1) [
  | inl t ↦ segment_strict v ord b c t.0 (segment_published v ord 0 b ib.0 ord.head_published ib.1) t.1 e
  | inr t ↦ sym (segment_strict v ord c b t.0 (segment_published v ord 0 c ic.0 ord.head_published ic.1) t.1 (sym e))
]

pub chain_once : (v : View) (i : ℕ) (ns bs : List ℕ) → Segment v i ns 1 → Segment v i bs 1 → ns ≡ bs
chain_once v i [] [] s t = refl
chain_once v i [] (b ∷ bs) s t = absurd (t.1 s)
chain_once v i (a ∷ ns) [] s t = absurd (s.1 t)
chain_once v i (a ∷ ns) (b ∷ bs) s t =
    let e : ns ≡ bs = chain_once v (v.link i / 2) ns bs s.2 t.2 in
    let f : a ≡ i = s.0 in
    let g : b ≡ i = t.0 in
    cc
