-- Proofs about paths along the links of nodes. A path is defined only by the links.
use Rattle.std.specs.Prelude.{◌≡◌, ◌≢◌, ℕ, ◌/◌, ◌<◌, ◌≤◌, List, [], ◌∷◌}
use Rattle.std.proofs.Common.{arith, sym, ap, subst, refl}
use Rattle.lset_steps.specs.Chain.{View, Segment, InChain, IsOrdered}

-- Holds if following the links from node i leads to node j in as many steps as the list `ns` has elements, without
-- following the tail's link. Only the length of `ns` matters.
abbrev pub Leads : (ℕ → ℕ) → ℕ → List ℕ → ℕ → Type 0
Leads link i [] j = i ≡ j
Leads link i (a ∷ ns) j = (i ≢ 1) × Leads link (link i / 2) ns j

abbrev pub Path : (ℕ → ℕ) → ℕ → ℕ → Type 0
Path link i j = (ns : List ℕ) × Leads link i ns j

pub no_steps : (link : ℕ → ℕ) (i : ℕ) → Path link i i
no_steps link i = ([], refl)

leads_on : (link : ℕ → ℕ) (i j : ℕ) (ns : List ℕ) → Leads link i ns j → j ≢ 1 → Path link i (link j / 2)
leads_on link i j [] p d = (i ∷ [], (subst (λ x. x ≢ 1) (sym p) d, ap (λ x. link x / 2) p))
leads_on link i j (a ∷ ns) p d = let q = leads_on link (link i / 2) j ns p.1 d in (a ∷ q.0, (p.0, q.1))

pub path_on : (link : ℕ → ℕ) (i j c : ℕ) → Path link i j → j ≢ 1 → link j / 2 ≡ c → Path link i c
path_on link i j c p d e = subst (Path link i) e (leads_on link i j p.0 p.1 d)

leads_from : (link : ℕ → ℕ) (i j : ℕ) (ns : List ℕ) → i ≢ j → Leads link i ns j → Path link (link i / 2) j
leads_from link i j [] d p = absurd (d p)
leads_from link i j (a ∷ ns) d p = (ns, p.1)

pub path_from : (link : ℕ → ℕ) (i j : ℕ) → i ≢ j → Path link i j → Path link (link i / 2) j
path_from link i j d p = leads_from link i j p.0 d p.1

leads_up : (v : View) → IsOrdered v → (i j : ℕ) (ns : List ℕ) → v.published i → Leads v.link i ns j → v.key i ≤ v.key j
leads_up v ord i j [] m p = let e : v.key i ≡ v.key j = ap v.key p in omega arith
leads_up v ord i j (a ∷ ns) m p =
    let h : v.key i < v.key (v.link i / 2) = ord.increases i m p.0 in
    let r : v.key (v.link i / 2) ≤ v.key j = leads_up v ord (v.link i / 2) j ns (ord.next_published i m p.0) p.1 in
    omega arith

pub path_up : (v : View) → IsOrdered v → (i j : ℕ) → v.published i → Path v.link i j → v.key i ≤ v.key j
path_up v ord i j m p = leads_up v ord i j p.0 m p.1

-- Lemma: if links lead from node i to node j, the chain has a segment from i to j.
segment_of : (v : View) (i j : ℕ) (ns : List ℕ) → Leads v.link i ns j → (bs : List ℕ) × Segment v i bs j
segment_of v i j [] p = ([], p)
segment_of v i j (a ∷ ns) p = let q = segment_of v (v.link i / 2) j ns p.1 in (i ∷ q.0, (refl, p.0, q.1))

pub in_chain_of : (v : View) (b : ℕ) → Path v.link 0 b → InChain v b
in_chain_of v b p = segment_of v 0 b p.0 p.1

leads_of : (v : View) (i j : ℕ) (ns : List ℕ) → Segment v i ns j → Leads v.link i ns j
leads_of v i j [] p = p
leads_of v i j (a ∷ ns) p = (p.1, leads_of v (v.link i / 2) j ns p.2)

pub path_of : (v : View) (b : ℕ) → InChain v b → Path v.link 0 b
path_of v b i = (i.0, leads_of v 0 b i.0 i.1)
