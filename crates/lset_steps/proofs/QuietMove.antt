-- Lemmas: a step that changes no published node (no node that has been in the chain) changes neither the chain nor the
-- keys of the set.
use Rattle.std.proofs.Common.{◌≡◌, ◌≢◌, ℕ, ◌/◌, ◌%◌, ◌<◌, ◌≤◌, inl, List, ◌∷◌, ◌++◌, sym, refl, ap, subst, ◌∙◌, arith}
use Rattle.lset_steps.specs.Chain.{View, Segment, InChain, InContent, IsOrdered}
use Rattle.lset_steps.proofs.Moves.{Quiet, KeepsNodes}
use Rattle.lset_steps.proofs.Segments.{segment-append, segment_published, segment_same}

pub in_chain_published : (v : View) → IsOrdered v → (b : ℕ) → InChain v b → v.published b
in_chain_published v ord b ib = segment_published v ord 0 b ib.0 ord.head_published ib.1

pub chain_same : (v w : View) → IsOrdered v → ((a : ℕ) → v.published a → w.link a / 2 ≡ v.link a / 2) → (b : ℕ)
    → InChain v b → InChain w b
chain_same v w ord h b ib = (ib.0, segment_same v w ord 0 b 0 ib.0 (λ a m l t. h a m) ord.head_published (omega arith) ib.1)

pub chain_before : (v w : View) → IsOrdered v → (p b : ℕ)
    → ((a : ℕ) → v.published a → v.key a < v.key p → w.link a / 2 ≡ v.link a / 2)
    → v.key b ≤ v.key p → InChain v b → InChain w b
chain_before v w ord p b h le ib =
    (ib.0, segment_same v w ord 0 b 0 ib.0 (λ a m l t. h a m (omega arith)) ord.head_published (omega arith) ib.1)

pub chain_on : (v : View) (p q b : ℕ) (cs : List ℕ) → InChain v p → p ≢ 1 → v.link p / 2 ≡ q → Segment v q cs b → InChain v b
chain_on v p q b cs ip n e s =
    (ip.0 ++ (p ∷ cs), segment-append v 0 p b ip.0 (p ∷ cs) ip.1 (refl, n, subst (λ x. Segment v x cs b) (sym e) s))

pub segment_after : (v w : View) → IsOrdered v → (i j : ℕ) (cs : List ℕ)
    → ((a : ℕ) → v.published a → v.key i ≤ v.key a → w.link a / 2 ≡ v.link a / 2)
    → v.published i → Segment v i cs j → Segment w i cs j
segment_after v w ord i j cs h m s = segment_same v w ord i j (v.key i) cs (λ a ma l t. h a ma l) m (omega arith) s

pub not_one : (v : View) → IsOrdered v → (i j : ℕ) → v.published j → v.key i < v.key j → i ≢ 1
not_one v ord i j m l e = let t : v.key j ≤ v.key 1 = ord.top j m in let f : v.key i ≡ v.key 1 = ap v.key e in omega arith

pub apart : (v : View) (i j : ℕ) → v.key i < v.key j → i ≢ j
apart v i j l e = let f : v.key i ≡ v.key j = ap v.key e in omega arith

pub apart' : (v : View) (i j : ℕ) → v.key i < v.key j → j ≢ i
apart' v i j l e = let f : v.key j ≡ v.key i = ap v.key e in omega arith

-- ---- Lemmas about steps that change no published node (no node that has been in the chain)

pub quiet_keeps : (v w : View) → IsOrdered v → Quiet v w → (b : ℕ) → InChain v b → InChain w b
quiet_keeps v w ord q b ib = chain_same v w ord (λ a m. ap (λ x. x / 2) (q.links a m)) b ib

pub quiet-ordered : (v w : View) → IsOrdered v → Quiet v w → IsOrdered w
quiet-ordered v w ord q = record {
  head_published = q.grows 0 ord.head_published;
  tail_published = q.grows 1 ord.tail_published;
  top = λ i m. let m' : v.published i = q.published_from i m in
      let a : w.key i ≡ v.key i = q.keys i m' in
      let b : w.key 1 ≡ v.key 1 = q.keys 1 ord.tail_published in
      let c : v.key i ≤ v.key 1 = ord.top i m' in omega arith;
  next_published = λ i m n. let m' : v.published i = q.published_from i m in
      q.grows (w.link i / 2) (subst (λ x. v.published (x / 2)) (sym (q.links i m')) (ord.next_published i m' n));
  increases = λ i m n. let m' : v.published i = q.published_from i m in
      let a : w.key i ≡ v.key i = q.keys i m' in
      let b : w.key (v.link i / 2) ≡ v.key (v.link i / 2) = q.keys (v.link i / 2) (ord.next_published i m' n) in
      let e : w.key (w.link i / 2) ≡ w.key (v.link i / 2) = ap (λ x. w.key (x / 2)) (q.links i m') in
      let c : v.key i < v.key (v.link i / 2) = ord.increases i m' n in omega arith;
}

pub quiet-goes : (v w : View) → IsOrdered v → Quiet v w → KeepsNodes v w
quiet-goes v w ord q = record {
  keys = q.keys;
  grows = q.grows;
  kept = λ b m. inl (q.links b m);
  back = λ b m ib. chain_same w v (quiet-ordered v w ord q)
      (λ a ma. ap (λ x. x / 2) (sym (q.links a (q.published_from a ma)))) b ib;
}

pub quiet_content : (v w : View) → IsOrdered v → Quiet v w → (k : ℕ) → InContent v k → InContent w k
quiet_content v w ord q k c =
    let m : v.published c.0 = in_chain_published v ord c.0 c.1 in
    (c.0, quiet_keeps v w ord q c.0 c.1, c.2, q.keys c.0 m ∙ c.3, ap (λ x. x % 2) (q.links c.0 m) ∙ c.4)

pub quiet_back : (v w : View) → Quiet v w → Quiet w v
quiet_back v w q = record {
  keys = λ i m. sym (q.keys i (q.published_from i m));
  links = λ i m. sym (q.links i (q.published_from i m));
  grows = q.published_from;
  published_from = q.grows;
}
