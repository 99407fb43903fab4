-- Hindsight (after O'Hearn and others): if a node was in the chain at some moment of a call, and has a certain link
-- now, then at some moment of the call, the node was in the chain with that link. Therefore the result of a walk
-- without locks was correct at some moment of the call.
use Rattle.std.proofs.Common.{◌≡◌, ◌≢◌, ℕ, zero, suc, ◌+◌, ◌-◌, ◌/◌, ◌%◌, ◌<◌, ◌≤◌, ◌⊎◌, inl, inr, [], sym, refl, ap, subst, ◌∙◌, arith}
use Rattle.lset_steps.specs.Chain.{View, InChain, IsOrdered, Seen}
use Rattle.lset_steps.proofs.Moves.{KeepsNodes, Course, InPast, Had, Lacked}
use Rattle.lset_steps.proofs.Segments.{gap, one_key}
use Rattle.lset_steps.proofs.QuietMove.{in_chain_published, chain_on}

pub later_published : (vs : ℕ → View) (n b d m t : ℕ) → Course vs n → t ≡ m + d → t ≤ n → (vs m).published b
    → (vs t).published b × ((vs t).key b ≡ (vs m).key b)
later_published vs n b zero m t r e l mb =
    let f : m ≡ t = omega arith in
    subst (λ x. (vs x).published b × ((vs x).key b ≡ (vs m).key b)) f (mb, refl)
later_published vs n b (suc d) m t r e l mb =
    let i : (vs (m + d)).published b × ((vs (m + d)).key b ≡ (vs m).key b) =
    later_published vs n b d m (m + d) r refl (omega arith) mb in
    let g : KeepsNodes (vs (m + d)) (vs (m + d + 1)) = r.goes (m + d) (omega arith) in
    let f : m + d + 1 ≡ t = omega arith in
    subst (λ x. (vs x).published b × ((vs x).key b ≡ (vs m).key b)) f (g.grows b i.0, g.keys b i.0 ∙ i.1)

pub key_stays : (vs : ℕ → View) (n b m t : ℕ) → Course vs n → m ≤ t → t ≤ n → (vs m).published b → (vs t).key b ≡ (vs m).key b
key_stays vs n b m t r l h mb = (later_published vs n b (t - m) m t r (omega arith) h mb).1

marked_by : (vs : ℕ → View) (n b d m t : ℕ) → Course vs n → t ≡ m + d → t ≤ n → (vs m).published b → (vs m).link b % 2 ≡ 1
    → (vs t).link b ≡ (vs m).link b
marked_by vs n b zero m t r e l p odd = let f : m ≡ t = omega arith in subst (λ x. (vs x).link b ≡ (vs m).link b) f refl
marked_by vs n b (suc d) m t r e l p odd =
    let i : (vs (m + d)).link b ≡ (vs m).link b = marked_by vs n b d m (m + d) r refl (omega arith) p odd in
    let q : (vs (m + d)).published b = (later_published vs n b d m (m + d) r refl (omega arith) p).0 in
    let f : m + d + 1 ≡ t = omega arith in
    subst (λ x. (vs x).link b ≡ (vs m).link b) f (r.marked (m + d) (omega arith) b q (omega arith) ∙ i)

pub unmarked_before : (vs : ℕ → View) (n b m t : ℕ) → Course vs n → m ≤ t → t ≤ n → (vs m).published b → (vs t).link b % 2 ≡ 0
    → (vs m).link b % 2 ≡ 0
unmarked_before vs n b m t r l h p even = elim (even_or_not ((vs m).link b)) [
  | inl e ↦ e
  | inr o ↦ absurd (let i : (vs t).link b ≡ (vs m).link b = marked_by vs n b (t - m) m t r (omega arith) h p o in omega arith)
]
  where
    even_or_not : (x : ℕ) → (x % 2 ≡ 0) ⊎ (x % 2 ≡ 1)
    even_or_not x = grind arith

-- Lemma (hindsight): if a node was in the chain at moment `m`, then at some moment from `m` to a later moment `t`, the
-- node was in the chain with the link that it has at `t`. Proof by induction on the moments, because the link of a node
-- changes only while the node is in the chain.
hindsight-by : (vs : ℕ → View) (n b d m t : ℕ) → Course vs n → t ≡ m + d → t ≤ n → InChain (vs m) b
    → Seen vs m t b ((vs t).link b)
hindsight-by vs n b zero m t r e l i =
    let f : m ≡ t = omega arith in
    record { at = m; from = omega arith; upto = omega arith; in_chain = i; link = ap (λ x. (vs x).link b) f }
hindsight-by vs n b (suc d) m t r e l i =
    let s : Seen vs m (m + d) b ((vs (m + d)).link b) = hindsight-by vs n b d m (m + d) r refl (omega arith) i in
    let mb : (vs (m + d)).published b =
    (later_published vs n b d m (m + d) r refl (omega arith) (in_chain_published (vs m) (r.ordered m (omega arith)) b i)).0 in
    let f : m + d + 1 ≡ t = omega arith in
    subst (λ x. Seen vs m x b ((vs x).link b)) f (elim ((r.goes (m + d) (omega arith)).kept b mb) [
      | inl same ↦ record {
        at = s.at;
        from = s.from;
        upto = (let u : s.at ≤ m + d = s.upto in omega arith);
        in_chain = s.in_chain;
        link = s.link ∙ sym same;
      }
      | inr both ↦ record { at = m + d + 1; from = omega arith; upto = omega arith; in_chain = both.1; link = refl }
    ])

pub hindsight : (vs : ℕ → View) (n first now b : ℕ) → Course vs n → now ≤ n → InPast vs first now b
    → Seen vs first now b ((vs now).link b)
hindsight vs n first now b r l p =
    let a : first ≤ p.at = p.from in
    let c : p.at ≤ now = p.upto in
    let s : Seen vs p.at now b ((vs now).link b) = hindsight-by vs n b (now - p.at) p.at now r (omega arith) l p.in_chain in
    let d : p.at ≤ s.at = s.from in
    record { at = s.at; from = omega arith; upto = s.upto; in_chain = s.in_chain; link = s.link }

pub next_in_past : (vs : ℕ → View) (first now b l : ℕ) → b ≢ 1 → Seen vs first now b l → InPast vs first now (l / 2)
next_in_past vs first now b l n s = record {
  at = s.at;
  from = s.from;
  upto = s.upto;
  in_chain = chain_on (vs s.at) b (l / 2) (l / 2) [] s.in_chain n (ap (λ x. x / 2) s.link) refl;
}

abbrev pub in_past_on : (vs : ℕ → View) (first now later b : ℕ) → now ≤ later → InPast vs first now b → InPast vs first later b
in_past_on vs first now later b l s =
    record { at = s.at; from = s.from; upto = (let u : s.at ≤ now = s.upto in omega arith); in_chain = s.in_chain }

abbrev pub seen_on : (vs : ℕ → View) (first now later b l : ℕ) → now ≤ later → Seen vs first now b l → Seen vs first later b l
seen_on vs first now later b k l s =
    record { at = s.at; from = s.from; upto = (let u : s.at ≤ now = s.upto in omega arith); in_chain = s.in_chain; link = s.link }

-- Lemma: if the walk saw a link from node `a` to another node, and the key `k` is between the keys of the two nodes,
-- then `k` was absent from the set at some moment of the call.
pub lacked_between : (vs : ℕ → View) (n first now a l k : ℕ) → Course vs n → now ≤ n → a ≢ 1 → Seen vs first now a l
    → (vs now).key a < k + 1 → k + 1 < (vs now).key (l / 2) → Lacked vs first now k
lacked_between vs n first now a l k r le na s lo hi =
    let u : s.at ≤ now = s.upto in
    let ord : IsOrdered (vs s.at) = r.ordered s.at (omega arith) in
    let ma : (vs s.at).published a = in_chain_published (vs s.at) ord a s.in_chain in
    let e : (vs s.at).link a / 2 ≡ l / 2 = ap (λ x. x / 2) s.link in
    let mb : (vs s.at).published (l / 2) = subst (λ x. (vs s.at).published x) e (ord.next_published a ma na) in
    let ka : (vs now).key a ≡ (vs s.at).key a = key_stays vs n a s.at now r u le ma in
    let kb : (vs now).key (l / 2) ≡ (vs s.at).key (l / 2) = key_stays vs n (l / 2) s.at now r u le mb in
    let kc : (vs s.at).key ((vs s.at).link a / 2) ≡ (vs s.at).key (l / 2) = ap (vs s.at).key e in
    record {
      at = s.at;
      from = s.from;
      upto = s.upto;
      lacks = λ c. let kk : (vs s.at).key c.0 ≡ k + 1 = c.3 in
          gap (vs s.at) ord a c.0 s.in_chain c.1 na (omega arith) (omega arith);
    }

pub had_at : (vs : ℕ → View) (n first now b k : ℕ) → Course vs n → now ≤ n → InPast vs first now b → 1 < b
    → (vs now).key b ≡ k + 1 → (vs now).link b % 2 ≡ 0 → Had vs first now k
had_at vs n first now b k r le p user kb even =
    let s : Seen vs first now b ((vs now).link b) = hindsight vs n first now b r le p in
    let u : s.at ≤ now = s.upto in
    let ord : IsOrdered (vs s.at) = r.ordered s.at (omega arith) in
    let ks : (vs now).key b ≡ (vs s.at).key b =
    key_stays vs n b s.at now r u le (in_chain_published (vs s.at) ord b s.in_chain) in
    record {
      at = s.at;
      from = s.from;
      upto = s.upto;
      has = (b, s.in_chain, user, sym ks ∙ kb, ap (λ x. x % 2) s.link ∙ even);
    }

pub lacked_at : (vs : ℕ → View) (n first now b k : ℕ) → Course vs n → now ≤ n → InPast vs first now b
    → (vs now).key b ≡ k + 1 → (vs now).link b % 2 ≡ 1 → Lacked vs first now k
lacked_at vs n first now b k r le p kb odd =
    let s : Seen vs first now b ((vs now).link b) = hindsight vs n first now b r le p in
    let u : s.at ≤ now = s.upto in
    let ord : IsOrdered (vs s.at) = r.ordered s.at (omega arith) in
    let ks : (vs now).key b ≡ (vs s.at).key b =
    key_stays vs n b s.at now r u le (in_chain_published (vs s.at) ord b s.in_chain) in
    let lk : (vs s.at).link b ≡ (vs now).link b = s.link in
    record {
      at = s.at;
      from = s.from;
      upto = s.upto;
      lacks = λ c. let kk : (vs s.at).key c.0 ≡ k + 1 = c.3 in
          let same : c.0 ≡ b = one_key (vs s.at) ord c.0 b c.1 s.in_chain (omega arith) in
          let even : (vs s.at).link b % 2 ≡ 0 = subst (λ x. (vs s.at).link x % 2 ≡ 0) same c.4 in
          omega arith;
    }
