-- The invariant of a loop that walks along the chain, such as the loops in `World::walk` and in `Closed::keys` of
-- `lset_live`.
use Rattle.std.proofs.Common.{◌≡◌, ◌≢◌, ℕ, ◌-◌, ◌/◌, ◌%◌, ◌<◌, ◌≤◌, Bool, true, false, inl, inr, List, [], ◌∷◌, ◌++◌, sym, refl}
use Rattle.std.proofs.Common.{ap, subst, arith, rules, ◌∙◌, append-nil}
use Rattle.std.specs.Prelude.{nat_lt, ◌==◌, IsTrue, ◌↔◌, Option, Some, None, option_to_list, filter_map, if◌then◌else◌}
use Rattle.std.specs.List.{cons_option}
use Rattle.std.specs.List.Sorted.{IsStrictlyIncreasing}
use Rattle.std.proofs.lemmas.Bool.{cases_Bool}
use Rattle.std.proofs.lemmas.List.Elements.{filter_map-append}
use Rattle.lset_words.proofs.IncreasingLists.{increasing_from_increases}
use Rattle.lset_steps.specs.declared.world.ChainKey.{ChainKey}
use Rattle.lset_steps.specs.Chain.{View, Segment, IsChain, IsOrdered}
use Rattle.lset_steps.specs.Worlds.{keys_in, IsContent, chain_keys, AreChainKeys, unmarked_keys, AnswersAs, IsPickedFromChain}
use Rattle.lset_steps.proofs.ContentLists.{content_increases}
use Rattle.lset_steps.proofs.Segments.{segment-append}
use Rattle.lset_steps.proofs.QuietMove.{not_one}

-- Holds if the walk has reached node `curr`, and has collected `items` from the nodes before `curr`.
pub record HasPicked {A : Type 0} (answers : ChainKey → Option A → Type 0) (v : View) (items : List A) (curr : ℕ) : Type 0 where
  pub nodes : List ℕ
  pub seg : Segment v 0 nodes curr
  pub published : v.published curr
  pub above : 0 < v.key curr
  pub picked : (pick : ChainKey → Option A) → AnswersAs answers pick → items ≡ filter_map pick (chain_keys v nodes)

chain_keys-append : (v : View) (xs ys : List ℕ) → chain_keys v (xs ++ ys) ≡ chain_keys v xs ++ chain_keys v ys
chain_keys-append v [] ys = refl
chain_keys-append v (x ∷ xs) ys = let i : chain_keys v (xs ++ ys) ≡ chain_keys v xs ++ chain_keys v ys =
    chain_keys-append v xs ys in
    elim (cases_Bool (nat_lt 1 x)) [ inl e ↦ rw (e, i) refl | inr e ↦ rw (e, i) refl ]

module _ {A : Type 0} (answers : ChainKey → Option A → Type 0) (v : View) (ord : IsOrdered v) where
  pub none_picked : v.key 0 < v.key 1 → HasPicked answers v [] (v.link 0 / 2)
  none_picked top =
      let n = not_one v ord 0 1 ord.tail_published top in
      let h : v.key 0 < v.key (v.link 0 / 2) = ord.increases 0 ord.head_published n in
      let up : 0 < v.key (v.link 0 / 2) = omega (arith, h) in
      record {
        nodes = 0 ∷ [];
        seg = (refl, n, refl);
        published = ord.next_published 0 ord.head_published n;
        above = up;
        picked = λ pick same. refl;
      }

  pub goes : (items more : List A) (curr next : ℕ) → curr ≢ 1 → next ≡ v.link curr / 2
      → ((pick : ChainKey → Option A) → AnswersAs answers pick → filter_map pick (chain_keys v (curr ∷ [])) ≡ more)
      → HasPicked answers v items curr → HasPicked answers v (items ++ more) next
  goes items more curr next n e here w =
      let h : v.key curr < v.key (v.link curr / 2) = ord.increases curr w.published n in
      subst (HasPicked answers v (items ++ more)) (sym e) (record {
        nodes = w.nodes ++ (curr ∷ []);
        seg = segment-append v 0 curr (v.link curr / 2) w.nodes (curr ∷ []) w.seg (refl, n, refl);
        published = ord.next_published curr w.published n;
        above = omega arith;
        picked = λ pick same. ap (λ xs. xs ++ more) (w.picked pick same)
            ∙ ap (λ xs. filter_map pick (chain_keys v w.nodes) ++ xs) (sym (here pick same))
            ∙ sym (filter_map-append pick (chain_keys v w.nodes) (chain_keys v (curr ∷ [])))
            ∙ sym (ap (λ ks. filter_map pick ks) (chain_keys-append v w.nodes (curr ∷ [])));
      })

  pub picked_more : (items : List A) (curr next : ℕ) (met : ChainKey) (answer : Option A) → v.key 0 ≡ 0 → curr ≢ 1
      → next ≡ v.link curr / 2 → met ≡ record { key = v.key curr - 1; marked = v.link curr % 2 == 1 } → answers met answer
      → HasPicked answers v items curr → HasPicked answers v (items ++ option_to_list answer) next
  picked_more items curr next met answer head n e is says w =
      let up : 0 < v.key curr = w.above in
      let zero : curr ≢ 0 = λ f. let g : v.key curr ≡ v.key 0 = ap v.key f in omega arith in
      let user : nat_lt 1 curr ≡ true = search rules in
      let one : chain_keys v (curr ∷ []) ≡ met ∷ [] = rw user (ap (λ k. k ∷ []) (sym is)) in
      goes items (option_to_list answer) curr next n e (λ pick same. ap (λ ks. filter_map pick ks) one
      ∙ ap (λ o. cons_option o []) (sym (same met answer says)) ∙ listed answer) w
    where
      listed : (o : Option A) → cons_option o [] ≡ option_to_list o
      listed None = refl
      listed (Some x) = refl

  -- Lemma: the difference between the tail's key and the current node's key decreases in each round, so the loop ends.
  pub falls : (items : List A) (curr next : ℕ) → curr ≢ 1 → next ≡ v.link curr / 2 → HasPicked answers v items curr
      → v.key 1 - v.key next < v.key 1 - v.key curr
  falls items curr next n e w =
      let h : v.key curr < v.key (v.link curr / 2) = ord.increases curr w.published n in
      let t : v.key (v.link curr / 2) ≤ v.key 1 = ord.top (v.link curr / 2) (ord.next_published curr w.published n) in
      let f : v.key next ≡ v.key (v.link curr / 2) = ap v.key e in
      omega arith

  pub fits : (items : List A) (curr : ℕ) → v.key 1 ≡ 4294967297 → curr ≢ 1 → HasPicked answers v items curr
      → v.key curr - 1 < 4294967296
  fits items curr tail n w =
      let h : v.key curr < v.key (v.link curr / 2) = ord.increases curr w.published n in
      let t : v.key (v.link curr / 2) ≤ v.key 1 = ord.top (v.link curr / 2) (ord.next_published curr w.published n) in
      omega arith

  pub all_picked : (items : List A) (curr : ℕ) → curr ≡ 1 → HasPicked answers v items curr → IsPickedFromChain answers v items
  all_picked items curr e w =
      let chain : IsChain v w.nodes = subst (λ z. Segment v 0 w.nodes z) e w.seg in
      record {
        nodes = w.nodes;
        is_chain = chain;
        increasing = increasing_from_increases 0 (keys_in v w.nodes) (content_increases v ord w.nodes chain);
        picked = w.picked;
      }

pub mark_of_word : (word : ℕ) (mark : Bool) → (IsTrue mark ↔ (word % 2 ≡ 1)) → mark ≡ (word % 2 == 1)
mark_of_word word true same = let e : word % 2 ≡ 1 = same.0 refl in search rules
mark_of_word word false same = let e : word % 2 ≢ 1 = λ p. not_true (same.1 p) in search rules
  where
    not_true : IsTrue false → ⊥
    not_true t = absurd (cc)

-- ---- Lemmas about a walk that collects the keys of unmarked nodes
abbrev pub unmarked_key : ChainKey → Option ℕ
unmarked_key met = if met.marked then None else Some met.key

unmarked_picked : (keys : List ChainKey) → filter_map unmarked_key keys ≡ unmarked_keys keys
unmarked_picked [] = refl
unmarked_picked (k ∷ ks) = let i : filter_map unmarked_key ks ≡ unmarked_keys ks = unmarked_picked ks in
    elim (cases_Bool k.marked) [ inl e ↦ rw e i | inr e ↦ rw e (ap (λ xs. k.key ∷ xs) i) ]

unmarked : (v : View) (ns : List ℕ) → keys_in v ns ≡ unmarked_keys (chain_keys v ns)
unmarked v [] = refl
unmarked v (b ∷ bs) = let i : keys_in v bs ≡ unmarked_keys (chain_keys v bs) = unmarked v bs in
    elim (cases_Bool (nat_lt 1 b)) [
      | inl e ↦ elim (cases_Bool (v.link b % 2 == 0)) [
        | inl z ↦ (let o : (v.link b % 2 == 1) ≡ false = search rules in rw (e, z, o) (ap (λ ks. (v.key b - 1) ∷ ks) i))
        | inr z ↦ (let o : (v.link b % 2 == 1) ≡ true = search rules in rw (e, z, o) i)
      ]
      | inr e ↦ rw e i
    ]

pub content_picked : (answers : ChainKey → Option ℕ → Type 0) (v : View) (items : List ℕ) → AnswersAs answers unmarked_key
    → IsPickedFromChain answers v items → IsContent v items
content_picked answers v items same w =
    let keys : items ≡ keys_in v w.nodes = w.picked unmarked_key same
    ∙ unmarked_picked (chain_keys v w.nodes) ∙ sym (unmarked v w.nodes) in
    ((w.nodes, w.is_chain, keys), subst IsStrictlyIncreasing (sym keys) w.increasing)

-- ---- Lemmas about a walk that collects all keys of the chain
picked_whole : (keys : List ChainKey) → filter_map (λ met. Some met) keys ≡ keys
picked_whole [] = refl
picked_whole (k ∷ ks) = ap (λ xs. k ∷ xs) (picked_whole ks)

module _ (answers : ChainKey → Option ChainKey → Type 0) (v : View) (items : List ChainKey)
    (same : AnswersAs answers (λ met. Some met)) (w : IsPickedFromChain answers v items) where
  keys_are : items ≡ chain_keys v w.nodes
  keys_are = w.picked (λ met. Some met) same ∙ picked_whole (chain_keys v w.nodes)

  pub chain_picked : AreChainKeys v items
  chain_picked = (w.nodes, w.is_chain, keys_are)

  pub content_of_chain : IsContent v (unmarked_keys items)
  content_of_chain =
      let keys : unmarked_keys items ≡ keys_in v w.nodes = ap (λ ks. unmarked_keys ks) keys_are ∙ sym (unmarked v w.nodes) in
      ((w.nodes, w.is_chain, keys), subst IsStrictlyIncreasing (sym keys) w.increasing)

-- Holds if the walk has reached node `curr`, and has collected the keys of the unmarked nodes before `curr`.
abbrev pub WalkedTo : View → List ℕ → ℕ → Type 0
WalkedTo v items curr = HasPicked (λ met answer. answer ≡ unmarked_key met) v items curr

module _ (v : View) (ord : IsOrdered v) where
  pub walk_starts : v.key 0 < v.key 1 → WalkedTo v [] (v.link 0 / 2)
  walk_starts top = none_picked _ v ord top

  pub walk_keeps : (items : List ℕ) (curr next : ℕ) → v.key 0 ≡ 0 → curr ≢ 1 → next ≡ v.link curr / 2 → v.link curr % 2 ≡ 0
      → WalkedTo v items curr → WalkedTo v (items ++ ((v.key curr - 1) ∷ [])) next
  walk_keeps items curr next head n e m w =
      let o : (v.link curr % 2 == 1) ≡ false = search rules in
      picked_more _ v ord items curr next (record { key = v.key curr - 1; marked = v.link curr % 2 == 1 }) (Some (v.key curr - 1))
      head n e refl (rw o refl) w

  pub walk_skips : (items : List ℕ) (curr next : ℕ) → curr ≢ 1 → next ≡ v.link curr / 2 → v.link curr % 2 ≢ 0
      → WalkedTo v items curr → WalkedTo v items next
  walk_skips items curr next n e m w =
      let o : (v.link curr % 2 == 1) ≡ true = search rules in
      let passed : filter_map unmarked_key (chain_keys v (curr ∷ [])) ≡ [] =
      elim (cases_Bool (nat_lt 1 curr)) [ inl u ↦ rw (u, o) refl | inr u ↦ rw u refl ] in
      subst (λ xs. WalkedTo v xs next) (append-nil items)
      (goes _ v ord items [] curr next n e (λ pick same. same_picked pick same (chain_keys v (curr ∷ [])) ∙ passed) w)
    where
      same_picked : (pick : ChainKey → Option ℕ) → AnswersAs (λ met answer. answer ≡ unmarked_key met) pick → (ks : List ChainKey)
          → filter_map pick ks ≡ filter_map unmarked_key ks
      same_picked pick same [] = refl
      same_picked pick same (k ∷ ks) = ap (λ o. cons_option o (filter_map pick ks)) (sym (same k (unmarked_key k) refl))
          ∙ ap (λ xs. cons_option (unmarked_key k) xs) (same_picked pick same ks)

  pub walk_falls : (items : List ℕ) (curr next : ℕ) → curr ≢ 1 → next ≡ v.link curr / 2 → WalkedTo v items curr
      → v.key 1 - v.key next < v.key 1 - v.key curr
  walk_falls items curr next n e w = falls _ v ord items curr next n e w

  pub key_fits : (items : List ℕ) (curr : ℕ) → v.key 1 ≡ 4294967297 → curr ≢ 1 → WalkedTo v items curr
      → v.key curr - 1 < 4294967296
  key_fits items curr tail n w = fits _ v ord items curr tail n w

  pub walk_ends : (items : List ℕ) (curr : ℕ) → curr ≡ 1 → WalkedTo v items curr → IsContent v items
  walk_ends items curr e w = content_picked _ v items (λ met answer is. is) (all_picked _ v ord items curr e w)

pub unmarked_word : (word : ℕ) (mark : Bool) → (IsTrue mark ↔ (word % 2 ≡ 1)) → mark ≡ false → word % 2 ≡ 0
unmarked_word word mark same e = let h : word % 2 ≢ 1 = λ p. not_true mark e (same.1 p) in omega arith
  where
    not_true : (b : Bool) → b ≡ false → IsTrue b → ⊥
    not_true true e t = absurd (cc)
    not_true false e t = absurd (cc)

pub marked_word : (word : ℕ) (mark : Bool) → (IsTrue mark ↔ (word % 2 ≡ 1)) → mark ≡ true → word % 2 ≢ 0
marked_word word mark same e zero = let one : word % 2 ≡ 1 = same.0 e in omega arith
