-- The invariant of the loop in which `Closed::keys` visits the nodes of a closed set.
use Rattle.std.proofs.Common.{◌≡◌, ◌≢◌, ℕ, suc, ◌+◌, ◌-◌, ◌/◌, ◌%◌, ◌<◌, ◌≤◌, ◌⊎◌, true, false, inl, inr, refl, ap, ◌∙◌}
use Rattle.std.proofs.Common.{List, [], ◌∷◌, ◌++◌, length, sym, subst, arith}
use lib.Dec.{eqb}
use Rattle.std.specs.Prelude.{nat_lt, Option, Some, None, filter_map}
use Rattle.std.specs.List.{AllByRecursion, IsDistinct, list_any, cons_option}
use Rattle.std.proofs.lemmas.Bool.{cases_Bool}
use Rattle.std.proofs.lemmas.Bool.Decides.{nat_tests}
use Rattle.std.proofs.lemmas.Map.Steps.{length-le_from_distinct_below}
use Rattle.lset_words.specs.Words.{lock_index, node_count}
use Rattle.lset_steps.specs.Chain.{View, view, node_key, node_link, Segment, IsOrdered}
use Rattle.lset_steps.specs.declared.world.ChainKey.{ChainKey}
use Rattle.lset_steps.specs.Worlds.{chain_keys}
use Rattle.lset_steps.proofs.WalkedTo.{WalkedTo, unmarked_key, walk_starts, walk_keeps, walk_skips, walk_falls, key_fits, walk_ends}
use Rattle.lset_live.specs.Closes.{LastWords, HasLaws, HasKeys, most_keys}
use Rattle.lset_live.proofs.Closing.{same_content}

-- Holds if the loop has reached node `curr`, and `items` contains the keys of the unmarked nodes before `curr`.
pub record Walks (c : LastWords) (items : List ℕ) (curr : ℕ) : Type 0 where
  pub laws : HasLaws c
  pub walked : WalkedTo (view c.sizes c.words laws.used) items curr
  pub inside : lock_index curr < length c.words

pub starts : (c : LastWords) → HasLaws c → (next : ℕ) → next ≡ node_link c.words 0 / 2 → Walks c [] next
starts c h next e =
    let v : View = view c.sizes c.words h.used in
    let a = h.head_key in
    let b = h.tail_key in
    let w : WalkedTo v [] (node_link c.words 0 / 2) = walk_starts v h.ordered (omega (arith, a, b)) in
    subst (λ z. Walks c [] z) (sym e) record { laws = h; walked = w; inside = h.inside (node_link c.words 0 / 2) w.published }

pub keeps : (c : LastWords) (items : List ℕ) (curr next : ℕ) → curr ≢ 1 → next ≡ node_link c.words curr / 2 →
    node_link c.words curr % 2 ≡ 0 → Walks c items curr → Walks c (items ++ ((node_key c.words curr - 1) ∷ [])) next
keeps c items curr next n e m w =
    let h = w.laws in
    let v : View = view c.sizes c.words h.used in
    let x : WalkedTo v (items ++ ((node_key c.words curr - 1) ∷ [])) next =
    walk_keeps v h.ordered items curr next h.head_key n e m w.walked in
    record { laws = h; walked = x; inside = h.inside next x.published }

pub skips : (c : LastWords) (items : List ℕ) (curr next : ℕ) → curr ≢ 1 → next ≡ node_link c.words curr / 2 →
    node_link c.words curr % 2 ≢ 0 → Walks c items curr → Walks c items next
skips c items curr next n e m w =
    let h = w.laws in
    let v : View = view c.sizes c.words h.used in
    let x : WalkedTo v items next = walk_skips v h.ordered items curr next n e m w.walked in
    record { laws = h; walked = x; inside = h.inside next x.published }

pub falls : (c : LastWords) (items : List ℕ) (curr next : ℕ) → curr ≢ 1 → next ≡ node_link c.words curr / 2 → Walks c items curr →
    node_key c.words 1 - node_key c.words next < node_key c.words 1 - node_key c.words curr
falls c items curr next n e w = walk_falls (view c.sizes c.words w.laws.used) w.laws.ordered items curr next n e w.walked

pub fits : (c : LastWords) (items : List ℕ) (curr : ℕ) → curr ≢ 1 → Walks c items curr → node_key c.words curr - 1 < 4294967296
fits c items curr n w = key_fits (view c.sizes c.words w.laws.used) w.laws.ordered items curr w.laws.tail_key n w.walked

pub ends : (c : LastWords) (items : List ℕ) (curr : ℕ) → curr ≡ 1 → Walks c items curr → HasKeys c items
ends c items curr e w = same_content c.sizes c.words w.laws.used (λ t. 0) items
    (walk_ends (view c.sizes c.words w.laws.used) w.laws.ordered items curr e w.walked)

-- ---- Lemmas about the number of rounds of the loop
module _ (v : View) (ord : IsOrdered v) where
  abbrev Between : ℕ → ℕ → ℕ → Type 0
  Between low high q = v.published q × (low ≤ v.key q) × (v.key q < high)

  lower : (low more high : ℕ) (ns : List ℕ) → low ≤ more → AllByRecursion (Between more high) ns → AllByRecursion (Between low high) ns
  lower low more high [] le a = tt
  lower low more high (n ∷ ns) le a = let f = a.0.1 in ((a.0.0, omega arith, a.0.2), lower low more high ns le a.1)

  between : (i : ℕ) (ns : List ℕ) (j : ℕ) → v.published i → Segment v i ns j
      → (v.key i ≤ v.key j) × AllByRecursion (Between (v.key i) (v.key j)) ns
  between i [] j p s = let e : v.key i ≡ v.key j = ap v.key s in (omega arith, tt)
  between i (a ∷ ns) j p s =
      let up : v.key i < v.key (v.link i / 2) = ord.increases i p s.1 in
      let rest = between (v.link i / 2) ns j (ord.next_published i p s.1) s.2 in
      let le = rest.0 in
      let e : v.key a ≡ v.key i = ap v.key s.0 in (
        omega arith,
        (
          (subst v.published (sym s.0) p, omega arith, omega arith),
          lower (v.key i) (v.key (v.link i / 2)) (v.key j) ns
              (omega arith) rest.1,
        ),
      )

  other : (a b : ℕ) → v.key a ≢ v.key b → eqb a b ≡ false
  other a b n = elim (cases_Bool (eqb a b)) [
    | inl t ↦ (let e : a ≡ b = grind (arith, nat_tests) in absurd (n (ap v.key e)))
    | inr f ↦ f
  ]

  others : (a low high : ℕ) (ns : List ℕ) → (v.key a < low) ⊎ (high ≤ v.key a) → AllByRecursion (Between low high) ns
      → AllByRecursion (λ y. eqb a y ≡ false) ns
  others a low high [] out all = tt
  others a low high (n ∷ ns) out all =
      let from = all.0.1 in
      let upto = all.0.2 in
      (other a n (λ e. elim out [ inl l ↦ absurd (omega arith) | inr g ↦ absurd (omega arith) ]), others a low high ns out all.1)

  apart : (i : ℕ) (ns : List ℕ) (j : ℕ) → v.published i → Segment v i ns j → IsDistinct eqb ns
  unfolding IsDistinct
  apart i [] j p s = tt
  apart i (a ∷ ns) j p s =
      let up : v.key i < v.key (v.link i / 2) = ord.increases i p s.1 in
      let next = ord.next_published i p s.1 in
      let e : v.key a ≡ v.key i = ap v.key s.0 in (
        others a (v.key (v.link i / 2)) (v.key j) ns (inl (omega arith)) (between (v.link i / 2) ns j next s.2).1,
        apart (v.link i / 2) ns j next s.2,
      )

  published_all : (low high : ℕ) (ns : List ℕ) → AllByRecursion (Between low high) ns → AllByRecursion (λ q. v.published q) ns
  published_all low high [] all = tt
  published_all low high (n ∷ ns) all = (all.0.0, published_all low high ns all.1)

  below : (n : ℕ) → ((i : ℕ) → v.published i → i < n) → (ns : List ℕ) → AllByRecursion (λ q. v.published q) ns → (q : ℕ)
      → list_any (eqb q) ns ≡ true → q < n
  below n inside [] all q has = absurd (cc)
  below n inside (a ∷ ns) all q has = elim (cases_Bool (eqb q a)) [
    | inl t ↦ (let e : q ≡ a = grind (arith, nat_tests) in let l : a < n = inside a all.0 in omega arith)
    | inr f ↦ below n inside ns all.1 q (rw f at has)
  ]

  one_more : (a : ℕ) (ns : List ℕ) → AllByRecursion (λ y. eqb a y ≡ false) ns → IsDistinct eqb ns → IsDistinct eqb (a ∷ ns)
  unfolding IsDistinct
  one_more a ns out d = (out, d)

  few_nodes : (n : ℕ) → ((i : ℕ) → v.published i → i < n) → (ns : List ℕ) (curr : ℕ) → v.published curr → curr ≢ 1
      → Segment v 0 ns curr → length ns + 2 ≤ n
  few_nodes n inside ns curr p c s =
      let all = (between 0 ns curr ord.head_published s).1 in
      let up : v.key curr < v.key (v.link curr / 2) = ord.increases curr p c in
      let top : v.key (v.link curr / 2) ≤ v.key 1 = ord.top (v.link curr / 2) (ord.next_published curr p c) in
      let with_curr = one_more curr ns (others curr (v.key 0) (v.key curr) ns (inr (omega arith)) all)
      (apart 0 ns curr ord.head_published s) in
      let with_tail = one_more 1 (curr ∷ ns) (
        other 1 curr (λ e. absurd (omega arith)),
        others 1 (v.key 0) (v.key curr) ns
            (inr (omega arith)) all,
      ) with_curr in
      let low = length-le_from_distinct_below (1 ∷ curr ∷ ns) n with_tail (below n inside (1 ∷ curr ∷ ns)
      (ord.tail_published, (p, published_all (v.key 0) (v.key curr) ns all))) in
      omega arith

few_keys : (v : View) (ns : List ℕ) → length (chain_keys v ns) ≤ length ns
few_keys v [] = omega arith
few_keys v (n ∷ ns) = let i = few_keys v ns in
    elim (cases_Bool (nat_lt 1 n)) [ inl e ↦ rw e (omega arith) | inr e ↦ rw e (omega arith) ]

few_picked : (pick : ChainKey → Option ℕ) (ks : List ChainKey) → length (filter_map pick ks) ≤ length ks
few_picked pick [] = omega arith
few_picked pick (k ∷ ks) = let i = few_picked pick ks in consed (pick k) (filter_map pick ks) (length ks) i
  where
    consed : (o : Option ℕ) (xs : List ℕ) (n : ℕ) → length xs ≤ n → length (cons_option o xs) ≤ suc n
    consed None xs n l = omega arith
    consed (Some x) xs n l = omega arith

pub has_room : (c : LastWords) (items : List ℕ) (curr : ℕ) → curr ≢ 1 → Walks c items curr → length items < most_keys c.sizes
has_room c items curr n w =
    let inside : (i : ℕ) → v.published i → i < node_count c.sizes = λ i p. let l : lock_index i < length c.words = w.laws.inside i p in
    let e = w.laws.count in omega arith in
    behind w.walked.nodes w.walked.seg (few_nodes v w.laws.ordered (node_count c.sizes) inside w.walked.nodes curr w.walked.published n
    w.walked.seg) (w.walked.picked unmarked_key (λ met answer is. is))
  where
    v : View
    v = view c.sizes c.words w.laws.used

    behind : (ns : List ℕ) → Segment v 0 ns curr → length ns + 2 ≤ node_count c.sizes
        → items ≡ filter_map unmarked_key (chain_keys v ns) → length items < most_keys c.sizes
    behind [] s l e = let up = w.walked.above in let h = w.laws.head_key in let z : v.key 0 ≡ v.key curr = ap v.key s in
        absurd (omega arith)
    behind (a ∷ ns) s l e =
        let none : chain_keys v (a ∷ ns) ≡ chain_keys v ns = rw s.0 refl in
        let len : length items ≡ length (filter_map unmarked_key (chain_keys v ns)) =
        ap length e ∙ ap (λ ks. length (filter_map unmarked_key ks)) none in
        let few = few_picked unmarked_key (chain_keys v ns) in
        let some = few_keys v ns in
        omega arith
