-- The steps that can change the words of a list, and the words that each step leaves unchanged.
use Rattle.std.specs.Prelude.{◌≡◌, ◌≢◌, ℕ, ◌+◌, ◌*◌, ◌/◌, ◌%◌, ◌<◌, ◌≤◌, ◌⊎◌, Bool, true, false, Option, Some, None, List, []}
use Rattle.std.specs.Prelude.{slice_index, slice_set, length, refl, if◌then◌else◌, ◌==◌}
use Rattle.std.proofs.Common.{arith, inl, inr, sym, ◌∙◌, ap, subst, length-set}
use Rattle.std.proofs.lemmas.Bool.Decides.{nat_tests}
use Rattle.lset_words.proofs.Numbers.{same_or_not, if_same, if_other}
use Rattle.lset_words.specs.Words.{key_index, link_index, lock_index, tail_word, node_count, word_count, slot_node, opening_node}
use Rattle.lset_words.specs.Words.{key_word_of, Sizes}
use Rattle.lset_words.specs.declared.Key.{Key}
use Rattle.lset_steps.specs.declared.Action.{Action}
use Rattle.lset_steps.specs.declared.Action.TheVariants.{Load, Store, Exchange}
use Rattle.lset_steps.specs.Steps.{left_by}
use Rattle.lset_steps.specs.Chain.{view, Published, InChain, IsOrdered, UnmarkedInChain, node_key, node_link, node_lock}
use Rattle.lset_steps.proofs.Moves.{Move, KeepsNodes, Quiet, Inserts, Marks, Unlinks}
use Rattle.lset_steps.proofs.Moves.Move.{quiet, inserts, sets, clears, removes}
use Rattle.lset_steps.specs.Laws.{IsLockWord, LockUse, word_named}
use Rattle.lset_words.specs.Account.{count_after}
use Rattle.lset_steps.proofs.QuietMove.{in_chain_published, chain_on}
use Rattle.lset_steps.proofs.MoveLaws.{move-ordered, move-goes, tail_stays, marked_after}
use Rattle.lset_steps.proofs.AfterWrite.{key_after_key, key_after_link, key_after_lock, link_after_key, link_after_link}
use Rattle.lset_steps.proofs.AfterWrite.{link_after_lock, not_key, not_link, set_same}

-- Lemma: two slots (nodes reserved for adds) have the same number only if their threads and their indices are equal,
-- because quotient and remainder are unique.
pub row_once : (q t u i j : ℕ) → i < q → j < q → t * q + i ≡ u * q + j → (t ≡ u) × (i ≡ j)
row_once q t u i j a b e =
    let r : t ≡ u = grind arith in
    let p : t * q ≡ u * q = ap (λ x. x * q) r in
    (r, omega arith)

slot_in : (sz : Sizes) (t j : ℕ) → t < sz.threads → j < sz.quota → slot_node sz.quota t j < opening_node sz 0
slot_in sz t j h k = let z : t * sz.quota + j < sz.threads * sz.quota = grind arith in omega arith

-- Returns the slot (a node reserved for one add) that thread t will use for its next successful add.
abbrev pub own_of : ℕ → ℕ → (ℕ → ℕ) → ℕ
own_of q t used = slot_node q t (used t)

abbrev pub one_more : (ℕ → ℕ) → ℕ → ℕ → ℕ
one_more used t u = if u == t then used u + 1 else used u

pub one_more_same : (used : ℕ → ℕ) (t : ℕ) → one_more used t t ≡ used t + 1
one_more_same used t = grind (arith, nat_tests)

pub one_more_other : (used : ℕ → ℕ) (t u : ℕ) → u ≢ t → one_more used t u ≡ used u
one_more_other used t u d = grind (arith, nat_tests)

-- Holds if the action writes `x` to word `i`, either by a store or by a successful exchange.
abbrev pub Writes : List ℕ → Action → ℕ → ℕ → Type 0
Writes ws a i x = (a ≡ Store i x) ⊎ (a ≡ Exchange i (slice_index ws i) x)

-- The steps that thread `t` may take. Each constructor states the action, the words after the action, each thread's
-- number of successful adds after the action, and the key that the step adds or removes.
pub data WordStep (marks : Bool) (sz : Sizes) (t : ℕ) (ws : List ℕ) (used : ℕ → ℕ) : Action → List ℕ → (ℕ → ℕ)
    → Option (Key × Bool) → Type 0 where
  reads : (x : ℕ) → x < word_count sz → WordStep marks sz t ws used (Load x) ws used None
  fails : (x old new : ℕ) → x < word_count sz → slice_index ws x ≢ old → (IsLockWord x → (old ≡ 0) × (new ≡ t + 1))
      → WordStep marks sz t ws used (Exchange x old new) ws used None
  takes : (x : ℕ) → x < word_count sz → IsLockWord x → slice_index ws x ≡ 0
      → WordStep marks sz t ws used (Exchange x 0 (t + 1)) (slice_set ws x (t + 1)) used None
  gives : (x : ℕ) → x < word_count sz → IsLockWord x → slice_index ws x ≡ t + 1
      → WordStep marks sz t ws used (Store x 0) (slice_set ws x 0) used None
  own_key : (x : ℕ) → used t < sz.quota
      → WordStep marks sz t ws used (Store (key_index (own_of sz.quota t used)) x)
      (slice_set ws (key_index (own_of sz.quota t used)) x) used None
  own_link : (c : ℕ) → used t < sz.quota
      → WordStep marks sz t ws used (Store (link_index (own_of sz.quota t used)) (2 * c))
      (slice_set ws (link_index (own_of sz.quota t used)) (2 * c)) used None
  puts : (a : Action) (p c : ℕ) (k : Key) → Writes ws a (link_index p) (2 * own_of sz.quota t used)
      → InChain (view sz ws used) p → p ≢ 1 → node_link ws p ≡ 2 * c
      → used t < sz.quota → node_link ws (own_of sz.quota t used) ≡ 2 * c → node_key ws (own_of sz.quota t used) ≡ key_word_of k
      → node_key ws p < key_word_of k → key_word_of k < node_key ws c
      → WordStep marks sz t ws used a (slice_set ws (link_index p) (2 * own_of sz.quota t used)) (one_more used t)
      (Some (k, true))
  sets_mark : (a : Action) (c x : ℕ) (k : Key) → marks ≡ true → Writes ws a (link_index c) x
      → InChain (view sz ws used) c → c ≢ 1
      → node_link ws c % 2 ≡ 0 → x ≡ node_link ws c + 1 → node_key ws c ≡ key_word_of k
      → WordStep marks sz t ws used a (slice_set ws (link_index c) x) used (Some (k, false))
  cuts : (a : Action) (p c d : ℕ) → Writes ws a (link_index p) (2 * d) → InChain (view sz ws used) p → p ≢ 1 → c ≢ 1
      → node_link ws p ≡ 2 * c → node_link ws c ≡ 2 * d + 1
      → WordStep marks sz t ws used a (slice_set ws (link_index p) (2 * d)) used None
  drops : (a : Action) (p c d : ℕ) (k : Key) → marks ≡ false → Writes ws a (link_index p) (2 * d)
      → InChain (view sz ws used) p → p ≢ 1 → c ≢ 1
      → node_link ws p ≡ 2 * c → node_link ws c / 2 ≡ d → node_key ws c ≡ key_word_of k
      → WordStep marks sz t ws used a (slice_set ws (link_index p) (2 * d)) used (Some (k, false))

-- The properties of the words of a list at every moment of a run.
pub record Memory (marks : Bool) (sz : Sizes) (ws : List ℕ) (used : ℕ → ℕ) : Type 0 where
  pub words : length ws ≡ word_count sz
  pub room : (t : ℕ) → t < sz.threads → used t ≤ sz.quota
  pub ordered : IsOrdered (view sz ws used)
  pub head_key : node_key ws 0 ≡ 0
  pub tail_key : node_key ws 1 ≡ tail_word
  pub tail_link : node_link ws 1 ≡ 2
  pub marked : UnmarkedInChain marks (view sz ws used)
  -- If a list does not mark nodes, no node of the list ever has a mark, not even before its first use.
  pub unmarked : marks ≡ false → (i : ℕ) → i < node_count sz → node_link ws i % 2 ≡ 0

module _ (marks : Bool) (sz : Sizes) (ws : List ℕ) (used : ℕ → ℕ) (m : Memory marks sz ws used) where
  pub inside : (i : ℕ) → Published sz used i → i < node_count sz
  inside i (inl h) = omega arith
  inside i (inr (inr h)) = let l : h.0 < sz.opening = h.1 in let e : i ≡ opening_node sz h.0 = h.2 in omega arith
  inside i (inr (inl h)) = let r : used h.0 ≤ sz.quota = m.room h.0 h.2 in let l : h.1 < used h.0 = h.3 in
      let z : slot_node sz.quota h.0 h.1 < opening_node sz 0 = slot_in sz h.0 h.1 h.2 (omega arith) in
      let e : i ≡ slot_node sz.quota h.0 h.1 = h.4 in omega arith

  pub in_words : (i : ℕ) → Published sz used i → lock_index i < length ws
  in_words i p = let w : length ws ≡ word_count sz = m.words in let z : i < node_count sz = inside i p in omega arith

  pub link_same : (p x : ℕ) → Published sz used p → node_link (slice_set ws (link_index p) x) p ≡ x
  link_same p x h = set_same ws (link_index p) x (let z : lock_index p < length ws = in_words p h in omega arith)

  pub link_wrote : (p x : ℕ) → p < node_count sz → node_link (slice_set ws (link_index p) x) p ≡ x
  link_wrote p x h = let w : length ws ≡ word_count sz = m.words in set_same ws (link_index p) x (omega arith)

  pub key_wrote : (p x : ℕ) → p < node_count sz → node_key (slice_set ws (key_index p) x) p ≡ x
  key_wrote p x h = let w : length ws ≡ word_count sz = m.words in set_same ws (key_index p) x (omega arith)

  pub lock_wrote : (p x : ℕ) → p < node_count sz → node_lock (slice_set ws (lock_index p) x) p ≡ x
  lock_wrote p x h = let w : length ws ≡ word_count sz = m.words in set_same ws (lock_index p) x (omega arith)

  pub fresh : (t : ℕ) → t < sz.threads → used t < sz.quota → Published sz used (own_of sz.quota t used) → ⊥
  fresh t th r (inl h) = omega arith
  fresh t th r (inr (inr h)) =
      let e : slot_node sz.quota t (used t) ≡ opening_node sz h.0 = h.2 in
      let z : slot_node sz.quota t (used t) < opening_node sz 0 = slot_in sz t (used t) th r in
      omega arith
  fresh t th r (inr (inl h)) =
      let l : h.1 < used h.0 = h.3 in
      let le : used h.0 ≤ sz.quota = m.room h.0 h.2 in
      let e : slot_node sz.quota t (used t) ≡ slot_node sz.quota h.0 h.1 = h.4 in
      let z : (t ≡ h.0) × (used t ≡ h.1) = row_once sz.quota t h.0 (used t) h.1 r (omega arith) (omega arith) in
      let g : used t ≡ used h.0 = ap used z.0 in
      let s : used t ≡ h.1 = z.1 in
      omega arith

  pub no_own : (t a : ℕ) → t < sz.threads → used t < sz.quota → Published sz used a → a ≢ own_of sz.quota t used
  no_own t a th r p e = fresh t th r (subst (λ x. Published sz used x) e p)

  pub own_in : (t : ℕ) → t < sz.threads → used t < sz.quota → own_of sz.quota t used < node_count sz
  own_in t h r = let z : slot_node sz.quota t (used t) < opening_node sz 0 = slot_in sz t (used t) h r in omega arith

  pub inner : (a k : ℕ) → node_key ws a < k → k < tail_word → a ≢ 1
  inner a k x y e = let z : node_key ws a ≡ node_key ws 1 = ap (node_key ws) e in
      let w : node_key ws 1 ≡ tail_word = m.tail_key in omega arith

  pub apart : (a b : ℕ) → node_key ws a < node_key ws b → a ≢ b
  apart a b x e = let z : node_key ws a ≡ node_key ws b = ap (node_key ws) e in omega arith

  pub next_in : (a b : ℕ) → InChain (view sz ws used) a → a ≢ 1 → node_link ws a / 2 ≡ b → InChain (view sz ws used) b
  next_in a b i d e = chain_on (view sz ws used) a b b [] i d e refl

  pub next_published : (a : ℕ) → Published sz used a → Published sz used (node_link ws a / 2)
  next_published a p = elim (same_or_not a 1) [
    | inl e ↦ (let tail : node_link ws 1 ≡ 2 = m.tail_link in
        let f : node_link ws a ≡ node_link ws 1 = ap (node_link ws) e in
        let g : 1 ≡ node_link ws a / 2 = omega arith in
        subst (λ x. Published sz used x) g m.ordered.tail_published)
    | inr d ↦ m.ordered.next_published a p d
  ]

  pub chain_in : (a : ℕ) → InChain (view sz ws used) a → a < node_count sz
  chain_in a i = inside a (in_chain_published (view sz ws used) m.ordered a i)

grown : (sz : Sizes) (t : ℕ) (used : ℕ → ℕ) (i : ℕ) → Published sz used i → Published sz (one_more used t) i
grown sz t used i (inl h) = inl h
grown sz t used i (inr (inr h)) = inr (inr h)
grown sz t used i (inr (inl h)) = inr (inl (
  h.0,
  h.1,
  h.2,
  (let l : h.1 < used h.0 = h.3 in elim (same_or_not h.0 t) [
    | inl e ↦ (let z : one_more used t h.0 ≡ used h.0 + 1 = rw e (one_more_same used t) in omega arith)
    | inr d ↦ (let z : one_more used t h.0 ≡ used h.0 = one_more_other used t h.0 d in omega arith)
  ]),
  h.4,
))

own_shown : (sz : Sizes) (t : ℕ) (used : ℕ → ℕ) → t < sz.threads → Published sz (one_more used t) (own_of sz.quota t used)
own_shown sz t used h = inr (inl (
  t,
  used t,
  h,
  (let z : one_more used t t ≡ used t + 1 = one_more_same used t in omega arith),
  refl,
))

grown_from : (sz : Sizes) (t : ℕ) (used : ℕ → ℕ) (i : ℕ) → Published sz (one_more used t) i → Published sz used i
    ⊎ (i ≡ own_of sz.quota t used)
grown_from sz t used i (inl h) = inl (inl h)
grown_from sz t used i (inr (inr h)) = inl (inr (inr h))
grown_from sz t used i (inr (inl h)) = elim (same_or_not h.0 t) [
  | inr d ↦ inl (inr (inl (
    h.0,
    h.1,
    h.2,
    (let l : h.1 < one_more used t h.0 = h.3 in
        let c : one_more used t h.0 ≡ used h.0 = one_more_other used t h.0 d in omega arith),
    h.4,
  )))
  | inl a ↦ elim (below a) [
    | inl l ↦ inl (inr (inl (h.0, h.1, h.2, l, h.4)))
    | inr s ↦ inr (h.4 ∙ ap (λ x. slot_node sz.quota x h.1) a ∙ ap (λ x. slot_node sz.quota t x) s)
  ]
]
  where
    below : h.0 ≡ t → (h.1 < used h.0) ⊎ (h.1 ≡ used t)
    below a = let l : h.1 < one_more used t h.0 = h.3 in
        let b : used h.0 ≡ used t = ap used a in
        let c : one_more used t h.0 ≡ used t + 1 = rw a (one_more_same used t) in
        grind arith

-- Lemmas about an action that writes `x` to word `i`: word `i` has the value `x` afterwards, and all other words are
-- unchanged.
module _ (ws : List ℕ) where
  written : (a : Action) (i x : ℕ) → Writes ws a i x → left_by ws a ≡ slice_set ws i x
  written a i x (inl e) = rw e refl
  written a i x (inr e) = rw e (if_same (slice_index ws i) (slice_index ws i) refl (slice_set ws i x) ws)

  at_write : (a : Action) (i x : ℕ) → Writes ws a i x → word_named a ≡ i
  at_write a i x (inl e) = rw e refl
  at_write a i x (inr e) = rw e refl

  no_lock : (a : Action) (t p x : ℕ) → Writes ws a (link_index p) x → LockUse ws t a
  no_lock a t p x (inl e) = rw e (λ k. absurd (not_link p k))
  no_lock a t p x (inr e) = rw e (λ k. absurd (not_link p k))

module _ (marks : Bool) (sz : Sizes) (ws : List ℕ) (used : ℕ → ℕ) (m : Memory marks sz ws used) (t : ℕ) (h : t < sz.threads) where
  chain_published : (a : ℕ) → InChain (view sz ws used) a → Published sz used a
  chain_published a i = in_chain_published (view sz ws used) m.ordered a i

  pub at_lock : (x v : ℕ) → IsLockWord x → Quiet (view sz ws used) (view sz (slice_set ws x v) used)
  at_lock x v k = record {
    keys = λ i p. key_after_lock ws x v i k;
    links = λ i p. link_after_lock ws x v i k;
    grows = λ i p. p;
    published_from = λ i p. p;
  }

  pub at_own_key : (x : ℕ) → used t < sz.quota →
      Quiet (view sz ws used) (view sz (slice_set ws (key_index (own_of sz.quota t used)) x) used)
  at_own_key x r = record {
    keys = λ i p. key_after_key ws (own_of sz.quota t used) x i (no_own marks sz ws used m t i h r p);
    links = λ i p. link_after_key ws (own_of sz.quota t used) x i;
    grows = λ i p. p;
    published_from = λ i p. p;
  }

  pub at_own_link : (x : ℕ) → used t < sz.quota
      → Quiet (view sz ws used) (view sz (slice_set ws (link_index (own_of sz.quota t used)) x) used)
  at_own_link x r = record {
    keys = λ i p. key_after_link ws (own_of sz.quota t used) x i;
    links = λ i p. link_after_link ws (own_of sz.quota t used) x i (no_own marks sz ws used m t i h r p);
    grows = λ i p. p;
    published_from = λ i p. p;
  }

  pub at_put : (p c k : ℕ) → InChain (view sz ws used) p → p ≢ 1 → node_link ws p ≡ 2 * c → used t < sz.quota
      → node_link ws (own_of sz.quota t used) ≡ 2 * c → node_key ws (own_of sz.quota t used) ≡ k + 1
      → node_key ws p < k + 1 → k + 1 < node_key ws c
      → Inserts (view sz ws used) (view sz (slice_set ws (link_index p) (2 * own_of sz.quota t used)) (one_more used t)) p
      (own_of sz.quota t used) k
  at_put p c k at nt follows r ready key above under =
      let half : node_link ws p / 2 ≡ c = omega arith in
      let pm : Published sz used p = chain_published p at in
      record {
        keys = λ i y. key_after_link ws p (2 * own_of sz.quota t used) i;
        links = λ i y d. link_after_link ws p (2 * own_of sz.quota t used) i d;
        pred_link = link_same marks sz ws used m p (2 * own_of sz.quota t used) pm;
        own_link = link_after_link ws p (2 * own_of sz.quota t used) (own_of sz.quota t used)
            (λ e. no_own marks sz ws used m t p h r pm (sym e)) ∙ (rw half ready);
        own_key = key_after_link ws p (2 * own_of sz.quota t used) (own_of sz.quota t used) ∙ key;
        above = above;
        below = rw half under;
        in_chain = at;
        no_tail = nt;
        unmarked = omega arith;
        user = omega arith;
        fresh = fresh marks sz ws used m t h r;
        grows = λ i y. grown sz t used i y;
        own_published = own_shown sz t used h;
        published_from = λ i y. grown_from sz t used i y;
      }

  no_head : (c k : ℕ) → node_key ws c ≡ k + 1 → c ≢ 0
  no_head c k e z = let a : node_key ws c ≡ node_key ws 0 = ap (node_key ws) z in
      let b : node_key ws 0 ≡ 0 = m.head_key in omega arith

  pub at_mark : (c x k : ℕ) → InChain (view sz ws used) c → c ≢ 1 → node_link ws c % 2 ≡ 0 → x ≡ node_link ws c + 1
      → node_key ws c ≡ k + 1
      → Marks (view sz ws used) (view sz (slice_set ws (link_index c) x) used) c k
  at_mark c x k at inn even is key = record {
    keys = λ i y. key_after_link ws c x i;
    links = λ i y d. link_after_link ws c x i d;
    unmarked = even;
    marked = link_same marks sz ws used m c x (chain_published c at) ∙ is;
    in_chain = at;
    user = (let z : c ≢ 0 = no_head c k key in omega arith);
    key = key;
    grows = λ i y. y;
    published_from = λ i y. y;
  }

  pub at_unlink : (p c d : ℕ) → InChain (view sz ws used) p → p ≢ 1 → c ≢ 1 → node_link ws p ≡ 2 * c → node_link ws c / 2 ≡ d
      → Unlinks (view sz ws used) (view sz (slice_set ws (link_index p) (2 * d)) used) p c
  at_unlink p c d at first inn follows next = record {
    keys = λ i y. key_after_link ws p (2 * d) i;
    links = λ i y z. link_after_link ws p (2 * d) i z;
    is_next = omega arith;
    pred_link = rw next (link_same marks sz ws used m p (2 * d) (chain_published p at));
    in_chain = at;
    no_tail = first;
    curr_no_tail = inn;
    unmarked = omega arith;
    grows = λ i y. y;
    published_from = λ i y. y;
  }

  next_at : (p c : ℕ) → InChain (view sz ws used) p → p ≢ 1 → node_link ws p ≡ 2 * c → InChain (view sz ws used) c
  next_at p c at first follows = next_in marks sz ws used m p c at first (omega arith)

  even_at : (c : ℕ) → marks ≡ false → InChain (view sz ws used) c → node_link ws c % 2 ≡ 0
  even_at c e at = let z : UnmarkedInChain false (view sz ws used) =
      subst (λ b. UnmarkedInChain b (view sz ws used)) e m.marked in z c (chain_published c at)

  -- Lemma: each step of `WordStep`, which describes changes of words, is one of the moves in `Moves`, which describe
  -- changes of nodes.
  pub moved : (a : Action) (ws' : List ℕ) (used' : ℕ → ℕ) (ch : Option (Key × Bool)) → WordStep marks sz t ws used a ws' used' ch
      → Move marks (view sz ws used) (view sz ws' used') ch
  moved a ws' used' ch (reads x i) = quiet
      (record { keys = λ i p. refl; links = λ i p. refl; grows = λ i p. p; published_from = λ i p. p })
  moved a ws' used' ch (fails x old new i d k) =
      quiet (record { keys = λ i p. refl; links = λ i p. refl; grows = λ i p. p; published_from = λ i p. p })
  moved a ws' used' ch (takes x i k z) = quiet (at_lock x (t + 1) k)
  moved a ws' used' ch (gives x i k z) = quiet (at_lock x 0 k)
  moved a ws' used' ch (own_key x r) = quiet (at_own_key x r)
  moved a ws' used' ch (own_link c r) = quiet (at_own_link (2 * c) r)
  moved a ws' used' ch (puts b p c k w at nt follows r ready key above under) =
      inserts p (own_of sz.quota t used) k (at_put p c k.0 at nt follows r ready key above under)
  moved a ws' used' ch (sets_mark b c x k y w at inn even is key) = sets c k y (at_mark c x k.0 at inn even is key)
  moved a ws' used' ch (cuts b p c d w at first inn follows next) =
      clears p c (at_unlink p c d at first inn follows (omega arith)) (omega arith)
  moved a ws' used' ch (drops b p c d k y w at first inn follows next key) =
      removes p c k y (at_unlink p c d at first inn follows next)
      (even_at c y (next_at p c at first follows)) (let z : c ≢ 0 = no_head c k.0 key in omega arith) key

  pub left_is : (a : Action) (ws' : List ℕ) (used' : ℕ → ℕ) (ch : Option (Key × Bool))
      → WordStep marks sz t ws used a ws' used' ch → left_by ws a ≡ ws'
  left_is a ws' used' ch (fails x old new i d k) = if_other (slice_index ws x) old d (slice_set ws x new) ws
  left_is a ws' used' ch (takes x i k z) = rw z refl
  left_is a ws' used' ch (puts b p c k w at nt follows r ready key above under) =
      written ws a (link_index p) (2 * own_of sz.quota t used) w
  left_is a ws' used' ch (sets_mark b c x k y w at inn even is key) = written ws a (link_index c) x w
  left_is a ws' used' ch (cuts b p c d w at first inn follows next) = written ws a (link_index p) (2 * d) w
  left_is a ws' used' ch (drops b p c d k y w at first inn follows next key) = written ws a (link_index p) (2 * d) w
  left_is a ws' used' ch step = refl

  pub named_in : (a : Action) (ws' : List ℕ) (used' : ℕ → ℕ) (ch : Option (Key × Bool))
      → WordStep marks sz t ws used a ws' used' ch → word_named a < word_count sz
  named_in a ws' used' ch (reads x i) = i
  named_in a ws' used' ch (fails x old new i d k) = i
  named_in a ws' used' ch (takes x i k z) = i
  named_in a ws' used' ch (gives x i k z) = i
  named_in a ws' used' ch (own_key x r) = let z : own_of sz.quota t used < node_count sz =
      own_in marks sz ws used m t h r in omega arith
  named_in a ws' used' ch (own_link c r) =
      let z : own_of sz.quota t used < node_count sz = own_in marks sz ws used m t h r in omega arith
  named_in a ws' used' ch (puts b p c k w at nt follows r ready key above under) =
      rw (at_write ws a (link_index p) (2 * own_of sz.quota t used) w)
      (let z : p < node_count sz = chain_in marks sz ws used m p at in omega arith)
  named_in a ws' used' ch (sets_mark b c x k y w at inn even is key) =
      rw (at_write ws a (link_index c) x w) (let z : c < node_count sz = chain_in marks sz ws used m c at in omega arith)
  named_in a ws' used' ch (cuts b p c d w at first inn follows next) =
      rw (at_write ws a (link_index p) (2 * d) w) (let z : p < node_count sz = chain_in marks sz ws used m p at in omega arith)
  named_in a ws' used' ch (drops b p c d k y w at first inn follows next key) =
      rw (at_write ws a (link_index p) (2 * d) w) (let z : p < node_count sz = chain_in marks sz ws used m p at in omega arith)

  pub lock_use : (a : Action) (ws' : List ℕ) (used' : ℕ → ℕ) (ch : Option (Key × Bool))
      → WordStep marks sz t ws used a ws' used' ch → LockUse ws t a
  lock_use a ws' used' ch (reads x i) = tt
  lock_use a ws' used' ch (fails x old new i d k) = k
  lock_use a ws' used' ch (takes x i k z) = λ y. (refl, refl)
  lock_use a ws' used' ch (gives x i k z) = λ y. (refl, z)
  lock_use a ws' used' ch (own_key x r) = λ k. absurd (not_key (own_of sz.quota t used) k)
  lock_use a ws' used' ch (own_link c r) = λ k. absurd (not_link (own_of sz.quota t used) k)
  lock_use a ws' used' ch (puts b p c k w at nt follows r ready key above under) = no_lock ws a t p (2 * own_of sz.quota t used) w
  lock_use a ws' used' ch (sets_mark b c x k y w at inn even is key) = no_lock ws a t c x w
  lock_use a ws' used' ch (cuts b p c d w at first inn follows next) = no_lock ws a t p (2 * d) w
  lock_use a ws' used' ch (drops b p c d k y w at first inn follows next key) = no_lock ws a t p (2 * d) w

  pub mine_counted : (a : Action) (ws' : List ℕ) (used' : ℕ → ℕ) (ch : Option (Key × Bool))
      → WordStep marks sz t ws used a ws' used' ch → used' t ≡ count_after ch (used t)
  mine_counted a ws' used' ch (puts b p c k w at nt follows r ready key above under) = one_more_same used t
  mine_counted a ws' used' ch step = refl

  pub others_counted : (u : ℕ) → u ≢ t → (a : Action) (ws' : List ℕ) (used' : ℕ → ℕ) (ch : Option (Key × Bool))
      → WordStep marks sz t ws used a ws' used' ch → used' u ≡ used u
  others_counted u e a ws' used' ch (puts b p c k w at nt follows r ready key above under) = one_more_other used t u e
  others_counted u e a ws' used' ch step = refl

  room_after : (u : ℕ) → u < sz.threads → (a : Action) (ws' : List ℕ) (used' : ℕ → ℕ) (ch : Option (Key × Bool))
      → WordStep marks sz t ws used a ws' used' ch → used' u ≤ sz.quota
  room_after u k a ws' used' ch (puts b p c y w at nt follows r ready key above under) = elim (same_or_not u t) [
    | inl e ↦ (let z : one_more used t u ≡ used t + 1 = rw e (one_more_same used t) in omega arith)
    | inr e ↦ (let z : one_more used t u ≡ used u = one_more_other used t u e in let y : used u ≤ sz.quota = m.room u k in
        omega arith)
  ]
  room_after u k a ws' used' ch step = m.room u k

  same_length : (a : Action) (ws' : List ℕ) (used' : ℕ → ℕ) (ch : Option (Key × Bool))
      → WordStep marks sz t ws used a ws' used' ch → length ws' ≡ length ws
  same_length a ws' used' ch (reads x i) = refl
  same_length a ws' used' ch (fails x old new i d k) = refl
  same_length a ws' used' ch (takes x i k z) = length-set ws x (t + 1)
  same_length a ws' used' ch (gives x i k z) = length-set ws x 0
  same_length a ws' used' ch (own_key x r) = length-set ws (key_index (own_of sz.quota t used)) x
  same_length a ws' used' ch (own_link c r) = length-set ws (link_index (own_of sz.quota t used)) (2 * c)
  same_length a ws' used' ch (puts b p c k w at nt follows r ready key above under) =
      length-set ws (link_index p) (2 * own_of sz.quota t used)
  same_length a ws' used' ch (sets_mark b c x k y w at inn even is key) = length-set ws (link_index c) x
  same_length a ws' used' ch (cuts b p c d w at first inn follows next) = length-set ws (link_index p) (2 * d)
  same_length a ws' used' ch (drops b p c d k y w at first inn follows next key) = length-set ws (link_index p) (2 * d)

  even_link : (p x i : ℕ) → p < node_count sz → x % 2 ≡ 0 → node_link ws i % 2 ≡ 0
      → node_link (slice_set ws (link_index p) x) i % 2 ≡ 0
  even_link p x i inn even before = elim (same_or_not i p) [
    | inl e ↦ rw (e, link_wrote marks sz ws used m p x inn) even
    | inr d ↦ rw (link_after_link ws p x i d) before
  ]

  unmarked_after : marks ≡ false → (i : ℕ) → i < node_count sz → (a : Action) (ws' : List ℕ) (used' : ℕ → ℕ)
      (ch : Option (Key × Bool)) → WordStep marks sz t ws used a ws' used' ch → node_link ws' i % 2 ≡ 0
  unmarked_after bare i l a ws' used' ch (reads x k) = m.unmarked bare i l
  unmarked_after bare i l a ws' used' ch (fails x old new k d y) = m.unmarked bare i l
  unmarked_after bare i l a ws' used' ch (takes x k y z) = rw (link_after_lock ws x (t + 1) i y) (m.unmarked bare i l)
  unmarked_after bare i l a ws' used' ch (gives x k y z) = rw (link_after_lock ws x 0 i y) (m.unmarked bare i l)
  unmarked_after bare i l a ws' used' ch (own_key x r) = rw (link_after_key ws (own_of sz.quota t used) x i) (m.unmarked bare i l)
  unmarked_after bare i l a ws' used' ch (own_link c r) =
      even_link (own_of sz.quota t used) (2 * c) i (own_in marks sz ws used m t h r) (omega arith) (m.unmarked bare i l)
  unmarked_after bare i l a ws' used' ch (puts b p c k w at nt follows r ready key above under) =
      even_link p (2 * own_of sz.quota t used) i (chain_in marks sz ws used m p at) (omega arith) (m.unmarked bare i l)
  unmarked_after bare i l a ws' used' ch (sets_mark b c x k y w at inn even is key) =
      absurd (let e : true ≡ false = sym y ∙ bare in cc)
  unmarked_after bare i l a ws' used' ch (cuts b p c d w at first inn follows next) =
      even_link p (2 * d) i (chain_in marks sz ws used m p at) (omega arith) (m.unmarked bare i l)
  unmarked_after bare i l a ws' used' ch (drops b p c d k y w at first inn follows next key) =
      even_link p (2 * d) i (chain_in marks sz ws used m p at) (omega arith) (m.unmarked bare i l)

  pub goes_on : (a : Action) (ws' : List ℕ) (used' : ℕ → ℕ) (ch : Option (Key × Bool))
      → WordStep marks sz t ws used a ws' used' ch → KeepsNodes (view sz ws used) (view sz ws' used')
  goes_on a ws' used' ch c = move-goes marks (view sz ws used) (view sz ws' used') m.ordered ch (moved a ws' used' ch c)

  pub memory_after : (a : Action) (ws' : List ℕ) (used' : ℕ → ℕ) (ch : Option (Key × Bool))
      → WordStep marks sz t ws used a ws' used' ch → Memory marks sz ws' used'
  memory_after a ws' used' ch c =
      let mv : Move marks (view sz ws used) (view sz ws' used') ch = moved a ws' used' ch c in
      let g : KeepsNodes (view sz ws used) (view sz ws' used') = goes_on a ws' used' ch c in
      record {
        words = same_length a ws' used' ch c ∙ m.words;
        room = λ u k. room_after u k a ws' used' ch c;
        ordered = move-ordered marks (view sz ws used) (view sz ws' used') m.ordered ch mv;
        head_key = g.keys 0 m.ordered.head_published ∙ m.head_key;
        tail_key = g.keys 1 m.ordered.tail_published ∙ m.tail_key;
        tail_link = tail_stays marks (view sz ws used) (view sz ws' used') m.ordered ch mv ∙ m.tail_link;
        marked = marked_after marks (view sz ws used) (view sz ws' used') m.ordered ch mv m.marked;
        unmarked = λ bare i l. unmarked_after bare i l a ws' used' ch c;
      }
