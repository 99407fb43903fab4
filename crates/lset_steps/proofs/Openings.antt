-- Proof about the opening state of a list: the chain consists of the head, the nodes of the opening keys, and the tail,
-- and the keys of the set are the opening keys.
use Rattle.std.specs.Prelude.{◌≡◌, ℕ, zero, suc, ◌+◌, ◌*◌, ◌-◌, ◌/◌, ◌%◌, ◌^◌, ◌<◌, ◌≤◌, ◌⊎◌, Bool, true, false, List, []}
use Rattle.std.specs.Prelude.{◌∷◌, length, slice_index, refl, Contains}
use Rattle.std.specs.List.{range_with_len}
use Rattle.std.proofs.Common.{arith, inl, inr, sym, ◌∙◌, ap, subst, map, replicate, ◌++◌, append_assoc, append-nil}
use Rattle.std.proofs.lemmas.List.{get_or_default, replicate_more}
use Rattle.std.proofs.lemmas.List.FromFn.{get_or-map-range_with_len, length-map-range_with_len, map-range_with_len_more}
use Rattle.std.proofs.lemmas.List.Elements.{Contains-get_or}
use Rattle.lset_words.proofs.Numbers.{same_or_not, below_or_not, equal_test, unequal_test, if_below, if_not_below}
use Rattle.lset_words.specs.Words.{key_index, link_index, lock_index, tail_word, word_count, node_count, opening_node}
use Rattle.lset_words.specs.Words.{Opening, Opens, sizes}
use Rattle.lset_steps.specs.declared.Local.{Local}
use Rattle.lset_steps.specs.Steps.{opening, opening_word, opening_key, opening_link, opening_next, idle, local_of}
use Rattle.lset_steps.specs.Chain.{Published, InChain, InContent, IsOrdered, UnmarkedInChain, node_key, node_link}
use Rattle.lset_steps.specs.Laws.{used_in, view_of}
use Rattle.lset_steps.proofs.QuietMove.{chain_on, in_chain_published}
use Rattle.lset_steps.proofs.Memory.{Memory}

word_at : (op : Opening) (i : ℕ) → i < word_count (sizes op) → slice_index (opening op).words i ≡ opening_word op i
word_at op i h = get_or-map-range_with_len (opening_word op) 0 (word_count (sizes op)) i i 0 h (omega arith)

pub opening_local : (op : Opening) (t : ℕ) → t < op.threads → local_of (opening op) t ≡ idle op.quota t
opening_local op t h = get_or-map-range_with_len (idle op.quota) 0 op.threads t t (idle 0 0) h (omega arith)

pub none_used : (op : Opening) (t : ℕ) → t < op.threads → used_in (opening op) t ≡ 0
none_used op t h = ap (λ (l : Local). l.used) (opening_local op t h)

-- ---- Lemmas about the words of a list when it opens
key_word : (op : Opening) (a : ℕ) → opening_word op (key_index a) ≡ opening_key op a
key_word op a =
    let e : key_index a / 3 - 1 ≡ a = omega arith in
    rw (
      unequal_test (key_index a) 0 (λ e. omega arith),
      unequal_test (key_index a) 1 (λ e. omega arith),
      unequal_test (key_index a) 2 (λ e. omega arith),
      equal_test (key_index a % 3) 0 (omega arith),
      e,
    ) refl

link_word : (op : Opening) (a : ℕ) → opening_word op (link_index a) ≡ opening_link (sizes op) a
link_word op a =
    let e : link_index a / 3 - 1 ≡ a = omega arith in
    rw (
      unequal_test (link_index a) 0 (λ e. omega arith),
      unequal_test (link_index a) 1 (λ e. omega arith),
      unequal_test (link_index a) 2 (λ e. omega arith),
      unequal_test (link_index a % 3) 0 (λ e. omega arith),
      equal_test (link_index a % 3) 1 (omega arith),
      e,
    ) refl

pub lock_word : (op : Opening) (a : ℕ) → opening_word op (lock_index a) ≡ 0
lock_word op a = rw (
  unequal_test (lock_index a) 0 (λ e. omega arith),
  unequal_test (lock_index a) 1 (λ e. omega arith),
  unequal_test (lock_index a) 2 (λ e. omega arith),
  unequal_test (lock_index a % 3) 0 (λ e. omega arith),
  unequal_test (lock_index a % 3) 1 (λ e. omega arith),
) refl

module _ (op : Opening) where
  key_at : (a : ℕ) → a < node_count (sizes op) → node_key (opening op).words a ≡ opening_key op a
  key_at a h = word_at op (key_index a) (omega arith) ∙ key_word op a

  link_at : (a : ℕ) → a < node_count (sizes op) → node_link (opening op).words a ≡ opening_link (sizes op) a
  link_at a h = word_at op (link_index a) (omega arith) ∙ link_word op a

  head_key : node_key (opening op).words 0 ≡ 0
  head_key = key_at 0 (omega arith)
      ∙ if_below 0 (opening_node (sizes op) 0) (omega arith) 0 (slice_index op.keys (0 - opening_node (sizes op) 0) + 1)

  tail_key : node_key (opening op).words 1 ≡ tail_word
  tail_key = key_at 1 (omega arith)

  head_link : node_link (opening op).words 0 ≡ 2 * opening_next (sizes op) 0
  head_link = link_at 0 (omega arith)

  tail_link : node_link (opening op).words 1 ≡ 2
  tail_link = link_at 1 (omega arith)

  key_of_opening : (i : ℕ) → i < length op.keys
      → node_key (opening op).words (opening_node (sizes op) i) ≡ slice_index op.keys i + 1
  key_of_opening i h =
      let e : opening_node (sizes op) i - opening_node (sizes op) 0 ≡ i = omega arith in
      key_at (opening_node (sizes op) i) (omega arith) ∙ rw (unequal_test (opening_node (sizes op) i) 1 (λ e. omega arith))
      (if_not_below (opening_node (sizes op) i) (opening_node (sizes op) 0) (omega arith) 0
      (slice_index op.keys (opening_node (sizes op) i - opening_node (sizes op) 0) + 1)) ∙ ap (λ x. slice_index op.keys x + 1) e

  link_of_opening : (i : ℕ) → i < length op.keys
      → node_link (opening op).words (opening_node (sizes op) i) ≡ 2 * opening_next (sizes op) (suc i)
  link_of_opening i h =
      let e : opening_node (sizes op) i - opening_node (sizes op) 0 + 1 ≡ suc i = omega arith in
      link_at (opening_node (sizes op) i) (omega arith) ∙ rw (
        unequal_test (opening_node (sizes op) i) 0 (λ e. omega arith),
        unequal_test (opening_node (sizes op) i) 1 (λ e. omega arith),
      ) (if_not_below (opening_node (sizes op) i) (opening_node (sizes op) 0) (omega arith) 0
      (2 * opening_next (sizes op) (opening_node (sizes op) i - opening_node (sizes op) 0 + 1)))
      ∙ ap (λ x. 2 * opening_next (sizes op) x) e

  next_more : (i : ℕ) → i < length op.keys → opening_next (sizes op) i ≡ opening_node (sizes op) i
  next_more i h = if_below i (length op.keys) h (opening_node (sizes op) i) 1

  next_last : (i : ℕ) → length op.keys ≤ i → opening_next (sizes op) i ≡ 1
  next_last i h = if_not_below i (length op.keys) h (opening_node (sizes op) i) 1

  slot_key : (a : ℕ) → 1 < a → a < opening_node (sizes op) 0 → opening_key op a ≡ 0
  slot_key a l h = rw (unequal_test a 1 (λ e. omega arith))
      (if_below a (opening_node (sizes op) 0) h 0 (slice_index op.keys (a - opening_node (sizes op) 0) + 1))

  slot_link : (a : ℕ) → 1 < a → a < opening_node (sizes op) 0 → opening_link (sizes op) a ≡ 0
  slot_link a l h = rw (unequal_test a 0 (λ e. omega arith), unequal_test a 1 (λ e. omega arith))
      (if_below a (opening_node (sizes op) 0) h 0 (2 * opening_next (sizes op) (a - opening_node (sizes op) 0 + 1)))

  pub slot_word : (i : ℕ) → 9 ≤ i → i < 3 + 3 * opening_node (sizes op) 0 → opening_word op i ≡ 0
  slot_word i l h = elim (same_or_not (i % 3) 0) [
    | inl z ↦ let e : key_index (i / 3 - 1) ≡ i = omega arith in
        subst (λ x. opening_word op x ≡ 0) e (key_word op (i / 3 - 1) ∙ slot_key (i / 3 - 1) (omega arith) (omega arith))
    | inr n ↦ elim (same_or_not (i % 3) 1) [
      | inl z ↦ let e : link_index (i / 3 - 1) ≡ i = omega arith in
          subst (λ x. opening_word op x ≡ 0) e (link_word op (i / 3 - 1) ∙ slot_link (i / 3 - 1) (omega arith) (omega arith))
      | inr m ↦ let e : lock_index (i / 3 - 1) ≡ i = omega arith in
          subst (λ x. opening_word op x ≡ 0) e (lock_word op (i / 3 - 1))
    ]
  ]

  zeros_more : (n : ℕ) → replicate (suc n) zero ≡ replicate n zero ++ zero ∷ []
  zeros_more n = let e : suc n ≡ n + 1 = omega arith in ap (λ k. replicate k zero) e ∙ sym (replicate_more n zero)

  pub slots_filled : (n : ℕ) → 9 + n ≤ 3 + 3 * opening_node (sizes op) 0
      → map (opening_word op) (range_with_len 0 9) ++ replicate n 0 ≡ map (opening_word op) (range_with_len 0 (9 + n))
  slots_filled zero h = append-nil (map (opening_word op) (range_with_len 0 9))
  slots_filled (suc n) h =
      let front : List ℕ = map (opening_word op) (range_with_len 0 9) in
      let next : 9 + n + 1 ≡ 9 + suc n = omega arith in
      let less : front ++ replicate n 0 ≡ map (opening_word op) (range_with_len 0 (9 + n)) = slots_filled n (omega arith) in
      ap (λ l. front ++ l) (zeros_more n) ∙ sym (append_assoc front (replicate n 0) (0 ∷ [])) ∙ ap (λ l. l ++ 0 ∷ []) less
      ∙ ap (λ x. map (opening_word op) (range_with_len 0 (9 + n)) ++ x ∷ []) (sym (slot_word (9 + n) (omega arith) (omega arith)))
      ∙ sym (map-range_with_len_more (opening_word op) 0 (9 + n) (9 + n) (omega arith))
      ∙ ap (λ k. map (opening_word op) (range_with_len 0 k)) next

  -- Holds if node `a` is in the chain when the list opens: `a` is the head, the tail, or the node of an opening key.
  abbrev OneOf : ℕ → Type 0
  OneOf a = (a ≡ 0) ⊎ (a ≡ 1) ⊎ ((i : ℕ) × (i < length op.keys) × (a ≡ opening_node (sizes op) i))

  one_of : (a : ℕ) → Published (sizes op) (used_in (opening op)) a → OneOf a
  one_of a (inl l) = low_one a l
    where
      low_one : (a : ℕ) → a < 2 → OneOf a
      low_one zero l = inl refl
      low_one (suc zero) l = inr (inl refl)
      low_one (suc (suc a)) l = absurd (omega arith)
  one_of a (inr (inl p)) = absurd (let l : p.1 < used_in (opening op) p.0 = p.3 in
      let z : used_in (opening op) p.0 ≡ 0 = none_used op p.0 p.2 in omega arith)
  one_of a (inr (inr p)) = inr (inr p)

  at_each : (P : ℕ → Type 0) → P 0 → P 1 → ((i : ℕ) → i < length op.keys → P (opening_node (sizes op) i)) → (a : ℕ)
      → Published (sizes op) (used_in (opening op)) a → P a
  at_each P x y f a m = elim (one_of a m) [
    | inl e ↦ subst P (sym e) x
    | inr r ↦ elim r [ inl e ↦ subst P (sym e) y | inr p ↦ subst P (sym p.2) (f p.0 p.1) ]
  ]

  shown_next : (i : ℕ) → Published (sizes op) (used_in (opening op)) (opening_next (sizes op) i)
  shown_next i = elim (below_or_not i (length op.keys)) [
    | inl h ↦ subst (Published (sizes op) (used_in (opening op))) (sym (next_more i h)) (inr (inr (i, h, refl)))
    | inr h ↦ subst (Published (sizes op) (used_in (opening op))) (sym (next_last i h)) (inl (omega arith))
  ]

  half_head : node_link (opening op).words 0 / 2 ≡ opening_next (sizes op) 0
  half_head = let e : node_link (opening op).words 0 ≡ 2 * opening_next (sizes op) 0 = head_link in omega arith

  half_opening : (i : ℕ) → i < length op.keys
      → node_link (opening op).words (opening_node (sizes op) i) / 2 ≡ opening_next (sizes op) (suc i)
  half_opening i h =
      let e : node_link (opening op).words (opening_node (sizes op) i) ≡ 2 * opening_next (sizes op) (suc i) =
      link_of_opening i h in
      omega arith

module _ (op : Opening) (o : Opens op) where
  low : (i : ℕ) → i < length op.keys → slice_index op.keys i < 2 ^ 32
  low i h = o.low i 0 h

  key_more : (i : ℕ) → i < length op.keys → node_key (opening op).words (opening_next (sizes op) i) ≡ slice_index op.keys i + 1
  key_more i h = ap (node_key (opening op).words) (next_more op i h) ∙ key_of_opening op i h

  key_last : (i : ℕ) → length op.keys ≤ i → node_key (opening op).words (opening_next (sizes op) i) ≡ tail_word
  key_last i h = ap (node_key (opening op).words) (next_last op i h) ∙ tail_key op

  above_head : node_key (opening op).words 0 < node_key (opening op).words (node_link (opening op).words 0 / 2)
  above_head = rw (head_key op, half_head op) (elim (below_or_not 0 (length op.keys)) [
    | inl h ↦ (let e : node_key (opening op).words (opening_next (sizes op) 0) ≡ slice_index op.keys 0 + 1 = key_more 0 h in
        omega arith)
    | inr h ↦ (let e : node_key (opening op).words (opening_next (sizes op) 0) ≡ tail_word = key_last 0 h in omega arith)
  ])

  above_opening : (i : ℕ) → i < length op.keys
      → node_key (opening op).words (opening_node (sizes op) i)
      < node_key (opening op).words (node_link (opening op).words (opening_node (sizes op) i) / 2)
  above_opening i h = rw (key_of_opening op i h, half_opening op i h) (elim (below_or_not (suc i) (length op.keys)) [
    | inl l ↦ (let e : node_key (opening op).words (opening_next (sizes op) (suc i)) ≡ slice_index op.keys (suc i) + 1 =
        key_more (suc i) l in
        let g : suc i ≡ i + 1 = omega arith in
        let u : slice_index op.keys i < slice_index op.keys (suc i) =
        subst (λ j. slice_index op.keys i < slice_index op.keys j) (sym g) (o.increasing i (omega arith)) in omega arith)
    | inr l ↦ (let e : node_key (opening op).words (opening_next (sizes op) (suc i)) ≡ tail_word = key_last (suc i) l in
        let u : slice_index op.keys i < 2 ^ 32 = low i h in omega arith)
  ])

  pub opening_ordered : IsOrdered (view_of (sizes op) (opening op))
  opening_ordered = record {
    head_published = inl (omega arith);
    tail_published = inl (omega arith);
    top = λ a m. rw (tail_key op) (at_each op (λ x. node_key (opening op).words x ≤ tail_word) (rw (head_key op) (omega arith))
        (rw (tail_key op) (omega arith))
        (λ i h. (let e : node_key (opening op).words (opening_node (sizes op) i) ≡ slice_index op.keys i + 1 =
        key_of_opening op i h in
        let u : slice_index op.keys i < 2 ^ 32 = low i h in omega arith)) a m);
    next_published = λ a m d. elim (one_of op a m) [
      | inl e ↦ subst (λ x. Published (sizes op) (used_in (opening op)) (node_link (opening op).words x / 2)) (sym e)
          (subst (Published (sizes op) (used_in (opening op))) (sym (half_head op)) (shown_next op 0))
      | inr r ↦ elim r [
        | inl e ↦ absurd (d e)
        | inr p ↦ subst (λ x. Published (sizes op) (used_in (opening op)) (node_link (opening op).words x / 2)) (sym p.2)
            (subst (Published (sizes op) (used_in (opening op))) (sym (half_opening op p.0 p.1)) (shown_next op (suc p.0)))
      ]
    ];
    increases = λ a m d. elim (one_of op a m) [
      | inl e ↦ subst (λ x. node_key (opening op).words x < node_key (opening op).words (node_link (opening op).words x / 2))
          (sym e)
          above_head
      | inr r ↦ elim r [
        | inl e ↦ absurd (d e)
        | inr p ↦ subst (λ x. node_key (opening op).words x < node_key (opening op).words (node_link (opening op).words x / 2))
            (sym p.2)
            (above_opening p.0 p.1)
      ]
    ];
  }

  chain_next : (i : ℕ) → InChain (view_of (sizes op) (opening op)) (opening_next (sizes op) i)
  chain_next zero = chain_on (view_of (sizes op) (opening op)) 0 (opening_next (sizes op) 0) (opening_next (sizes op) 0) [] (
    [],
    refl,
  )
      (omega arith) (half_head op) refl
  chain_next (suc i) = elim (below_or_not i (length op.keys)) [
    | inl h ↦ chain_on (view_of (sizes op) (opening op)) (opening_node (sizes op) i) (opening_next (sizes op) (suc i))
        (opening_next (sizes op) (suc i)) [] (subst (InChain (view_of (sizes op) (opening op))) (next_more op i h) (chain_next i))
        (omega arith) (half_opening op i h) refl
    | inr h ↦ subst (InChain (view_of (sizes op) (opening op))) (next_last op i h ∙ sym (next_last op (suc i) (omega arith)))
        (chain_next i)
  ]

  chain_opening : (i : ℕ) → i < length op.keys → InChain (view_of (sizes op) (opening op)) (opening_node (sizes op) i)
  chain_opening i h = subst (InChain (view_of (sizes op) (opening op))) (next_more op i h) (chain_next i)

  even_each : (a : ℕ) → a < node_count (sizes op) → node_link (opening op).words a % 2 ≡ 0
  even_each a h = rw (link_at op a h) (even a)
    where
      even : (a : ℕ) → opening_link (sizes op) a % 2 ≡ 0
      even a = elim (same_or_not a 0) [
        | inl e ↦ rw e (omega arith)
        | inr d ↦ elim (same_or_not a 1) [
          | inl e ↦ rw e refl
          | inr f ↦ rw (unequal_test a 0 d, unequal_test a 1 f) (elim (below_or_not a (opening_node (sizes op) 0)) [
            | inl l ↦ rw (if_below a (opening_node (sizes op) 0) l 0
                (2 * opening_next (sizes op) (a - opening_node (sizes op) 0 + 1))) refl
            | inr l ↦ rw (if_not_below a (opening_node (sizes op) 0) l 0
                (2 * opening_next (sizes op) (a - opening_node (sizes op) 0 + 1))) (omega arith)
          ])
        ]
      ]

  opening_marked : (marks : Bool) → UnmarkedInChain marks (view_of (sizes op) (opening op))
  opening_marked true = λ a m e. at_each op (InChain (view_of (sizes op) (opening op))) ([], refl)
      (subst (InChain (view_of (sizes op) (opening op))) (next_last op (length op.keys) (omega arith))
      (chain_next (length op.keys)))
      chain_opening a m
  opening_marked false = λ a m. at_each op (λ x. node_link (opening op).words x % 2 ≡ 0) (even_each 0 (omega arith))
      (even_each 1 (omega arith)) (λ i h. even_each (opening_node (sizes op) i) (omega arith)) a m

  pub opening_memory : (marks : Bool) → Memory marks (sizes op) (opening op).words (used_in (opening op))
  opening_memory marks = record {
    words = length-map-range_with_len (opening_word op) 0 (word_count (sizes op));
    room = λ t h. (let z : used_in (opening op) t ≡ 0 = none_used op t h in omega arith);
    ordered = opening_ordered;
    head_key = head_key op;
    tail_key = tail_key op;
    tail_link = tail_link op;
    marked = opening_marked marks;
    unmarked = λ bare i l. even_each i l;
  }

  pub content_opens : (k : ℕ) → (InContent (view_of (sizes op) (opening op)) k → Contains op.keys k)
      × (Contains op.keys k → InContent (view_of (sizes op) (opening op)) k)
  content_opens k = (from, back)
    where
      from : InContent (view_of (sizes op) (opening op)) k → Contains op.keys k
      from c =
          let u : 1 < c.0 = c.2 in
          elim (one_of op c.0 (in_chain_published (view_of (sizes op) (opening op)) opening_ordered c.0 c.1)) [
            | inl e ↦ absurd (omega arith)
            | inr r ↦ elim r [
              | inl e ↦ absurd (omega arith)
              | inr p ↦ (let a : node_key (opening op).words c.0 ≡ k + 1 = c.3 in
                  let b : node_key (opening op).words c.0 ≡ slice_index op.keys p.0 + 1 =
                  ap (node_key (opening op).words) p.2 ∙ key_of_opening op p.0 p.1 in
                  let e : slice_index op.keys p.0 ≡ k = omega arith in
                  subst (Contains op.keys) e (Contains-get_or op.keys p.0 0 p.1))
            ]
          ]

      back : Contains op.keys k → InContent (view_of (sizes op) (opening op)) k
      back c =
          let e : slice_index op.keys c.0 ≡ k = get_or_default op.keys c.0 0 k c.1 ∙ c.2 in (
            opening_node (sizes op) c.0,
            chain_opening c.0 c.1,
            omega arith,
            key_of_opening op c.0 c.1 ∙ ap (λ x. x + 1) e,
            even_each (opening_node (sizes op) c.0) (let l : c.0 < length op.keys = c.1 in omega arith),
          )
