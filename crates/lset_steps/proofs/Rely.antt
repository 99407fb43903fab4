-- The rely condition of lists in which a thread writes links only while it holds node locks: the properties that a step
-- of one thread preserves for all other threads.
use Rattle.std.specs.Prelude.{◌≡◌, ◌≢◌, ℕ, ◌+◌, ◌*◌, ◌<◌, ◌⊎◌, Bool, Option, List, slice_index, slice_set, refl}
use Rattle.std.proofs.Common.{arith, inl, inr, sym, ◌∙◌, ap}
use Rattle.lset_words.proofs.Numbers.{same_or_not}
use Rattle.lset_words.specs.Words.{link_index, lock_index, slot_node, Sizes}
use Rattle.lset_words.specs.declared.Key.{Key}
use Rattle.lset_steps.specs.declared.Action.{Action}
use Rattle.lset_steps.specs.Chain.{View, view, Published, InChain, node_lock}
use Rattle.lset_steps.proofs.Moves.{KeepsNodes}
use Rattle.lset_steps.specs.Laws.{IsLockWord}
use Rattle.lset_steps.proofs.QuietMove.{in_chain_published, quiet_keeps}
use Rattle.lset_steps.proofs.InsertMove.{insert_keeps}
use Rattle.lset_steps.proofs.MarkMove.{mark_keeps}
use Rattle.lset_steps.proofs.UnlinkMove.{unlink_keeps}
use Rattle.lset_steps.proofs.Memory.{WordStep, Memory, reads, fails, takes, gives, own_key, own_link, puts, sets_mark, cuts}
use Rattle.lset_steps.proofs.Memory.{drops, own_of, row_once, no_own, goes_on, others_counted, at_put, at_mark, at_unlink}
use Rattle.lset_steps.proofs.Memory.{at_lock, at_own_key, at_own_link}
use Rattle.lset_steps.proofs.AfterWrite.{set_other, key_after_link, link_after_link, lock_after_link, list_lock_after_link, link_after_key}
use Rattle.lset_steps.proofs.AfterWrite.{key_after_key, lock_after_key, list_lock_after_key, key_after_lock, link_after_lock}

-- The properties that a step of another thread preserves for thread `u` with quota `q` (the number of successful adds
-- that a thread may make). The step leads from view `v` (the list before) to view `w` (the list after). It preserves
-- keys, the locks that `u` holds, the number of successful adds by `u`, and the node for the next add by `u`. For each
-- node that `u` has locked, it preserves the link and whether the node is in the chain.
pub record Rely (v w : View) (q u : ℕ) : Type 0 where
  pub goes : KeepsNodes v w
  pub used : w.used u ≡ v.used u
  pub list_lock : v.list_lock ≡ u + 1 → w.list_lock ≡ u + 1
  pub lock : (a : ℕ) → v.lock a ≡ u + 1 → w.lock a ≡ u + 1
  pub link : (a : ℕ) → v.published a → v.lock a ≡ u + 1 → w.link a ≡ v.link a
  pub chain : (a : ℕ) → v.lock a ≡ u + 1 → InChain v a → InChain w a
  pub own_key : v.used u < q → w.key (slot_node q u (v.used u)) ≡ v.key (slot_node q u (v.used u))
  pub own_link : v.used u < q → w.link (slot_node q u (v.used u)) ≡ v.link (slot_node q u (v.used u))

-- Holds if a step writes the link of a published node (one that has been in the chain) only if the thread holds the
-- node's lock, and unlinks a node only if the thread also holds the lock of the unlinked node.
abbrev pub Guarded : (marks : Bool) (sz : Sizes) (t : ℕ) (ws : List ℕ) (used : ℕ → ℕ) (a : Action) (ws' : List ℕ)
    (used' : ℕ → ℕ) (ch : Option (Key × Bool))
    → WordStep marks sz t ws used a ws' used' ch → Type 0
Guarded marks sz t ws used a ws' used' ch (puts b p c k w at nt follows r ready key above under) = node_lock ws p ≡ t + 1
Guarded marks sz t ws used a ws' used' ch (sets_mark b c x k y w at inn even is key) = node_lock ws c ≡ t + 1
Guarded marks sz t ws used a ws' used' ch (cuts b p c d w at first inn follows next) = (node_lock ws p ≡ t + 1)
    × (node_lock ws c ≡ t + 1)
Guarded marks sz t ws used a ws' used' ch (drops b p c d k y w at first inn follows next key) =
    (node_lock ws p ≡ t + 1) × (node_lock ws c ≡ t + 1)
Guarded marks sz t ws used a ws' used' ch step = Unit {0}

-- Lemmas about the effect of a step of thread `t` on another thread `u`.
module _ (marks : Bool) (sz : Sizes) (ws : List ℕ) (used : ℕ → ℕ) (m : Memory marks sz ws used) (t : ℕ) (h : t < sz.threads)
    (u : ℕ) (k : u < sz.threads) (d : u ≢ t) where
  at_word : (x v : ℕ) → IsLockWord x → (slice_index ws x ≡ 0) ⊎ (slice_index ws x ≡ t + 1)
      → KeepsNodes (view sz ws used) (view sz (slice_set ws x v) used)
      → Rely (view sz ws used) (view sz (slice_set ws x v) used) sz.quota u
  at_word x v i was g = record {
    goes = g;
    used = refl;
    list_lock = λ z. mine 0 z;
    lock = λ a z. mine (lock_index a) z;
    link = λ a p z. link_after_lock ws x v a i;
    chain = λ a z c. quiet_keeps _ _ m.ordered (at_lock marks sz ws used m t h x v i) a c;
    own_key = λ r. key_after_lock ws x v (own_of sz.quota u used) i;
    own_link = λ r. link_after_lock ws x v (own_of sz.quota u used) i;
  }
    where
      mine : (y : ℕ) → slice_index ws y ≡ u + 1 → slice_index (slice_set ws x v) y ≡ u + 1
      mine y z = elim (same_or_not y x) [
        | inl e ↦ (let f : slice_index ws y ≡ slice_index ws x = ap (slice_index ws) e in
            absurd (elim was [ inl a ↦ omega arith | inr a ↦ d (omega arith) ]))
        | inr e ↦ set_other ws x v y e ∙ z
      ]

  other_own : used u < sz.quota → used t < sz.quota → own_of sz.quota u used ≢ own_of sz.quota t used
  other_own a b e = d (row_once sz.quota u t (used u) (used t) a b (omega arith)).0

  at_link : (p x : ℕ) (used' : ℕ → ℕ) → Published sz used p → node_lock ws p ≡ t + 1 → used' u ≡ used u
      → KeepsNodes (view sz ws used) (view sz (slice_set ws (link_index p) x) used')
      → ((a : ℕ) → node_lock ws a ≡ u + 1 → InChain (view sz ws used) a
      → InChain (view sz (slice_set ws (link_index p) x) used') a)
      → Rely (view sz ws used) (view sz (slice_set ws (link_index p) x) used') sz.quota u
  at_link p x used' pm mine us g chain = record {
    goes = g;
    used = us;
    list_lock = λ z. list_lock_after_link ws p x ∙ z;
    lock = λ a z. lock_after_link ws p x a ∙ z;
    link = λ a b z. link_after_link ws p x a
        (λ e. d (let f : node_lock ws a ≡ node_lock ws p = ap (node_lock ws) e in omega arith));
    chain = chain;
    own_key = λ r. key_after_link ws p x (own_of sz.quota u used);
    own_link = λ r. link_after_link ws p x (own_of sz.quota u used) (λ e. no_own marks sz ws used m u p k r pm (sym e));
  }

  alien : (c a : ℕ) → node_lock ws c ≡ t + 1 → node_lock ws a ≡ u + 1 → a ≢ c
  alien c a x y e = d (let f : node_lock ws a ≡ node_lock ws c = ap (node_lock ws) e in omega arith)

  -- Lemma: a step of `t` that respects the node locks preserves everything that `u` relies on. Proof by cases:
  -- `at_word` for lock words, and `at_link` for links of published nodes (nodes that have been in the chain). A node
  -- that `t` writes or unlinks is locked by `t`, and therefore not by `u` (`alien`).
  pub rely_of : (a : Action) (ws' : List ℕ) (used' : ℕ → ℕ) (ch : Option (Key × Bool))
      (c : WordStep marks sz t ws used a ws' used' ch)
      → Guarded marks sz t ws used a ws' used' ch c
      → Rely (view sz ws used) (view sz ws' used') sz.quota u
  rely_of a ws' used' ch (reads x i) g = record {
    goes = goes_on marks sz ws used m t h a ws used ch (reads x i);
    used = refl;
    list_lock = λ z. z;
    lock = λ a z. z;
    link = λ a p z. refl;
    chain = λ a z c. c;
    own_key = λ r. refl;
    own_link = λ r. refl;
  }
  rely_of a ws' used' ch (fails x old new i e k) g = record {
    goes = goes_on marks sz ws used m t h a ws used ch (fails x old new i e k);
    used = refl;
    list_lock = λ z. z;
    lock = λ a z. z;
    link = λ a p z. refl;
    chain = λ a z c. c;
    own_key = λ r. refl;
    own_link = λ r. refl;
  }
  rely_of a ws' used' ch (takes x i k z) g =
      at_word x (t + 1) k (inl z) (goes_on marks sz ws used m t h a ws' used ch (takes x i k z))
  rely_of a ws' used' ch (gives x i k z) g = at_word x 0 k (inr z) (goes_on marks sz ws used m t h a ws' used ch (gives x i k z))
  rely_of a ws' used' ch (own_key x r) g = record {
    goes = goes_on marks sz ws used m t h a ws' used ch (own_key x r);
    used = refl;
    list_lock = λ z. list_lock_after_key ws (own_of sz.quota t used) x ∙ z;
    lock = λ b z. lock_after_key ws (own_of sz.quota t used) x b ∙ z;
    link = λ b p z. link_after_key ws (own_of sz.quota t used) x b;
    chain = λ b z c. quiet_keeps (view sz ws used) (view sz ws' used) m.ordered (at_own_key marks sz ws used m t h x r) b c;
    own_key = λ s. key_after_key ws (own_of sz.quota t used) x (own_of sz.quota u used) (other_own s r);
    own_link = λ s. link_after_key ws (own_of sz.quota t used) x (own_of sz.quota u used);
  }
  rely_of a ws' used' ch (own_link c r) g = record {
    goes = goes_on marks sz ws used m t h a ws' used ch (own_link c r);
    used = refl;
    list_lock = λ z. list_lock_after_link ws (own_of sz.quota t used) (2 * c) ∙ z;
    lock = λ b z. lock_after_link ws (own_of sz.quota t used) (2 * c) b ∙ z;
    link = λ b p z. link_after_link ws (own_of sz.quota t used) (2 * c) b (no_own marks sz ws used m t b h r p);
    chain = λ b z y. quiet_keeps _ _ m.ordered (at_own_link marks sz ws used m t h (2 * c) r) b y;
    own_key = λ s. key_after_link ws (own_of sz.quota t used) (2 * c) (own_of sz.quota u used);
    own_link = λ s. link_after_link ws (own_of sz.quota t used) (2 * c) (own_of sz.quota u used) (other_own s r);
  }
  rely_of a ws' used' ch (puts b p c k w at nt follows r ready key above under) g =
      at_link p (2 * own_of sz.quota t used) used' (in_chain_published (view sz ws used) m.ordered p at) g
      (others_counted marks sz ws used m t h u d a ws' used' ch
      (puts b p c k w at nt follows r ready key above under))
      (goes_on marks sz ws used m t h a ws' used' ch (puts b p c k w at nt follows r ready key above under))
      (λ i z x. insert_keeps (view sz ws used) (view sz ws' used') m.ordered p (own_of sz.quota t used) k.0
      (at_put marks sz ws used m t h p c k.0 at nt follows r ready key above under) i x)
  rely_of a ws' used' ch (sets_mark b c x k y w at inn even is key) g =
      at_link c x used (in_chain_published (view sz ws used) m.ordered c at) g refl
      (goes_on marks sz ws used m t h a ws' used ch (sets_mark b c x k y w at inn even is key))
      (λ i z j. mark_keeps (view sz ws used) (view sz ws' used) m.ordered c k.0
      (at_mark marks sz ws used m t h c x k.0 at inn even is key) i j)
  rely_of a ws' used' ch (cuts b p c e w at first inn follows next) g =
      at_link p (2 * e) used (in_chain_published (view sz ws used) m.ordered p at) g.0 refl
      (goes_on marks sz ws used m t h a ws' used ch (cuts b p c e w at first inn follows next))
      (λ i z j. elim (unlink_keeps (view sz ws used) (view sz ws' used) m.ordered p c
      (at_unlink marks sz ws used m t h p c e at first inn follows (omega arith)) i j)
      [ inl y ↦ y | inr y ↦ absurd (alien c i g.1 z y) ])
  rely_of a ws' used' ch (drops b p c e k y w at first inn follows next key) g =
      at_link p (2 * e) used (in_chain_published (view sz ws used) m.ordered p at) g.0 refl
      (goes_on marks sz ws used m t h a ws' used ch (drops b p c e k y w at first inn follows next key))
      (λ i z j. elim (unlink_keeps (view sz ws used) (view sz ws' used) m.ordered p c
      (at_unlink marks sz ws used m t h p c e at first inn follows next) i j)
      [ inl x ↦ x | inr x ↦ absurd (alien c i g.1 z x) ])
