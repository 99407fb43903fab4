-- The rely condition of every list, with or without locks: the properties that a step of one thread preserves for all
-- other threads.
use Rattle.std.specs.Prelude.{◌≡◌, ◌≢◌, ℕ, ◌+◌, ◌*◌, ◌%◌, ◌<◌, Bool, Option, List, refl}
use Rattle.std.proofs.Common.{arith, inl, sym}
use Rattle.lset_words.specs.Words.{slot_node, Sizes}
use Rattle.lset_words.specs.declared.Key.{Key}
use Rattle.lset_steps.specs.declared.Action.{Action}
use Rattle.lset_steps.specs.Chain.{View, view, Published, InChain}
use Rattle.lset_steps.proofs.Moves.{KeepsNodes}
use Rattle.lset_steps.proofs.MoveLaws.{marked_stays}
use Rattle.lset_steps.proofs.QuietMove.{in_chain_published}
use Rattle.lset_steps.proofs.Memory.{WordStep, Memory, reads, fails, takes, gives, own_key, own_link, puts, sets_mark, cuts}
use Rattle.lset_steps.proofs.Memory.{drops, own_of, row_once, no_own, moved, goes_on, others_counted}
use Rattle.lset_steps.proofs.AfterWrite.{key_after_link, link_after_link, link_after_key, key_after_key, key_after_lock, link_after_lock}

-- The properties that a step of another thread preserves for thread `u` with quota `q` (the number of successful adds
-- that a thread may make), even without locks. The step leads from view `v` (the list before) to view `w` (the list
-- after). It preserves keys, the links of marked nodes, the number of successful adds by `u`, and the node for the next
-- add by `u`.
pub record Remains (v w : View) (q u : ℕ) : Type 0 where
  pub goes : KeepsNodes v w
  pub marked : (a : ℕ) → v.published a → v.link a % 2 ≡ 1 → w.link a ≡ v.link a
  pub used : w.used u ≡ v.used u
  pub own_key : v.used u < q → w.key (slot_node q u (v.used u)) ≡ v.key (slot_node q u (v.used u))
  pub own_link : v.used u < q → w.link (slot_node q u (v.used u)) ≡ v.link (slot_node q u (v.used u))

pub remains_same : (v : View) (q u : ℕ) → Remains v v q u
remains_same v q u = record {
  goes = record { keys = λ i p. refl; grows = λ i p. p; kept = λ i p. inl refl; back = λ i p c. c };
  marked = λ a p o. refl;
  used = refl;
  own_key = λ r. refl;
  own_link = λ r. refl;
}

-- Lemmas about the effect of a step of thread `t` on another thread `u`.
module _ (marks : Bool) (sz : Sizes) (ws : List ℕ) (used : ℕ → ℕ) (m : Memory marks sz ws used) (t : ℕ) (h : t < sz.threads)
    (u : ℕ) (k : u < sz.threads) (d : u ≢ t) where
  at_chain : (p : ℕ) → InChain (view sz ws used) p → Published sz used p
  at_chain p i = in_chain_published (view sz ws used) m.ordered p i

  other_own : used u < sz.quota → used t < sz.quota → own_of sz.quota u used ≢ own_of sz.quota t used
  other_own a b e = d (row_once sz.quota u t (used u) (used t) a b (omega arith)).0

  slot_key : (a : Action) (ws' : List ℕ) (used' : ℕ → ℕ) (ch : Option (Key × Bool)) → WordStep marks sz t ws used a ws' used' ch
      → used u < sz.quota → (view sz ws' used').key (own_of sz.quota u used) ≡ (view sz ws used).key (own_of sz.quota u used)
  slot_key a ws' used' ch (reads x i) r = refl
  slot_key a ws' used' ch (fails x old new i e k) r = refl
  slot_key a ws' used' ch (takes x i k z) r = key_after_lock ws x (t + 1) (own_of sz.quota u used) k
  slot_key a ws' used' ch (gives x i k z) r = key_after_lock ws x 0 (own_of sz.quota u used) k
  slot_key a ws' used' ch (own_key x s) r = key_after_key ws (own_of sz.quota t used) x (own_of sz.quota u used) (other_own r s)
  slot_key a ws' used' ch (own_link c s) r = key_after_link ws (own_of sz.quota t used) (2 * c) (own_of sz.quota u used)
  slot_key a ws' used' ch (puts b p c k w at nt follows s ready key above under) r =
      key_after_link ws p (2 * own_of sz.quota t used) (own_of sz.quota u used)
  slot_key a ws' used' ch (sets_mark b c x k y w at inn even is key) r = key_after_link ws c x (own_of sz.quota u used)
  slot_key a ws' used' ch (cuts b p c e w at first inn follows next) r = key_after_link ws p (2 * e) (own_of sz.quota u used)
  slot_key a ws' used' ch (drops b p c e k y w at first inn follows next key) r =
      key_after_link ws p (2 * e) (own_of sz.quota u used)

  not_slot : (p : ℕ) → InChain (view sz ws used) p → used u < sz.quota → own_of sz.quota u used ≢ p
  not_slot p i r e = no_own marks sz ws used m u p k r (at_chain p i) (sym e)

  slot_link : (a : Action) (ws' : List ℕ) (used' : ℕ → ℕ) (ch : Option (Key × Bool)) → WordStep marks sz t ws used a ws' used' ch
      → used u < sz.quota → (view sz ws' used').link (own_of sz.quota u used) ≡ (view sz ws used).link (own_of sz.quota u used)
  slot_link a ws' used' ch (reads x i) r = refl
  slot_link a ws' used' ch (fails x old new i e k) r = refl
  slot_link a ws' used' ch (takes x i k z) r = link_after_lock ws x (t + 1) (own_of sz.quota u used) k
  slot_link a ws' used' ch (gives x i k z) r = link_after_lock ws x 0 (own_of sz.quota u used) k
  slot_link a ws' used' ch (own_key x s) r = link_after_key ws (own_of sz.quota t used) x (own_of sz.quota u used)
  slot_link a ws' used' ch (own_link c s) r = link_after_link ws (own_of sz.quota t used) (2 * c) (own_of sz.quota u used)
      (other_own r s)
  slot_link a ws' used' ch (puts b p c k w at nt follows s ready key above under) r =
      link_after_link ws p (2 * own_of sz.quota t used) (own_of sz.quota u used) (not_slot p at r)
  slot_link a ws' used' ch (sets_mark b c x k y w at inn even is key) r =
      link_after_link ws c x (own_of sz.quota u used) (not_slot c at r)
  slot_link a ws' used' ch (cuts b p c e w at first inn follows next) r =
      link_after_link ws p (2 * e) (own_of sz.quota u used) (not_slot p at r)
  slot_link a ws' used' ch (drops b p c e k y w at first inn follows next key) r =
      link_after_link ws p (2 * e) (own_of sz.quota u used) (not_slot p at r)

  pub remains_of : (a : Action) (ws' : List ℕ) (used' : ℕ → ℕ) (ch : Option (Key × Bool))
      → WordStep marks sz t ws used a ws' used' ch → Remains (view sz ws used) (view sz ws' used') sz.quota u
  remains_of a ws' used' ch c = record {
    goes = goes_on marks sz ws used m t h a ws' used' ch c;
    marked = marked_stays marks _ _ m.ordered ch (moved marks sz ws used m t h a ws' used' ch c);
    used = others_counted marks sz ws used m t h u d a ws' used' ch c;
    own_key = slot_key a ws' used' ch c;
    own_link = slot_link a ws' used' ch c;
  }
