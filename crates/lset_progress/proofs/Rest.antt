-- Proofs about the number of nodes with greater keys than a given node. Writes to locks do not change the number.
use Rattle.std.specs.Prelude.{◌≡◌, ◌≢◌, ℕ, ◌/◌, ◌<◌, Bool, List, slice_index, slice_set}
use Rattle.std.proofs.Common.{arith, inl, inr, sym, subst, refl}
use Rattle.lset_words.proofs.Numbers.{same_or_not, if_same, if_other}
use Rattle.lset_words.specs.Words.{node_count, Sizes}
use Rattle.lset_steps.specs.declared.Action.TheVariants.{Exchange}
use Rattle.lset_steps.specs.Steps.{left_by}
use Rattle.lset_steps.specs.Chain.{View, view, node_key, node_link}
use Rattle.lset_steps.specs.Laws.{IsLockWord}
use Rattle.lset_steps.proofs.Memory.{Memory, inside}
use Rattle.lset_steps.proofs.AfterWrite.{key_after_lock, link_after_lock}
use Rattle.lset_progress.proofs.Ahead.{ahead, ahead_less, ahead_few}

-- Returns how many nodes have a greater key than node a. `key` maps each node to its key.
abbrev pub rest_by : ℕ → (ℕ → ℕ) → ℕ → ℕ
rest_by size key a = ahead key size (key a)

abbrev pub rest : ℕ → List ℕ → ℕ → ℕ
rest size ws a = rest_by size (node_key ws) a

-- Holds if `key` maps each node that has been in the chain to its key.
abbrev pub SameKeys : (ℕ → ℕ) → View → Type 0
SameKeys key v = (a : ℕ) → v.published a → key a ≡ v.key a

pub few_by : (size : ℕ) (key : ℕ → ℕ) (a : ℕ) → a < size → rest_by size key a < size
few_by size key a h = ahead_few key size (key a) a h (omega arith)

-- Lemmas: `rest`, the number of nodes with greater keys, decreases along each link.
module _ (marks : Bool) (sz : Sizes) (ws : List ℕ) (used : ℕ → ℕ) (m : Memory marks sz ws used) where
  abbrev V : View
  V = view sz ws used

  pub fewer_by : (key : ℕ → ℕ) → SameKeys key V → (a : ℕ) → V.published a → a ≢ 1
      → rest_by (node_count sz) key (node_link ws a / 2) < rest_by (node_count sz) key a
  fewer_by key same a p d =
      let next : V.published (node_link ws a / 2) = m.ordered.next_published a p d in
      let up : node_key ws a < node_key ws (node_link ws a / 2) = m.ordered.increases a p d in
      let here : key a ≡ node_key ws a = same a p in
      let there : key (node_link ws a / 2) ≡ node_key ws (node_link ws a / 2) = same (node_link ws a / 2) next in
      ahead_less key (node_count sz) (key a) (node_link ws a / 2) (inside marks sz ws used m (node_link ws a / 2) next)
      (omega arith)

  pub fewer : (a : ℕ) → V.published a → a ≢ 1 → rest (node_count sz) ws (node_link ws a / 2) < rest (node_count sz) ws a
  fewer a p d = fewer_by (node_key ws) (λ b q. refl) a p d

-- Holds if the words ws and ws' have the same keys and links. A write to a lock changes neither keys nor links.
abbrev pub SameList : List ℕ → List ℕ → Type 0
SameList ws ws' = (node_key ws' ≡ node_key ws) × (node_link ws' ≡ node_link ws)

pub stay : (ws : List ℕ) (x v : ℕ) → IsLockWord x → SameList ws (slice_set ws x v)
stay ws x v is = (λ j a. key_after_lock ws x v a is j, λ j a. link_after_lock ws x v a is j)

pub tried : (ws : List ℕ) (x o v : ℕ) → IsLockWord x → SameList ws (left_by ws (Exchange x o v))
tried ws x o v is = elim (same_or_not (slice_index ws x) o) [
  | inl e ↦ subst (λ ws'. SameList ws ws') (sym (if_same (slice_index ws x) o e (slice_set ws x v) ws)) (stay ws x v is)
  | inr d ↦ subst (λ ws'. SameList ws ws') (sym (if_other (slice_index ws x) o d (slice_set ws x v) ws)) (refl, refl)
]
