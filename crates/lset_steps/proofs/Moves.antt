-- Moves (what one step can do to the nodes of a list), and assertions about nodes and keys at earlier moments. Only
-- proofs use these definitions.
use Rattle.std.specs.Prelude.{◌≡◌, ◌≢◌, ℕ, ◌+◌, ◌*◌, ◌/◌, ◌%◌, ◌<◌, ◌≤◌, ◌⊎◌, Bool, true, false, Option, Some, None}
use Rattle.lset_words.specs.declared.Key.{Key}
use Rattle.lset_steps.specs.Chain.{View, InChain, InContent, IsOrdered, Seen}

-- The properties that every step of a run has. Published nodes (nodes that have been in the chain) stay published and
-- keep their keys. An unlinked node does not return to the chain. The link of a published node changes only if the node
-- is in the chain before and after the step.
pub record KeepsNodes (v w : View) : Type 0 where
  pub keys : (i : ℕ) → v.published i → w.key i ≡ v.key i
  pub grows : (i : ℕ) → v.published i → w.published i
  pub kept : (b : ℕ) → v.published b → (w.link b ≡ v.link b) ⊎ (InChain v b × InChain w b)
  pub back : (b : ℕ) → v.published b → InChain w b → InChain v b

-- A step that changes no published node (no node that has been in the chain), such as a load, or a write to a lock or
-- to an unused node.
pub record Quiet (v w : View) : Type 0 where
  pub keys : (i : ℕ) → v.published i → w.key i ≡ v.key i
  pub links : (i : ℕ) → v.published i → w.link i ≡ v.link i
  pub grows : (i : ℕ) → v.published i → w.published i
  pub published_from : (i : ℕ) → w.published i → v.published i

-- An insertion of the new node `own`, which has key `k`, between `pred` and the node after `pred`.
pub record Inserts (v w : View) (pred own k : ℕ) : Type 0 where
  pub keys : (i : ℕ) → v.published i → w.key i ≡ v.key i
  pub links : (i : ℕ) → v.published i → i ≢ pred → w.link i ≡ v.link i
  pub pred_link : w.link pred ≡ 2 * own
  pub own_link : w.link own ≡ 2 * (v.link pred / 2)
  pub own_key : w.key own ≡ k + 1
  pub above : v.key pred < k + 1
  pub below : k + 1 < v.key (v.link pred / 2)
  pub in_chain : InChain v pred
  pub no_tail : pred ≢ 1
  pub unmarked : v.link pred % 2 ≡ 0
  pub user : 1 < own
  pub fresh : v.published own → ⊥
  pub grows : (i : ℕ) → v.published i → w.published i
  pub own_published : w.published own
  pub published_from : (i : ℕ) → w.published i → v.published i ⊎ (i ≡ own)

-- A step that marks node `b`, which has key `k`, as removed. `v` and `w` are the views (nodes and locks) before and
-- after the step.
pub record Marks (v w : View) (b k : ℕ) : Type 0 where
  pub keys : (i : ℕ) → v.published i → w.key i ≡ v.key i
  pub links : (i : ℕ) → v.published i → i ≢ b → w.link i ≡ v.link i
  pub unmarked : v.link b % 2 ≡ 0
  pub marked : w.link b ≡ v.link b + 1
  pub in_chain : InChain v b
  pub user : 1 < b
  pub key : v.key b ≡ k + 1
  pub grows : (i : ℕ) → v.published i → w.published i
  pub published_from : (i : ℕ) → w.published i → v.published i

-- A step that unlinks `curr`: it removes `curr`, the node after `pred`, from the chain by linking `pred` to the node
-- after `curr`.
pub record Unlinks (v w : View) (pred curr : ℕ) : Type 0 where
  pub keys : (i : ℕ) → v.published i → w.key i ≡ v.key i
  pub links : (i : ℕ) → v.published i → i ≢ pred → w.link i ≡ v.link i
  pub is_next : v.link pred / 2 ≡ curr
  pub pred_link : w.link pred ≡ 2 * (v.link curr / 2)
  pub in_chain : InChain v pred
  pub no_tail : pred ≢ 1
  pub curr_no_tail : curr ≢ 1
  pub unmarked : v.link pred % 2 ≡ 0
  pub grows : (i : ℕ) → v.published i → w.published i
  pub published_from : (i : ℕ) → w.published i → v.published i

-- A move: what one step does to the nodes of a list. The last argument is the key that the step adds or removes, if
-- any. In a list that marks nodes before it unlinks them (`marks` is true), marking a node removes its key. In any
-- other list, unlinking a node removes its key.
pub data Move (marks : Bool) (v w : View) : Option (Key × Bool) → Type 0 where
  quiet : Quiet v w → Move marks v w None
  inserts : (pred own : ℕ) (k : Key) → Inserts v w pred own k.0 → Move marks v w (Some (k, true))
  sets : (b : ℕ) (k : Key) → marks ≡ true → Marks v w b k.0 → Move marks v w (Some (k, false))
  clears : (pred curr : ℕ) → Unlinks v w pred curr → v.link curr % 2 ≡ 1 → Move marks v w None
  removes : (pred curr : ℕ) (k : Key) → marks ≡ false → Unlinks v w pred curr → v.link curr % 2 ≡ 0 → 1 < curr
      → v.key curr ≡ k.0 + 1 → Move marks v w (Some (k, false))

-- Holds if each marked node has the same link before and after a step.
abbrev pub KeepsMarked : View → View → Type 0
KeepsMarked v w = (b : ℕ) → v.published b → v.link b % 2 ≡ 1 → w.link b ≡ v.link b

-- Holds if the views (nodes and locks) at moments 0 to `n` have the properties that proofs about a walk need: keys are
-- in order at each moment, and each step satisfies `KeepsNodes` and `KeepsMarked`.
pub record Course (vs : ℕ → View) (n : ℕ) : Type 0 where
  pub ordered : (t : ℕ) → t ≤ n → IsOrdered (vs t)
  pub goes : (t : ℕ) → t < n → KeepsNodes (vs t) (vs (t + 1))
  pub marked : (t : ℕ) → t < n → KeepsMarked (vs t) (vs (t + 1))

-- Holds if node b was in the chain at some moment from `first` to `now`.
pub record InPast (vs : ℕ → View) (first now b : ℕ) : Type 0 where
  pub at : ℕ
  pub from : first ≤ at
  pub upto : at ≤ now
  pub in_chain : InChain (vs at) b

-- Holds if key k was in the set at some moment from `first` to `now`.
pub record Had (vs : ℕ → View) (first now k : ℕ) : Type 0 where
  pub at : ℕ
  pub from : first ≤ at
  pub upto : at ≤ now
  pub has : InContent (vs at) k

-- Holds if key k was absent from the set at some moment from `first` to `now`.
pub record Lacked (vs : ℕ → View) (first now k : ℕ) : Type 0 where
  pub at : ℕ
  pub from : first ≤ at
  pub upto : at ≤ now
  pub lacks : InContent (vs at) k → ⊥

-- The assertion for a `contains` of key `k` at row 20 of the step table, before the call loads the link of `curr`: the
-- key of `curr` is smaller than `k`, and `curr` was in the chain at some moment since the call began at `first`.
pub record At20 (vs : ℕ → View) (first now k curr : ℕ) : Type 0 where
  pub past : InPast vs first now curr
  pub low : (vs past.at).key curr < k + 1

-- The assertion for a `contains` of key `k` at row 21 of the step table, before the call loads the key of `curr`: at
-- some moment of the call, a node with a key smaller than `k` was in the chain and had the link to `curr` that the call
-- followed.
pub record At21 (vs : ℕ → View) (first now k curr : ℕ) : Type 0 where
  pub from : ℕ
  pub word : ℕ
  pub seen : Seen vs first now from word
  pub next : word / 2 ≡ curr
  pub low : (vs seen.at).key from < k + 1

-- The assertion for a `contains` of key `k` at row 22 of the step table, before the call loads the mark of `curr`:
-- `curr` has the key `k`, and was in the chain at some moment since the call began at `first`.
pub record At22 (vs : ℕ → View) (first now k curr : ℕ) : Type 0 where
  pub past : InPast vs first now curr
  pub found : (vs past.at).key curr ≡ k + 1

-- The assertion for a `ceiling` of key `k` at row 25 of the step table, before the call loads the mark of `curr`:
-- `curr` was in the chain at some moment since the call began, and its key word `ckey` is not smaller than the key word
-- of `k`.
pub record At25 (vs : ℕ → View) (first now k curr ckey : ℕ) : Type 0 where
  pub past : InPast vs first now curr
  pub walk : At21 vs first now k curr
  pub found : (vs walk.seen.at).key curr ≡ ckey
  pub above : k + 1 ≤ ckey
