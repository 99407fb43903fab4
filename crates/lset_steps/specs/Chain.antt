-- The chain of a list (the nodes reachable from the head) and its content (the keys of the set). Both are computed from
-- the words of the list and from the number of slots (nodes reserved for adds) that each thread has used (Herlihy and
-- Shavit).
use Rattle.std.specs.Prelude.{◌≡◌, ◌≢◌, ℕ, ◌+◌, ◌/◌, ◌%◌, ◌<◌, ◌≤◌, ◌⊎◌, Bool, true, false, List, [], ◌∷◌, Option, slice_index}
use Rattle.lset_words.specs.Words.{key_index, link_index, lock_index, slot_node, opening_node, Sizes}
use Rattle.lset_words.specs.declared.Key.{Key}
use Rattle.lset_words.specs.declared.Call.{Call}
use Rattle.lset_words.specs.declared.Reply.{Reply}
use Rattle.lset_words.specs.Account.{Changes, Contents, Counts, Fits}

abbrev pub node_key : List ℕ → ℕ → ℕ
node_key ws a = slice_index ws (key_index a)

abbrev pub node_link : List ℕ → ℕ → ℕ
node_link ws a = slice_index ws (link_index a)

abbrev pub node_lock : List ℕ → ℕ → ℕ
node_lock ws a = slice_index ws (lock_index a)

-- The parts of a list that the laws mention, at one moment: the key, link, and lock word of each node, the lock of the
-- whole list, each thread's number of successful adds, and which nodes are published (have been in the chain).
pub record View : Type 1 where
  pub key : ℕ → ℕ
  pub link : ℕ → ℕ
  pub lock : ℕ → ℕ
  pub list_lock : ℕ
  pub used : ℕ → ℕ
  pub published : ℕ → Type 0

-- Holds if a node is published, which means that it has been in the chain. The published nodes are the head, the tail,
-- the nodes of the opening keys, and the slots (nodes reserved for adds) that the threads have used. A thread with n
-- successful adds has used its first n slots.
abbrev pub Published : Sizes → (ℕ → ℕ) → ℕ → Type 0
Published sz used i = (i < 2) ⊎ ((t : ℕ) × (j : ℕ) × (t < sz.threads) × (j < used t) × (i ≡ slot_node sz.quota t j))
    ⊎ ((j : ℕ) × (j < sz.opening) × (i ≡ opening_node sz j))

abbrev pub view : Sizes → List ℕ → (ℕ → ℕ) → View
view sz ws used = record {
  key = node_key ws;
  link = node_link ws;
  lock = node_lock ws;
  list_lock = slice_index ws 0;
  used = used;
  published = Published sz used;
}

-- Holds if following links from node i visits exactly the nodes `ns` in order, none of them the tail, and then reaches
-- node j. A link word is twice the number of the next node, plus 1 if the node that has the link is marked.
abbrev pub Segment : View → ℕ → List ℕ → ℕ → Type 0
Segment v i [] j = i ≡ j
Segment v i (a ∷ ns) j = (a ≡ i) × (i ≢ 1) × Segment v (v.link i / 2) ns j

-- Holds if node b is in the chain: links lead from the head to b without passing the tail.
abbrev pub InChain : View → ℕ → Type 0
InChain v b = (ns : List ℕ) × Segment v 0 ns b

-- Holds if the chain consists of the nodes ns and the tail.
abbrev pub IsChain : View → List ℕ → Type 0
IsChain v ns = Segment v 0 ns 1

-- Holds if k is in the set: k is the key of an unmarked node of the chain, other than the head and the tail. A node
-- stores its key plus 1.
abbrev pub InContent : View → ℕ → Type 0
InContent v k = (b : ℕ) × InChain v b × (1 < b) × (v.key b ≡ k + 1) × (v.link b % 2 ≡ 0)

-- Holds if the keys are in order: the link of each published node (one that has been in the chain), except the tail,
-- points to a published node with a greater key, and no key is greater than the tail's.
pub record IsOrdered (v : View) : Type 0 where
  pub head_published : v.published 0
  pub tail_published : v.published 1
  pub top : (i : ℕ) → v.published i → v.key i ≤ v.key 1
  pub next_published : (i : ℕ) → v.published i → i ≢ 1 → v.published (v.link i / 2)
  pub increases : (i : ℕ) → v.published i → i ≢ 1 → v.key i < v.key (v.link i / 2)

-- For a list that marks nodes before it unlinks them (`true`), holds if each unmarked published node (one that has been
-- in the chain) is in the chain. For a list that does not mark nodes (`false`), holds if no published node is marked.
abbrev pub UnmarkedInChain : Bool → View → Type 0
UnmarkedInChain true v = (b : ℕ) → v.published b → v.link b % 2 ≡ 0 → InChain v b
UnmarkedInChain false v = (b : ℕ) → v.published b → v.link b % 2 ≡ 0

-- [Content]: holds if `change` is exactly the change of the set's keys from view `v` (the nodes and locks before) to
-- view `w` (the nodes and locks after).
abbrev pub Changed : Option (Key × Bool) → View → View → Type 0
Changed change v w = Changes change (InContent v) (InContent w)

abbrev pub contents_of : (ℕ → View) → Contents
contents_of vs moment = InContent (vs moment)

abbrev pub counts_of : (ℕ → View) → Counts
counts_of vs moment thread = (vs moment).used thread

abbrev pub FitsIn : ℕ → View → ℕ → Call → Reply → Type 0
FitsIn quota v thread call reply = Fits quota (InContent v) (v.used thread) call reply

-- [Unlinked stays]: compares the published node i (one that has been in the chain) in view `v` (nodes and locks) and in
-- a later view `w`. The node is still published in `w` and has the same key. If the node is unlinked in `v`, it is
-- unlinked in `w` and has the same link. In a list that marks nodes, a node that is marked in `v` has the same link in
-- `w`.
pub record UnlinkedStays (marks : Bool) (v w : View) (i : ℕ) : Type 0 where
  pub published : w.published i
  pub key : w.key i ≡ v.key i
  pub unlinked : (InChain v i → ⊥) → (w.link i ≡ v.link i) × (InChain w i → ⊥)
  pub marked : marks ≡ true → v.link i % 2 ≡ 1 → w.link i ≡ v.link i

-- [Seen]: holds if at some moment from `first` to `now`, node b was in the chain and had the link word l.
pub record Seen (vs : ℕ → View) (first now b l : ℕ) : Type 0 where
  pub at : ℕ
  pub from : first ≤ at
  pub upto : at ≤ now
  pub in_chain : InChain (vs at) b
  pub link : (vs at).link b ≡ l
