-- Lemmas: a write to one word of the list leaves all other words unchanged.
use Rattle.std.specs.Prelude.{◌≡◌, ◌≢◌, ℕ, ◌<◌, List, slice_index, slice_set, length}
use Rattle.std.proofs.Common.{arith, inl, inr, get_or-set_other, get_or-set_same}
use Rattle.lset_words.specs.Words.{key_index, link_index, lock_index}
use Rattle.lset_steps.specs.Chain.{node_key, node_link, node_lock}
use Rattle.lset_steps.specs.Laws.{IsLockWord}

pub set_other : (ws : List ℕ) (i v x : ℕ) → x ≢ i → slice_index (slice_set ws i v) x ≡ slice_index ws x
set_other ws i v x n = get_or-set_other ws i x v 0 n

pub set_same : (ws : List ℕ) (i v : ℕ) → i < length ws → slice_index (slice_set ws i v) i ≡ v
set_same ws i v h = get_or-set_same ws i v 0 h

pub key_after_link : (ws : List ℕ) (p v a : ℕ) → node_key (slice_set ws (link_index p) v) a ≡ node_key ws a
key_after_link ws p v a = set_other ws (link_index p) v (key_index a) (omega arith)

pub link_after_link : (ws : List ℕ) (p v a : ℕ) → a ≢ p → node_link (slice_set ws (link_index p) v) a ≡ node_link ws a
link_after_link ws p v a n = set_other ws (link_index p) v (link_index a) (omega arith)

pub lock_after_link : (ws : List ℕ) (p v a : ℕ) → node_lock (slice_set ws (link_index p) v) a ≡ node_lock ws a
lock_after_link ws p v a = set_other ws (link_index p) v (lock_index a) (omega arith)

pub list_lock_after_link : (ws : List ℕ) (p v : ℕ) → slice_index (slice_set ws (link_index p) v) 0 ≡ slice_index ws 0
list_lock_after_link ws p v = set_other ws (link_index p) v 0 (omega arith)

pub link_after_key : (ws : List ℕ) (p v a : ℕ) → node_link (slice_set ws (key_index p) v) a ≡ node_link ws a
link_after_key ws p v a = set_other ws (key_index p) v (link_index a) (omega arith)

pub key_after_key : (ws : List ℕ) (p v a : ℕ) → a ≢ p → node_key (slice_set ws (key_index p) v) a ≡ node_key ws a
key_after_key ws p v a n = set_other ws (key_index p) v (key_index a) (omega arith)

pub lock_after_key : (ws : List ℕ) (p v a : ℕ) → node_lock (slice_set ws (key_index p) v) a ≡ node_lock ws a
lock_after_key ws p v a = set_other ws (key_index p) v (lock_index a) (omega arith)

pub list_lock_after_key : (ws : List ℕ) (p v : ℕ) → slice_index (slice_set ws (key_index p) v) 0 ≡ slice_index ws 0
list_lock_after_key ws p v = set_other ws (key_index p) v 0 (omega arith)

pub key_after_lock : (ws : List ℕ) (x v a : ℕ) → IsLockWord x → node_key (slice_set ws x v) a ≡ node_key ws a
key_after_lock ws x v a k = set_other ws x v (key_index a)
    (λ e. elim k [ inl z ↦ omega arith | inr z ↦ let w = z.1 in omega arith ])

pub link_after_lock : (ws : List ℕ) (x v a : ℕ) → IsLockWord x → node_link (slice_set ws x v) a ≡ node_link ws a
link_after_lock ws x v a k = set_other ws x v (link_index a)
    (λ e. elim k [ inl z ↦ omega arith | inr z ↦ let w = z.1 in omega arith ])

pub lock_after_lock : (ws : List ℕ) (p v a : ℕ) → a ≢ p → node_lock (slice_set ws (lock_index p) v) a ≡ node_lock ws a
lock_after_lock ws p v a d = set_other ws (lock_index p) v (lock_index a) (omega arith)

pub not_link : (p : ℕ) → IsLockWord (link_index p) → ⊥
not_link p k = elim k [ inl z ↦ omega arith | inr z ↦ let w = z.1 in omega arith ]

pub not_key : (p : ℕ) → IsLockWord (key_index p) → ⊥
not_key p k = elim k [ inl z ↦ omega arith | inr z ↦ let w = z.1 in omega arith ]
