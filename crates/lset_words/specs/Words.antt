-- The layout of a list's table of 64-bit words. Word 0 is the lock of the whole list, word 1 the number of threads, and
-- word 2 the number of slots of each thread (a slot is a node reserved for one add). From word 3 on, each node has
-- three words: key, link, and lock.
use Rattle.std.specs.Prelude.{◌≡◌, ◌≢◌, ℕ, ◌+◌, ◌*◌, ◌<◌, ◌≤◌, ◌^◌, ◌⊎◌, All, Bool, if◌then◌else◌, List, [], length}
use Rattle.std.specs.List.Sorted.{IsStrictlyIncreasing}
use Rattle.lset_words.specs.declared.TheConstants.{MOST_THREADS, MOST_QUOTA, MOST_OPENING}
use Rattle.lset_words.specs.declared.Key.{Key}
use Rattle.lset_words.specs.declared.Call.{Call}
use Rattle.lset_words.specs.declared.Call.TheVariants.{Add, Remove, Contains, Ceiling}
use Rattle.lset_words.specs.declared.layout_fault.LayoutFault.{LayoutFault}
use Rattle.lset_words.specs.declared.layout_fault.LayoutFault.TheVariants as fault

-- The sizes of a list: the number of threads, the quota (the maximum number of successful adds by each thread), and the
-- number of opening keys.
pub record Sizes : Type 0 where
  pub threads : ℕ
  pub quota : ℕ
  pub opening : ℕ

-- The limits of the three sizes of a list.
pub record IsWithin (s : Sizes) : Type 0 where
  pub some : 0 < s.threads
  pub few : s.threads ≤ MOST_THREADS
  pub small : s.quota ≤ MOST_QUOTA
  pub opens : s.opening ≤ MOST_OPENING

-- The parameters of a set when it opens: the number of threads, the quota (the maximum number of successful adds by
-- each thread), and the opening keys.
pub record Opening : Type 0 where
  pub threads : ℕ
  pub quota : ℕ
  pub keys : List ℕ

abbrev pub sizes : Opening → Sizes
sizes o = record { threads = o.threads; quota = o.quota; opening = length o.keys }

-- Returns the parameters of a set that opens empty, with the given number of threads and the given quota of successful
-- adds per thread.
abbrev pub empty : ℕ → ℕ → Opening
empty threads quota = record { threads = threads; quota = quota; keys = [] }

-- The conditions on the parameters of a set when it opens: the sizes are within their limits, and the opening keys are
-- below 2^32 and strictly increasing.
pub record Opens (o : Opening) : Type 0 where
  pub within : IsWithin (sizes o)
  pub increasing : IsStrictlyIncreasing o.keys
  pub low : All (λ (k : ℕ). k < 2 ^ 32) o.keys

-- Holds if the error names the first size that is outside its limits, in the order threads, quota (successful adds per
-- thread), opening keys.
abbrev pub RefusesSizes : Sizes → LayoutFault → Type 0
RefusesSizes s fault.Threads = (s.threads ≡ 0) ⊎ (MOST_THREADS < s.threads)
RefusesSizes s fault.Quota = (0 < s.threads) × (s.threads ≤ MOST_THREADS) × (MOST_QUOTA < s.quota)
RefusesSizes s fault.Opening = (0 < s.threads) × (s.threads ≤ MOST_THREADS) × (s.quota ≤ MOST_QUOTA) × (MOST_OPENING < s.opening)

-- Returns the word that stores a user's key in a node: the key plus 1. The head's key word is 0.
abbrev pub key_word_of : Key → ℕ
key_word_of k = k.0 + 1

-- The word that stores the tail's key: 2^32 + 1, which is greater than the word of any user's key.
abbrev pub tail_word : ℕ
tail_word = 4294967297

abbrev pub key_index : ℕ → ℕ
key_index node = 3 + 3 * node

abbrev pub link_index : ℕ → ℕ
link_index node = 4 + 3 * node

abbrev pub lock_index : ℕ → ℕ
lock_index node = 5 + 3 * node

-- Returns the number of the node that is slot number `slot` of thread `thread`. A slot is a node reserved for one add.
-- Node 0 is the head, and node 1 is the tail. Then come the slots of thread 0, the slots of thread 1, and so on.
abbrev pub slot_node : ℕ → ℕ → ℕ → ℕ
slot_node quota thread slot = 2 + thread * quota + slot

-- Returns the number of the node that has opening key `i`. The nodes of opening keys follow all slots (nodes reserved
-- for adds).
abbrev pub opening_node : Sizes → ℕ → ℕ
opening_node s i = 2 + s.threads * s.quota + i

abbrev pub node_count : Sizes → ℕ
node_count s = 2 + s.threads * s.quota + s.opening

abbrev pub word_count : Sizes → ℕ
word_count s = 3 + 3 * node_count s

-- Returns the link word that contains the number of the next node and the mark.
abbrev pub packed : ℕ → Bool → ℕ
packed next mark = if mark then 2 * next + 1 else 2 * next

abbrev pub key_of : Call → Key
key_of (Add k) = k
key_of (Remove k) = k
key_of (Contains k) = k
key_of (Ceiling k) = k

-- Returns the word that a call compares with the key words of nodes: the call's key plus 1.
abbrev pub target : Call → ℕ
target call = key_word_of (key_of call)

-- Holds if different words of nodes have different indices, and no word of a node is among the first three words.
abbrev pub WordsApart : Type 0
WordsApart = (i j : ℕ)
    → (2 < key_index i) × (2 < link_index i) × (2 < lock_index i)
    × (key_index i ≢ link_index j) × (key_index i ≢ lock_index j) × (link_index i ≢ lock_index j)
    × (i ≢ j → (key_index i ≢ key_index j) × (link_index i ≢ link_index j) × (lock_index i ≢ lock_index j))

-- Holds if different slots (nodes reserved for adds) are different nodes, and no slot is the head or the tail.
abbrev pub SlotsApart : Type 0
SlotsApart = (quota t u i j : ℕ) → i < quota → j < quota
    → (1 < slot_node quota t i) × (slot_node quota t i ≡ slot_node quota u j → (t ≡ u) × (i ≡ j))
