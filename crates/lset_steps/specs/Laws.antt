-- The law of a machine, which is a list algorithm as a table of steps. Each list of this project is proved to satisfy
-- the law in every run.
use Rattle.std.specs.Prelude.{◌≡◌, ◌≢◌, ℕ, suc, ◌+◌, ◌<◌, ◌≤◌, ◌⊎◌, ◌%◌, Bool, false, List, Option, Some, None, slice_index, length}
use Rattle.lset_words.specs.Words.{lock_index, word_count, node_count, tail_word, target, Sizes, Opening, sizes}
use Rattle.lset_words.specs.declared.Key.{Key}
use Rattle.lset_words.specs.declared.Call.{Call}
use Rattle.lset_words.specs.declared.Reply.{Reply}
use Rattle.lset_words.specs.Log.{begun_at, has_changed}
use Rattle.lset_words.specs.Account.{MayChange, count_after, RightReply}
use Rattle.lset_steps.specs.declared.Local.{Local}
use Rattle.lset_steps.specs.declared.Action.{Action}
use Rattle.lset_steps.specs.declared.Action.TheVariants.{Load, Store, Exchange}
use Rattle.lset_steps.specs.declared.Event.{Event}
use Rattle.lset_steps.specs.declared.Event.TheVariants.{Go}
use Rattle.lset_steps.specs.Steps.{Table, State, state_at, Run, local_of, seen_next, log_of, idle}
use Rattle.lset_steps.specs.Chain.{View, view, IsOrdered, InChain, UnmarkedInChain, Changed, UnlinkedStays, Seen, contents_of, counts_of}

-- Returns the number of successful adds by thread `t` in state `s`. `view_of` returns the nodes and locks in a state,
-- and `views` returns the nodes and locks at each moment of a run.
abbrev pub used_in : State → ℕ → ℕ
used_in s t = (local_of s t).used

abbrev pub view_of : Sizes → State → View
view_of sz s = view sz s.words (used_in s)

abbrev pub views : Table → Opening → (ℕ → Event) → ℕ → View
views T op es k = view_of (sizes op) (state_at T op es k)

abbrev pub word_named : Action → ℕ
word_named (Load w) = w
word_named (Store w v) = w
word_named (Exchange w old new) = w

abbrev pub IsLockWord : ℕ → Type 0
IsLockWord x = (x ≡ 0) ⊎ ((i : ℕ) × (x ≡ lock_index i))

-- Holds if the private state `l` contains the number of thread `t` and the quota of the set (the successful adds that
-- each thread may make), and each register is a node of the list or a key word not greater than the tail's.
pub record Registers (sz : Sizes) (t : ℕ) (l : Local) : Type 0 where
  pub thread : l.thread ≡ t
  pub quota : l.quota ≡ sz.quota
  pub used : l.used ≤ sz.quota
  pub low : target l.call < tail_word
  pub pred : l.pred < node_count sz
  pub curr : l.curr < node_count sz
  pub succ : l.succ < node_count sz
  pub node : l.node < node_count sz
  pub pkey : l.pkey ≤ tail_word
  pub ckey : l.ckey ≤ tail_word

-- The laws of a single state: properties of every state in every run.
pub record StateLaws (marks : Bool) (sz : Sizes) (s : State) : Type 0 where
  pub words : length s.words ≡ word_count sz
  pub locals : length s.locals ≡ sz.threads
  pub threads : (t : ℕ) → t < sz.threads → Registers sz t (local_of s t)
  pub ordered : IsOrdered (view_of sz s)
  pub head_key : (view_of sz s).key 0 ≡ 0
  pub tail_key : (view_of sz s).key 1 ≡ tail_word
  pub inside : (i : ℕ) → (view_of sz s).published i → i < node_count sz
  pub marked : UnmarkedInChain marks (view_of sz s)
  pub unmarked : marks ≡ false → (i : ℕ) → i < node_count sz → (view_of sz s).link i % 2 ≡ 0

-- Holds if the action of thread t uses locks properly: it writes a lock word only to take a lock, by an exchange of 0
-- for t + 1, or to release a lock that t holds, by a store of 0.
abbrev pub LockUse : List ℕ → ℕ → Action → Type 0
LockUse ws t (Load w) = Unit {0}
LockUse ws t (Store w v) = IsLockWord w → (v ≡ 0) × (slice_index ws w ≡ t + 1)
LockUse ws t (Exchange w old new) = IsLockWord w → (old ≡ 0) × (new ≡ t + 1)

-- Holds if the reply r to the call is correct: it is `True` if the call has changed the set (`done`), and otherwise it
-- is correct for the keys of the set at some moment from `first` to `now`.
abbrev pub Due : Bool → ℕ → (ℕ → View) → ℕ → ℕ → ℕ → Call → Reply → Type 0
Due done q vs first now t call r = RightReply done q (contents_of vs) (counts_of vs) first now t call (Some r)

-- Holds if the call has ended (`pc` is 0) if and only if the step has a reply, and the reply, if any, is correct.
abbrev pub Answered : Bool → ℕ → (ℕ → View) → ℕ → ℕ → ℕ → Call → ℕ → Option Reply → Type 0
Answered done q vs first now t call pc None = pc ≢ 0
Answered done q vs first now t call pc (Some r) = (pc ≡ 0) × Due done q vs first now t call r

-- The laws of event `k` of a run (counted from 0), if event `k` is a step of thread `t` in private state `l`. `change`
-- is the key that the step adds or removes according to the step table.
pub record StepLaws (T : Table) (op : Opening) (es : ℕ → Event) (k t : ℕ) (s : State) (l : Local)
    (change : Option (Key × Bool)) : Type 0 where
  -- The step accesses one of the list's words.
  pub in_table : word_named (T.next l) < word_count (sizes op)
  -- The step writes a lock word only to take or to release the lock.
  pub lock_use : LockUse s.words t (T.next l)
  pub same_call : (T.feed l (seen_next T s t)).local.call ≡ l.call
  -- The step changes the set's keys by exactly `change`.
  pub content : Changed change (views T op es k) (views T op es (suc k))
  -- The thread's pending call may make the change `change`.
  pub by_call : MayChange op.quota l.used l.call (has_changed (log_of T op es) t k) change
  pub counts : (T.feed l (seen_next T s t)).local.used ≡ count_after change l.used
  -- The call ends if and only if the step has a reply, and the reply, if any, is correct.
  pub answered : Answered (has_changed (log_of T op es) t (suc k)) op.quota (views T op es)
      (begun_at (log_of T op es) t (suc k)) (suc k) t l.call
      (T.feed l (seen_next T s t)).local.pc (T.feed l (seen_next T s t)).answer

abbrev pub StepAt : Table → Opening → (ℕ → Event) → ℕ → ℕ → Type 0
StepAt T op es k t =
    StepLaws T op es k t (state_at T op es k) (local_of (state_at T op es k) t)
    (T.effect (local_of (state_at T op es k) t) (seen_next T (state_at T op es k) t))

-- The laws for the start of a call by a thread in private state `l`.
pub record BeginLaws (begin : Call → Local → Local) (call : Call) (l : Local) : Type 0 where
  pub called : (begin call l).call ≡ call
  pub used : (begin call l).used ≡ l.used
  pub opened : (begin call l).pc ≢ 0
  -- The thread's state after the start of a call depends only on the call and on the thread's number, quota of adds,
  -- and number of successful adds.
  pub alike : begin call l ≡ begin call (record (idle l.quota l.thread) { used = l.used })

-- The law of a machine (a list algorithm as a table of steps): properties of every start of a call, of every state and
-- every step of a run, and of a node at two moments of a run. The laws in `lset_steps::laws` follow from it.
pub record Lawful (T : Table) : Type 0 where
  pub begins : (call : Call) (l : Local) → BeginLaws T.begin call l
  pub states : (op : Opening) (last k : ℕ) (es : ℕ → Event) → Run T op es last → k ≤ last →
      StateLaws T.marks (sizes op) (state_at T op es k)
  pub steps : (op : Opening) (last k t : ℕ) (es : ℕ → Event) → Run T op es last → k < last → es k ≡ Go t → StepAt T op es k t
  -- A published node (one that has been in the chain) is still published at every later moment, with the same key. An
  -- unlinked node stays unlinked and keeps its link. In a list that marks nodes, a marked node keeps its link.
  pub unlinked_stays : (op : Opening) (last j k i : ℕ) (es : ℕ → Event) → Run T op es last → j ≤ k → k ≤ last
      → (views T op es j).published i
      → UnlinkedStays T.marks (views T op es j) (views T op es k) i
  -- If a node is in the chain at moment `j`, and has a certain link at a later moment `k`, then at some moment from `j`
  -- to `k`, the node is in the chain with that link.
  pub seen_before : (op : Opening) (last j k b : ℕ) (es : ℕ → Event) → Run T op es last → j ≤ k → k ≤ last
      → InChain (views T op es j) b
      → Seen (views T op es) j k b ((views T op es k).link b)

-- Holds if the first `k` events are a run, after which thread `t` has a pending call.
pub record UnderWay (T : Table) (op : Opening) (es : ℕ → Event) (k t : ℕ) : Type 0 where
  pub run : Run T op es k
  pub thread : t < op.threads
  pub open_call : (local_of (state_at T op es k) t).pc ≢ 0

-- `Occurs` holds if, at some moment of some run, `l` is the private state of a thread with a pending call. `Sees` holds
-- if, in addition, the thread's next step sees the value `seen`.
abbrev pub Occurs : Table → Local → Type 0
Occurs T l = (op : Opening) × (es : ℕ → Event) × (k : ℕ) × (t : ℕ) × UnderWay T op es k t
    × (local_of (state_at T op es k) t ≡ l)

abbrev pub Sees : Table → Local → ℕ → Type 0
Sees T l seen = (op : Opening) × (es : ℕ → Event) × (k : ℕ) × (t : ℕ) × UnderWay T op es k t
    × (local_of (state_at T op es k) t ≡ l)
    × (seen_next T (state_at T op es k) t ≡ seen)
