-- Conditions on the private state of a thread and on its next step, between two steps of a pending call.
use Rattle.std.specs.Prelude.{◌≡◌, ◌≢◌, ℕ, ◌+◌, ◌*◌, List, [], ◌∷◌, Bool, true, false, Option, Some, None, MatchOption}
use Rattle.lset_words.specs.declared.Call.{Call}
use Rattle.lset_words.specs.declared.Reply.{Reply}
use Rattle.lset_words.specs.Words.{word_count, sizes, key_index, link_index, slot_node}
use Rattle.lset_steps.specs.declared.Local.{Local}
use Rattle.lset_steps.specs.declared.Action.{Action}
use Rattle.lset_steps.specs.declared.Action.TheVariants.{Store, Exchange}
use Rattle.lset_steps.specs.declared.Fed.{Fed}
use Rattle.lset_steps.specs.ReadRows.{continued}
use Rattle.lset_steps.specs.declared.rows.Targets.{Targets}
use Rattle.lset_steps.specs.Steps.{Table}
use Rattle.lset_steps.specs.Rows.{goes_to, decided_on}
use Rattle.lset_loops.specs.declared.decision.Decision.{Decision}
use Rattle.lset_loops.specs.declared.decision.Decision.TheVariants.{PutIn, TakeOut, Answer}
use Rattle.lset_rule.specs.declared.slots.OwnSlots.{OwnSlots}
use Rattle.lset_rule.specs.Seats.{TableSeat, MayCall}
use Rattle.lset_rule.specs.OwnSlots.{slots_of, resting}
use Rattle.lset_rule.specs.Views.{Stands}
use Rattle.lset_rule.specs.Calls.{IsMid, Makes}
use Rattle.lset_loops.specs.Begun.{Begun, begun_at}

-- Holds if call `b` is pending on the list with the step table `m` (its numbered atomic steps), its thread has the
-- private state `l`, and its seat (per-thread handle) is now `s`.
pub record Holds (m : Table) (b : Begun) (l : Local) (s : TableSeat) : Type 0 where
  pub words : b.table_id.words ≡ word_count (sizes b.me.0.shape)
  pub used : b.me.0.spent ≡ false
  pub seat : (s.table_id ≡ b.table_id) × (s.id ≡ b.id) × (s.me.1 ≡ b.me.1)
  pub mid : IsMid b.call b.me.0 s.me.0
  pub stands : Stands m s.me.0
  pub local : s.me.0.local ≡ l

-- Holds if, according to the step table `m` (a list's numbered atomic steps), action `a` is the next step of call `b`
-- and does not end the call.
pub record MayStep (m : Table) (b : Begun) (a : Action) (s : TableSeat) : Type 0 where
  pub held : Local
  pub holds : Holds m b held s
  pub acts : a ≡ m.next held
  pub goes_on : (n : ℕ) → (m.feed held n).answer ≡ None

-- Holds if a step of call `b` saw the value `n`, and the call has continued as the list's step table (its numbered
-- atomic steps) prescribes for `n`. The seat (per-thread handle) is `s` before the step and `s'` after it.
pub record HasStepped (m : Table) (b : Begun) (s : TableSeat) (n : ℕ) (s' : TableSeat) : Type 0 where
  pub leads : (l : Local) → Holds m b l s → Holds m b (m.feed l n).local s'

-- Holds if, according to the step table `m` (a list's numbered atomic steps), call `b` now attempts to take the lock at
-- index `word`, and repeats the attempt until it succeeds.
pub record MayLock (m : Table) (b : Begun) (word thread : ℕ) (s : TableSeat) : Type 0 where
  pub held : Local
  pub holds : Holds m b held s
  pub acts : Exchange word 0 (thread + 1) ≡ m.next held
  pub again : (n : ℕ) → n ≢ 0 → m.feed held n ≡ continued held
  pub goes_on : (m.feed held 0).answer ≡ None

-- Returns the thread's next slot: the node that the thread's next successful `add` links into the list.
abbrev pub slot : OwnSlots → ℕ
slot own = slot_node own.quota own.thread own.used

-- Returns the private state of a thread after it has executed the given stores. Each store is a pair of a word and a
-- value. `l` is the private state before the stores.
abbrev pub feeds : Table → Local → List (ℕ × ℕ) → Local
feeds m l [] = l
feeds m l ((word, value) ∷ more) = feeds m (m.feed l value).local more

-- Holds if, according to the step table `m` (a list's numbered atomic steps), a thread in the private state `l`
-- executes the given stores in its next steps, and none of the stores ends the call. Each store is a pair of a word and
-- a value.
abbrev pub Stores : Table → Local → List (ℕ × ℕ) → Type 0
Stores m l [] = Unit {0}
Stores m l ((word, value) ∷ more) = (Store word value ≡ m.next l) × ((n : ℕ) → (m.feed l n).answer ≡ None)
    × Stores m (m.feed l value).local more

pub record MayStore (m : Table) (b : Begun) (words : List (ℕ × ℕ)) (s : TableSeat) : Type 0 where
  pub held : Local
  pub holds : Holds m b held s
  pub stores : Stores m held words

pub record HasStored (m : Table) (b : Begun) (stores : List (ℕ × ℕ)) (s s' : TableSeat) : Type 0 where
  pub leads : (l : Local) → Holds m b l s → Holds m b (feeds m l stores) s'

-- Returns the stores that write the key `word` and a link to node `x` into the thread's next unused node (its slot).
abbrev pub slot_stores : OwnSlots → ℕ → ℕ → List (ℕ × ℕ)
slot_stores own word x = (key_index (slot own), word) ∷ (link_index (slot own), 2 * x) ∷ []

-- Returns the stores that write the key `word` into the thread's next unused node (its slot) and link the node between
-- nodes `p` and `x`.
abbrev pub put_stores : OwnSlots → ℕ → ℕ → ℕ → List (ℕ × ℕ)
put_stores own word p x = (key_index (slot own), word) ∷ (link_index (slot own), 2 * x) ∷ (link_index p, 2 * slot own) ∷ []

-- Holds if call `b` has not started yet, no call is pending from seat `s` (per-thread handle), and the thread of the
-- seat has the slots `own` (nodes reserved for its adds).
pub record MayBegin (m : Table) (b : Begun) (own : OwnSlots) (s : TableSeat) : Type 0 where
  pub now : b ≡ begun_at b.call s
  pub may : MayCall m b.table_id b.me.0.shape own s

-- Returns the private state of the thread after call `b` has started.
abbrev pub first : Table → Begun → OwnSlots → Local
first m b own = m.begin b.call (resting own)

-- Holds if call `b` has ended with reply `r`, its thread has the private state `l`, and its seat (per-thread handle) is
-- now `s`.
pub record Answered (m : Table) (b : Begun) (r : Reply) (l : Local) (s : TableSeat) : Type 0 where
  pub seat : (s.table_id ≡ b.table_id) × (s.id ≡ b.id) × (s.me.1 ≡ b.me.1)
  pub makes : Makes m b.call b.me.0 r s.me.0
  pub local : s.me.0.local ≡ l

-- Holds if, according to the step table `m` (a list's numbered atomic steps), action `a` is the next step of call `b`.
-- The step can end the call.
pub record MayAnswer (m : Table) (b : Begun) (a : Action) (s : TableSeat) : Type 0 where
  pub held : Local
  pub holds : Holds m b held s
  pub acts : a ≡ m.next held

-- Holds if call `b` has ended with the reply in `f` or, if `f` contains no reply, is still pending. `f` is the result
-- of the last step of the call.
abbrev pub StandsAfter : Table → Begun → Fed → TableSeat → Type 0
StandsAfter m b f s = MatchOption f.answer (Holds m b f.local s) (λ r. Answered m b r f.local s)

-- Holds if a step of call `b` saw the value `n`, and the call has ended or continued as the list's step table (its
-- numbered atomic steps) prescribes for `n`. The seat (per-thread handle) is `s` before the step and `s'` after it.
abbrev pub HasTold : Table → Begun → TableSeat → ℕ → TableSeat → Type 0
HasTold m b s n s' = (l : Local) → Holds m b l s → (f : Fed) → m.feed l n ≡ f → StandsAfter m b f s'

-- Holds if call `b` has executed a compare-and-exchange, and has ended or continued as the list's step table (its
-- numbered atomic steps) prescribes for the value seen. A successful exchange saw the value `old`; a failed exchange
-- saw a different value. The seat (per-thread handle) is `s` before the exchange and `s'` after it.
abbrev pub HasExchanged : Table → Begun → ℕ → TableSeat → Bool → TableSeat → Type 0
HasExchanged m b old s true s' = HasTold m b s old s'
HasExchanged m b old s false s' = (n : ℕ) × (n ≢ old) × HasTold m b s n s'

-- The other fields of a thread's private state: the node after the current node, the node of a second walk, and the
-- keys that the walk has read. Most rows of the step table leave these fields arbitrary.
pub record Rest : Type 0 where
  pub succ : ℕ
  pub node : ℕ
  pub pkey : ℕ
  pub ckey : ℕ

-- Returns the private state of a thread at row `pc` of the list's step table (its numbered atomic steps). `p` is the
-- previous node, `x` is the current node, and `j` contains the other fields.
abbrev pub row : OwnSlots → Call → ℕ → Option Reply → ℕ → ℕ → Rest → Local
row own c pc r p x j = record {
  thread = own.thread;
  quota = own.quota;
  used = own.used;
  call = c;
  pc = pc;
  reply = r;
  pred = p;
  curr = x;
  succ = j.succ;
  node = j.node;
  pkey = j.pkey;
  ckey = j.ckey;
}

-- Returns a thread's private state after its call has made the decision `d`: to add the key, to remove the key, or only
-- to reply. The thread continues at the row for `d` in the list's step table (its numbered atomic steps).
abbrev pub done : Targets → Decision → Local → Local
done t PutIn l = goes_to t.adds None l
done t TakeOut l = goes_to t.removes None l
done t (Answer r) l = goes_to t.leaves (Some r) l

-- Holds if the list's step table (its numbered atomic steps) makes the decision `d` when the walk of call `c` stops at
-- a node with the key `word`. The decision is to add the key, to remove the key, or only to reply.
abbrev pub Decides : Call → OwnSlots → ℕ → Decision → Type 0
Decides c own word d = (t : Targets) (l : Local) → l.call ≡ c → l.used ≡ own.used → l.quota ≡ own.quota →
    decided_on t word l ≡ done t d l

-- Returns the slots of a thread (nodes reserved for its adds) after the thread has used one more slot.
abbrev pub one_more : OwnSlots → OwnSlots
one_more own = record own { used = own.used + 1 }

-- Holds if call `b` has ended. `answer` consists of the reply and the slots of the thread after the call. (Slots are
-- nodes reserved for adds.)
abbrev pub HasAnswered : Table → Begun → OwnSlots × Reply → TableSeat → Type 0
HasAnswered m b answer s = (l : Local) × Answered m b answer.1 l s × (answer.0 ≡ slots_of l)
