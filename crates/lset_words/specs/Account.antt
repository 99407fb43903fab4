-- The account of a run: the keys in the set at each moment (the state after a number of events), and how each event
-- changes the keys. An account mentions calls, replies, and changes of keys, but no nodes and no locks.
use Rattle.std.specs.Prelude.{◌≡◌, ◌≢◌, ℕ, suc, ◌+◌, ◌<◌, ◌≤◌, Bool, true, false, Option, Some, None, Contains as InList}
use Rattle.std.specs.List.Sorted.{IsStrictlyIncreasing}
use Rattle.lset_words.specs.Words.{Opening}
use Rattle.lset_words.specs.declared.Call.{Call}
use Rattle.lset_words.specs.declared.Call.TheVariants.{Add, Remove, Contains, Ceiling}
use Rattle.lset_words.specs.declared.Reply.{Reply}
use Rattle.lset_words.specs.declared.Reply.TheVariants.{True, False, Full, At, Nothing}
use Rattle.lset_words.specs.Log.{Log, Entry, Change, last_call, begun_at, is_open, has_changed}
use Rattle.lset_words.specs.Log.Entry.{began, stepped}

-- A set of keys, represented as a predicate that holds for the keys in the set.
abbrev pub Content : Type 1
Content = ℕ → Type 0

abbrev pub Same : Content → Content → Type 0
Same before after = (j : ℕ) → (before j → after j) × (after j → before j)

-- [Named change]: holds if a step with the given change turns the keys `before` into the keys `after`. Without a
-- change, `before` and `after` have the same keys. With a change, they differ only in the changed key: a key is added
-- only if it was absent, and removed only if it was present.
abbrev pub Changes : Option Change → Content → Content → Type 0
Changes None before after = Same before after
Changes (Some (k, true)) before after =
    (before k.0 → ⊥) × after k.0 × ((j : ℕ) → j ≢ k.0 → (before j → after j) × (after j → before j))
Changes (Some (k, false)) before after =
    before k.0 × (after k.0 → ⊥) × ((j : ℕ) → j ≢ k.0 → (before j → after j) × (after j → before j))

-- Returns the number of a thread's successful adds after a step. `count` is the number before the step. The first
-- argument is the change that the step makes, or `None`.
abbrev pub count_after : Option Change → ℕ → ℕ
count_after None count = count
count_after (Some (k, true)) count = count + 1
count_after (Some (k, false)) count = count

-- [Named change]: holds if a call may make the given change. Only an `Add` of a key adds the key, and only if its
-- thread is below its quota of successful adds. Only a `Remove` of a key removes the key. A call makes at most one
-- change.
abbrev pub MayChange : ℕ → ℕ → Call → Bool → Option Change → Type 0
MayChange quota count call changed None = Unit {0}
MayChange quota count call changed (Some (k, true)) = (call ≡ Add k) × (changed ≡ false) × (count < quota)
MayChange quota count call changed (Some (k, false)) = (call ≡ Remove k) × (changed ≡ false)

-- Holds if the last argument is the smallest key in `content` that is not less than `k`, or is `None` and every key in
-- `content` is less than `k`.
abbrev pub IsCeiling : Content → ℕ → Option ℕ → Type 0
IsCeiling content k None = (j : ℕ) → k ≤ j → content j → ⊥
IsCeiling content k (Some x) = (k ≤ x) × content x × ((j : ℕ) → k ≤ j → j < x → content j → ⊥)

-- [Fits]: holds if a sequential set with exactly the keys `content` returns the given reply to the call and does not
-- change. `count` is the number of successful adds by the call's thread.
abbrev pub Fits : ℕ → Content → ℕ → Call → Reply → Type 0
Fits quota content count (Add k) False = content k.0
Fits quota content count (Add k) Full = (content k.0 → ⊥) × (count ≡ quota)
Fits quota content count (Remove k) False = content k.0 → ⊥
Fits quota content count (Contains k) True = content k.0
Fits quota content count (Contains k) False = content k.0 → ⊥
Fits quota content count (Ceiling k) (At x) = IsCeiling content k.0 (Some x.0)
Fits quota content count (Ceiling k) Nothing = IsCeiling content k.0 None
Fits quota content count call reply = ⊥

-- The keys of the set at each moment: `contents k` has the keys after the first k events. `Counts` is each thread's
-- number of successful adds at each moment.
abbrev pub Contents : Type 1
Contents = ℕ → Content

abbrev pub Counts : Type 0
Counts = ℕ → ℕ → ℕ

-- Holds if the reply is correct at some moment (number of events so far) from `first` to `last`: a sequential set with
-- the keys of that moment returns the reply.
pub record FitsSometime (quota : ℕ) (contents : Contents) (counts : Counts) (first last thread : ℕ) (call : Call)
    (reply : Reply) : Type 0 where
  pub moment : ℕ
  pub from : first ≤ moment
  pub upto : moment ≤ last
  pub fits : Fits quota (contents moment) (counts moment thread) call reply

-- Holds if the reply is correct or absent. A call that has changed the set must reply `True`. The reply of any other
-- call must be correct for the keys at some moment (number of events so far) from `first` to `last`.
abbrev pub RightReply : Bool → ℕ → Contents → Counts → ℕ → ℕ → ℕ → Call → Option Reply → Type 0
RightReply changed quota contents counts first last thread call None = Unit {0}
RightReply true quota contents counts first last thread call (Some reply) = reply ≡ True
RightReply false quota contents counts first last thread call (Some reply) =
    FitsSometime quota contents counts first last thread call reply

-- Holds if event `k` (counted from 0) can be the start of a call by thread `t`: the thread has no pending call before
-- the event, and the event changes neither the set's keys nor any thread's number of successful adds.
pub record Begins (threads : ℕ) (log : Log) (contents : Contents) (counts : Counts) (k t : ℕ) : Type 0 where
  pub of_a_thread : t < threads
  pub idle : is_open log t k ≡ false
  pub content : Same (contents k) (contents (suc k))
  pub same_counts : (u : ℕ) → u < threads → counts (suc k) u ≡ counts k u

-- Holds if event `k` (counted from 0) can be a step of thread `t` with the change `change` and the reply `reply`.
-- `change` is `None` if the step does not change the set. `reply` is `None` if the step does not end the call.
pub record Steps (threads quota : ℕ) (log : Log) (contents : Contents) (counts : Counts) (k t : ℕ) (change : Option Change)
    (reply : Option Reply) : Type 0 where
  -- Thread `t` exists and has a pending call.
  pub of_a_thread : t < threads
  pub under_way : is_open log t k ≡ true
  -- The set's keys and the thread's number of successful adds change only by `change`. If `change` is `None`, they stay
  -- the same.
  pub content : Changes change (contents k) (contents (suc k))
  pub own_count : counts (suc k) t ≡ count_after change (counts k t)
  pub other_counts : (u : ℕ) → u < threads → u ≢ t → counts (suc k) u ≡ counts k u
  -- The pending call may make the change `change`.
  pub may : MayChange quota (counts k t) (last_call log t k) (has_changed log t k) change
  -- The reply, if any, is correct.
  pub right : RightReply (has_changed log t (suc k)) quota contents counts (begun_at log t k) (suc k) t (last_call log t k) reply

-- Holds if entry `k` of the log (event number `k`, counted from 0) is a valid start of a call or a valid step.
abbrev pub Enters : ℕ → ℕ → Log → Contents → Counts → ℕ → Entry → Type 0
Enters threads quota log contents counts k (began t call) = Begins threads log contents counts k t
Enters threads quota log contents counts k (stepped t change reply) = Steps threads quota log contents counts k t change reply

-- Holds if `contents` (the keys at each moment) and `counts` (the successful adds at each moment) are the account of a
-- run's first `last` events, which means that they agree with the opening keys and with each entry of the log.
pub record Account (o : Opening) (last : ℕ) (log : Log) (contents : Contents) (counts : Counts) : Type 0 where
  -- Before the first event, the set contains exactly the opening keys. The opening keys increase strictly.
  pub increasing : IsStrictlyIncreasing o.keys
  pub opens : (k : ℕ) → (contents 0 k → InList o.keys k) × (InList o.keys k → contents 0 k)
  -- Before the first event, no thread has added a key.
  pub none_yet : (t : ℕ) → t < o.threads → counts 0 t ≡ 0
  -- Each of the first `last` events is a valid start of a call or a valid step.
  pub enters : (k : ℕ) → k < last → Enters o.threads o.quota log contents counts k (log k)
