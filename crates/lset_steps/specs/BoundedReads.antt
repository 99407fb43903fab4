-- Laws of lists with a `contains` that makes only loads. With n threads, a quota of q successful adds per thread, and m
-- opening keys, a `contains` takes at most 2(nq + m) + 2 steps, whatever the other threads do. Each node that the call
-- visits was in the chain at some moment of the call.
use Rattle.std.specs.Prelude.{◌≡◌, ◌≢◌, ℕ, zero, suc, ◌+◌, ◌*◌, ◌<◌, ◌≤◌, if◌then◌else◌, ◌==◌}
use Rattle.lset_steps.specs.declared.Action.TheVariants.{Load}
use Rattle.lset_steps.specs.declared.Event.{Event}
use Rattle.lset_steps.specs.declared.Event.TheVariants.{Begin, Go}
use Rattle.lset_words.specs.Words.{link_index, Sizes, Opening, sizes}
use Rattle.lset_words.specs.Log.{begun_at, last_call}
use Rattle.lset_steps.specs.Steps.{Table, Run, state_at, local_of, seen_next, log_of}
use Rattle.lset_steps.specs.Chain.{Seen}
use Rattle.lset_steps.specs.Laws.{views}
use Rattle.lset_steps.specs.Promises.{IsContains, IsRead}

-- Returns the number of steps that thread `t` has taken since its last call began, after an event. `before` is the
-- number of steps before the event.
abbrev pub steps_after : Event → ℕ → ℕ → ℕ
steps_after (Begin u call) t before = if u == t then 0 else before
steps_after (Go u) t before = if u == t then before + 1 else before

abbrev pub steps_since : (ℕ → Event) → ℕ → ℕ → ℕ
steps_since es t zero = 0
steps_since es t (suc k) = steps_after (es k) t (steps_since es t k)

-- The maximum number of steps of a `contains`: two for each node that can have a user's key, plus two.
abbrev pub most_reads : Sizes → ℕ
most_reads sz = 2 * (sz.threads * sz.quota + sz.opening) + 2

-- [Bounded contains]: the next step of thread t's pending `contains` is a load, and the call has taken fewer steps than
-- the bound. Therefore no `contains` exceeds the bound.
pub record ReadsNext (T : Table) (op : Opening) (es : ℕ → Event) (k t : ℕ) : Type 0 where
  pub loads : (word : ℕ) × (T.next (local_of (state_at T op es k) t) ≡ Load word)
  pub few : steps_since es t k < most_reads (sizes op)

abbrev pub BoundedReads : Table → Type 0
BoundedReads T = (op : Opening) (last k t : ℕ) (es : ℕ → Event) → Run T op es last → k ≤ last → t < op.threads
    → (local_of (state_at T op es k) t).pc ≢ 0 → IsContains (local_of (state_at T op es k) t).call
    → ReadsNext T op es k t

-- [Walk was in the chain]: holds if thread t's last call, pending or completed, has loaded the link word of node a and
-- seen the value l. The load is event number `at` (counted from 0) of the first k events.
pub record HasPassed (T : Table) (op : Opening) (es : ℕ → Event) (k t a l : ℕ) : Type 0 where
  pub at : ℕ
  pub from : begun_at (log_of T op es) t k ≤ at
  pub before : at < k
  pub own : es at ≡ Go t
  pub loads : T.next (local_of (state_at T op es at) t) ≡ Load (link_index a)
  pub read : seen_next T (state_at T op es at) t ≡ l

-- Holds if every node that a `contains` or a `ceiling` visits was in the chain, with the link word that the call saw,
-- at some moment between the start of the call and the load of the link word.
abbrev pub WalkWasInChain : Table → Type 0
WalkWasInChain T = (op : Opening) (last k t a l : ℕ) (es : ℕ → Event) → Run T op es last → k ≤ last
    → IsRead (last_call (log_of T op es) t k) → (p : HasPassed T op es k t a l)
    → Seen (views T op es) (begun_at (log_of T op es) t k) p.at a l
