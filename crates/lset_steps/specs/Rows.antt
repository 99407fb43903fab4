-- Definitions for the rows of all step tables: the nodes that the rows use, and how a call continues when its walk
-- reaches a key that is not smaller than the call's own key.
use Rattle.std.specs.Prelude.{ℕ, ◌-◌, ◌<◌, ◌≤◌, Bool, if◌then◌else◌, Option, Some, None, ◌==◌, nat_lt}
use Rattle.lset_words.specs.declared.TheConstants.{MOST_THREADS, MOST_QUOTA, MOST_NODES}
use Rattle.lset_words.specs.declared.Call.{Call}
use Rattle.lset_words.specs.declared.Call.TheVariants.{Add, Remove, Contains, Ceiling}
use Rattle.lset_words.specs.declared.Reply.{Reply}
use Rattle.lset_words.specs.declared.Reply.TheVariants.{True, False, Full, At, Nothing}
use Rattle.lset_words.specs.Words.{slot_node, tail_word, target}
use Rattle.lset_steps.specs.declared.Local.{Local}
use Rattle.lset_steps.specs.Steps.{idle}
use Rattle.lset_steps.specs.declared.rows.Targets.{Targets}

-- Returns the node that the thread's next successful add will use: the first unused slot of the thread. A slot is a
-- node reserved for one add.
abbrev pub own_slot : Local → ℕ
own_slot l = slot_node l.quota l.thread l.used

-- Returns the private state of a thread that has just begun a call at row `pc`. The thread keeps its number, its quota
-- (successful adds that it may make), and its number of used slots (nodes reserved for adds). All other fields are as
-- in an idle thread.
abbrev pub begun : ℕ → Call → Local → Local
begun pc call l = record (idle l.quota l.thread) { used = l.used; call = call; pc = pc }

-- Returns the private state `l`, with `pc` as the next row of the step table, and with `reply`.
abbrev pub goes_to : ℕ → Option Reply → Local → Local
goes_to pc reply l = record l { pc = pc; reply = reply }

-- Returns the reply of a `ceiling` that stops at key word `word`: the key `word - 1`, or `Nothing` if `word` is the
-- tail's.
abbrev pub ceiling_at : ℕ → Reply
ceiling_at word = if nat_lt word tail_word then At (record { 0 = word - 1 }) else Nothing

-- Returns how a call continues after its walk. `found` is true if the walk found the call's key, and `room` is true if
-- the thread's quota allows another add. An `add` or a `remove` that will change the set continues at row `adds` or
-- `removes` of the step table. Any other call gets its reply now, and continues at row `leaves`.
abbrev pub decided : ℕ → ℕ → ℕ → Call → Bool → Bool → ℕ → Local → Local
decided adds removes leaves (Add k) found room key l =
    if found then goes_to leaves (Some False) l else if room then goes_to adds None l else goes_to leaves (Some Full) l
decided adds removes leaves (Remove k) found room key l = if found then goes_to removes None l else goes_to leaves (Some False) l
decided adds removes leaves (Contains k) found room key l = if found then goes_to leaves (Some True) l
    else goes_to leaves (Some False) l
decided adds removes leaves (Ceiling k) found room key l = goes_to leaves (Some (ceiling_at key)) l

-- Returns how a call continues after its walk stopped at `key`, the first key word that is not smaller than the call's
-- own.
abbrev pub decided_on : Targets → ℕ → Local → Local
decided_on rows key l = decided rows.adds rows.removes rows.leaves l.call (key == target l.call) (nat_lt l.used l.quota) key l

-- Holds if the numbers in a thread's private state are so small that arithmetic with them cannot overflow 64 bits.
pub record IsSmall (l : Local) : Type 0 where
  pub thread : l.thread < MOST_THREADS
  pub quota : l.quota ≤ MOST_QUOTA
  pub used : l.used ≤ l.quota
  pub pred : l.pred < MOST_NODES
  pub curr : l.curr < MOST_NODES
  pub succ : l.succ < MOST_NODES
  pub node : l.node < MOST_NODES
