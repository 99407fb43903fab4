-- The value of the Rust type `Oracle` (the sequential set), and the effect of a call on the value.
use Rattle.std.specs.Prelude.{◌≡◌, ℕ, ◌≤◌, List, length, All}
use Rattle.std.specs.List.Sorted.{IsStrictlyIncreasing}
use Rattle.lset_words.specs.declared.Call.{Call}
use Rattle.lset_words.specs.declared.Call.TheVariants.{Add, Remove, Contains, Ceiling}
use Rattle.lset_words.specs.declared.Reply.{Reply}
use Rattle.lset_words.specs.declared.Reply.TheVariants.{True}
use Rattle.lset_words.specs.Words.{Opening}
use Rattle.lset_words.specs.SequentialSet.{SetState, opening_set, reply_to, after_call}

pub record OracleValue : Type 0 where
  pub threads : ℕ
  pub quota : ℕ
  pub state : SetState

-- Returns the sequential set with the given quota, keys and numbers of successful adds (one number for each thread).
abbrev pub set_of : ℕ → List ℕ → List ℕ → OracleValue
set_of quota keys counts = record { threads = length counts; quota = quota; state = record { keys = keys; counts = counts } }

-- Returns the sequential set in its opening state, before the first call.
abbrev pub set_opened : Opening → OracleValue
set_opened op = record { threads = op.threads; quota = op.quota; state = opening_set op }

-- Holds if the set `old` returns `reply` to the call of `thread`, and `new` is the set after the call.
pub record Answers (old new : OracleValue) (thread : ℕ) (call : Call) (reply : Reply) : Type 0 where
  pub reply_is : reply ≡ reply_to old.quota old.state thread call
  pub state_is : new ≡ record old { state = after_call old.state thread call reply }

-- Holds if the call adds a key to the set. No other calls allocate.
abbrev pub PutsIn : OracleValue → ℕ → Call → Type 0
PutsIn o thread (Add k) = reply_to o.quota o.state thread (Add k) ≡ True
PutsIn o thread (Remove k) = ⊥
PutsIn o thread (Contains k) = ⊥
PutsIn o thread (Ceiling k) = ⊥

-- The invariant of the Rust type `Oracle`: the keys increase strictly, and no thread has made more successful adds than
-- its quota allows.
pub record KeepsCounts (quota : ℕ) (s : SetState) : Type 0 where
  pub increasing : IsStrictlyIncreasing s.keys
  pub few : All (λ count. count ≤ quota) s.counts
