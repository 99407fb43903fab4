-- The value of the Rust type `World` (a list with its threads, which executes a run event by event), and the results of
-- the functions of `World`.
use Rattle.std.specs.Prelude.{◌≡◌, ◌≢◌, ℕ, ◌-◌, ◌%◌, ◌<◌, ◌≤◌, Bool, not, List, [], ◌∷◌, map, filter, filter_map, length, Option}
use Rattle.std.specs.Prelude.{Result, Ok, Err, if◌then◌else◌, ◌==◌, nat_lt, ◌&&◌}
use Rattle.std.specs.List.Sorted.{IsStrictlyIncreasing}
use Rattle.lset_words.specs.Words.{word_count, Sizes, Opening, sizes}
use Rattle.lset_steps.specs.declared.Event.{Event}
use Rattle.lset_steps.specs.declared.Event.TheVariants.{Begin, Go}
use Rattle.lset_steps.specs.declared.Told.{Told}
use Rattle.lset_steps.specs.declared.world.ChainKey.{ChainKey}
use Rattle.lset_steps.specs.declared.world.StepFault.{StepFault}
use Rattle.lset_steps.specs.declared.world.StepFault.TheVariants.{NoThread, Busy, Idle}
use Rattle.lset_steps.specs.Steps.{Table, State, Run, state_at, event_at, after, told, local_of, Enabled}
use Rattle.lset_steps.specs.Chain.{View, IsChain}

pub record WorldState : Type 0 where
  pub sizes : Sizes
  pub state : State

-- Holds if the state of a world (a list with its threads) is the final state of some run of a set with the world's
-- sizes: the numbers of threads, of slots (nodes reserved for adds), and of opening keys.
pub record IsRun (T : Table) (w : WorldState) : Type 0 where
  pub opening : Opening
  pub of_sizes : sizes opening ≡ w.sizes
  pub events : List Event
  pub run : Run T opening (event_at events) (length events)
  pub is : w.state ≡ state_at T opening (event_at events) (length events)
  pub words : length w.state.words ≡ word_count w.sizes
  pub locals : length w.state.locals ≡ w.sizes.threads

abbrev pub thread_of : Event → ℕ
thread_of (Begin t call) = t
thread_of (Go t) = t

-- Holds if `NoThread`, `Busy`, or `Idle` is the first error that applies to an event that is not enabled.
abbrev pub Refused : WorldState → Event → StepFault → Type 0
Refused w e NoThread = w.sizes.threads ≤ thread_of e
Refused w (Begin t call) Busy = (t < w.sizes.threads) × ((local_of w.state t).pc ≢ 0)
Refused w (Go t) Busy = ⊥
Refused w (Begin t call) Idle = ⊥
Refused w (Go t) Idle = (t < w.sizes.threads) × ((local_of w.state t).pc ≡ 0)

-- Holds if a step can return the given result and leave the world (the list with its threads) as `w'`. An event that is
-- enabled is executed. If the step returns an error, the world is unchanged.
abbrev pub StepResult : Table → WorldState → Event → Result Told StepFault → WorldState → Type 0
StepResult T w e (Ok answer) w' = Enabled w.state e × (w' ≡ record w { state = after T w.state e }) × (answer ≡ told T w.state e)
StepResult T w e (Err cause) w' = Refused w e cause × (w' ≡ w)

-- Returns the keys of the unmarked nodes in a list of nodes, without head and tail.
abbrev pub keys_in : View → List ℕ → List ℕ
keys_in v [] = []
keys_in v (b ∷ bs) = if nat_lt 1 b && v.link b % 2 == 0 then (v.key b - 1) ∷ keys_in v bs else keys_in v bs

-- [Content] as a list: holds if `keys` are the keys of the unmarked nodes along the chain, and increase strictly.
abbrev pub IsContent : View → List ℕ → Type 0
IsContent v keys = ((ns : List ℕ) × IsChain v ns × (keys ≡ keys_in v ns)) × IsStrictlyIncreasing keys

-- Returns the keys of a list of nodes, without head and tail, each with its node's mark.
abbrev pub chain_keys : View → List ℕ → List ChainKey
chain_keys v [] = []
chain_keys v (b ∷ bs) =
    if nat_lt 1 b then record { key = v.key b - 1; marked = v.link b % 2 == 1 } ∷ chain_keys v bs else chain_keys v bs

-- Holds if `keys` are the keys of all nodes along the chain between head and tail, each with its node's mark.
abbrev pub AreChainKeys : View → List ChainKey → Type 0
AreChainKeys v keys = (ns : List ℕ) × IsChain v ns × (keys ≡ chain_keys v ns)

-- Returns whether the node of the key `k` is unmarked. `unmarked_keys` returns the keys of all unmarked nodes.
abbrev pub is_unmarked : ChainKey → Bool
is_unmarked k = not k.marked

abbrev pub key_alone : ChainKey → ℕ
key_alone k = k.key

abbrev pub unmarked_keys : List ChainKey → List ℕ
unmarked_keys keys = map key_alone (filter is_unmarked keys)

-- Holds if the relation `answers` allows only the results of the function `pick`. The proof of `World::walk` knows a
-- closure only by its contract, which is a relation between keys and results.
abbrev pub AnswersAs : {A : Type 0} → (ChainKey → Option A → Type 0) → (ChainKey → Option A) → Type 0
AnswersAs {A} answers pick = (met : ChainKey) (answer : Option A) → answers met answer → answer ≡ pick met

-- Holds if `items` are the results, except `None`, of a function `pick` on the keys along the chain, in the order of
-- the keys. The function is known only by the relation `answers` between keys and results.
pub record IsPickedFromChain {A : Type 0} (answers : ChainKey → Option A → Type 0) (v : View) (items : List A) : Type 0 where
  pub nodes : List ℕ
  pub is_chain : IsChain v nodes
  pub increasing : IsStrictlyIncreasing (keys_in v nodes)
  pub picked : (pick : ChainKey → Option A) → AnswersAs answers pick → items ≡ filter_map pick (chain_keys v nodes)
