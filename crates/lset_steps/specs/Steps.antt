-- [Machine] and [Run]: list algorithms as tables of steps, the states of a list, and runs. In a run, threads take steps
-- one at a time, in any order.
use Rattle.std.specs.Prelude.{◌≡◌, ◌≢◌, ℕ, ◌<◌, ◌*◌, ◌+◌, ◌-◌, ◌/◌, ◌%◌, nat_lt, Bool, if◌then◌else◌, List, map, length, Option}
use Rattle.std.specs.Prelude.{None, ◌==◌, slice_index, slice_index_or, slice_set, zero, suc}
use Rattle.std.specs.List.{range_with_len}
use Rattle.lset_words.specs.declared.Key.{Key}
use Rattle.lset_words.specs.declared.Call.{Call}
use Rattle.lset_words.specs.declared.Call.TheVariants.{Contains}
use Rattle.lset_words.specs.Words.{tail_word, word_count, opening_node, target, Sizes, Opening, Opens, sizes}
use Rattle.lset_words.specs.Log.{Log, Entry}
use Rattle.lset_words.specs.Log.Entry.{began, stepped}
use Rattle.lset_steps.specs.declared.Local.{Local}
use Rattle.lset_steps.specs.declared.Action.{Action}
use Rattle.lset_steps.specs.declared.Action.TheVariants.{Load, Store, Exchange}
use Rattle.lset_steps.specs.declared.Fed.{Fed}
use Rattle.lset_steps.specs.declared.Told.{Told}
use Rattle.lset_steps.specs.declared.Event.{Event}
use Rattle.lset_steps.specs.declared.Event.TheVariants.{Begin, Go}

-- A machine: a list algorithm as a table of steps. `begin` returns a thread's state at the start of a call. `next`
-- returns the thread's next access to a word. `feed` returns the state and the reply after the access. `effect` returns
-- the key that the step adds or removes. `marks` is true if the list marks nodes before it unlinks them.
pub record Table : Type 0 where
  pub marks : Bool
  pub begin : Call → Local → Local
  pub next : Local → Action
  pub feed : Local → ℕ → Fed
  pub effect : Local → ℕ → Option (Key × Bool)

-- A state of a list: the shared words, and each thread's private state.
pub record State : Type 0 where
  pub words : List ℕ
  pub locals : List Local

abbrev pub idle : ℕ → ℕ → Local
idle q t = record {
  thread = t;
  quota = q;
  used = 0;
  call = Contains (record { 0 = 0 });
  pc = 0;
  reply = None;
  pred = 0;
  curr = 0;
  succ = 0;
  node = 0;
  pkey = 0;
  ckey = 0;
}

-- Returns the node of opening key `i`, or the tail if `i` is past the last opening key. When a list opens, its chain
-- leads from the head through the nodes of the opening keys to the tail.
abbrev pub opening_next : Sizes → ℕ → ℕ
opening_next sz i = if nat_lt i sz.opening then opening_node sz i else 1

abbrev pub opening_link : Sizes → ℕ → ℕ
opening_link sz a =
    if a == 0 then 2 * opening_next sz 0
    else if a == 1 then 2
    else if nat_lt a (opening_node sz 0) then 0
    else 2 * opening_next sz (a - opening_node sz 0 + 1)

abbrev pub opening_key : Opening → ℕ → ℕ
opening_key op a =
    if a == 1 then tail_word
    else if nat_lt a (opening_node (sizes op) 0) then 0
    else slice_index op.keys (a - opening_node (sizes op) 0) + 1

abbrev pub opening_word : Opening → ℕ → ℕ
opening_word op i =
    if i == 0 then 0
    else if i == 1 then op.threads
    else if i == 2 then op.quota
    else if i % 3 == 0 then opening_key op (i / 3 - 1)
    else if i % 3 == 1 then opening_link (sizes op) (i / 3 - 1)
    else 0

abbrev pub opening : Opening → State
opening op = record {
  words = map (opening_word op) (range_with_len 0 (word_count (sizes op)));
  locals = map (idle op.quota) (range_with_len 0 op.threads);
}

-- Returns the parameters of a set that opens with the sizes `sz` and the keys `keys`.
abbrev pub opening_of : Sizes → List ℕ → Opening
opening_of sz keys = record { threads = sz.threads; quota = sz.quota; keys = keys }

abbrev pub local_of : State → ℕ → Local
local_of s t = slice_index_or s.locals t (idle 0 0)

-- Returns the value that an action sees: the loaded word, the stored value, or the word before an exchange.
abbrev pub seen_by : List ℕ → Action → ℕ
seen_by ws (Load w) = slice_index ws w
seen_by ws (Store w v) = v
seen_by ws (Exchange w old new) = slice_index ws w

-- Returns the words after an action. An exchange writes only if the word has the expected value.
abbrev pub left_by : List ℕ → Action → List ℕ
left_by ws (Load w) = ws
left_by ws (Store w v) = slice_set ws w v
left_by ws (Exchange w old new) = if slice_index ws w == old then slice_set ws w new else ws

abbrev pub seen_next : Table → State → ℕ → ℕ
seen_next T s t = seen_by s.words (T.next (local_of s t))

abbrev pub after : Table → State → Event → State
after T s (Begin t call) = record { words = s.words; locals = slice_set s.locals t (T.begin call (local_of s t)) }
after T s (Go t) = record {
  words = left_by s.words (T.next (local_of s t));
  locals = slice_set s.locals t (T.feed (local_of s t) (seen_next T s t)).local;
}

abbrev pub told : Table → State → Event → Told
told T s (Begin t call) = record { answer = None; change = None }
told T s (Go t) = record {
  answer = (T.feed (local_of s t) (seen_next T s t)).answer;
  change = T.effect (local_of s t) (seen_next T s t);
}

abbrev pub Enabled : State → Event → Type 0
Enabled s (Begin t call) = (t < length s.locals) × ((local_of s t).pc ≡ 0) × (target call < tail_word)
Enabled s (Go t) = (t < length s.locals) × ((local_of s t).pc ≢ 0)

-- Returns the state of a run after its first k events. Event number k, counted from 0, is `es k`.
abbrev pub state_at : Table → Opening → (ℕ → Event) → ℕ → State
state_at T op es zero = opening op
state_at T op es (suc k) = after T (state_at T op es k) (es k)

-- Holds if the first `last` events are a run: the set opens with parameters within the limits, and each event is
-- possible (enabled) in the state before it.
pub record Run (T : Table) (op : Opening) (es : ℕ → Event) (last : ℕ) : Type 0 where
  pub opens : Opens op
  pub enabled : (k : ℕ) → k < last → Enabled (state_at T op es k) (es k)

-- Returns the function that maps each event's number, counted from 0, to the event.
abbrev pub event_at : List Event → ℕ → Event
event_at es k = slice_index_or es k (Go 0)

-- Returns the log entry of an event: the call that a thread begins, or the change and the reply of a thread's step.
abbrev pub entry_of : Table → State → Event → Entry
entry_of T s (Begin t call) = began t call
entry_of T s (Go t) = stepped t (told T s (Go t)).change (told T s (Go t)).answer

abbrev pub log_of : Table → Opening → (ℕ → Event) → Log
log_of T op es k = entry_of T (state_at T op es k) (es k)
