-- The [Record] of a seat (one thread's access to the set): the thread, the thread's own calls with their replies, and
-- the records of the seats that were merged into the seat (gathered). `Keeps` defines when an order of calls agrees
-- with a record.
use Rattle.std.specs.Prelude.{◌≡◌, ℕ, ◌==◌, ◌⊎◌, List, [], ◌∷◌, ◌++◌, filter, map}
use Rattle.lset_words.specs.declared.Call.{Call}
use Rattle.lset_words.specs.declared.Reply.{Reply}
use Rattle.lset_words.specs.SequentialSet.{Answered}

-- A completed call with its reply.
pub record CallMade : Type 0 where
  pub call : Call
  pub reply : Reply

-- The record of a seat (one thread's access to the set). `fresh` is the record of a thread without calls. `called`
-- appends a call that the thread made itself. `gathered` appends the record of a seat that was merged into the thread's
-- seat.
pub data Record : Type 0 where
  fresh : ℕ → Record
  called : Record → CallMade → Record
  gathered : Record → Record → Record

-- Appends the calls in a list, all made by the record's own thread, to the record.
abbrev pub with_calls : Record → List CallMade → Record
with_calls r [] = r
with_calls r (c ∷ cs) = with_calls (called r c) cs

abbrev pub thread_of : Record → ℕ
thread_of (fresh t) = t
thread_of (called r c) = thread_of r
thread_of (gathered r g) = thread_of r

-- Returns the calls that the record's own thread made, from the first to the last.
abbrev pub own_calls : Record → List CallMade
own_calls (fresh t) = []
own_calls (called r c) = own_calls r ++ c ∷ []
own_calls (gathered r g) = own_calls r

-- Holds if `u` is the thread of the record, or the thread of a record that was merged into it.
abbrev pub Names : ℕ → Record → Type 0
Names u (fresh t) = u ≡ t
Names u (called r c) = Names u r
Names u (gathered r g) = Names u r ⊎ Names u g

abbrev pub NamesGathered : ℕ → Record → Type 0
NamesGathered u (fresh t) = ⊥
NamesGathered u (called r c) = NamesGathered u r
NamesGathered u (gathered r g) = NamesGathered u r ⊎ Names u g

-- Returns the calls of `order` that thread `u` made.
abbrev pub calls_by : ℕ → List Answered → List Answered
calls_by u order = filter (λ (a : Answered). a.thread == u) order

-- Converts a call in the record of thread `u` to an element of an order of calls.
abbrev pub placed_by : ℕ → CallMade → Answered
placed_by u c = record { thread = u; call = c.call; reply = c.reply }

-- Holds if `order` and the record have the same calls by the record's own thread, in the same sequence.
abbrev pub HasOwnCalls : List Answered → Record → Type 0
HasOwnCalls order r = calls_by (thread_of r) order ≡ map (placed_by (thread_of r)) (own_calls r)

-- Holds if call `c` is at the right place in `order`. `r` is the record of the thread before it made `c`. Before `c`,
-- the thread's calls in `order` are exactly the calls in `r` that the thread made itself. After `c`, `order` contains
-- no call by a thread whose record was merged into `r`, directly or as part of another record.
pub record Follows (order : List Answered) (r : Record) (c : CallMade) : Type 0 where
  pub before : List Answered
  pub after : List Answered
  pub is : order ≡ before ++ placed_by (thread_of r) c ∷ after
  pub own : HasOwnCalls before r
  pub gathered_before : (u : ℕ) → NamesGathered u r → calls_by u after ≡ []

-- Holds if `order` agrees with each record that was merged into the given record, and each call by the given record's
-- own thread comes after the calls of the records that were merged before the call.
abbrev pub KeepsItems : List Answered → Record → Type 0
KeepsItems order (fresh t) = Unit {0}
KeepsItems order (called r c) = KeepsItems order r × Follows order r c
KeepsItems order (gathered r g) = KeepsItems order r × HasOwnCalls order g × KeepsItems order g

-- Holds if `order` agrees with the record: the calls by the record's own thread are the same in `order` and in the
-- record, in the same sequence, `order` agrees with each record that was merged into the record, and each call by the
-- record's own thread comes after all calls by the threads of the records that were merged before the call.
abbrev pub Keeps : List Answered → Record → Type 0
Keeps order r = HasOwnCalls order r × KeepsItems order r
