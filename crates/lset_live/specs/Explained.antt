-- Conditions in the contracts of running sets: about the calls of a set, and about closing a set. A seat is a
-- per-thread handle to a set. The seat's record lists the completed calls of the seat.
use Rattle.std.specs.Prelude.{◌≡◌, ℕ, ◌+◌, ◌<◌, ◌≤◌, ◌⊎◌, List, [], ◌∷◌, ◌++◌, All, Some, length, map}
use mathlib.Core.Option.{some}
use lib.ListN.{get_elem?}
use Rattle.lset_words.specs.declared.Call.{Call}
use Rattle.lset_words.specs.declared.Reply.{Reply}
use Rattle.lset_words.specs.declared.history.Placed.{Placed}
use Rattle.lset_words.specs.History.{Linearizes, answered}
use Rattle.lset_words.specs.SequentialSet.{Answered, IsLegal, opening_set, set_left}
use Rattle.lset_steps.specs.declared.Event.{Event}
use Rattle.lset_steps.specs.declared.Event.TheVariants.{Begin, Go}
use Rattle.lset_steps.specs.Steps.{Table, event_at}
use Rattle.lset_steps.specs.BoundedReads.{steps_since}
use Rattle.lset_rule.specs.Runs.{StartsWith, IsRunOf, history_of}
use Rattle.lset_words.specs.Records.{Record, Names, Keeps, called, calls_by, thread_of}
use Rattle.lset_live.specs.Seats.{SeatValue, SetValue}
use Rattle.lset_words.specs.Words.{Opening}

-- Holds if call `c` of thread `t` has ended with reply `r`. The thread had seen the events `before` when the call
-- started. The thread has now seen the events `after`, and the last event in `after` is the last step of the call.
pub record IsAnswered (T : Table) (k : Opening) (t : ℕ) (c : Call) (r : Reply) (before after : List Event) : Type 0 where
  pub others : List Event
  pub since : List Event
  pub is : after ≡ (before ++ others) ++ Begin t c ∷ since ++ Go t ∷ []
  pub number : ℕ
  pub call : get_elem? (history_of T k after) number ≡ some (record {
    thread = t;
    call = c;
    begun = length (before ++ others) + 1;
    ended = Some (length after, r);
  })

-- Holds if the events that a seat (per-thread handle) has seen are a run of the list, and the run's history has a
-- linearization that agrees with `r`, the record of the seat's calls. Later calls of other seats can be missing from
-- the run.
pub record SeenIsLinearizable (T : Table) (k : Opening) (events : List Event) (r : Record) : Type 0 where
  pub run : IsRunOf T k events
  pub order : List Placed
  pub linearizes : Linearizes k.quota (opening_set k) (history_of T k events) order
  pub keeps : Keeps (map (answered (history_of T k events)) order) r

-- Holds if call `c` was made from the seat `old` (a per-thread handle), returned `r`, and changed the seat to `new`.
-- The new seat belongs to the same set as the old seat, and holds as many seats. The new record of calls is the old
-- record followed by exactly the call `c`. The call started after all events that the old seat had seen. The events
-- that the new seat has seen are a run, and the calls of the run have a linearization that agrees with the new record.
pub record HasAnswered (T : Table) (set : SetValue) (old : SeatValue) (c : Call) (r : Reply) (new : SeatValue) : Type 0 where
  pub of_set : new.set ≡ set
  pub held : new.held ≡ old.held
  pub past : new.past ≡ called old.past (record { call = c; reply = r })
  pub answered : IsAnswered T set.shape (thread_of old.past) c r old.events new.events
  pub explained : SeenIsLinearizable T set.shape new.events new.past

-- [Steps of the last call]: holds if thread `t` has made at most `most` steps in `events` since it started its last
-- call.
abbrev pub HasMadeAtMost : ℕ → ℕ → List Event → Type 0
HasMadeAtMost most t events = steps_since (event_at events) t (length events) ≤ most

-- Holds if one of the given records, or a record that was merged into one of them, is a record of thread `u`.
abbrev pub NamedIn : ℕ → List Record → Type 0
NamedIn u [] = ⊥
NamedIn u (r ∷ rs) = Names u r ⊎ NamedIn u rs

-- A legal order that has exactly the calls in `records` and leaves the keys `keys` in the set. The order keeps the
-- sequence of the calls in each record. If a seat was merged into another seat, the calls of the merged seat precede
-- the other seat's later calls. Otherwise, the order need not keep real-time order between seats. In short: the calls
-- are sequentially consistent.
pub record IsOneLegalOrder (k : Opening) (records : List Record) (keys : List ℕ) : Type 0 where
  pub order : List Answered
  pub legal : IsLegal k.quota (opening_set k) order
  pub keeps : All (Keeps order) records
  pub threads : All (λ (a : Answered). a.thread < k.threads) order
  pub no_other : (u : ℕ) → u < k.threads → ¬ (NamedIn u records) → calls_by u order ≡ []
  pub leaves : (set_left (opening_set k) order).keys ≡ keys

-- A legal order that has exactly the calls in `records`, and also linearizes the history of `events`. A call that ended
-- before another call started precedes the other call. In the contracts, `events` begins with all events that the seats
-- had seen. A seat that has received a receipt has seen all events of the seat that issued the receipt. Therefore the
-- order respects receipts just as it respects the merging of seats.
pub record IsOneOrderInTime (T : Table) (k : Opening) (events : List Event) (records : List Record) (keys : List ℕ) : Type 0 where
  pub run : IsRunOf T k events
  pub placed : List Placed
  pub linearizes : Linearizes k.quota (opening_set k) (history_of T k events) placed
  pub one : IsOneLegalOrder k records keys
  pub is : one.order ≡ map (answered (history_of T k events)) placed

-- Holds if call `a` precedes call `b` in `order`.
pub record StandsBefore (order : List Answered) (a b : Answered) : Type 0 where
  pub first : List Answered
  pub between : List Answered
  pub last : List Answered
  pub is : order ≡ first ++ a ∷ (between ++ b ∷ last)

-- The law of receipts. A receipt contains the events `given`, and the last of these events is the end of call `c`.
-- Thread `u` receives the receipt and later starts call `d`. In each order that linearizes the events up to the end of
-- `d`, or these events followed by more, call `c` precedes call `d`.
abbrev pub ReceiptsKeepOrder : Type 0
ReceiptsKeepOrder = (T : Table) (k : Opening) (t u : ℕ) (c d : Call) (r a : Reply) (old given taken after events : List Event)
    → IsAnswered T k t c r old given → StartsWith taken given → IsAnswered T k u d a taken after → StartsWith events after
    → (order : List Placed) → Linearizes k.quota (opening_set k) (history_of T k events) order
    → StandsBefore (map (answered (history_of T k events)) order) (record { thread = t; call = c; reply = r })
    (record { thread = u; call = d; reply = a })
