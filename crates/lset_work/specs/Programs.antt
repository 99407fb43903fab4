-- Programs (lists of calls, one for each thread), and the results of running programs in threads. Each program runs on
-- a seat, a per-thread handle to the set.
use Rattle.std.specs.Prelude.{◌≡◌, ℕ, Bool, true, List, [], ◌∷◌, length, map, sum_by, Option, Some, None, IfSome, All}
use Rattle.std.specs.Option.{option_map}
use Rattle.lset_words.specs.declared.Call.{Call}
use Rattle.lset_words.specs.declared.Reply.{Reply}
use Rattle.lset_words.specs.Records.{CallMade, Record, with_calls}
use Rattle.lset_words.specs.Words.{Opening}
use Rattle.lset_steps.specs.declared.Event.{Event}
use Rattle.lset_steps.specs.Steps.{Table}
use Rattle.lset_rule.specs.Runs.{StartsWith}
use Rattle.lset_live.specs.Explained.{IsOneOrderInTime}
use Rattle.lset_live.specs.Seats.{SeatValue, SetValue, gather_onto, held_in}
use Rattle.lset_work.specs.declared.work_fault.WorkCause.{WorkCause}
use Rattle.lset_work.specs.declared.work_fault.WorkCause.TheVariants.{Programs, Spawn, Gate, Memory}

-- Returns the calls of a program, each with its reply.
abbrev pub made : List Call → List Reply → List CallMade
made [] replies = []
made (c ∷ cs) [] = []
made (c ∷ cs) (a ∷ more) = record { call = c; reply = a } ∷ made cs more

-- Returns the records of the seats (per-thread handles to the set) after their programs have run. The calls of each
-- program, with their replies, are appended to the record of the program's seat.
abbrev pub worked : List Record → List (List Call) → List (List Reply) → List Record
worked [] programs replies = []
worked (r ∷ rs) [] replies = []
worked (r ∷ rs) (p ∷ ps) [] = []
worked (r ∷ rs) (p ∷ ps) (a ∷ more) = with_calls r (made p a) ∷ worked rs ps more

-- Holds if there are as many programs as seats (per-thread handles to the set), and the seats, including all seats
-- merged into them, are all seats of the set.
abbrev pub Fit : SetValue → List SeatValue → ℕ → Type 0
Fit set seats programs = (programs ≡ length seats) × (sum_by (λ (s : SeatValue). s.held) seats ≡ set.shape.threads)

-- Holds if `work` returns `back` together with an error of the given cause. `back` is the input of `work` if no thread
-- was started (Programs and Memory), otherwise `None`.
abbrev pub GivesBack : {Given : Type 0} → Given → WorkCause → Option Given → Type 0
GivesBack given Programs back = back ≡ Some given
GivesBack given Spawn back = back ≡ None
GivesBack given Gate back = back ≡ None
GivesBack given Memory back = back ≡ Some given

-- ---- The contracts of the functions that `work` calls

-- Holds if each call of `program` has a reply, and the record `after` is the record `before` followed by the calls of
-- `program`.
abbrev pub IsMadeOn : Record → List Call → List Reply → Record → Type 0
IsMadeOn before program replies after = (length replies ≡ length program) × (after ≡ with_calls before (made program replies))

-- Holds if the merged seat `last` (a per-thread handle to the set) exists and has seen all events that the given seat
-- had seen.
abbrev pub HasSeenAll : Option SeatValue → SeatValue → Type 0
HasSeenAll None s = ⊥
HasSeenAll (Some last) s = StartsWith last.events s.events

-- Holds if the programs have run on the seats (per-thread handles to the set), and all seats have been merged into
-- `last`.
pub record HaveRun (set : SetValue) (seats : List SeatValue) (programs : List (List Call)) (last : Option SeatValue)
    (replies : List (List Reply)) : Type 0 where
  pub fit : length programs ≡ length seats
  -- Each call of each program has one reply.
  pub counted : map (λ (l : List Reply). length l) replies ≡ map (λ (l : List Call). length l) programs
  pub gathers : option_map (λ (s : SeatValue). s.past) last
      ≡ gather_onto None (worked (map (λ (s : SeatValue). s.past) seats) programs replies)
  pub held : held_in last ≡ sum_by (λ (s : SeatValue). s.held) seats
  pub same : IfSome last (λ (s : SeatValue). s.set ≡ set)
  -- The seat `last` (a per-thread handle to the set) has seen all events that any seat had seen before its program ran.
  pub begins : All (HasSeenAll last) seats

-- Holds if some legal order of exactly the calls in `records` leaves the keys `keys`, and the order also linearizes the
-- history of a run that begins with all events that `seats` (per-thread handles to the set) had seen.
pub record IsWorkInTime (T : Table) (k : Opening) (seats : List SeatValue) (records : List Record) (keys : List ℕ) : Type 0 where
  pub events : List Event
  pub begins : All (λ (s : SeatValue). StartsWith events s.events) seats
  pub order : IsOneOrderInTime T k events records keys

-- Holds if `work` can fail for the given cause after threads have been started. `may_shut` is true if the gate (a
-- callback that permits or refuses each call) can return false.
abbrev pub IsOfThreads : Bool → WorkCause → Type 0
IsOfThreads may_shut Programs = ⊥
IsOfThreads may_shut Spawn = Unit {0}
IsOfThreads may_shut Gate = may_shut ≡ true
IsOfThreads may_shut Memory = ⊥
