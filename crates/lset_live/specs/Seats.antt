-- The values that represent running sets, seats (per-thread handles) and receipts (the events that a seat had seen) in
-- contracts.
use Rattle.std.specs.Prelude.{◌≡◌, ◌<◌, ◌≤◌, ◌⊎◌, length, ℕ, Bool, true, false, List, [], ◌∷◌, Option, Some, None, map}
use Rattle.std.specs.List.{range_with_len}
use Rattle.std.specs.List.Sorted.{IsStrictlyIncreasing}
use Rattle.lset_words.specs.declared.TheConstants.{MOST_THREADS, MOST_QUOTA, MOST_OPENING}
use Rattle.atomic_table.specs.Seated.{TableId}
use Rattle.lset_words.specs.declared.Reply.{Reply}
use Rattle.lset_words.specs.declared.Reply.TheVariants.{True, False}
use Rattle.lset_words.specs.declared.Reply.TheVariants as reply
use Rattle.lset_words.specs.declared.layout_fault.LayoutFault.TheVariants as layout
use Rattle.lset_words.specs.Words.{Sizes, IsWithin, RefusesSizes, Opening, Opens, sizes}
use Rattle.lset_steps.specs.declared.Event.{Event}
use Rattle.lset_live.specs.declared.open_fault.OpenFault.{OpenFault}
use Rattle.lset_live.specs.declared.open_fault.OpenFault.TheVariants as fault
use Rattle.lset_words.specs.Records.{Record, fresh, gathered}

-- A running set in contracts: its table of words (memory cells), and what the set was opened with (its threads, the
-- adds that each thread may make, and the keys at the start).
pub record SetValue : Type 0 where
  pub table : TableId
  pub shape : Opening

-- A seat (per-thread handle) in contracts: its set, the record of its calls, the number of seats that it holds (itself
-- and the seats merged into it), and the events that it has seen.
pub record SeatValue : Type 0 where
  pub set : SetValue
  pub past : Record
  pub held : ℕ
  pub events : List Event

-- A receipt in contracts: its set, and the events that a seat (per-thread handle) had seen when the seat issued the
-- receipt.
pub record ReceiptValue : Type 0 where
  pub set : SetValue
  pub events : List Event

-- Returns the seat (per-thread handle) of thread `t` in a set that was just opened.
abbrev pub new_seat : SetValue → ℕ → SeatValue
new_seat set t = record { set = set; past = fresh t; held = 1; events = [] }

-- Holds if the set was just opened with the threads, the quota and the keys in `opening`, and `seats` are its new seats
-- (per-thread handles), ordered by thread.
abbrev pub IsOpened : SetValue → Opening → List SeatValue → Type 0
IsOpened set opening seats = (set.shape ≡ opening) × (seats ≡ map (new_seat set) (range_with_len 0 opening.threads))

-- Holds if `open` can return the given error for the sizes `s`: the error of the first size that is out of range, or
-- `Memory` if all sizes are within range.
abbrev pub RefusesSeats : Sizes → OpenFault → Type 0
RefusesSeats s fault.Seats = RefusesSizes s layout.Threads
RefusesSeats s fault.Quota = RefusesSizes s layout.Quota
RefusesSeats s fault.Memory = IsWithin s
RefusesSeats s fault.Opening = ⊥

-- Holds if `open_with` can return the given error for the opening `o`: the error of the first size that is out of
-- range; otherwise `Opening` if the keys at the start are too many or not strictly increasing; otherwise `Memory`.
abbrev pub RefusesOpening : Opening → OpenFault → Type 0
RefusesOpening o fault.Seats = RefusesSizes (sizes o) layout.Threads
RefusesOpening o fault.Quota = RefusesSizes (sizes o) layout.Quota
RefusesOpening o fault.Memory = Opens o
RefusesOpening o fault.Opening = ((0 < o.threads) × (o.threads ≤ MOST_THREADS) × (o.quota ≤ MOST_QUOTA))
    × ((IsStrictlyIncreasing o.keys → ⊥) ⊎ (MOST_OPENING < length o.keys))

-- Converts the Boolean result of a call to the reply that a record of calls contains.
abbrev pub reply_of : Bool → Reply
reply_of true = True
reply_of false = False

-- Returns the record that results from merging the records in the list, one after another, into the record `r`. If `r`
-- is `None`, the remaining records are merged into the first record of the list.
abbrev pub gather_onto : Option Record → List Record → Option Record
gather_onto r [] = r
gather_onto None (g ∷ gs) = gather_onto (Some g) gs
gather_onto (Some r) (g ∷ gs) = gather_onto (Some (gathered r g)) gs

-- Returns the number of seats (per-thread handles) that a seat holds: itself and the seats merged into it. Returns 0
-- for `None`.
abbrev pub held_in : Option SeatValue → ℕ
held_in None = 0
held_in (Some s) = s.held
