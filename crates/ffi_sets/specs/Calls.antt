-- The effect of a call from C: how the call changes the value that the handle (`CSeat`) owns, and which number the call
-- returns.
use Rattle.std.specs.Prelude.{◌≡◌, ℕ, Bool, true, false, Option, Some, None}
use Rattle.lset_words.specs.declared.Call.{Call}
use Rattle.lset_words.specs.declared.Reply.{Reply}
use Rattle.lset_words.specs.declared.Reply.TheVariants as reply
use Rattle.lset_words.specs.Words.{sizes}
use Rattle.lset_words.specs.Records.{thread_of}
use Rattle.lset_steps.specs.Steps.{Table}
use Rattle.lset_steps.specs.BoundedReads.{most_reads}
use Rattle.lset_rule.specs.Runs.{StartsWith}
use Rattle.lset_live.specs.Seats.{SetValue, SeatValue, ReceiptValue}
use Rattle.lset_live.specs.Explained.{HasAnswered, HasMadeAtMost}
use Rattle.ffi_sets.specs.declared.held.Held.{Held}
use Rattle.ffi_sets.specs.Sets.{table_in, set_in, seat_in, spare_in, keys_in, number_in, receipt_in, SameSet}

-- Holds if a call from a seat of a set (one thread's access to the set) had one of three effects. Either the call
-- returned a reply. Or the call gave up after 2^64 - 1 rounds of a loop, and the seat is lost. Or the seat was already
-- lost.
abbrev pub HasCalledOf : Table → SetValue → Option SeatValue → Call → Option Reply → Option SeatValue → Type 0
HasCalledOf T set (Some old) c (Some r) (Some new) = HasAnswered T set old c r new
HasCalledOf T set (Some old) c None None = Unit {0}
HasCalledOf T set None c None None = Unit {0}
HasCalledOf T set old c r new = ⊥

-- Converts a reply to the number that C functions return. The number for `None` (no reply) is 255.
abbrev pub code_of : Option Reply → ℕ
code_of (Some reply.False) = 0
code_of (Some reply.True) = 1
code_of (Some reply.Full) = 2
code_of (Some (reply.At k)) = 3
code_of (Some reply.Nothing) = 4
code_of None = 255

abbrev pub CallsIn : Option Table → Option SetValue → Option SeatValue → Call → Option Reply → Option SeatValue → Type 0
CallsIn (Some T) (Some set) old c r new = HasCalledOf T set old c r new
CallsIn T set old c r new = r ≡ None

-- Holds if call `c` changes the value `h` of a C handle to `h'` and returns the reply `r`. The list, the set, the set's
-- number, and the seats that can be split off do not change. A receipt or a closed set has no seat, so its reply is
-- `None`. (A seat is one thread's access to the set.)
pub record HasCalledHeld (h : Held) (c : Call) (r : Option Reply) (h' : Held) : Type 0 where
  pub same : SameSet h h'
  pub spare : spare_in h' ≡ spare_in h
  pub keys : keys_in h' ≡ keys_in h
  pub called : CallsIn (table_in h) (set_in h) (seat_in h) c r (seat_in h')

-- Holds if the last call from a seat of a set (one thread's access to the set) took at most `most_reads` steps.
abbrev pub HasReadOf : SetValue → Option SeatValue → Option SeatValue → Type 0
HasReadOf set (Some old) (Some new) = HasMadeAtMost (most_reads (sizes set.shape)) (thread_of old.past) new.events
HasReadOf set old new = ⊥

abbrev pub ReadsIn : Option SetValue → Option SeatValue → Option SeatValue → Type 0
ReadsIn (Some set) old new = HasReadOf set old new
ReadsIn None old new = ⊥

-- Holds if the last call from the seat in a C handle (one thread's access to a set) took at most `most_reads` steps.
abbrev pub HasReadHeld : Held → Held → Type 0
HasReadHeld h h' = ReadsIn (set_in h) (seat_in h) (seat_in h')

-- Holds if a call through a C handle returned the number `n`. The first argument is true if the handle was full, that
-- is, owned a value. An empty handle stays empty, and the call returns 255.
abbrev pub HasMade : Bool → Held → Call → ℕ → Bool → Held → Type 0
HasMade true h c n true h' = (r : Option Reply) × (n ≡ code_of r) × HasCalledHeld h c r h'
HasMade false h c n false h' = n ≡ 255
HasMade full h c n full' h' = ⊥

-- Returns the key that a `ceiling` stores through its pointer: the key in the reply `At`. For any other reply, returns
-- the key that was stored before the call.
abbrev pub at_of : Option Reply → ℕ → ℕ
at_of (Some (reply.At k)) a = k.0
at_of r a = a

abbrev pub HasCeiling : Bool → Held → Call → ℕ → ℕ → ℕ → Bool → Held → Type 0
HasCeiling true h c n a a' true h' = (r : Option Reply) × (n ≡ code_of r) × HasCalledHeld h c r h' × (a' ≡ at_of r a)
HasCeiling false h c n a a' false h' = (n ≡ 255) × (a' ≡ a)
HasCeiling full h c n a a' full' h' = ⊥

-- Holds if a seat of a set (one thread's access to the set) issued the given receipt. The receipt names the seat's set
-- and contains the events that the seat has seen.
abbrev pub HasNotedOf : Option SeatValue → Option ReceiptValue → Type 0
HasNotedOf (Some s) (Some given) = given ≡ record { set = s.set; events = s.events }
HasNotedOf s given = ⊥

-- Holds if a seat of the C handle `h` (one thread's access to a set) has issued the receipt `given`. The receipt
-- contains the number of the set, and the events that the seat has seen. `h'`, the value of the handle afterwards, has
-- the list, set, number and seats of `h`.
pub record HasNotedHeld (h given h' : Held) : Type 0 where
  pub same : SameSet h h'
  pub spare : spare_in h' ≡ spare_in h
  pub seat : seat_in h' ≡ seat_in h
  pub number : number_in given ≡ number_in h
  pub noted : HasNotedOf (seat_in h) (receipt_in given)

abbrev pub HasGiven : Bool → Held → Bool → Held → Bool → Held → Type 0
HasGiven true h true given true h' = HasNotedHeld h given h'
HasGiven full h out given full' h' = ⊥

-- Holds if a seat of a set (one thread's access to the set) has accepted a receipt. Afterwards, the seat has seen all
-- events of the receipt. The record of the seat's calls, and the number of seats that the seat holds, do not change.
abbrev pub HasHeededOf : Option SeatValue → Option ReceiptValue → Option SeatValue → Type 0
HasHeededOf (Some old) (Some given) (Some new) = (new.set ≡ old.set) × (new.past ≡ old.past) × (new.held ≡ old.held)
    × StartsWith new.events old.events × StartsWith new.events given.events
HasHeededOf old given new = ⊥

pub record HasHeededHeld (h given h' : Held) : Type 0 where
  pub same : SameSet h h'
  pub spare : spare_in h' ≡ spare_in h
  pub heeded : HasHeededOf (seat_in h) (receipt_in given) (seat_in h')

abbrev pub HasHeeded : Bool → Held → Bool → Held → Bool → Held → Type 0
HasHeeded true h true given true h' = HasHeededHeld h given h'
HasHeeded full h there given full' h' = ⊥
