-- The parts of the value that a C handle owns: its list, its set, the number of the set, and either its seats (one for
-- each thread), its receipt (the events that a seat has seen), or its keys.
use Rattle.std.specs.Prelude.{Bool, true, ◌≡◌, ◌+◌, ℕ, List, [], Option, Some, None, length}
use Rattle.std.specs.Arc.{arc_value}
use Rattle.lset_steps.specs.Steps.{Table}
use Rattle.lset_coarse.specs.Coarse.{coarse}
use Rattle.lset_fine.specs.Fine.{fine}
use Rattle.lset_optimistic.specs.Optimistic.{optimistic}
use Rattle.lset_lazy.specs.Lazy.{lazy}
use Rattle.lset_lock_free.specs.LockFree.{lock_free}
use Rattle.lset_live.specs.Seats.{SetValue, SeatValue, ReceiptValue}
use Rattle.ffi_sets.specs.declared.held.Held.{Held}
use Rattle.ffi_sets.specs.declared.held.Held.TheVariants.{Coarse, Fine, Optimistic, Lazy, LockFree, Closed}
use Rattle.ffi_sets.specs.declared.held.Held.TheVariants.{CoarseReceipt, FineReceipt, OptimisticReceipt, LazyReceipt, LockFreeReceipt}

abbrev pub table_in : Held → Option Table
table_in (Coarse o) = Some coarse
table_in (Fine o) = Some fine
table_in (Optimistic o) = Some optimistic
table_in (Lazy o) = Some lazy
table_in (LockFree o) = Some lock_free
table_in h = None

-- Returns the receipt (a record of the events that a seat has seen) if the value is a receipt, otherwise `None`.
abbrev pub receipt_in : Held → Option ReceiptValue
receipt_in (CoarseReceipt o) = Some o.receipt
receipt_in (FineReceipt o) = Some o.receipt
receipt_in (OptimisticReceipt o) = Some o.receipt
receipt_in (LazyReceipt o) = Some o.receipt
receipt_in (LockFreeReceipt o) = Some o.receipt
receipt_in h = None

-- The next two definitions return a part of a seat (one thread's access to a set) or of a receipt (the events that a
-- seat has seen). `set_in` returns the set. `number_in` returns the number that the C caller chose for the set. For any
-- other value, both return `None`.
abbrev pub set_in : Held → Option SetValue
set_in (Coarse o) = Some (arc_value o.set)
set_in (Fine o) = Some (arc_value o.set)
set_in (Optimistic o) = Some (arc_value o.set)
set_in (Lazy o) = Some (arc_value o.set)
set_in (LockFree o) = Some (arc_value o.set)
set_in (CoarseReceipt o) = Some o.receipt.set
set_in (FineReceipt o) = Some o.receipt.set
set_in (OptimisticReceipt o) = Some o.receipt.set
set_in (LazyReceipt o) = Some o.receipt.set
set_in (LockFreeReceipt o) = Some o.receipt.set
set_in h = None

abbrev pub number_in : Held → Option ℕ
number_in (Coarse o) = Some o.number
number_in (Fine o) = Some o.number
number_in (Optimistic o) = Some o.number
number_in (Lazy o) = Some o.number
number_in (LockFree o) = Some o.number
number_in (CoarseReceipt o) = Some o.number
number_in (FineReceipt o) = Some o.number
number_in (OptimisticReceipt o) = Some o.number
number_in (LazyReceipt o) = Some o.number
number_in (LockFreeReceipt o) = Some o.number
number_in h = None

-- The next two definitions return a part of a C handle's value. `seat_in` returns the seat (one thread's access to the
-- set), or `None` if there is no seat. `spare_in` returns the seats that can be split off the seat.
abbrev pub seat_in : Held → Option SeatValue
seat_in (Coarse o) = o.seat
seat_in (Fine o) = o.seat
seat_in (Optimistic o) = o.seat
seat_in (Lazy o) = o.seat
seat_in (LockFree o) = o.seat
seat_in h = None

abbrev pub spare_in : Held → List SeatValue
spare_in (Coarse o) = o.spare.items
spare_in (Fine o) = o.spare.items
spare_in (Optimistic o) = o.spare.items
spare_in (Lazy o) = o.spare.items
spare_in (LockFree o) = o.spare.items
spare_in h = []

abbrev pub keys_in : Held → Option (List ℕ)
keys_in (Closed keys) = Some keys.items
keys_in h = None

-- Holds if the values of two C handles have equal lists, sets and numbers.
pub record SameSet (h h' : Held) : Type 0 where
  pub table : table_in h' ≡ table_in h
  pub set : set_in h' ≡ set_in h
  pub number : number_in h' ≡ number_in h

-- Holds if the two values belong to the same set or have different numbers. A caller satisfies this condition by giving
-- each open set a number of its own.
abbrev pub Gathers : Held → Held → Type 0
Gathers h h' = number_in h ≡ number_in h' → set_in h ≡ set_in h'

-- Holds if `Gathers` holds for the values of the two C handles, or if one of the handles is empty.
abbrev pub GathersAt : Bool → Held → Bool → Held → Type 0
GathersAt true h true h' = Gathers h h'
GathersAt into h from h' = Unit {0}

-- Holds if a seat (one thread's access to the set), together with the seats that can be split off it (the list
-- `spare`), holds all seats of the set.
abbrev pub IsWhole : SetValue → Option SeatValue → List SeatValue → Type 0
IsWhole set (Some seat) spare = seat.held + length spare ≡ set.shape.threads
IsWhole set None spare = ⊥
