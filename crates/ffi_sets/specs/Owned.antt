-- The memory that a C handle (`CSeat`) owns: a full handle owns a box with its value, and an empty handle owns nothing.
use Rattle.std.specs.Prelude.{Bool, true, false}
use base.Fml.{Fml, ftrue}
use denote.RawPtr.{Ptr}
use Rattle.std.specs.Box.Ownership.{box_owns}
use Rattle.libc.specs.Heap.{chunk}
use Rattle.ffi_sets.specs.declared.held.Held.{Held}
use Rattle.ffi_sets.specs.contracts.held.Held.{the_row}

abbrev pub seat_owns : Bool → Ptr → Held → Fml
seat_owns true p h = box_owns chunk the_row p h
seat_owns false p h = ftrue
