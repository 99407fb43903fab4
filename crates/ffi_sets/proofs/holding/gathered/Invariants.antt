use Rattle.std.proofs.Common.{◌≡◌, ◌+◌, length}
use Rattle.std.specs.Vec.Iter.{into_iter_items}
use Rattle.ffi_sets.specs.Facts.{AreOf}
use Rattle.ffi_sets.proofs.holding.gathered.Given as goal

abbrev pub invariant-loop-other : goal.invariant-loop-other
invariant-loop-other g l = record {
  into : l.into.set ≡ l.set;
  spare : AreOf l.set (into_iter_items l.other-iterator);
  held : l.into.held + length (into_iter_items l.other-iterator) ≡ l.fn.seat.held + length l.fn.spare.items;
}
