use Rattle.std.proofs.Common.{◌≡◌, ◌<◌, ◌^◌, ◌++◌, map, All, length}
use Rattle.std.specs.Vec.Iter.{into_iter_items}
use Rattle.lset_work.proofs.room.with_room.Given as goal

abbrev pub invariant-loop-calls : goal.invariant-loop-calls
invariant-loop-calls l = record {
  programs : map (λ p. p.calls) l.all.items ++ into_iter_items l.calls-iterator ≡ l.fn.programs.items;
  short : All (λ p. length p.items < 2 ^ 32) (into_iter_items l.calls-iterator);
}
