use Rattle.std.proofs.Common.{◌≡◌, ◌++◌}
use Rattle.crossbeam_channel.specs.Claims.{view, IsSeatAt}
use Rattle.crossbeam_channel.specs.Ends.{sends_on}
use Rattle.lset_server.specs.Tallies.{tally, numbers_below}
use Rattle.lset_server.proofs.set_server.accept_all.Given as goal

abbrev pub invariant-loop-number : goal.invariant-loop-number
invariant-loop-number g l = record {
  pass : IsSeatAt (sends_on l.to) l.pass;
  view : view l.pass ≡ tally (view l.initial.pass).parts ((view l.initial.pass).sent ++ numbers_below l.number)
      (view l.initial.pass).received;
}
