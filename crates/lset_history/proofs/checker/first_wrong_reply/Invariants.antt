use Rattle.std.proofs.Common.{◌≡◌, take}
use Rattle.lset_history.specs.Checks.{HasReplies, after_order}
use Rattle.lset_history.proofs.checker.first_wrong_reply.Given as goal

abbrev pub invariant-loop-place : goal.invariant-loop-place
invariant-loop-place l = record {
  replies : HasReplies l.initial.oracle l.calls (take l.place-index l.order);
  goes_on : l.oracle ≡ after_order l.initial.oracle l.calls (take l.place-index l.order);
}
