use Rattle.std.proofs.Common.{◌≡◌, ◌≤◌, take, length, vec_capacity}
use Rattle.lset_words.specs.Records.{with_calls}
use Rattle.lset_rule.specs.Runs.{StartsWith}
use Rattle.lset_work.specs.Programs.{made}
use Rattle.lset_work.proofs.program_threads.make_calls.Given as goal

abbrev pub invariant-loop-number : goal.invariant-loop-number
invariant-loop-number g l = record {
  set : l.seat.set ≡ l.set;
  held : l.seat.held ≡ l.initial.seat.held;
  later : StartsWith l.seat.events l.initial.seat.events;
  each : length l.replies.items ≡ l.number;
  room : length l.calls ≤ vec_capacity l.replies;
  made : l.seat.past ≡ with_calls l.initial.seat.past (made (take l.number l.calls) l.replies.items);
}
