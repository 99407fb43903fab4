use Rattle.std.proofs.Common.{ℕ, ◌<◌, ◌≤◌, length, get_or, take, map}
use Rattle.lset_words.specs.History.{no_call}
use Rattle.lset_judge.specs.Stream.{moment_of}
use Rattle.lset_judge.specs.Judge.{IsJudgeOf}
use Rattle.lset_judge.specs.Reading.{read_as}
use Rattle.lset_judge.proofs.judged_history.judge.Given as goal

abbrev pub invariant-loop-call : goal.invariant-loop-call
invariant-loop-call l = record {
  judge : IsJudgeOf l.fn.history.opening.threads l.fn.history.opening.keys (map read_as (take l.call-index l.calls)) l.judge;
  early : (n : ℕ) → l.call-index ≤ n → n < length l.calls → moment_of l.judge.stream < (get_or l.calls n no_call).begun;
}
