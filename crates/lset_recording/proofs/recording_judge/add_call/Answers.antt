use Rattle.lset_judge.specs.Stream.{record_of, moment_of, pending_in}
use Rattle.lset_recording.specs.Texts.{all_threads}
use Rattle.lset_recording.proofs.NextCalls.{one_more, may_come}
use Rattle.lset_recording.proofs.recording_judge.add_call.Goals as goal

pub returns-in-Ok-clause-added : goal.returns-in-Ok-clause-added
returns-in-Ok-clause-added c = λ opening calls kept.
    one_more opening calls (record_of c.args.call) c.args.judge.now c.add.new.self kept
    (c.in-Ok.ensures.added all_threads opening calls) c.requires.0 c.in-Ok.ensures.moment

pub returns-in-Err-clause-refused : goal.returns-in-Err-clause-refused
returns-in-Err-clause-refused c = λ other.
    let s = c.args.judge.now.stream in (
      c.cause_of_fault.ensures.other other,
      λ opening calls kept follows.
          (c.in-Err.ensures.refused (c.cause_of_fault.ensures.memory other)).0
          (may_come calls (moment_of s) (pending_in s) kept.0.stream.pending kept.1 (record_of c.args.call) c.requires.1 c.requires.2 follows),
    )
