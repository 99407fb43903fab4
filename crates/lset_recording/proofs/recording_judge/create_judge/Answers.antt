use Rattle.std.proofs.Common.{ℕ, Ok}
use Rattle.lset_recording.proofs.NextCalls.{opened}
use Rattle.lset_recording.proofs.recording_judge.create_judge.Goals as goal

pub returns-clause-kept : goal.returns-clause-kept
returns-clause-kept c = opened {E = ℕ} c.args.opening.now c.args.place.now (Ok c.in_ok-judge.judge) c.requires.none
    c.in_ok-judge.ensures.opened c.in_ok-judge.ensures.moment
