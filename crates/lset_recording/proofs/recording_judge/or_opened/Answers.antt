use Rattle.lset_recording.proofs.NextCalls.{opened}
use Rattle.lset_recording.proofs.recording_judge.or_opened.Goals as goal

pub returns-in-None : goal.returns-in-None
returns-in-None c = opened c.args.opening.now c.args.judge c.new.result c.in-None.is c.new.ensures.opened c.new.ensures.moment
