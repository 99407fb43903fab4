use Rattle.std.proofs.Common.{refl}
use Rattle.lset_command.specs.declared.table.Command.TheVariants as command
use Rattle.lset_dispatch.proofs.Endings.{at_command}
use Rattle.lset_dispatch.proofs.job.read_job.Goals as goal

pub returns-in-Replay-clause-asked : goal.returns-in-Replay-clause-asked
returns-in-Replay-clause-asked c = at_command _ command.Replay _ _ _ c.in-Replay.is c.read_replay.ensures.asked

pub returns-in-Judge-clause-asked : goal.returns-in-Judge-clause-asked
returns-in-Judge-clause-asked c = at_command _ command.Judge _ _ _ c.in-Judge.is c.read_judge.ensures.asked

pub returns-in-Stats-clause-asked : goal.returns-in-Stats-clause-asked
returns-in-Stats-clause-asked c = at_command _ command.Stats _ _ _ c.in-Stats.is tt

pub returns-in-Check-clause-asked : goal.returns-in-Check-clause-asked
returns-in-Check-clause-asked c = at_command _ command.Check _ _ _ c.in-Check.is refl

pub returns-in-Show-clause-asked : goal.returns-in-Show-clause-asked
returns-in-Show-clause-asked c = at_command _ command.Show _ _ _ c.in-Show.is tt

pub returns-in-Draft-clause-asked : goal.returns-in-Draft-clause-asked
returns-in-Draft-clause-asked c = at_command _ command.Draft _ _ _ c.in-Draft.is tt

pub returns-in-Example-clause-asked : goal.returns-in-Example-clause-asked
returns-in-Example-clause-asked c = at_command _ command.Example _ _ _ c.in-Example.is tt

pub returns-in-Serve-clause-asked : goal.returns-in-Serve-clause-asked
returns-in-Serve-clause-asked c = at_command _ command.Serve _ _ _ c.in-Serve.is tt

pub returns-in-Faults-clause-asked : goal.returns-in-Faults-clause-asked
returns-in-Faults-clause-asked c = at_command _ command.Faults _ _ _ c.in-Faults.is tt

pub returns-in-Explain-clause-asked : goal.returns-in-Explain-clause-asked
returns-in-Explain-clause-asked c = at_command _ command.Explain _ _ _ c.in-Explain.is tt
