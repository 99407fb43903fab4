use Rattle.lset_command.proofs.Commands.{by_fields}
use Rattle.lset_command.proofs.command_line.bare_command.Goals as goal

pub returns : goal.returns
returns c =
    c.with_help.ensures _ (c.with_usage-command.ensures _
    (by_fields _ _ _ c.after_help-command.ensures (by_fields _ _ _ c.about.ensures (c.new.ensures.app, c.new.ensures.local))))
