use Rattle.std.proofs.Common.{◌∙◌, sym, Some, None}
use Rattle.clap.specs.Words.{found_of}
use Rattle.lset_command.proofs.FoundValues.{told_on}
use Rattle.lset_command.proofs.command_line.is_on.Goals as goal

pub returns-in-Some : goal.returns-in-Some
returns-in-Some c = c.eq.ensures
    ∙ sym (told_on (found_of c.args.found.now) c.args.name.now (Some c.in-Some.text.now) c.in-Some.ensures)

pub returns-in-None : goal.returns-in-None
returns-in-None c = sym (told_on (found_of c.args.found.now) c.args.name.now None c.in-None.ensures)
