use Rattle.std.proofs.Common.{◌∙◌, ap, sym, Some, None}
use Rattle.clap.specs.Words.{found_of}
use Rattle.lset_command.proofs.FoundValues.{told}
use Rattle.lset_command.proofs.command_line.option_text.Goals as goal

pub returns-in_ok-from_str-in-Some : goal.returns-in_ok-from_str-in-Some
returns-in_ok-from_str-in-Some c =
    ap Some c.in_ok-from_str-in-Some.ensures.ok
    ∙ sym (told (found_of c.args.found.now) c.args.name.now (Some c.in-Some.text.now) c.in-Some.ensures)

pub returns-in-None : goal.returns-in-None
returns-in-None c = sym (told (found_of c.args.found.now) c.args.name.now None c.in-None.ensures)
