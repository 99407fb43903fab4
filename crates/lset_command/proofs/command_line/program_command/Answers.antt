use Rattle.std.proofs.Common.{ap, codes, true}
use Rattle.std.proofs.lemmas.Result.{IfOk-weaker}
use Rattle.clap.specs.Words.{new_app}
use Rattle.clap.specs.Simple.{on_top}
use Rattle.lset_command.specs.CommandLine.{IsApp}
use Rattle.lset_command.proofs.Commands.{Makes-named, by_fields}
use Rattle.lset_command.proofs.command_line.program_command.Goals as goal

pub returns : goal.returns
returns c =
    let named : IsApp c.after_help.result (new_app (codes "listset")) =
    by_fields _ _ _ c.after_help.ensures (by_fields _ _ _ c.about.ensures (c.new.ensures.app, c.new.ensures.local)) in
    let versioned : IsApp c.version.result (on_top (λ s. record s { has_version = true }) (new_app (codes "listset"))) =
    by_fields _ _ _ c.version.ensures (ap (on_top (λ s. record s { has_version = true })) named.0, named.1) in
    let begun : IsApp c.no_binary_name.result _ =
    by_fields _ _ _ c.no_binary_name.ensures (ap (on_top (λ s. record s { no_binary_name = true })) versioned.0, versioned.1) in
    let program = Makes-named c.bin_name-program.result c.no_binary_name.result _ _ c.bin_name-program.ensures begun in
    IfOk-weaker c.with_commands.result _ _ (λ r is. is.0) (c.with_commands.ensures _ program)
