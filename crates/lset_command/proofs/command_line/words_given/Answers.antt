use Rattle.std.proofs.Common.{◌≡◌, [], ap, map, None}
use Rattle.std.specs.String.{string_bytes}
use Rattle.clap.specs.Words.{found_of, rows_of, subcommand_of}
use Rattle.clap.specs.Kinds.{HasKind}
use Rattle.clap.specs.Walk.{texts}
use Rattle.lset_command.specs.CommandLine.{listset}
use Rattle.lset_command.proofs.Chosen.{fails_as, no_command, one_command, program_faults, program_matches, chosen_command, chosen_replay}
use Rattle.lset_command.proofs.command_line.words_given.Goals as goal

pub returns-in_err-matches-clause-refused : goal.returns-in_err-matches-clause-refused
returns-in_err-matches-clause-refused c =
    let e = c.in_err-matches.field-0.0 in
    let kind = program_faults (λ kinds. HasKind kinds e) _ (texts c.args.words.now) c.in_ok-program_command.ensures
    c.in_err-matches.ensures.kinds in
    fails_as _ c.from_residual-in_err-matches.result e c.from_residual-in_err-matches.ensures.1 kind

pub returns-in_default-clause-taken : goal.returns-in_default-clause-taken
returns-in_default-clause-taken c =
    let m = c.in_ok-matches.matches in
    let found = subcommand_of listset (texts c.args.words.now) in
    let none : found ≡ None = no_command m found c.in_default.ensures.name
    (program_matches m _ (texts c.args.words.now) c.in_ok-program_command.ensures c.in_ok-matches.ensures.matches) in
    chosen_replay _ _ found none (ap (map string_bytes) c.new.ensures.items) c.no_options.ensures

pub returns-in_default-clause-refused : goal.returns-in_default-clause-refused
returns-in_default-clause-refused c =
    program_faults (λ kinds. kinds ≡ []) _ (texts c.args.words.now) c.in_ok-program_command.ensures c.in_ok-matches.ensures.kinds

pub returns-clause-taken : goal.returns-clause-taken
returns-clause-taken c =
    let m = c.in_ok-matches.matches in
    let found = subcommand_of listset (texts c.args.words.now) in
    let one = one_command m found c.in-Some.name.now (rows_of (found_of c.in-Some.found.now)) c.in-Some.ensures.name
    c.in-Some.ensures.rows
    (program_matches m _ (texts c.args.words.now) c.in_ok-program_command.ensures c.in_ok-matches.ensures.matches) in
    chosen_command _ _ _ _ _ found one c.command_in-command.ensures c.in_ok-values.ensures c.in_ok-options.ensures

pub returns-clause-refused : goal.returns-clause-refused
returns-clause-refused c =
    program_faults (λ kinds. kinds ≡ []) _ (texts c.args.words.now) c.in_ok-program_command.ensures c.in_ok-matches.ensures.kinds
