-- Lemmas about the command that results from parsing the command line.
use Rattle.std.proofs.Common.{◌≡◌, List, [], Option, Some, None, Result, Ok, Err, refl, true, subst, sym}
use Rattle.std.specs.Prelude.{option_map, Box, IsErrAnd}
use Rattle.std.specs.Box.{box_value}
use Rattle.clap.specs.Words.{App, HasMatchesOf, Row, Text, fault_of, is_simple_and_free, subcommand_of}
use Rattle.clap.specs.Words.{subcommand_name_of, subcommand_rows, subcommand_rows_of}
use Rattle.clap.specs.Kinds.{FailsBy, HasKind, Kinds}
use Rattle.clap.specs.declared.error.Error.{Error}
use Rattle.clap.specs.declared.parser.matches.ArgMatches.{ArgMatches}
use Rattle.clap.specs.declared.parser.matches.ArgMatches.TheViews.{out-ArgMatches, out-SubCommand}
use Rattle.clap.specs.declared.parser.matches.SubCommand.{SubCommand}
use Rattle.lset_command.specs.CommandLine.{Choice, OptionValues, choice_of, command_named, listset, options_in, values_in}
use Rattle.lset_command.specs.declared.table.Command.{Command}
use Rattle.lset_command.specs.declared.table.Command.TheVariants.{Replay}
use Rattle.lset_command.specs.declared.command_line.Words.{Words}

abbrev pub chosen : Command → List Text → OptionValues → Choice
chosen command values options = record { command = command; values = values; options = options }

pub program_matches : (m : ArgMatches) (a : App) (words : List Text) → a ≡ listset → HasMatchesOf a words m →
    subcommand_rows_of m ≡ subcommand_of listset words
program_matches m a words is matches = (subst (λ (x : App). HasMatchesOf x words m) is matches refl).1

pub program_faults : (P : Kinds → Type 0) (a : App) (words : List Text) → a ≡ listset →
    (is_simple_and_free a ≡ true → P (fault_of a words))
    → P (fault_of listset words)
program_faults P a words is faults = subst (λ (x : App). is_simple_and_free x ≡ true → P (fault_of x words)) is faults refl

pub no_command : (m : ArgMatches) (found : Option (Text × List Row)) → None ≡ subcommand_name_of m → subcommand_rows_of m ≡ found
    → found ≡ None
no_command m found = go (out-ArgMatches m).subcommand
  where
    go : {Z : Type 0} (b : Option (Box SubCommand Z)) → None ≡ option_map (λ b. (out-SubCommand (box_value b)).name.now) b →
        subcommand_rows b ≡ found → found ≡ None
    go None none is = sym is
    go (Some b) none is = absurd cc

pub one_command : (m : ArgMatches) (found : Option (Text × List Row)) (name : Text) (rows : List Row) →
    Some name ≡ subcommand_name_of m
    → Some rows ≡ option_map (λ p. p.1) (subcommand_rows_of m) → subcommand_rows_of m ≡ found → found ≡ Some (name, rows)
one_command m found name rows = go (out-ArgMatches m).subcommand
  where
    go : {Z : Type 0} (b : Option (Box SubCommand Z)) → Some name ≡ option_map (λ b. (out-SubCommand (box_value b)).name.now) b
        → Some rows ≡ option_map (λ p. p.1) (subcommand_rows b) → subcommand_rows b ≡ found → found ≡ Some (name, rows)
    go None named with_rows is = absurd cc
    go (Some b) named with_rows is = cc

pub chosen_command : (command : Command) (name : Text) (values : List Text) (options : OptionValues) (rows : List Row)
    (found : Option (Text × List Row)) → found ≡ Some (name, rows)
    → command ≡ command_named name → values ≡ values_in rows → options ≡ options_in rows
    → chosen command values options ≡ choice_of found
chosen_command command name values options rows found is named all flags = rw (is, named, all, flags) refl

pub chosen_replay : (values : List Text) (options : OptionValues) (found : Option (Text × List Row)) → found ≡ None → values ≡ []
    → options ≡ options_in [] → chosen Replay values options ≡ choice_of found
chosen_replay values options found is empty none = rw (is, empty, none) refl

pub fails_as : (kinds : Kinds) (r : Result Words Error) (e : Error) → IsErrAnd r (λ given. given ≡ e) → HasKind kinds e →
    FailsBy kinds r
fails_as kinds (Ok words) e same kind = absurd same
fails_as kinds (Err given) e same kind = subst (HasKind kinds) (sym same) kind
