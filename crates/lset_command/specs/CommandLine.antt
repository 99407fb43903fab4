-- The program's command line as clap defines it: the subcommands, with their arguments, flags and options.
use Rattle.std.specs.Prelude.{◌≡◌, Result, IfOk, List, [], ◌∷◌, map, codes, Bool, true, false, ◌||◌, Option, Some, None, option_map, unwrap_or}
use Rattle.std.specs.Prelude.{◌++◌, ⊤, string_bytes, if◌then◌else◌, option_and_then}
use Rattle.std.specs.Borrow.{Bor}
use Rattle.std.specs.List.{flat_map, fold}
use Rattle.std.specs.Option.{option_map_or}
use Rattle.std.specs.Str.{bytes_eq}
use Rattle.clap.specs.Words.{App, Row, Rule, Text, all_of, app_of, first_of, new_app, new_rule, rule_of, with_rule, with_subcommand}
use Rattle.clap.specs.Simple.{on_top}
use Rattle.clap.specs.declared.builder.action.ArgAction.TheVariants.{SetTrue}
use Rattle.std.specs.declared.alloc.AllocError.{AllocError}
use Rattle.clap.specs.declared.Arg.{Arg}
use Rattle.clap.specs.declared.Command as clap
use Rattle.clap.specs.declared.Command.TheViews.{out-Command}
use Rattle.lset_command.specs.declared.table.Command.{Command}
use Rattle.lset_command.specs.declared.table.Command.TheVariants.{Replay, Judge, Stats, Check, Show, Trace, Draft, Example, Gen, Run, Serve, Faults, Explain}
use Rattle.lset_command.specs.declared.command_line.Options.{Options}
use Rattle.lset_command.specs.declared.command_line.Words.{Words}
use Rattle.lset_command.specs.declared.table.Form.{Form}
use Rattle.lset_command.specs.declared.table.Form.TheVariants.{Value, Flag, ValueOption}
use Rattle.lset_command.specs.declared.table.TheConstants.{COMMANDS}

-- Returns clap's rule for a flag `--NAME`.
abbrev pub flag_rule : Text → Rule
flag_rule name = record (new_rule name) { long = Some name; action = Some SetTrue }

-- Returns clap's rule for an option with a value, `--NAME VALUE`.
abbrev pub option_rule : Text → Rule
option_rule name = record (new_rule name) { long = Some name; value_names = 1 }

-- Returns clap's rule for an argument of the given form.
abbrev pub rule_by : Text → Form → Rule
rule_by name Value = new_rule name
rule_by name Flag = flag_rule name
rule_by name ValueOption = option_rule name

-- An argument: its name and its form.
abbrev pub Argument : Type 0
Argument = Text × Form

-- A row of the table of commands: a command, its name, and its arguments.
abbrev pub TableRow : Type 0
TableRow = Command × Text × List Argument

-- Returns the clap command `a` with a rule for `argument` added.
abbrev pub with_argument : App → Argument → App
with_argument a argument = with_rule a (rule_by argument.0 argument.1)

-- Returns clap's rules for the command in `row`, a row of the table.
abbrev pub app_in : TableRow → App
app_in row = fold with_argument (new_app row.1) row.2

-- Returns the program's command `a` with a subcommand for `row`, a row of the table, added.
abbrev pub with_command : App → TableRow → App
with_command a row = with_subcommand a (app_in row).top

-- The rows of the constant `COMMANDS` without the help texts: each command, its name and its arguments.
abbrev pub table : List TableRow
table = map (λ row. (row.0, row.1.now, map (λ argument. (argument.0.now, argument.1)) row.3.now)) COMMANDS.now

-- clap's rules for the whole program, which has a version and all subcommands. The words to parse do not start with the
-- program's name.
abbrev pub listset : App
listset = fold with_command (on_top (λ s. record s { no_binary_name = true; has_version = true }) (new_app (codes "listset"))) table

-- ---- Rows of the table as values of the program

abbrev pub ArgumentRow : Type 0
ArgumentRow = Bor Text × Form × Bor Text × Bor Text

abbrev pub CommandRow : Type 0
CommandRow = Command × Bor Text × Bor Text × Bor (List ArgumentRow) × Option (Bor Text) × Bor Text

abbrev pub argument_of : ArgumentRow → Argument
argument_of row = (row.0.now, row.1)

abbrev pub row_of : CommandRow → TableRow
row_of row = (row.0, row.1.now, map argument_of row.3.now)

-- ---- Commands as values of clap's type

-- Holds if `a` describes the clap command `c`, and no argument of `c` is also accepted by the subcommands (`global`).
abbrev pub IsApp : clap.Command → App → Type 0
IsApp c a = (app_of c ≡ a) × ((out-Command c).has_globals ≡ false)

-- Holds if `made` is a clap command that `a` describes, or if an allocation failed.
abbrev pub Makes : Result clap.Command AllocError → App → Type 0
Makes made a = IfOk made (λ c. IsApp c a)

-- Holds if the clap command `new` is `old` with the argument `arg` added, or if an allocation failed.
abbrev pub MakesWithArg : Result clap.Command AllocError → Arg → Result clap.Command AllocError → Type 0
MakesWithArg old arg new = (a : App) (r : Rule) → Makes old a → rule_of arg ≡ r → arg.global ≡ false → Makes new (with_rule a r)

-- Holds if the clap command `new` is `old` with the subcommand `sub` added, or if an allocation failed.
abbrev pub MakesWithSubcommand : Result clap.Command AllocError → Result clap.Command AllocError → Result clap.Command AllocError →
    Type 0
MakesWithSubcommand old sub new = (a b : App) → Makes old a → Makes sub b → Makes new (with_subcommand a b.top)

-- ---- The result of parsing a command line

-- Returns whether `name` is the name of a flag or an option. All other names are names of arguments.
abbrev pub is_option : Text → Bool
is_option name = bytes_eq name (codes "svg") || (bytes_eq name (codes "from") || (bytes_eq name (codes "to")
    || (bytes_eq name (codes "width") || (bytes_eq name (codes "brief") || (bytes_eq name (codes "only")
    || (bytes_eq name (codes "chain") || (bytes_eq name (codes "broken") || bytes_eq name (codes "lacks"))))))))

-- Returns the values that a parse found for the argument `name`. The list is empty if `name` is the name of a flag or
-- an option.
abbrev pub values_by : Text → List Row → List Text
values_by name rows = if is_option name then [] else unwrap_or (all_of name rows) []

-- Returns the values of all arguments of a command, in order.
abbrev pub values_in : List Row → List Text
values_in rows = flat_map (λ row. values_by row.id rows) rows

-- Returns whether the flag `name` is on. clap represents a flag by the text `true` or `false`.
abbrev pub is_on : Text → List Row → Bool
is_on name rows = option_map_or (λ text. bytes_eq text (codes "true")) (first_of name rows) false

-- The flags that are on, the value of FILE, and the values of the options. A missing value is `None`.
pub record OptionValues : Type 0 where
  pub file : Option Text
  pub svg : Bool
  pub from : Option Text
  pub to : Option Text
  pub width : Option Text
  pub brief : Bool
  pub only : Option Text
  pub chain : Bool
  pub broken : Bool
  pub lacks : Option Text

abbrev pub options_in : List Row → OptionValues
options_in rows = record {
  file = first_of (codes "FILE") rows;
  svg = is_on (codes "svg") rows;
  from = first_of (codes "from") rows;
  to = first_of (codes "to") rows;
  width = first_of (codes "width") rows;
  brief = is_on (codes "brief") rows;
  only = first_of (codes "only") rows;
  chain = is_on (codes "chain") rows;
  broken = is_on (codes "broken") rows;
  lacks = first_of (codes "lacks") rows;
}

-- Returns the command with the given name in the given rows of the table, or `replay` if no row has that name.
abbrev pub command_in : Text → List TableRow → Command
command_in name [] = Replay
command_in name (row ∷ rows) = if bytes_eq row.1 name then row.0 else command_in name rows

-- Returns the command named `name`. A parse finds only names of commands in the table.
abbrev pub command_named : Text → Command
command_named name = command_in name table

abbrev pub row_named : Text → List TableRow → Option TableRow
row_named name [] = None
row_named name (row ∷ rows) = if bytes_eq row.1 name then Some row else row_named name rows

abbrev pub IsNamed : Text → Command → List Argument → Type 0
IsNamed name command arguments = row_named name table ≡ Some (command, name, arguments)

abbrev pub kind : Argument
kind = (codes "KIND", Value)

abbrev pub file : Argument
file = (codes "FILE", Value)

abbrev pub lacks : Argument
lacks = (codes "lacks", ValueOption)

-- The arguments of `gen`, which are also the first arguments of `run`.
abbrev pub random : List Argument
random = kind ∷ (codes "THREADS", Value) ∷ (codes "QUOTA", Value) ∷ (codes "CALLS", Value) ∷ (codes "KEYS", Value)
    ∷ (codes "SEED", Value) ∷ []

-- Holds if each command has the name, the arguments and the forms of arguments that the fields of the record state.
pub record CommandsAreNamed : Type 0 where
  pub replay : IsNamed (codes "replay") Replay (file ∷ lacks ∷ [])
  pub judge : IsNamed (codes "judge") Judge (file ∷ (codes "brief", Flag) ∷ (codes "only", ValueOption) ∷ [])
  pub stats : IsNamed (codes "stats") Stats (file ∷ [])
  pub check : IsNamed (codes "check") Check (file ∷ [])
  pub show : IsNamed (codes "show") Show (file ∷ (codes "svg", Flag) ∷ (codes "from", ValueOption) ∷ (codes "to", ValueOption)
      ∷ (codes "width", ValueOption) ∷ lacks ∷ [])
  pub trace : IsNamed (codes "trace") Trace (file ∷ (codes "chain", Flag) ∷ lacks ∷ [])
  pub draft : IsNamed (codes "draft") Draft (file ∷ [])
  pub example : IsNamed (codes "example") Example ((codes "NAME", Value) ∷ (codes "broken", Flag) ∷ [])
  pub gen : IsNamed (codes "gen") Gen random
  pub run : IsNamed (codes "run") Run (random ++ (codes "LIVES", Value) ∷ [])
  pub serve : IsNamed (codes "serve") Serve (kind ∷ (codes "SEATS", Value) ∷ (codes "QUOTA", Value) ∷ (codes "PORT", Value)
      ∷ (codes "SESSIONS", Value) ∷ file ∷ [])
  pub faults : IsNamed (codes "faults") Faults ((codes "CAUSE", Value) ∷ [])
  pub explain : IsNamed (codes "explain") Explain (file ∷ [])

-- Holds if no two of the given rows of the table have the same name.
abbrev pub AreApart : List TableRow → Type 0
AreApart [] = ⊤
AreApart (row ∷ rows) = (row_named row.1 rows ≡ None) × AreApart rows

abbrev pub NamesDiffer : Type 0
NamesDiffer = AreApart table

-- A command with its arguments, flags and options.
pub record Choice : Type 0 where
  pub command : Command
  pub values : List Text
  pub options : OptionValues

-- Returns the command that was chosen on the command line, or `replay` if the command line names no command.
abbrev pub choice_of : Option (Text × List Row) → Choice
choice_of None = record { command = Replay; values = []; options = options_in [] }
choice_of (Some found) = record { command = command_named found.0; values = values_in found.1; options = options_in found.1 }

-- ---- The options as the program stores them

abbrev pub options_of : Options → OptionValues
options_of o = record {
  file = option_map string_bytes o.file;
  svg = o.svg;
  from = option_map string_bytes o.from;
  to = option_map string_bytes o.to;
  width = option_map string_bytes o.width;
  brief = o.brief;
  only = option_map string_bytes o.only;
  chain = o.chain;
  broken = o.broken;
  lacks = option_map string_bytes o.lacks;
}

abbrev pub choice_in : Words → Choice
choice_in w = record { command = w.command; values = map string_bytes w.values.items; options = options_of w.options }

-- Returns the path that an argument FILE contains. `-` means standard input and is not a path.
abbrev pub path_in : Text → Option Text
path_in word = if bytes_eq word (codes "-") then None else Some word

abbrev pub path_of : Choice → Option Text
path_of choice = option_and_then path_in choice.options.file
