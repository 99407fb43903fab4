-- The job that a command line asks for: a command with its checked arguments. For some commands, such as `judge --only`
-- and commands that run a broken list (a list without one of its checks), no job is stated here, and nothing is proved
-- about their output.
use Rattle.std.specs.Prelude.{Bool, true, false, List, Option, Some, None, Result, Ok, Err}
use Rattle.clap.specs.Words.{Text}
use Rattle.lset_command.specs.CommandLine.{Choice, OptionValues}
use Rattle.lset_command.specs.declared.table.Command.{Command}
use Rattle.lset_command.specs.declared.table.Command.TheVariants as command
use Rattle.lset_schedule.specs.Generating.{IsAccepted}
use Rattle.tool_base.specs.declared.arguments.RandomRequest.{RandomRequest}
use Rattle.tool_base.specs.declared.trouble.ValueName.{ValueName}
use Rattle.tool_base.specs.Arguments.{random_request_of}
use Rattle.lset_dispatch.specs.declared.job.Job.{Job}
use Rattle.lset_dispatch.specs.declared.job.Job.TheVariants.{Replay, Judge, Verdict, Check, Gen}

-- A job, or the first argument or option that is missing or wrong.
abbrev pub Asked : Type 0
Asked = Result Job ValueName

-- Returns the job of `replay`, or `None` if `--lacks` is present, because nothing is proved about `replay --lacks`.
abbrev pub asked_replay : Option Text → Option Asked
asked_replay None = Some (Ok (Replay None))
asked_replay (Some name) = None

-- Returns the job of `judge`: with `--brief`, to print only the verdict; otherwise, to print the verdict with all
-- details. Returns `None` if `--only` is present, because nothing is proved about `judge --only`.
abbrev pub asked_judge : Option Text → Bool → Option Asked
asked_judge None true = Some (Ok Verdict)
asked_judge None false = Some (Ok Judge)
asked_judge (Some key) brief = None

abbrev pub asked_gen : Result RandomRequest ValueName → Asked
asked_gen (Ok random) = Ok (Gen random)
asked_gen (Err wrong) = Err wrong

abbrev pub asked_by : Command → List Text → OptionValues → Option Asked
asked_by command.Replay values options = asked_replay options.lacks
asked_by command.Judge values options = asked_judge options.only options.brief
asked_by command.Check values options = Some (Ok Check)
asked_by command.Gen values options = Some (asked_gen (random_request_of values))
asked_by other values options = None

-- Returns the job that a command line asks for, or `None` if nothing is proved about the command.
abbrev pub asked : Choice → Option Asked
asked choice = asked_by choice.command choice.values choice.options

-- Holds if the threads, the quota and the number of keys of a `gen` job are in their ranges. Holds for every other job.
abbrev pub IsKnown : Job → Type 0
IsKnown (Gen random) = IsAccepted random.threads random.quota random.keys
IsKnown job = Unit {0}
