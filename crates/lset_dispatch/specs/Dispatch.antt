-- How the program ends for a given command line: with the result of a command, or with an error in the command line.
use Rattle.std.specs.Prelude.{◌≡◌, ◌≢◌, ℕ, ◌⊎◌, List, [], Option, Some, None, IfSome, Ok, Err}
use Rattle.std.specs.Io.KnownBytes.{Keeps}
use Rattle.clap.specs.Words.{Text, fault_of, kind_of, subcommand_of, HasKind}
use Rattle.clap.specs.declared.error.Error.{Error}
use Rattle.clap.specs.declared.error.kind.ErrorKind.{ErrorKind}
use Rattle.clap.specs.declared.error.kind.ErrorKind.TheVariants.{OutOfMemory, DisplayHelp, DisplayVersion}
use Rattle.lset_command.specs.CommandLine.{Choice, choice_of, listset, path_of}
use Rattle.tool_base.specs.declared.trouble.Trouble.TheVariants.{Bad, CannotRead, Memory}
use Rattle.tool_base.specs.Tools.{Made, Ends, AppendsFront}
use Rattle.tool_replay.specs.Replaying.{Replays}
use Rattle.tool_replay.specs.Checking.{Checks}
use Rattle.tool_replay.specs.GenAnswers.{Answers}
use Rattle.tool_judge.specs.Judging.{Judges, JudgesBriefly}
use Rattle.lset_dispatch.specs.Asked.{Asked, asked}
use Rattle.lset_dispatch.specs.declared.job.Job.{Job}
use Rattle.lset_dispatch.specs.declared.job.Job.TheVariants.{Replay, Judge, Verdict, Check, Gen}

-- A statement about how a command ends. The arguments of an `Ending` are the bytes of the output before and after the
-- command, the bytes of stderr before and after the command, and the exit status.
abbrev pub Ending : Type 1
Ending = Option (List ℕ) → Option (List ℕ) → Option (List ℕ) → Option (List ℕ) → ℕ → Type 0

-- ---- Accepted command lines

-- Holds if a command ends with a result that `Makes` allows for the bytes of the input. If the bytes are unknown
-- (`None`), any result is allowed.
abbrev pub EndsOnBytes : (List ℕ → Made → Type 0) → Option (List ℕ) → Ending
EndsOnBytes Makes input output_old output_new stderr_old stderr_new status =
    Ends (λ made. IfSome input (λ bytes. Makes bytes made)) output_old output_new stderr_old stderr_new status

-- Holds if a job (a command with its checked arguments) ends correctly for the bytes of its input. Holds for every job
-- about which nothing is proved.
abbrev pub JobEnds : Job → Option (List ℕ) → Ending
JobEnds (Replay None) input output_old output_new stderr_old stderr_new status =
    EndsOnBytes Replays input output_old output_new stderr_old stderr_new status
JobEnds Judge input output_old output_new stderr_old stderr_new status =
    EndsOnBytes Judges input output_old output_new stderr_old stderr_new status
JobEnds Verdict input output_old output_new stderr_old stderr_new status =
    EndsOnBytes JudgesBriefly input output_old output_new stderr_old stderr_new status
JobEnds Check input output_old output_new stderr_old stderr_new status =
    EndsOnBytes Checks input output_old output_new stderr_old stderr_new status
JobEnds (Gen random) input output_old output_new stderr_old stderr_new status =
    Ends (Answers (Ok random)) output_old output_new stderr_old stderr_new status
JobEnds job input output_old output_new stderr_old stderr_new status = Unit {0}

-- Holds if a job ends correctly. Without a path, the job ends with the result for standard input. With a path, it ends
-- with the result for the bytes of some file, or with `CannotRead`. (Nothing is proved about which file is read, or
-- that it is read from the start.)
abbrev pub EndsOn : Option Text → Job → (Option (List ℕ) → Type 0) → Option (List ℕ) → Ending
EndsOn None job IsFile input output_old output_new stderr_old stderr_new status =
    JobEnds job input output_old output_new stderr_old stderr_new status
EndsOn (Some path) job IsFile input output_old output_new stderr_old stderr_new status =
    Ends (λ made. made ≡ Err CannotRead) output_old output_new stderr_old stderr_new status
    ⊎ ((bytes : Option (List ℕ)) × IsFile bytes × JobEnds job bytes output_old output_new stderr_old stderr_new status)

-- Holds if the program ends correctly for the job that a command line asks for: as `EndsOn` describes or, if an
-- argument is wrong, with an error that names the argument. Always holds if nothing is proved about the command
-- (`None`).
abbrev pub EndsAsked : Option Asked → Option Text → (Option (List ℕ) → Type 0) → Option (List ℕ) → Ending
EndsAsked None path IsFile input output_old output_new stderr_old stderr_new status = Unit {0}
EndsAsked (Some (Ok job)) path IsFile input output_old output_new stderr_old stderr_new status =
    EndsOn path job IsFile input output_old output_new stderr_old stderr_new status
EndsAsked (Some (Err wrong)) path IsFile input output_old output_new stderr_old stderr_new status =
    Ends (λ made. made ≡ Err (Bad wrong)) output_old output_new stderr_old stderr_new status

abbrev pub EndsOnInput : Choice → (Option (List ℕ) → Type 0) → Option (List ℕ) → Ending
EndsOnInput choice IsFile input output_old output_new stderr_old stderr_new status =
    EndsAsked (asked choice) (path_of choice) IsFile input output_old output_new stderr_old stderr_new status

-- ---- Refused command lines

-- Holds if clap's error means that the user asked for the help or the version.
abbrev pub IsHelp : ErrorKind → Type 0
IsHelp kind = (kind ≡ DisplayHelp) ⊎ (kind ≡ DisplayVersion)

-- Holds if clap's error means that the command line is wrong.
abbrev pub IsMistake : ErrorKind → Type 0
IsMistake kind = (kind ≢ OutOfMemory) × (kind ≢ DisplayHelp) × (kind ≢ DisplayVersion)

-- Holds if a result is the error `Memory`, or if the user asked for the help or the version and the result is a text
-- with status 0.
abbrev pub Helps : ErrorKind → Made → Type 0
Helps kind made = (made ≡ Err Memory) ⊎ (IsHelp kind × (text : List ℕ) × (made ≡ Ok (record { text = text; status = 0 })))

-- Holds if the command line is wrong and the program ends with status 2, an unchanged output, and some text appended to
-- stderr. Nothing is proved about that text, which clap writes.
abbrev pub Refuses : ErrorKind → Ending
Refuses kind output_old output_new stderr_old stderr_new status =
    IsMistake kind × Keeps output_old output_new × (text : List ℕ) × AppendsFront stderr_old stderr_new text × (status ≡ 2)

abbrev pub Declines : ErrorKind → Ending
Declines kind output_old output_new stderr_old stderr_new status =
    Ends (Helps kind) output_old output_new stderr_old stderr_new status
    ⊎ Refuses kind output_old output_new stderr_old stderr_new status

-- ---- The whole program, for accepted and refused command lines

abbrev pub Runs : List Text → (Option (List ℕ) → Type 0) → Option (List ℕ) → Ending
Runs words IsFile input output_old output_new stderr_old stderr_new status =
    ((fault_of listset words ≡ [])
    × EndsOnInput (choice_of (subcommand_of listset words)) IsFile input output_old output_new stderr_old stderr_new status)
    ⊎ ((error : Error) × HasKind (fault_of listset words) error × Declines (kind_of error) output_old output_new stderr_old
    stderr_new status)
