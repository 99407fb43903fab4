-- The contract of the command `gen`: the schedule that `gen` prints for its arguments.
use Rattle.std.specs.Prelude.{◌≡◌, ℕ, List, Result, Ok, Err}
use Rattle.lset_steps.specs.Steps.{Table}
use Rattle.lset_lists.specs.Tables.{table_of}
use Rattle.lset_text.specs.declared.words.Version.TheVariants.{One}
use Rattle.lset_schedule.specs.Drawing.{AreOfSeed}
use Rattle.lset_schedule.specs.Generating.{IsGenerated}
use Rattle.lset_schedule.specs.Plan.{Plan, IsSchedule, schedule_text}
use Rattle.tool_base.specs.declared.trouble.Trouble.TheVariants.{Memory, Bad}
use Rattle.tool_base.specs.declared.trouble.ValueName.{ValueName}
use Rattle.tool_base.specs.declared.arguments.RandomRequest.{RandomRequest}
use Rattle.tool_base.specs.Arguments.{random_request_of}
use Rattle.tool_base.specs.Tools.{Made}

-- Holds if the schedule `p` satisfies the request and can run on the list with step table `T`.
pub record IsRequested (T : Table) (request : RandomRequest) (p : Plan) : Type 0 where
  pub version_is : p.version ≡ One
  pub kind_is : p.kind ≡ request.kind
  pub threads_are : p.threads ≡ request.threads
  pub quota_is : p.quota ≡ request.quota
  pub schedule : IsSchedule p
  -- Each event of `p` is enabled: it can occur after the events before it. The numbers of calls and keys in `p` do not
  -- exceed the requested numbers.
  pub generated : IsGenerated T request.threads request.quota request.calls request.keys p.lines
  -- The random seed determines the lines of the schedule.
  pub drawn : AreOfSeed T request.threads request.quota request.calls request.keys request.seed p.lines

-- Holds if the result of `gen` for a request is correct: the text of a schedule that satisfies the request, the
-- argument that is wrong, or a failed allocation.
abbrev pub Answers : Result RandomRequest ValueName → Made → Type 0
Answers (Ok request) (Ok answer) =
    (p : Plan) × IsRequested (table_of request.kind) request p × (answer ≡ record { text = schedule_text p; status = 0 })
Answers (Ok request) (Err t) = t ≡ Memory
Answers (Err wrong) made = made ≡ Err (Bad wrong)

abbrev pub Generates : List (List ℕ) → Made → Type 0
Generates values made = Answers (random_request_of values) made
