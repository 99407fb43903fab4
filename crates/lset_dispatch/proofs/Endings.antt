-- Lemmas that derive how the program ends from how its job (a command with checked arguments) ended.
use Rattle.std.proofs.Common.{◌≡◌, ℕ, List, Option, Some, None, Ok, Err, IfSome, refl, subst, sym, inl, inr}
use Rattle.std.specs.Prelude.{◌≢◌}
use Rattle.clap.specs.declared.error.kind.ErrorKind.{ErrorKind}
use Rattle.clap.specs.declared.error.kind.ErrorKind.TheVariants as kind
use Rattle.clap.specs.Words.{Text}
use Rattle.lset_command.specs.CommandLine.{Choice, OptionValues, path_of}
use Rattle.lset_command.specs.declared.table.Command.{Command}
use Rattle.lset_command.specs.declared.table.Command.TheVariants.{Explain}
use Rattle.lset_dispatch.specs.Asked.{Asked, asked, asked_by}
use Rattle.lset_dispatch.specs.Dispatch.{EndsAsked, EndsOnInput, IsHelp, JobEnds}
use Rattle.lset_dispatch.specs.declared.job.Job.{Job}

pub at_command : (command known : Command) (values : List Text) (options : OptionValues) (r : Asked) → command ≡ known
    → IfSome (asked_by known values options) (λ x. r ≡ x) → IfSome (asked_by command values options) (λ x. r ≡ x)
at_command command known values options r is said =
    subst (λ k. IfSome (asked_by k values options) (λ x. r ≡ x)) (sym is) said

module _ (IsFile : Option (List ℕ) → Type 0) (input output_old output_new stderr_old stderr_new : Option (List ℕ)) (status : ℕ) where
  told : (said : Option Asked) (r : Asked) (path : Option Text) → IfSome said (λ x. r ≡ x)
      → EndsAsked (Some r) path IsFile input output_old output_new stderr_old stderr_new status
      → EndsAsked said path IsFile input output_old output_new stderr_old stderr_new status
  told None r path is ends = tt
  told (Some x) r path is ends =
      subst (λ a. EndsAsked (Some a) path IsFile input output_old output_new stderr_old stderr_new status) is ends

  pub ended : (a b : Choice) (r : Asked) (path : Option Text) → a ≡ b → IfSome (asked a) (λ x. r ≡ x) → path ≡ path_of a
      → EndsAsked (Some r) path IsFile input output_old output_new stderr_old stderr_new status
      → EndsOnInput b IsFile input output_old output_new stderr_old stderr_new status
  ended a b r path same is named ends =
      subst (λ choice. EndsOnInput choice IsFile input output_old output_new stderr_old stderr_new status) same
      (told (asked a) r (path_of a) is
      (subst (λ file. EndsAsked (Some r) file IsFile input output_old output_new stderr_old stderr_new status) named ends))

  pub unsaid : (a b : Choice) → a ≡ b → a.command ≡ Explain
      → EndsOnInput b IsFile input output_old output_new stderr_old stderr_new status
  unsaid a b same is =
      subst (λ choice. EndsOnInput choice IsFile input output_old output_new stderr_old stderr_new status) same
      (subst (λ k. EndsAsked (asked_by k a.values a.options) (path_of a) IsFile input output_old output_new stderr_old stderr_new status)
      (sym is) tt)

module _ (input output_old output_new stderr_old stderr_new : Option (List ℕ)) (status : ℕ) where
  pub at_job : (job known : Job) → job ≡ known
      → JobEnds known input output_old output_new stderr_old stderr_new status
      → JobEnds job input output_old output_new stderr_old stderr_new status
  at_job job known is ends =
      subst (λ r. JobEnds r input output_old output_new stderr_old stderr_new status) (sym is) ends

pub is_help : (k : ErrorKind) → ¬ ((k ≢ kind.DisplayHelp) × (k ≢ kind.DisplayVersion)) → IsHelp k
is_help kind.DisplayHelp other = inl refl
is_help kind.DisplayVersion other = inr refl
is_help k other = absurd (other (λ e. cc, λ e. cc))

pub if_known : (P Q : List ℕ → Type 0) (input : Option (List ℕ)) → ((bytes : List ℕ) → P bytes → Q bytes) → IfSome input P → IfSome input Q
if_known P Q None follows holds = tt
if_known P Q (Some bytes) follows holds = follows bytes holds
