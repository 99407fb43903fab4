-- Lemmas: how a command line is parsed does not depend on some settings of a clap command, such as `bin_name`, the name of its executable.
use Rattle.std.proofs.Common.{◌≡◌, sym, subst, false, IfOk, Result, Ok, Err}
use Rattle.std.specs.declared.alloc.AllocError.{AllocError}
use Rattle.clap.specs.Words.{App}
use Rattle.clap.specs.Simple.{app_of_fields}
use Rattle.clap.specs.declared.Command.{Command}
use Rattle.clap.specs.declared.Command.TheViews.{out-Command}
use Rattle.clap.specs.declared.builder.command.Command.TheOpen.{Command-F}
use Rattle.lset_command.specs.CommandLine.{IsApp, Makes}

pub by_fields : (c : Command) (fields : Command-F Command) (a : App) → out-Command c ≡ fields
    → (app_of_fields fields ≡ a) × (fields.has_globals ≡ false) → IsApp c a
by_fields c fields a is app =
    subst (λ (f : Command-F Command). (app_of_fields f ≡ a) × (f.has_globals ≡ false)) (sym is) app

pub Makes-named : (made : Result Command AllocError) (old : Command) (a : App) (Rest : Command → Type 0)
    → IfOk made (λ c. (out-Command c ≡ record (out-Command old) { bin_name = (out-Command c).bin_name }) × Rest c)
    → IsApp old a → Makes made a
Makes-named (Ok c) old a Rest same is = by_fields c _ a same.0 is
Makes-named (Err e) old a Rest same is = same
