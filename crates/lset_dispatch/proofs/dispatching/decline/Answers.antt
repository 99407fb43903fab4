use Rattle.std.proofs.Common.{refl, inl, inr, Ok, Err}
use Rattle.std.proofs.lemmas.Bool.{both_ways}
use Rattle.clap.specs.Words.{kind_of}
use Rattle.tool_base.specs.declared.trouble.Trouble.TheVariants.{Memory}
use Rattle.lset_dispatch.proofs.Endings.{is_help}
use Rattle.lset_dispatch.proofs.dispatching.decline.Goals as goal

pub returns-then-is_out_of_memory : goal.returns-then-is_out_of_memory
returns-then-is_out_of_memory g c = inl (Err Memory, inl refl, c.deliver.ensures)

pub returns-in_default : goal.returns-in_default
returns-in_default g c = inl (Err Memory, inl refl, c.deliver-in_default.ensures)

pub returns-else-use_stderr : goal.returns-else-use_stderr
returns-else-use_stderr g c =
    let help = is_help (kind_of c.args.error.now) (λ other. both_ways c.use_stderr.result c.if-use_stderr.false
    (c.use_stderr.ensures.1 other)) in
    let text = c.into_bytes-text.result.items in
    inl (Ok (record { text = text; status = 0 }), inr (help, text, refl), c.deliver-else-use_stderr.ensures)
