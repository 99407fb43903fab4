use Rattle.std.proofs.Common.{subst}
use Rattle.lset_words.specs.Words.{Sizes}
use Rattle.lset_schedule.specs.Generating.{IsGenerated}
use Rattle.lset_schedule.proofs.Drafts.{generated_fits}
use Rattle.lset_schedule.proofs.generator.generate.Goals as goal

pub returns-clause-schedule : goal.returns-clause-schedule
returns-clause-schedule g c =
    let lines = c.in_ok-lines.lines.items in
    rw (c.of_header.ensures, c.new.ensures.items)
    (generated_fits g.M.Machine.table c.KIND.result c.args.threads c.args.quota c.args.calls c.args.keys lines
    c.ranges.keys.fits c.in_ok-lines.ensures.few
    (subst (λ (s : Sizes). IsGenerated g.M.Machine.table s.threads s.quota c.args.calls c.args.keys lines)
    c.in_ok-layout.ensures.sizes c.in_ok-lines.ensures.made))
