use Rattle.std.proofs.Common.{◌∙◌, ap, map}
use Rattle.std.specs.String.{string_bytes}
use Rattle.clap.specs.Words.{found_of, rows_of}
use Rattle.clap.specs.Matches.{ids_left}
use Rattle.lset_command.specs.CommandLine.{values_in}
use Rattle.lset_command.proofs.FoundValues.{by_all_names, one_more, no_more}
use Rattle.lset_command.proofs.command_line.values_of.Goals as goal

pub loop-name-init : goal.loop-name-init
loop-name-init c =
    let all = ap ids_left c.into_iter-name-iterator.ensures.into_iter_gives ∙ c.ids-name-items.ensures in
    rw c.new-values.ensures.items (by_all_names (found_of c.args.found.now) _ all)

pub loop-name-preserved : goal.loop-name-preserved
loop-name-preserved c =
    let f = found_of c.args.found.now in
    one_more (rows_of f) (values_in (rows_of f)) (map string_bytes c.loop-name.values.items)
    (map string_bytes c.push_values.new.values.items) c.in-Some.name.now
    (ids_left c.loop-name.name-iterator) (ids_left c.next.new.self) c.loop-name.invariant c.in-Some.ensures.steps.0
    c.in-Some.ensures.steps.1 c.in_ok-push_values.ensures

pub returns : goal.returns
returns c =
    let f = found_of c.args.found.now in
    no_more (rows_of f) (values_in (rows_of f)) (map string_bytes c.loop-name.values.items) (ids_left c.loop-name.name-iterator)
    c.loop-name.invariant c.in-None.ensures.steps.0
