use Rattle.std.proofs.Common.{◌≡◌, ◌++◌, ◌∙◌, ap, sym, map, take, Some, None, [], append-nil, arith}
use Rattle.std.proofs.lemmas.List.{take_all}
use Rattle.std.specs.String.{string_bytes}
use Rattle.clap.specs.Words.{found_of, rows_of}
use Rattle.lset_command.specs.CommandLine.{values_by}
use Rattle.lset_command.proofs.FoundValues.{got, none_of_option}
use Rattle.lset_command.proofs.command_line.push_values.Goals as goal

pub returns-then-is_option : goal.returns-then-is_option
returns-then-is_option c =
    let had = map string_bytes c.args.values.now.items in
    let rows = rows_of (found_of c.args.found.now) in
    let none : values_by c.args.name.now rows ≡ [] = none_of_option c.args.name.now rows (sym c.is_option.ensures
    ∙ c.if-is_option.true) in
    sym (ap (λ l. had ++ l) none ∙ append-nil had)

pub returns-in_default : goal.returns-in_default
returns-in_default c =
    let had = map string_bytes c.args.values.now.items in
    let none : values_by c.args.name.now (rows_of (found_of c.args.found.now)) ≡ [] =
    got (found_of c.args.found.now) c.args.name.now None (sym c.is_option.ensures ∙ c.if-is_option.false) c.in_default.ensures
    in
    sym (ap (λ l. had ++ l) none ∙ append-nil had)

pub returns : goal.returns
returns c =
    let had = map string_bytes c.args.values.now.items in
    let all : values_by c.args.name.now (rows_of (found_of c.args.found.now)) ≡ map (λ t. t.now) c.in-Some.texts.now =
    got (found_of c.args.found.now) c.args.name.now (Some _) (sym c.is_option.ensures ∙ c.if-is_option.false)
    c.in-Some.ensures in
    let whole : take c.loop-text.text-index c.in-Some.texts.now ≡ c.in-Some.texts.now = take_all _ _ (omega arith) in
    c.loop-text.invariant ∙ ap (λ ts. had ++ map (λ t. t.now) ts) whole ∙ ap (λ l. had ++ l) (sym all)
