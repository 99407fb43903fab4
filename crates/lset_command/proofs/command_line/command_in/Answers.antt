use Rattle.std.proofs.Common.{◌∙◌, ap, sym, map, arith}
use Rattle.std.proofs.lemmas.List.{drop_all}
use Rattle.lset_command.specs.CommandLine.{command_in, row_of}
use Rattle.lset_command.proofs.TableRows.{found_row, other_row}
use Rattle.lset_command.proofs.command_line.command_in.Goals as goal

pub returns-then-eq : goal.returns-then-eq
returns-then-eq c =
    found_row c.args.name.now c.args.rows.now c.loop-row.row-index _ c.loop-row-test.true c.loop-row.invariant
    (sym c.eq.ensures ∙ c.if-eq.true)

pub loop-row-preserved : goal.loop-row-preserved
loop-row-preserved c =
    other_row c.args.name.now c.args.rows.now c.loop-row.row-index _ c.loop-row-test.true c.loop-row.invariant
    (sym c.eq.ensures ∙ c.if-eq.false)

pub returns : goal.returns
returns c =
    ap (λ rows. command_in c.args.name.now (map row_of rows)) (sym (drop_all c.loop-row.row-index c.args.rows.now (omega arith)))
    ∙ c.loop-row.invariant
