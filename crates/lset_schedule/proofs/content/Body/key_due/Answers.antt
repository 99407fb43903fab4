use Rattle.std.proofs.Common.{arith, ℕ, List, sym, ◌∙◌, Bor}
use Rattle.std.proofs.lemmas.Bool.{eqb-true}
use Rattle.std.proofs.lemmas.List.{nil_from_length}
use Rattle.lset_schedule.proofs.BodyLoops.{key_told, not_due}
use Rattle.lset_schedule.proofs.content.Body.key_due.Goals as goal

pub returns-in-Two : goal.returns-in-Two
returns-in-Two g c =
    let none = nil_from_length c.args.self.now.lines.items
    (sym c.args.self.now.lines.ok.0 ∙ eqb-true c.args.self.now.lines.len 0 (sym c.is_empty.ensures ∙ c.if-is_empty.true)) in
    let now : Bor (List ℕ) → List ℕ = λ key. key.now in
    rw c.in-Two.is (key_told g.L.EventLine.lines c.args.self.now.lines.items c.args.line.now now c.opening_piece.result none
    c.opening_piece.ensures)

pub returns-in_default : goal.returns-in_default
returns-in_default g c =
    not_due g.L.EventLine.lines c.args.version c.args.self.now.lines.items c.args.line.now
    (grind arith)
