use Rattle.std.proofs.Common.{◌≡◌, Ok, refl, sym, ap, ◌∙◌, inr}
use Rattle.std.proofs.lemmas.Result.{on_ok_weaker, IfErr-weaker}
use Rattle.lset_recording.specs.Reading.{line_told, with_told}
use Rattle.lset_recording.proofs.LineKinds.{line_found_in, is_formed}
use Rattle.lset_recording.proofs.kept.Judging.read_line.Goals as goal

pub put-requires : goal.put-requires
put-requires c =
    is_formed c.in_ok-line.line (line_found_in c.args.self.now.section c.args.line.now c.in_ok-line.line (sym c.in_ok-line.ensures)).1

pub returns-clause-taken : goal.returns-clause-taken
returns-clause-taken c = on_ok_weaker c.put.result (λ taken s is.
    let l = c.in_ok-line.line in
    let same : line_told s.section c.args.line.now ≡ Ok l =
    ap (λ p. line_told p c.args.line.now) (sym is.section) ∙ sym c.in_ok-line.ensures in
    let found = line_found_in s.section c.args.line.now l same in
    let put = taken s is found.2 in
    (with_told s l, (l, same, put.0, refl), put.1, put.2)) c.put.ensures.taken

pub returns-clause-refused : goal.returns-clause-refused
returns-clause-refused c = IfErr-weaker c.put.result _ _ (λ cause refused other s is.
    let l = c.in_ok-line.line in
    let same : line_told s.section c.args.line.now ≡ Ok l =
    ap (λ p. line_told p c.args.line.now) (sym is.section) ∙ sym c.in_ok-line.ensures in
    let why = refused other in
    inr (l, same, why.1 s is, why.0)) c.put.ensures.refused
