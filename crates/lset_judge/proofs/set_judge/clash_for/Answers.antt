use Rattle.std.proofs.Common.{sym, subst}
use Rattle.std.specs.Prelude.{Option, IfSome, List, ℕ}
use Rattle.lset_words.specs.declared.effect.Presence.{Presence}
use Rattle.lset_judge.specs.declared.clash.Clash.{Clash}
use Rattle.lset_judge.specs.Facts.{ClashesStream}
use Rattle.lset_judge.proofs.FactsGoOn.{clash_of_met, clash_of_left}
use Rattle.lset_judge.proofs.FactsSuffice.{none_met, none_left}
use Rattle.lset_judge.proofs.set_judge.clash_for.Goals as goal

pub returns-in-None-clause-found : goal.returns-in-None-clause-found
returns-in-None-clause-found c =
    let s = c.args.stream.now in let refusal = c.args.refusal in
    subst (λ (left : Option Presence). IfSome c.clash_met.result (λ (d : Clash). (opening : List ℕ) → ClashesStream opening refusal left s d)) (sym c.in-None.is)
    (clash_of_met s refusal c.requires.told c.clash_met.result c.clash_met.ensures)

pub returns-in-None-clause-missed : goal.returns-in-None-clause-missed
returns-in-None-clause-missed c =
    none_met c.args.stream.now c.args.refusal c.args.left c.clash_met.result c.requires.told c.requires.left c.in-None.is c.clash_met.ensures

pub returns-in-Some-clause-missed : goal.returns-in-Some-clause-missed
returns-in-Some-clause-missed c =
    none_left c.args.stream.now c.args.refusal c.args.left c.in-Some.there c.clash_left.result c.requires.told c.requires.left c.in-Some.is
    c.clash_left.ensures.missed

pub returns-in-Some-clause-found : goal.returns-in-Some-clause-found
returns-in-Some-clause-found c =
    let s = c.args.stream.now in let refusal = c.args.refusal in
    subst (λ (left : Option Presence). IfSome c.clash_left.result (λ (d : Clash). (opening : List ℕ) → ClashesStream opening refusal left s d)) (sym c.in-Some.is)
    (clash_of_left s refusal c.in-Some.there c.clash_left.result c.clash_left.ensures.found)
