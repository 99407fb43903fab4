use Rattle.std.proofs.Common.{◌∙◌, Some, List, ℕ, true, false, ap, sym}
use Rattle.lset_words.specs.Effects.{is_there}
use Rattle.lset_judge.specs.Code.{puts_in, takes_in}
use Rattle.lset_judge.proofs.EndsInHeap.{put_turned, none_turned}
use Rattle.lset_judge.proofs.RuleLeads.{at}
use Rattle.lset_judge.proofs.rule.KeyState.put.Goals as goal

pub returns-in-Some-clause-turned : goal.returns-in-Some-clause-turned
returns-in-Some-clause-turned c =
    let s = c.args.self.now in let t = c.pop_put.new.self in
    put_turned c.args.before s.turned _ (is_there s.there) (puts_in s.changes) (takes_in s.changes) (puts_in t) (ap is_there c.requires)
    c.in-Some.ensures.popped.0 c.in-Some.ensures.popped.1
    ∙ ap (λ (ks : List ℕ). Some (at true c.args.before (puts_in t) ks)) (sym c.pop_put.ensures.takes)

pub returns-in-None-clause-turned : goal.returns-in-None-clause-turned
returns-in-None-clause-turned c =
    let s = c.args.self.now in
    none_turned c.args.before s.turned (is_there s.there) false (puts_in s.changes) (takes_in s.changes) (ap is_there c.requires) c.in-None.ensures.popped
