use Rattle.std.proofs.Common.{◌≡◌, sym, subst, ap, ◌∙◌}
use Rattle.std.specs.List.Sorted.{IsStrictlyIncreasing}
use Rattle.lset_words.specs.SequentialSet.{has_key}
use Rattle.lset_history.specs.Changes.{changes_in, noted_of}
use Rattle.lset_history.proofs.ChangeNoted.{noted_in, items_in}
use Rattle.lset_history.proofs.MomentSearch.{increases_behind}
use Rattle.lset_history.proofs.changes.Changes.noted.Goals as goal

pub returns-in-Some-clause-value : goal.returns-in-Some-clause-value
returns-in-Some-clause-value c =
    let is : noted_of c.args.self.now c.args.key ≡ c.deref.result.now =
    rw (← c.self.view_is) (noted_in c.self.inside.opening.items c.self.inside.moments c.args.key
    ∙ ap items_in (sym c.in-Some.ensures.value) ∙ sym c.deref.ensures.value) in
    sym is

pub returns-in-Some-clause-increases : goal.returns-in-Some-clause-increases
returns-in-Some-clause-increases c =
    subst IsStrictlyIncreasing (noted_in c.self.inside.opening.items c.self.inside.moments c.args.key
    ∙ ap items_in (sym c.in-Some.ensures.value) ∙ sym c.deref.ensures.value)
    (increases_behind (has_key c.args.key c.self.inside.opening.items)
    (noted_of (changes_in c.self.inside.opening.items c.self.inside.moments) c.args.key) (c.self.invariant.increase c.args.key))

pub returns-in-None-clause-value : goal.returns-in-None-clause-value
returns-in-None-clause-value c =
    rw (← c.self.view_is) (sym (noted_in c.self.inside.opening.items c.self.inside.moments c.args.key
    ∙ ap items_in (sym c.in-None.ensures.value)))
