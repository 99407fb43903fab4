use Rattle.std.proofs.Common.{rules, ◌≤◌, sym, subst, ◌∙◌}
use Rattle.std.proofs.lemmas.Bool.{both_ways}
use Rattle.std.proofs.lemmas.Option.{same_Some}
use Rattle.lset_history.specs.Changes.{moments_of}
use Rattle.lset_history.proofs.CeilingSearch.{past_the_end, some_there, none_is_smallest, it_is_smallest, it_is_absent, it_is_too_low}
use Rattle.lset_history.proofs.changes.Changes.first_ceiling.Goals as goal
use Rattle.lset_history.proofs.changes.Changes.first_ceiling.Goals.{in-Some, in-Some-2, in-None}
use Rattle.lset_history.proofs.changes.Changes.first_ceiling.Goals.{else-moment-to-via-then-moment-to+then-is_there+else-came_after}
use Rattle.lset_history.proofs.changes.Changes.first_ceiling.Goals.{else-moment-to-via-then-moment-to+else-is_there}
use Rattle.lset_history.proofs.changes.Changes.first_ceiling.Goals.{else-moment-to-via-else-moment-to}

pub returns-then-came_after-clause-first : goal.returns-then-came_after-clause-first
returns-then-came_after-clause-first c = elim c.match-found.branch [
  | in-Some w ↦ absurd (both_ways c.match-found.is_there w.is_there-is c.if-is_there.true)
  | in-Some-2 w ↦ it_is_smallest (moments_of c.args.self.now) c.args.key c.args.found c.args.from c.candidate-moment.result
      c.candidate-moment.ensures c.args.to w.in-Some-2.found w.in-Some-2.is
      (subst (λ x. c.args.key ≤ x) (same_Some w.in-Some.found w.in-Some-2.found (sym w.in-Some.is ∙ w.in-Some-2.is))
      w.if-found-key.false)
      (sym w.was_present-is_there.ensures ∙ sym w.is_there-is ∙ c.if-is_there.true) c.if-moment-to.true
      (c.came_after.ensures.came c.if-came_after.true)
  | in-None w ↦ none_is_smallest (moments_of c.args.self.now) c.args.key c.args.found c.args.from c.candidate-moment.result
      c.candidate-moment.ensures c.args.to w.in-None.is c.if-moment-to.true (c.came_after.ensures.came c.if-came_after.true)
]

pub returns-else-moment-to-clause-first : goal.returns-else-moment-to-clause-first
returns-else-moment-to-clause-first c = elim c.else-moment-to.branch [
  | else-moment-to-via-then-moment-to+then-is_there+else-came_after v ↦ some_there (moments_of c.args.self.now) c.args.key
      c.args.found c.args.from
      c.candidate-moment.result c.candidate-moment.ensures c.args.to (v.came_after.ensures.there v.if-came_after.false)
  | else-moment-to-via-then-moment-to+else-is_there v ↦ elim c.match-found.branch [
    | in-Some w ↦ it_is_too_low (moments_of c.args.self.now) c.args.key c.args.found c.args.from c.candidate-moment.result
        c.candidate-moment.ensures c.args.to w.in-Some.found w.in-Some.is w.if-found-key.true
    | in-Some-2 w ↦ it_is_absent (moments_of c.args.self.now) c.args.key c.args.found c.args.from c.candidate-moment.result
        c.candidate-moment.ensures c.args.to w.in-Some-2.found w.in-Some-2.is
        (sym w.was_present-is_there.ensures ∙ sym w.is_there-is ∙ v.if-is_there.false)
    | in-None w ↦ absurd (both_ways c.match-found.is_there v.if-is_there.false w.is_there-is)
  ]
  | else-moment-to-via-else-moment-to v ↦ search (rules, past_the_end)
]
