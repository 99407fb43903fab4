use Rattle.lset_words.specs.declared.Call.TheVariants.{Contains}
use Rattle.lset_live.proofs.FewSteps.{few_steps}
use Rattle.lset_live.proofs.SeenExplained.{has_answered}
use Rattle.lset_live.proofs.TypedReplies.{contains_reply, stands_for}
use Rattle.lset_live.proofs.set.LiveSet.contains_within_bound.Goals as goal

pub truth_of-requires : goal.truth_of-requires
truth_of-requires g c =
    let seen = c.contains_now_on-reply in
    contains_reply _ _ _ _ _ _ (has_answered g.M.Machine.table g.met.M.Machine.lawful c.runs_are_linearizable.ensures
    (Contains c.args.key) c.seat.inside.place seen.result.1 seen.new.place seen.ensures.place seen.ensures.made _ _
    c.seat.view_is c.requires)

pub returns : goal.returns
returns g c =
    let T = g.M.Machine.table in
    let law = g.met.M.Machine.lawful in
    let s = c.seat.inside.place in
    let seen = c.contains_now_on-reply in
    record {
      answered = stands_for _ _ _ _ _ _ (has_answered T law c.runs_are_linearizable.ensures (Contains c.args.key) s seen.result.1
          seen.new.place seen.ensures.place seen.ensures.made _ _ c.seat.view_is c.requires) _ c.truth_of.ensures;
      within = few_steps T law g.met.M.OpenReads.reads c.args.key s seen.result.1 seen.new.place seen.ensures.made
          _ _ c.seat.view_is c.requires;
    }
