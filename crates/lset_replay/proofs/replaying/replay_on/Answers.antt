use Rattle.std.proofs.Common.{◌≡◌, ℕ, List, length, ap, ◌∙◌, arith}
use Rattle.lset_words.specs.Words.{Opening}
use Rattle.lset_schedule.specs.declared.value.Line.{Line}
use Rattle.lset_schedule.specs.Plan.{Plan, view, first_event_line, opening_in}
use Rattle.lset_report.specs.Order.{placed_in}
use Rattle.lset_replay.specs.declared.events.LineEvent.{LineEvent}
use Rattle.lset_replay.specs.declared.places.Linearized.{Linearized}
use Rattle.std.specs.Prelude.{Option}
use Rattle.lset_replay.specs.Events.{events_of, events_from}
use Rattle.lset_replay.specs.Follows.{HasFollowed, IsStopped}
use Rattle.lset_replay.proofs.FollowedRuns.{tells_keys}
use Rattle.lset_replay.proofs.EventSteps.{at_first, are_steps}
use Rattle.lset_replay.proofs.FinalReport.{replay_is, explained_is}
use Rattle.lset_replay.proofs.WordsOfVersion.{words_of_version}
use Rattle.lset_replay.proofs.replaying.replay_on.Goals as goal

of_schedule : (P : Opening → List LineEvent → Type 0) (p : Plan) (op : Opening) (n : ℕ) (ls : List Line)
    → op ≡ opening_in p → n ≡ first_event_line p → ls ≡ p.lines → P op (events_from n ls) → P (opening_in p) (events_of p)
of_schedule P p op n ls opening first lines h = rw (opening, first, lines) at h

pub returns-in-Err-clause-replays : goal.returns-in-Err-clause-replays
returns-in-Err-clause-replays g c =
    let start = at_first g.M.Machine.table (opening_in (view c.args.schedule.now)) _ c.in_ok-world.world c.in_ok-recorder.recorder
    c.requires.opens c.in_ok-recorder.ensures.opening c.in_ok-world.ensures c.in_ok-recorder.ensures.trace
    c.in_ok-recorder.ensures.counted in
    c.refusal.ensures g.M.Machine.table _ _ (of_schedule (λ op es. IsStopped g.M.Machine.table op es c.in-Err.stopped)
    (view c.args.schedule.now) _ _ _ c.in_ok-recorder.ensures.opening c.first_event_line-first.ensures c.deref.ensures.value
    (c.in-Err.ensures.stopped g.M.Machine.table (λ w. w)
    (are_steps g.M.Machine.table c.has_account.ensures c.listed_content.ensures) start))

pub sorted_places-requires : goal.sorted_places-requires
sorted_places-requires g c =
    let few = c.follow.new.recorder.few in
    let same : length c.deref-2.result.now ≡ length c.follow.new.recorder.places.items =
    ap (λ (xs : List (Option Linearized)). length xs) c.deref-2.ensures.value in
    omega (arith, few.0, few.1)

pub returns-clause-replays : goal.returns-clause-replays
returns-clause-replays g c =
    let start = at_first g.M.Machine.table (opening_in (view c.args.schedule.now)) _ c.in_ok-world.world c.in_ok-recorder.recorder
    c.requires.opens c.in_ok-recorder.ensures.opening c.in_ok-world.ensures c.in_ok-recorder.ensures.trace
    c.in_ok-recorder.ensures.counted in
    let followed = of_schedule (λ op es. HasFollowed g.M.Machine.table op es (length es) c.follow.new.world c.follow.new.recorder)
    (view c.args.schedule.now) _ _ _ c.in_ok-recorder.ensures.opening c.first_event_line-first.ensures c.deref.ensures.value
    (c.in_default.ensures.followed g.M.Machine.table (λ w. w)
    (are_steps g.M.Machine.table c.has_account.ensures c.listed_content.ensures) start) in
    replay_is g.M.Machine.table (tells_keys g.M.Machine.table c.has_account.ensures c.listed_content.ensures)
    (view c.args.schedule.now) _ _ _ _ followed
    (record {
      sorted = c.in_ok-places.places.items;
      are = rw c.deref-2.ensures.value at c.in_ok-places.ensures;
      is = c.in_ok-order.ensures ∙ ap placed_in c.deref-3.ensures.value;
    })
    c.in_ok-keys.ensures

pub returns-clause-explained : goal.returns-clause-explained
returns-clause-explained g c = explained_is g.M.Machine.table c.placement_explains_runs.ensures (view c.args.schedule.now) _
    (returns-clause-replays g c)

pub returns-clause-in_words : goal.returns-clause-in_words
returns-clause-in_words g c = words_of_version g.M.Machine.table (view c.args.schedule.now) _ (returns-clause-replays g c)
    (returns-clause-explained g c)
