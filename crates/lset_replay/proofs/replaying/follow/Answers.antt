use Rattle.std.proofs.Common.{◌+◌, List, sym, subst, Ok, Err, drop}
use Rattle.lset_replay.specs.declared.events.LineEvent.{LineEvent}
use Rattle.lset_replay.specs.Events.{events_from}
use Rattle.lset_replay.specs.Follows.{HasFollowed}
use Rattle.lset_replay.proofs.FollowedRuns.{tells_keys}
use Rattle.lset_replay.proofs.EventLists.{IsAhead, next_line, next_event, event_done, line_done, none_behind, all_behind}
use Rattle.lset_replay.proofs.EventSteps.{on_way, only_memory, stopped}
use Rattle.lset_replay.proofs.replaying.follow.Goals as goal

pub loop-index-init : goal.loop-index-init
loop-index-init g c = λ T state steps start.
    let es : List LineEvent = events_from c.args.first c.args.lines.now in
    record {
      ahead = subst (λ m. IsAhead es m (events_from (c.args.first + 0) (drop 0 c.args.lines.now))) (sym start.counted)
          (none_behind c.args.first c.args.lines.now);
      followed = subst (λ m. HasFollowed T c.args.recorder.now.history.opening es m (state c.args.world.now) c.args.recorder.now)
          (sym start.counted) start;
    }

pub loop-done-init : goal.loop-done-init
loop-done-init g c = λ T state steps start.
    let now = c.loop-index.invariant T state steps start in
    record {
      ahead = next_line c.args.first c.args.lines.now c.loop-index.index c.loop-index.recorder.last c.event_of-times.result.1
          c.event_of-times.result.0 c.loop-index-test.true c.event_of-times.ensures now.ahead;
      followed = now.followed;
    }

pub returns-in-Err-follow-clause-stopped : goal.returns-in-Err-follow-clause-stopped
returns-in-Err-follow-clause-stopped g c = λ T state steps start.
    let now = c.loop-done.invariant T state steps start in
    let there = next_event c.args.first c.args.lines.now c.loop-index.index c.loop-done.recorder.last c.event_of-times.result.1
    c.event_of-times.result.0 c.loop-done._done now.ahead c.loop-done-test.true in
    rw c.at.ensures (only_memory T (tells_keys T steps.account steps.listed) _ _ _ (state c.make.new.self) _ now.followed _ there
    c.in-Ok.told (steps.made _ _ (Ok c.in-Ok.told) _ c.in-Ok.ensures) c.in-Err-follow.cause c.in-Err-follow.ensures.memory)

pub returns-in-Err-clause-stopped : goal.returns-in-Err-clause-stopped
returns-in-Err-clause-stopped g c = λ T state steps start.
    let now = c.loop-done.invariant T state steps start in
    let there = next_event c.args.first c.args.lines.now c.loop-index.index c.loop-done.recorder.last c.event_of-times.result.1
    c.event_of-times.result.0 c.loop-done._done now.ahead c.loop-done-test.true in
    rw c.at-in-Err.ensures (stopped T _ _ _ _ _ now.followed _ there c.in-Err.cause (state c.make.new.self)
    (steps.made _ _ (Err c.in-Err.cause) _ c.in-Err.ensures))

pub loop-done-preserved : goal.loop-done-preserved
loop-done-preserved g c = λ T state steps start.
    let now = c.loop-done.invariant T state steps start in
    let there = next_event c.args.first c.args.lines.now c.loop-index.index c.loop-done.recorder.last c.event_of-times.result.1
    c.event_of-times.result.0 c.loop-done._done now.ahead c.loop-done-test.true in
    on_way T (tells_keys T steps.account steps.listed) _ _ _ (state c.make.new.self) _ now.followed _ there
    c.in-Ok.told (steps.made _ _ (Ok c.in-Ok.told) _ c.in-Ok.ensures) c.follow.new.self _ c.in_default.ensures.trace
    c.in_default.ensures.opening c.in_default.ensures.counted
    (event_done c.args.first c.args.lines.now c.loop-index.index c.loop-done.recorder.last c.event_of-times.result.1
    c.event_of-times.result.0 c.loop-done._done now.ahead c.loop-done-test.true)

pub loop-index-preserved : goal.loop-index-preserved
loop-index-preserved g c = λ T state steps start.
    let now = c.loop-done.invariant T state steps start in
    record {
      ahead = line_done c.args.first c.args.lines.now c.loop-index.index c.loop-done.recorder.last c.event_of-times.result.1
          c.event_of-times.result.0 c.loop-done._done now.ahead c.loop-done-test.false;
      followed = now.followed;
    }

pub returns-clause-followed : goal.returns-clause-followed
returns-clause-followed g c = λ T state steps start.
    let now = c.loop-index.invariant T state steps start in
    let es : List LineEvent = events_from c.args.first c.args.lines.now in
    subst (λ m. HasFollowed T c.args.recorder.now.history.opening es m (state c.loop-index.world) c.loop-index.recorder)
    (all_behind c.args.first c.args.lines.now c.loop-index.index c.loop-index.recorder.last c.loop-index-test.false now.ahead)
    now.followed
