use Rattle.std.proofs.Common.{refl, sym, ◌∙◌}
use Rattle.lset_history.proofs.HistoryKept.{may_begin, too_early, begun_follows}
use Rattle.lset_history.proofs.history.History.begin.Goals as goal

pub returns-then-at-self-clause-refused : goal.returns-then-at-self-clause-refused
returns-then-at-self-clause-refused c =
    let i = c.self.inside in
    let kept = c.self.invariant in
    rw (← c.self.view_is) (
      c.if-thread-self.false,
      sym (kept.busy_if_open c.args.thread c.if-thread-self.false) ∙ c.if-self-thread.false,
      too_early _ i.busy i.latest c.args.at kept c.if-at-self.true,
    )

pub returns-clause-accepted : goal.returns-clause-accepted
returns-clause-accepted c =
    rw (← c.self.view_is) (may_begin _ c.self.inside.busy c.self.inside.latest _ _ c.self.invariant c.if-thread-self.false
    c.if-self-thread.false c.if-at-self.false)

pub returns-in_default-clause-refused : goal.returns-in_default-clause-refused
returns-in_default-clause-refused c =
    rw (← c.self.view_is) (may_begin _ c.self.inside.busy c.self.inside.latest _ _ c.self.invariant c.if-thread-self.false
    c.if-self-thread.false c.if-at-self.false)

pub push-requires : goal.push-requires
push-requires c = rw (← c.self.view_is) (begun_follows _ _ (may_begin _ c.self.inside.busy c.self.inside.latest _ _ c.self.invariant
    c.if-thread-self.false c.if-self-thread.false c.if-at-self.false) refl)
