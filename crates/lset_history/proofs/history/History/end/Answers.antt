use Rattle.std.proofs.Common.{◌<◌, length, arith}
use Rattle.lset_history.specs.History.{IsOpen}
use Rattle.lset_history.proofs.HistoryKept.{too_early, still_open, may_end, call_read, thread_read, kept_ended_read}
use Rattle.lset_history.proofs.history.History.end.Goals as goal

pub returns-then-at-self-clause-refused : goal.returns-then-at-self-clause-refused
returns-then-at-self-clause-refused c =
    let early = too_early _ c.self.inside.busy c.self.inside.latest c.args.at c.self.invariant c.if-at-self.true in
    rw (← c.self.view_is) (still_open _ _ _ (omega arith) c.index.ensures c.if-is_some.ensures, early)

pub overflow_cast-self : goal.overflow_cast-self
overflow_cast-self c =
    let calls = c.self.inside.calls.items in
    let low : c.args.id < length calls = omega arith in
    let thread = thread_read _ c.self.inside.busy c.self.inside.latest c.args.id _ c.self.invariant low
    (call_read calls _ _ low c.index.ensures) in
    omega (arith, thread)

pub bounds-self-inside-record : goal.bounds-self-inside-record
bounds-self-inside-record c =
    let calls = c.self.inside.calls.items in
    let low : c.args.id < length calls = omega arith in
    thread_read _ c.self.inside.busy c.self.inside.latest c.args.id _ c.self.invariant low
    (call_read calls _ _ low c.index.ensures)

pub invariant_of-self : goal.invariant_of-self
invariant_of-self c =
    let calls = c.self.inside.calls.items in
    let low : c.args.id < length calls = omega arith in
    let still : IsOpen calls c.args.id = still_open calls _ _ low c.index.ensures c.if-is_some.ensures in
    kept_ended_read _ c.self.inside.busy c.self.inside.latest c.args.id c.args.at c.args.reply _
    (call_read calls _ _ low c.index.ensures) c.self.invariant still c.if-at-self.false (omega arith)

pub returns-clause-accepted : goal.returns-clause-accepted
returns-clause-accepted c =
    let calls = c.self.inside.calls.items in
    let low : c.args.id < length calls = omega arith in
    let still : IsOpen calls c.args.id = still_open calls _ _ low c.index.ensures c.if-is_some.ensures in
    rw (← c.self.view_is) (may_end _ c.self.inside.busy c.self.inside.latest c.args.id c.args.at c.self.invariant still
    c.if-at-self.false)
