use Rattle.std.proofs.Common.{◌≤◌, sym}
use Rattle.std.proofs.lemmas.List.{get_or_read}
use Rattle.std.proofs.lemmas.Result.{MatchResult-from_err}
use Rattle.lset_history.proofs.SetReplies.{add_present, add_full, add_new, puts_in, keeps_add}
use Rattle.lset_history.proofs.oracle.Oracle.add.Goals as goal

pub returns-then-contains-clause-answers : goal.returns-then-contains-clause-answers
returns-then-contains-clause-answers c = rw (← c.self.view_is) (add_present _ c.args.thread c.args.key
    (sym c.if-contains.ensures))

pub returns-then-count-self-clause-answers : goal.returns-then-count-self-clause-answers
returns-then-count-self-clause-answers c =
    let low = rw (← c.self.view_is) at c.requires in
    let count = get_or_read c.self.inside.counts.items _ _ low c.index-count.ensures 0 in
    rw (← c.self.view_is) (add_full _ c.args.thread c.args.key _ count (sym c.if-contains.ensures) c.if-count-self.true)

pub invariant_of-self-2 : goal.invariant_of-self-2
invariant_of-self-2 c =
    let low = rw (← c.self.view_is) at c.requires in
    let count = get_or_read c.self.inside.counts.items _ _ low c.index-count.ensures 0 in
    let few : c.index-count.result.now ≤ c.self.inside.quota = rw count (c.self.invariant.few c.args.thread 0 low) in
    keeps_add c.self.inside.quota _ c.args.thread _ _ c.self.invariant c.insert.ensures.ordered few c.if-count-self.false

pub returns-clause-answers : goal.returns-clause-answers
returns-clause-answers c =
    let low = rw (← c.self.view_is) at c.requires in
    let count = get_or_read c.self.inside.counts.items _ _ low c.index-count.ensures 0 in
    rw (← c.self.view_is, c.in_ok-insert.ensures.keys)
    (add_new c.self.inside.quota (record { keys = c.self.inside.keys.keys; counts = c.self.inside.counts.items })
    c.args.thread c.args.key _ count (sym c.if-contains.ensures) c.if-count-self.false)

pub returns-in_err-insert-clause-growth : goal.returns-in_err-insert-clause-growth
returns-in_err-insert-clause-growth c =
    let low = rw (← c.self.view_is) at c.requires in
    let count = get_or_read c.self.inside.counts.items _ _ low c.index-count.ensures 0 in
    MatchResult-from_err _ _ _ c.from_residual.ensures.0 (λ _.
    rw (← c.self.view_is)
    (puts_in c.self.inside.quota (record { keys = c.self.inside.keys.keys; counts = c.self.inside.counts.items })
    c.args.thread c.args.key _ count (sym c.if-contains.ensures) c.if-count-self.false))
