use Rattle.std.proofs.Common.{◌≡◌, ◌<◌, refl, sym, ap, ◌∙◌, arith}
use Rattle.lset_words.specs.Words.{target}
use Rattle.lset_steps.specs.declared.Fed.{Fed}
use Rattle.lset_steps.specs.ReadRows.{leaves_with}
use Rattle.lset_loops.proofs.StepsOfCall.{asks, called, moved, to_curr}
use Rattle.lset_loops.proofs.ContainsRows.{reading, begins, acts_20, acts_21, acts_22, fed_20, below, same, above, marked, falls}
use Rattle.lset_loops.proofs.reads.contains_on.Goals as goal

pub begin_at_head-requires-clause-acts : goal.begin_at_head-requires-clause-acts
begin_at_head-requires-clause-acts g c =
    let m = g.M.Machine.table in
    let laws = g.met.M.ReadsByRows.reading in
    let b = c.new-caller.result.origin in
    acts_20 m laws b c.new-caller.result.slots 0 ∙ ap m.next (sym (begins m laws b c.new-caller.result.slots c.args.key (ap (λ b. b.call) c.new-caller.ensures.origin)))

pub begin_at_head-requires-clause-goes_on : goal.begin_at_head-requires-clause-goes_on
begin_at_head-requires-clause-goes_on g c =
    let m = g.M.Machine.table in
    let laws = g.met.M.ReadsByRows.reading in
    let b = c.new-caller.result.origin in
    λ n. ap (λ l. (m.feed l n).answer) (begins m laws b c.new-caller.result.slots c.args.key (ap (λ b. b.call) c.new-caller.ensures.origin))
    ∙ ap (λ (f : Fed). f.answer) (fed_20 m laws b c.new-caller.result.slots 0 n)

pub loop-curr-init : goal.loop-curr-init
loop-curr-init g c =
    let m = g.M.Machine.table in
    let laws = g.met.M.ReadsByRows.reading in
    let b = c.new-caller.result.origin in
    let n = c.begin_at_head.result in
    to_curr c.behind-curr.ensures (moved c.begin_at_head.ensures
    (ap (λ l. (m.feed l n).local) (begins m laws b c.new-caller.result.slots c.args.key (ap (λ b. b.call) c.new-caller.ensures.origin))
    ∙ ap (λ (f : Fed). f.local) (fed_20 m laws b c.new-caller.result.slots 0 n)))

pub look_at_key-word-requires : goal.look_at_key-word-requires
look_at_key-word-requires g c = asks c.loop-curr.invariant (acts_21 g.M.Machine.table g.met.M.ReadsByRows.reading c.new-caller.result.origin c.new-caller.result.slots c.loop-curr.curr.number)

pub returns-then-word-target : goal.returns-then-word-target
returns-then-word-target g c =
    let m = g.M.Machine.table in
    let laws = g.met.M.ReadsByRows.reading in
    let b = c.new-caller.result.origin in
    let n = c.look_at_key-word.result in
    let gt : target b.call < n = omega (arith, c.new-caller.result.is_key, c.if-word-target.true, ap target (ap (λ b. b.call) c.new-caller.ensures.origin)) in
    called _ _ _ c.new-caller.ensures.origin
    (_, c.look_at_key-word.ensures.told _ c.loop-curr.invariant _ (above m laws b c.new-caller.result.slots _ n gt), refl)

pub look_at_link-mark-requires : goal.look_at_link-mark-requires
look_at_link-mark-requires g c =
    let m = g.M.Machine.table in
    let laws = g.met.M.ReadsByRows.reading in
    let b = c.new-caller.result.origin in
    let n = c.look_at_key-word.result in
    let eq : n ≡ target b.call = omega (arith, c.new-caller.result.is_key, c.if-word-target-2.true, ap target (ap (λ b. b.call) c.new-caller.ensures.origin)) in
    asks (c.look_at_key-word.ensures.told _ c.loop-curr.invariant _ (same m laws b c.new-caller.result.slots _ n eq)) (acts_22 m laws b c.new-caller.result.slots c.loop-curr.curr.number)

pub returns-then-word-target-2 : goal.returns-then-word-target-2
returns-then-word-target-2 g c =
    let m = g.M.Machine.table in
    let laws = g.met.M.ReadsByRows.reading in
    let b = c.new-caller.result.origin in
    let n = c.look_at_key-word.result in
    let eq : n ≡ target b.call = omega (arith, c.new-caller.result.is_key, c.if-word-target-2.true, ap target (ap (λ b. b.call) c.new-caller.ensures.origin)) in
    let at = c.look_at_key-word.ensures.told _ c.loop-curr.invariant _ (same m laws b c.new-caller.result.slots _ n eq) in
    called _ _ _ c.new-caller.ensures.origin (
      _,
      c.look_at_link-mark.ensures.told _ at _ (marked m laws b c.new-caller.result.slots _ c.look_at_link-mark.result
          ∙ ap (λ r. leaves_with r (reading b c.new-caller.result.slots 22 c.loop-curr.curr.number)) (sym c.reply_by_mark.ensures)),
      refl,
    )

pub look_at_link-link-requires : goal.look_at_link-link-requires
look_at_link-link-requires g c =
    let m = g.M.Machine.table in
    let laws = g.met.M.ReadsByRows.reading in
    let b = c.new-caller.result.origin in
    let n = c.look_at_key-word.result in
    let lt : n < target b.call =
    omega (arith, c.new-caller.result.is_key, c.if-word-target.false, c.if-word-target-2.false, ap target (ap (λ b. b.call) c.new-caller.ensures.origin)) in
    asks (c.look_at_key-word.ensures.told _ c.loop-curr.invariant _ (below m laws b c.new-caller.result.slots _ n lt)) (acts_20 m laws b c.new-caller.result.slots c.loop-curr.curr.number)

pub loop-curr-preserved : goal.loop-curr-preserved
loop-curr-preserved g c =
    let m = g.M.Machine.table in
    let laws = g.met.M.ReadsByRows.reading in
    let b = c.new-caller.result.origin in
    let n = c.look_at_key-word.result in
    let lt : n < target b.call =
    omega (arith, c.new-caller.result.is_key, c.if-word-target.false, c.if-word-target-2.false, ap target (ap (λ b. b.call) c.new-caller.ensures.origin)) in
    let at = c.look_at_key-word.ensures.told _ c.loop-curr.invariant _ (below m laws b c.new-caller.result.slots _ n lt) in
    to_curr c.behind-curr-in-loop-curr.ensures (c.look_at_link-link.ensures.told _ at _
    (fed_20 m laws b c.new-caller.result.slots _ c.look_at_link-link.result))

pub loop-curr-smaller : goal.loop-curr-smaller
loop-curr-smaller g c =
    let m = g.M.Machine.table in
    let laws = g.met.M.ReadsByRows.reading in
    let b = c.new-caller.result.origin in
    let n = c.look_at_key-word.result in
    let lt : n < target b.call =
    omega (arith, c.new-caller.result.is_key, c.if-word-target.false, c.if-word-target-2.false, ap target (ap (λ b. b.call) c.new-caller.ensures.origin)) in
    let at = c.look_at_key-word.ensures.told _ c.loop-curr.invariant _ (below m laws b c.new-caller.result.slots _ n lt) in
    falls m g.met.M.Machine.lawful g.met.M.OpenReads.reads b _ (ap (λ b. b.call) c.new-caller.ensures.origin) _ _ _ c.loop-curr.place
    _ _ n _ c.loop-curr.invariant c.look_at_key-word.ensures.goes at c.look_at_link-link.ensures.goes
    (c.look_at_link-link.ensures.told _ at _ (fed_20 m laws b c.new-caller.result.slots _ _))
