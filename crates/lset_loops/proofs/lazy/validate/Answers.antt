use Rattle.std.proofs.Common.{◌*◌, ◌%◌, None, refl, ap, sym}
use Rattle.lset_words.proofs.Numbers.{if_same, if_other}
use Rattle.lset_steps.specs.Rows.{decided_on}
use Rattle.lset_lazy.specs.Lazy.{targets}
use Rattle.lset_loops.specs.Calling.{row}
use Rattle.lset_loops.proofs.StepsOfCall.{moved, step}
use Rattle.lset_loops.proofs.lazy.validate.Goals as goal

pub returns-then-before-found : goal.returns-then-before-found
returns-then-before-found g c = (
  _,
  moved (c.load_link-before.ensures.leads _ c.requires.1) (if_other c.load_link-before.result (2 * c.args.found.curr.number)
      c.if-before-found.true _ _),
)

pub load_link-after-requires : goal.load_link-after-requires
load_link-after-requires g c =
    let at = moved (c.load_link-before.ensures.leads _ c.requires.1) (if_same c.load_link-before.result (2 * c.args.found.curr.number)
    c.if-before-found.false _ _) in
    step at refl (λ n. refl)

pub returns-then-after-ne0 : goal.returns-then-after-ne0
returns-then-after-ne0 g c =
    let at = moved (c.load_link-before.ensures.leads _ c.requires.1) (if_same c.load_link-before.result (2 * c.args.found.curr.number)
    c.if-before-found.false _ _) in
    (_, moved (c.load_link-after.ensures.leads _ at) (if_other (c.load_link-after.result % 2) 0 c.if-after-ne0.true _ _))

pub returns : goal.returns
returns g c =
    let at = moved (c.load_link-before.ensures.leads _ c.requires.1) (if_same c.load_link-before.result (2 * c.args.found.curr.number)
    c.if-before-found.false _ _) in
    let at' = moved (c.load_link-after.ensures.leads _ at) (if_same (c.load_link-after.result % 2) 0 c.if-after-ne0.false _ _) in (
      c.requires.0,
      moved at' (ap (λ n. decided_on targets c.args.found.word
          (row c.args.caller.now.slots c.args.caller.now.origin.call 7 None c.args.found.pred.number c.args.found.curr.number
          (record c.requires.0 { succ = n; ckey = c.args.found.word }))) (sym c.behind.ensures)),
    )
