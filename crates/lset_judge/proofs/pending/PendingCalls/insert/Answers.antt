use Rattle.std.proofs.Common.{◌≢◌, ◌∷◌, ◌++◌, List, All, IsPermutation, sym, subst}
use Rattle.lset_judge.specs.declared.stream.Pending.{Pending}
use Rattle.lset_judge.proofs.PendingFound.{all_right, few_with, many_with_if}
use Rattle.lset_judge.proofs.pending.PendingCalls.insert.Goals as goal

pub returns-then-len-eq0 : goal.returns-then-len-eq0
returns-then-len-eq0 c = λ apart.
    let s = c.self.inside in let now = c.push.new.self.items in
    subst (λ (ps : List Pending). IsPermutation (c.args.pending ∷ ps) (now ++ s.many)) c.self.view_is
    (few_with s.few.items now s.many c.args.pending c.in_ok-push.ensures.items)

pub insert-requires : goal.insert-requires
insert-requires c =
    let s = c.self.inside in let p = c.args.pending in
    all_right (λ (q : Pending). q.call.thread ≢ p.call.thread) s.few.items s.many
    (subst (All (λ (q : Pending). q.call.thread ≢ p.call.thread)) (sym c.self.view_is) c.requires)

pub returns : goal.returns
returns c =
    let s = c.self.inside in
    many_with_if s.few.items s.many c.insert.new.self c.args.self.now c.args.pending c.insert.result c.self.view_is c.insert.ensures
