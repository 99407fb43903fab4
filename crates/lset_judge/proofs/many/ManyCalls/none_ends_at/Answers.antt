use Rattle.std.proofs.Common.{◌≡◌, ◌≢◌, List, All, true, refl, subst}
use Rattle.std.specs.Prelude.{not}
use Rattle.lset_judge.specs.declared.stream.Pending.{Pending}
use Rattle.lset_judge.proofs.ManyFound.{none_before, look_told}
use Rattle.lset_judge.proofs.many.ManyCalls.none_ends_at.Goals as goal

pub returns-then-are_after : goal.returns-then-are_after
returns-then-are_after c =
    let s = c.self.inside in (
      λ t. subst (All (λ (p : Pending). p.end ≢ c.args.moment)) c.self.view_is
          (none_before c.args.moment s.ends s.calls.entries c.self.invariant.held (c.are_after.ensures c.if-are_after.true)),
      λ all. refl,
    )

pub returns : goal.returns
returns c =
    let s = c.self.inside in let m = c.args.moment in let r = c.contains_key.result in
    subst (λ (ps : List Pending). (not r ≡ true → All (λ (p : Pending). p.end ≢ m) ps) × (All (λ (p : Pending). p.end ≢ m) ps → not r ≡ true)) c.self.view_is
    (look_told m s.calls.entries r c.contains_key.ensures)
