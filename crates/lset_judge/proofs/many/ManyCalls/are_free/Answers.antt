use Rattle.std.proofs.Common.{◌≡◌, ◌≤◌, List, All, true, false, refl, sym, ap, ◌∙◌, subst}
use Rattle.std.specs.Prelude.{is_some, not}
use Rattle.std.specs.Option.{option_copied}
use Rattle.std.specs.Bool.{nat_eq}
use Rattle.lset_judge.specs.declared.stream.StreamCall.{StreamCall}
use Rattle.lset_judge.specs.declared.stream.Pending.{Pending}
use Rattle.lset_judge.specs.Pending.{last_end}
use Rattle.lset_judge.proofs.ManyFound.{found, free_early, free_over, free_told}
use Rattle.lset_judge.proofs.many.ManyCalls.are_free.Goals as goal

abbrev Free : StreamCall → Pending → Type 0
Free x p = p.call.thread ≡ x.thread → p.end ≤ x.begun

pub returns-then-end-call : goal.returns-then-end-call
returns-then-end-call c =
    let s = c.self.inside in let x = c.args.call in (
      λ t. subst (All (Free x)) c.self.view_is
          (free_early (last_end s.busy) x.thread x.begun s.calls.entries c.self.invariant.known (subst (λ e. e ≤ x.begun) c.last_end-end.ensures c.if-end-call.true)),
      λ all. refl,
    )

pub returns-in-Some : goal.returns-in-Some
returns-in-Some c =
    let s = c.self.inside in let x = c.args.call in let b = nat_eq c.in-Some.other.now.thread x.thread in
    subst (λ (ps : List Pending). (not b ≡ true → All (Free x) ps) × (All (Free x) ps → not b ≡ true)) c.self.view_is
    (free_told (last_end s.busy) x.thread x.begun s.calls c.self.invariant.known c.len.ensures.unique c.last_end-end.result c.in-Some.other.now
    (sym c.last_end-end.ensures) (sym c.get.ensures.value ∙ ap option_copied c.in-Some.is) c.if-end-call.false b refl)

pub returns-in-None : goal.returns-in-None
returns-in-None c =
    let s = c.self.inside in let x = c.args.call in (
      λ t. subst (All (Free x)) c.self.view_is
          (free_over (last_end s.busy) x.thread x.begun s.calls.entries c.self.invariant.known
          (subst (λ e. found e s.calls.entries ≡ false) c.last_end-end.ensures (ap is_some (sym c.get.ensures.value ∙ ap option_copied c.in-None.is)))),
      λ all. refl,
    )
