use Rattle.std.proofs.Common.{◌≡◌, ◌≤◌, ℕ, List, All, MatchOption, map, subst}
use Rattle.lset_judge.specs.declared.stream.StreamCall.{StreamCall}
use Rattle.lset_judge.specs.declared.stream.Pending.{Pending}
use Rattle.lset_judge.specs.Pending.{pending_at, last_end, IsNext}
use Rattle.lset_judge.proofs.ManyFound.{next_told, known_after}
use Rattle.lset_judge.proofs.many.ManyCalls.next_before.Goals as goal

pub invariant_of-self : goal.invariant_of-self
invariant_of-self c =
    let s = c.self.inside in let p = c.pop_before in record {
      known = known_after (λ (e : ℕ × StreamCall). last_end s.busy e.1.thread ≡ e.0) c.args.moment s.calls.entries p.new.calls.entries p.result
          p.ensures.next c.self.invariant.known;
      held = p.ensures.held;
    }

pub returns : goal.returns
returns c =
    let s = c.self.inside in let m = c.args.moment in let p = c.pop_before in let now = map pending_at p.new.calls.entries in
    subst (λ (ps : List Pending). MatchOption p.result ((now ≡ ps) × All (λ (q : Pending). m ≤ q.end) ps) (λ (next : Pending). IsNext m ps next now)) c.self.view_is
    (next_told m s.calls.entries p.new.calls.entries p.result p.ensures.next)
