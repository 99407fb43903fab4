use Rattle.std.proofs.Common.{◌≡◌, ◌≢◌, ◌∷◌, ℕ, List, All, IsPermutation, map, sym, subst}
use Rattle.std.specs.Prelude.{Contains}
use Rattle.lset_judge.specs.declared.stream.StreamCall.{StreamCall}
use Rattle.lset_judge.specs.declared.stream.Pending.{Pending}
use Rattle.lset_judge.specs.Pending.{pending_at, last_end, AreHeld}
use Rattle.lset_judge.proofs.ManyFound.{known_same, known_still, known_own, each_with, many_with, held_more, held_own}
use Rattle.lset_judge.proofs.many.ManyCalls.insert.Goals as goal

abbrev Free : Pending → Pending → Type 0
Free p q = q.call.thread ≢ p.call.thread

pub invariant_of-self : goal.invariant_of-self
invariant_of-self c =
    let s = c.self.inside in record {
      known = known_same s.calls.entries (last_end s.busy) (last_end c.store.new.self) c.in_err-store.ensures.same c.self.invariant.known;
      held = c.self.invariant.held;
    }

pub invariant_of-self-in_err-push : goal.invariant_of-self-in_err-push
invariant_of-self-in_err-push c =
    let s = c.self.inside in let p = c.args.pending in record {
      known = known_still s.calls.entries (last_end s.busy) (last_end c.store.new.self) p (subst (All (Free p)) (sym c.self.view_is) c.requires)
          c.self.invariant.known c.in_ok-store.ensures.stored;
      held = subst (λ (ends : List ℕ). All (λ (e : ℕ × StreamCall). Contains ends e.0) s.calls.entries) (sym c.in_err-push.ensures.same) c.self.invariant.held;
    }

pub invariant_of-self-in_err-insert : goal.invariant_of-self-in_err-insert
invariant_of-self-in_err-insert c =
    let s = c.self.inside in let p = c.args.pending in
    subst (λ (es : List (ℕ × StreamCall)). AreHeld es c.push.new.self c.store.new.self) (sym c.in_err-insert.ensures.err) (record {
      known = known_still s.calls.entries (last_end s.busy) (last_end c.store.new.self) p (subst (All (Free p)) (sym c.self.view_is) c.requires)
          c.self.invariant.known c.in_ok-store.ensures.stored;
      held = held_more p.end s.ends c.push.new.self s.calls.entries c.in_ok-push.ensures.more c.self.invariant.held;
    })

pub invariant_of-self-2 : goal.invariant_of-self-2
invariant_of-self-2 c =
    let s = c.self.inside in let p = c.args.pending in let more = last_end c.store.new.self in let now = c.insert.new.self.entries in let ends = c.push.new.self in
    let free = subst (All (Free p)) (sym c.self.view_is) c.requires in record {
      known = each_with (λ (e : ℕ × StreamCall). more e.1.thread ≡ e.0) s.calls.entries now p.end p.call c.in_ok-insert.field-0
          c.in_ok-insert.ensures.entries (known_own s.calls.entries (last_end s.busy) more p free c.self.invariant.known c.in_ok-store.ensures.stored)
          (known_still s.calls.entries (last_end s.busy) more p free c.self.invariant.known c.in_ok-store.ensures.stored);
      held = each_with (λ (e : ℕ × StreamCall). Contains ends e.0) s.calls.entries now p.end p.call c.in_ok-insert.field-0 c.in_ok-insert.ensures.entries
          (held_own p.end s.ends ends c.in_ok-push.ensures.more) (held_more p.end s.ends ends s.calls.entries c.in_ok-push.ensures.more c.self.invariant.held);
    }

pub returns : goal.returns
returns c = λ apart.
    let s = c.self.inside in let p = c.args.pending in let now = c.insert.new.self.entries in
    subst (λ (ps : List Pending). IsPermutation (p ∷ ps) (map pending_at now)) c.self.view_is
    (many_with s.calls.entries now p c.in_ok-insert.field-0 c.in_ok-insert.ensures.old c.in_ok-insert.ensures.entries
    (subst (All (λ (q : Pending). q.end ≢ p.end)) (sym c.self.view_is) apart))
