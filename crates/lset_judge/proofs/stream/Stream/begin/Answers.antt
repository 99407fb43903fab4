use Rattle.std.proofs.Common.{◌≢◌, ◌∷◌, ◌∙◌, List, All, IsPermutation, ap, sym, subst, arith}
use Rattle.lset_words.specs.Words.{key_of}
use Rattle.lset_judge.specs.declared.stream.Pending.{Pending}
use Rattle.lset_judge.specs.Code.{event_as}
use Rattle.lset_judge.specs.Events.{kind_if, begin_event}
use Rattle.lset_judge.specs.Stream.{record_of, pending_of, key_in, IsMetBy}
use Rattle.lset_judge.proofs.CallBegins.{begins_apart, call_begun}
use Rattle.lset_judge.specs.Facts.{BeginIsKnown}
use Rattle.lset_judge.proofs.FactsGoOn.{begin_known}
use Rattle.lset_judge.proofs.FactsSuffice.{complete_begin}
use Rattle.lset_judge.proofs.stream.Stream.begin.Goals as goal

pub insert-requires : goal.insert-requires
insert-requires c = λ i d low e.
    let p = c.pending-pending.result in let x = c.args.call in let may = c.requires.may in
    let own = ap (λ (q : Pending). q.call.thread) c.pending-pending.ensures in
    let early = may.free i d low (e ∙ own) in let late = c.requires.met i d low in let ne = (may.apart i d low).0 in omega (arith, early, late, ne)

pub returns-clause-begun : goal.returns-clause-begun
returns-clause-begun c = λ threads opening calls low is.
    let s = c.args.self.now in let t = c.meet.new.self in let x = c.args.call in let p = c.pending-pending.result in
    let met = c.in_ok-meet.ensures.met in let own = c.pending-pending.ensures in
    let event = c.begin_event.ensures ∙ ap (λ k. begin_event k p.end) c.effect.ensures
    ∙ ap (begin_event (kind_if x.call x.ended)) (ap (λ q. q.end) own) in
    let apart = subst (λ (q : Pending). All (λ (r : Pending). r.end ≢ q.end) s.pending) (sym own)
    (begins_apart threads opening calls s is.stream (record_of x) c.requires.may c.requires.met) in
    let moved = subst (λ (ps : List Pending). IsPermutation (pending_of (record_of x) ∷ s.pending) ps) (sym met.pending)
    (subst (λ (q : Pending). IsPermutation (q ∷ s.pending) c.insert.new.self) own (c.in_ok-insert.ensures apart)) in
    let by = subst (λ v. IsMetBy s.states (key_of x.call).0 x.begun v t.states s.failed t.failed) event
    (subst (λ k. IsMetBy s.states k x.begun (event_as c.begin_event.result) t.states s.failed t.failed) (c.key.ensures ∙ ap (λ q. key_in q) own) met.by) in
    let known = subst (λ v. BeginIsKnown s.states (key_of x.call).0 v t.states s.failed s.clash) event
    (subst (λ k. BeginIsKnown s.states k (event_as c.begin_event.result) t.states s.failed s.clash) (c.key.ensures ∙ ap (λ q. key_in q) own)
    c.in_ok-meet.ensures.known) in record {
      stream = call_begun threads opening calls s is.stream (record_of x) c.requires.may c.requires.met low t moved met.at_moment by;
      known = begin_known opening calls (record_of x) s t c.requires.may.begins met.at_moment by known c.in_ok-meet.ensures.clash is.known;
      complete = complete_begin threads opening calls s is.stream (record_of x) c.requires.may c.requires.met t met.at_moment by known c.in_ok-meet.ensures.clash is.complete;
    }
