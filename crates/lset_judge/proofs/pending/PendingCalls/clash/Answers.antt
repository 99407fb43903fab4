use Rattle.std.proofs.Common.{◌≡◌, ◌≢◌, ◌≤◌, ◌∙◌, ℕ, List, All, IfSome, MatchOption, sym, subst}
use Rattle.std.proofs.lemmas.Bool.{true≢false}
use Rattle.lset_words.specs.declared.Reply.{Reply}
use Rattle.lset_judge.specs.declared.stream.StreamCall.{StreamCall}
use Rattle.lset_judge.specs.declared.stream.StreamFault.{StreamFault}
use Rattle.lset_judge.specs.declared.stream.Pending.{Pending}
use Rattle.lset_judge.proofs.PendingFound.{all_right, told_of_few}
use Rattle.lset_judge.proofs.pending.PendingCalls.clash.Goals as goal

abbrev Apart : StreamCall → Pending → Type 0
Apart x p = (p.end ≢ x.begun) × IfSome x.ended (λ (e : ℕ × Reply). p.end ≢ e.0)

abbrev Free : StreamCall → Pending → Type 0
Free x p = p.call.thread ≡ x.thread → p.end ≤ x.begun

pub returns-then-not-are_apart : goal.returns-then-not-are_apart
returns-then-not-are_apart c = λ apart free.
    let s = c.self.inside in
    true≢false (sym (c.are_apart.ensures.1 (all_right (Apart c.args.call) s.few.items s.many
    (subst (All (Apart c.args.call)) (sym c.self.view_is) apart))) ∙ c.if-not-are_apart.true)

pub returns-then-is_some : goal.returns-then-is_some
returns-then-is_some c =
    let s = c.self.inside in let few = s.few.items in let x = c.args.call in
    told_of_few (Apart x) (Free x) few s.many c.args.self.now c.clash-fault.result c.self.view_is
    (sym c.is_some.ensures ∙ c.if-is_some.true)
    (subst (λ (ps : List Pending). MatchOption c.clash-fault.result (All (Apart x) ps × All (Free x) ps)
    (λ (f : StreamFault). All (Apart x) ps → All (Free x) ps → ⊥)) c.deref.ensures.value c.clash-fault.ensures)

pub returns-else-are_free : goal.returns-else-are_free
returns-else-are_free c = λ apart free.
    let s = c.self.inside in
    true≢false (sym (c.are_free.ensures.1 (all_right (Free c.args.call) s.few.items s.many
    (subst (All (Free c.args.call)) (sym c.self.view_is) free))) ∙ c.if-are_free.false)
