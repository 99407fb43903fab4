-- Proof that a `contains` on a list that marks nodes ends after a bounded number of steps.
use Rattle.std.proofs.Common.{◌≡◌, ℕ, zero, suc, ◌+◌, ◌-◌, ◌<◌, ◌==◌, Bool, true, false, length, Option, Some, None, refl, sym}
use Rattle.std.proofs.Common.{ap, ◌∙◌, subst, arith, if◌then◌else◌, inl, inr}
use Rattle.std.proofs.lemmas.Bool.{cases_Bool}
use Rattle.lset_words.specs.Log.{LastCall, maker, last_after, last_at}
use Rattle.lset_words.specs.declared.Key.{Key}
use Rattle.lset_words.specs.declared.Call.{Call}
use Rattle.lset_words.specs.declared.Call.TheVariants.{Contains}
use Rattle.lset_words.specs.declared.Reply.{Reply}
use Rattle.lset_steps.specs.declared.Event.{Event}
use Rattle.lset_steps.specs.declared.Event.TheVariants.{Begin, Go}
use Rattle.lset_steps.specs.BoundedReads.{BoundedReads, steps_since, steps_after, most_reads}
use Rattle.lset_steps.specs.declared.Fed.{Fed}
use Rattle.lset_steps.specs.Steps.{Table, event_at, state_at, local_of, log_of, entry_of}
use Rattle.lset_steps.specs.Laws.{Lawful}
use Rattle.lset_steps.specs.Promises.{IsContains}
use Rattle.lset_rule.specs.declared.view.PendingCall.{PendingCall}
use Rattle.lset_rule.specs.declared.view.View.{View}
use Rattle.lset_rule.specs.Runs.{Here, under_after, pending_of, end_of}
use Rattle.lset_rule.proofs.CallKnows.{Comes, is_mid, mid_open}
use Rattle.lset_rule.specs.Calls.{Goes, steps_of}
use Rattle.lset_rule.proofs.OneMoreEvent.{Tied}
use Rattle.lset_rule.proofs.MovesKeepRule.{stands_at, own_tied}
use Rattle.lset_words.specs.Words.{Opening, sizes}

-- Returns how many more steps a call can take after `steps` steps, if `bound` is the maximum number of steps of the
-- call. If the call has a reply, returns 0.
abbrev pub steps_left : Option Reply → ℕ → ℕ → ℕ
steps_left (Some r) bound steps = 0
steps_left None bound steps = bound - steps

counted : (T : Table) (k : Opening) (es : ℕ → Event) (t j : ℕ) → (last_at (log_of T k es) t j).steps ≡ steps_since es t j
counted T k es t zero = refl
counted T k es t (suc j) = by_event (es j) (counted T k es t j)
  where
    by_event : (e : Event) → (last_at (log_of T k es) t j).steps ≡ steps_since es t j
        → (if maker (entry_of T (state_at T k es j) e) == t
        then last_after (suc j) (entry_of T (state_at T k es j) e) (last_at (log_of T k es) t j)
        else last_at (log_of T k es) t j).steps ≡ steps_after e t (steps_since es t j)
    by_event (Begin u c) h = elim (cases_Bool (u == t)) [ inl y ↦ rw y refl | inr y ↦ rw y h ]
    by_event (Go u) h = elim (cases_Bool (u == t)) [ inl y ↦ rw y (ap (λ z. z + 1) h) | inr y ↦ rw y h ]

counted_is : (x : LastCall) (u : PendingCall) → pending_of x ≡ Some u → u.steps ≡ x.steps
counted_is x u = known x.pending
  where
    known : (b : Bool) → (if b then Some (record { call = x.call; begun = x.begun; steps = x.steps }) else None) ≡ Some u
        → u.steps ≡ x.steps
    known true e = let same : record { call = x.call; begun = x.begun; steps = x.steps } ≡ u = cc in
        sym (ap (λ (z : PendingCall). z.steps) same)
    known false e = absurd cc

pub not_yet : (m : Table) (law : Lawful m) → BoundedReads m → (key : Key) (v w : View) (f : Fed) → v.spent ≡ false →
    Comes m (Contains key) v f w → f.answer ≡ None
    → steps_of w.under < most_reads (sizes v.shape)
not_yet m law ends key v w f sp come none =
    let mid = is_mid m (Contains key) v w f come none in
    let at = stands_at m law w mid.1 (mid_open (Contains key) v w sp mid.0) in
    let tied = subst (λ o. Tied o (local_of (end_of m w.shape w.seen) w.thread)) mid.0.under (own_tied m law w mid.1) in
    let few = (ends w.shape (length w.seen) (length w.seen) w.thread (event_at w.seen) at.0.run (omega arith) at.0.thread
    at.0.open_call (subst (λ (c : Call). IsContains c) (sym tied.1) tt)).few in
    let is : mid.0.steps ≡ steps_since (event_at w.seen) w.thread (length w.seen) =
    counted_is (last_at (log_of m w.shape (event_at w.seen)) w.thread (length w.seen)) _
    (ap (λ (x : Here). x.under) mid.1.own ∙ mid.0.under) ∙ counted m w.shape (event_at w.seen) w.thread (length w.seen) in
    let low : mid.0.steps < most_reads (sizes w.shape) = subst (λ z. z < most_reads (sizes w.shape)) (sym is) few in
    subst (λ (s : _). steps_of w.under < most_reads (sizes s)) mid.0.same.1
    (subst (λ z. z < most_reads (sizes w.shape)) (sym (ap steps_of mid.0.under)) low)

pub one_more : (m : Table) (n : ℕ) (v w w' : View) (f f' : Fed) (c : Call) → Comes m c v f w → f.answer ≡ None → Comes m c v f' w'
    → f'.answer ≡ None → Goes m w n w' → steps_of w'.under ≡ steps_of w.under + 1
one_more m n v w w' f f' c come none come' none' goes =
    let mid = is_mid m c v w f come none in
    let mid' = is_mid m c v w' f' come' none' in
    by_answer (m.feed w.local n).answer w.under w'.under _ _ mid.0.under mid'.0.under (ap (λ (z : View). z.under) goes.3)
  where
    by_answer : (a : Option Reply) (o o' : Option PendingCall) (u u' : PendingCall) → o ≡ Some u → o' ≡ Some u' → o' ≡ under_after a o →
        steps_of o' ≡ steps_of o + 1
    by_answer (Some r) o o' u u' e e' is = absurd (nothing (sym is ∙ e'))
      where
        nothing : None ≡ Some u' → ⊥
        nothing p = subst (λ z. Empty z) p tt
          where
            Empty : Option PendingCall → Type 0
            Empty None = Unit {0}
            Empty (Some x) = ⊥
    by_answer None o o' u u' e e' is = ap steps_of is
        ∙ (ap (λ z. steps_of (under_after None z)) e ∙ sym (ap (λ z. steps_of z + 1) e))

pub falls : (m : Table) (law : Lawful m) → BoundedReads m → (key : Key) (n : ℕ) (v w w' : View) (f f' : Fed) → v.spent ≡ false →
    Comes m (Contains key) v f w → f.answer ≡ None
    → Comes m (Contains key) v f' w' → Goes m w n w'
    → steps_left f'.answer (most_reads (sizes v.shape)) (steps_of w'.under) < steps_left f.answer (most_reads (sizes v.shape))
    (steps_of w.under)
falls m law ends key n v w w' f f' sp come none come' goes =
    let low = not_yet m law ends key v w f sp come none in
    subst (λ a. steps_left f'.answer (most_reads (sizes v.shape)) (steps_of w'.under) < steps_left a (most_reads (sizes v.shape))
    (steps_of w.under)) (sym none) (by_end f'.answer refl low)
  where
    by_end : (a : Option Reply) → f'.answer ≡ a → steps_of w.under < most_reads (sizes v.shape)
        → steps_left a (most_reads (sizes v.shape)) (steps_of w'.under) < most_reads (sizes v.shape) - steps_of w.under
    by_end (Some r) e low = omega arith
    by_end None e low = let more = one_more m n v w w' f f' (Contains key) come none come' e goes in omega arith
