-- Proof that each run of a machine (a list algorithm as a table of steps) has an account, which states how each event
-- changes the keys of the set. The machine must satisfy its law.
use Rattle.std.specs.Prelude.{◌≡◌, ◌≢◌, ℕ, ◌<◌, ◌≤◌, Bool, true, false, ◌==◌, if◌then◌else◌, Option, Some, None, length, refl}
use Rattle.std.proofs.Common.{arith, inl, inr, sym, ◌∙◌, ap, subst, zero, suc}
use Rattle.std.proofs.lemmas.List.FromFn.{get_or-map-range_with_len}
use Rattle.lset_words.proofs.Numbers.{same_or_not, equal_test, unequal_test}
use Rattle.lset_words.specs.declared.Key.{Key}
use Rattle.lset_words.specs.declared.Call.{Call}
use Rattle.lset_words.specs.declared.Reply.{Reply}
use Rattle.lset_words.specs.Log.{LastCall, begun_at, has_changed, last_call, maker, last_after, last_at}
use Rattle.lset_words.specs.Log.Entry.{stepped}
use Rattle.lset_words.proofs.LastCalls.{last_own}
use Rattle.lset_words.specs.Account.{Account, Enters, Contents, Counts, MayChange, RightReply}
use Rattle.lset_steps.specs.declared.Local.{Local}
use Rattle.lset_steps.specs.declared.Event.{Event}
use Rattle.lset_steps.specs.declared.Event.TheVariants.{Begin, Go}
use Rattle.lset_steps.specs.Steps.{Table, Run, Enabled, state_at, after, told, local_of, seen_next, idle, entry_of, log_of}
use Rattle.lset_steps.specs.Chain.{View, view, InContent, contents_of, counts_of}
use Rattle.lset_steps.specs.Laws.{Lawful, StateLaws, StepAt, views, view_of, used_in, Answered}
use Rattle.lset_words.specs.Words.{Opening, sizes}
use Rattle.lset_steps.proofs.Openings.{content_opens}
use Rattle.lset_steps.proofs.Discipline.{pick_yes, pick_not, put_same, put_other}

-- Returns the keys of the set at each moment of a run. `counts_at` returns the number of successful adds by each
-- thread.
abbrev pub contents_at : Table → Opening → (ℕ → Event) → Contents
contents_at T op es = contents_of (views T op es)

abbrev pub counts_at : Table → Opening → (ℕ → Event) → Counts
counts_at T op es = counts_of (views T op es)

-- Holds if the log and the thread's private state agree on the thread's last call, and on whether the call is pending.
pub record Tied (x : LastCall) (l : Local) : Type 0 where
  pub closed : l.pc ≡ 0 → x.pending ≡ false
  pub opened : l.pc ≢ 0 → (x.pending ≡ true) × (l.call ≡ x.call)

tied_to : {x x' : LastCall} {l l' : Local} → x' ≡ x → l' ≡ l → Tied x l → Tied x' l'
tied_to {x} {x'} {l} {l'} a b t = subst (λ z. Tied z l') (sym a) (subst (λ z. Tied x z) (sym b) t)

module _ (T : Table) (law : Lawful T) (op : Opening) (es : ℕ → Event) (last : ℕ) (r : Run T op es last) where
  after_answer : (a : Option Reply) (ch : Option (Key × Bool)) (done : Bool) (vs : ℕ → View) (first now t : ℕ) (call : Call)
      (l : Local) (x : LastCall) → x.pending ≡ true → l.call ≡ x.call
      → Answered done op.quota vs first now t call l.pc a → Tied (last_after now (stepped t ch a) x) l
  after_answer None ch done vs first now t call l x o c a = record {
    closed = λ e. absurd (a e);
    opened = λ e. (rw o refl, c);
  }
  after_answer (Some y) ch done vs first now t call l x o c a = record {
    closed = λ e. rw o refl;
    opened = λ e. absurd (e a.0);
  }

  go_tied : (t k : ℕ) → t < length (state_at T op es k).locals
      → (last_at (log_of T op es) t k).pending ≡ true
      → (local_of (state_at T op es k) t).call ≡ last_call (log_of T op es) t k
      → StepAt T op es k t
      → Tied (last_after (suc k) (entry_of T (state_at T op es k) (Go t)) (last_at (log_of T op es) t k))
      (local_of (after T (state_at T op es k) (Go t)) t)
  go_tied t k len open_now call_is st =
      let fed = T.feed (local_of (state_at T op es k) t) (seen_next T (state_at T op es k) t) in
      tied_to refl (put_same (state_at T op es k) t fed.local len)
      (after_answer fed.answer (told T (state_at T op es k) (Go t)).change (has_changed (log_of T op es) t (suc k))
      (views T op es) (begun_at (log_of T op es) t (suc k)) (suc k) t (local_of (state_at T op es k) t).call fed.local
      (last_at (log_of T op es) t k) open_now (st.same_call ∙ call_is) st.answered)

  tied_step : (t : ℕ) → t < op.threads → (k : ℕ) → k < last → (e : Event) → es k ≡ e → Enabled (state_at T op es k) e
      → Tied (last_at (log_of T op es) t k) (local_of (state_at T op es k) t)
      → Tied (if maker (entry_of T (state_at T op es k) e) == t
      then last_after (suc k) (entry_of T (state_at T op es k) e) (last_at (log_of T op es) t k)
      else last_at (log_of T op es) t k)
      (local_of (after T (state_at T op es k) e) t)
  tied_step t th k l (Begin u call) ee en h = elim (same_or_not t u) [
    | inl y ↦ (
        let lo : local_of (after T (state_at T op es k) (Begin u call)) t
        ≡ T.begin call (local_of (state_at T op es k) u) =
        ap (λ z. local_of (after T (state_at T op es k) (Begin u call)) z) y
        ∙ put_same (state_at T op es k) u (T.begin call (local_of (state_at T op es k) u)) en.0 in
        let bg = law.begins call (local_of (state_at T op es k) u) in
        tied_to (pick_yes (u == t) _ _ (equal_test u t (sym y))) lo
        (record { closed = λ e. absurd (bg.opened e); opened = λ e. (refl, bg.called) }))
    | inr y ↦ tied_to (pick_not (u == t) _ _ (unequal_test u t (λ z. y (sym z))))
        (put_other (state_at T op es k) u t (T.begin call (local_of (state_at T op es k) u)) y) h
  ]
  tied_step t th k l (Go u) ee en h = elim (same_or_not t u) [
    | inl y ↦ (
        let en' : Enabled (state_at T op es k) (Go t) = subst (λ z. Enabled (state_at T op es k) (Go z)) (sym y) en in
        let st : StepAt T op es k t = law.steps op last k t es r l (ee ∙ ap (λ z. Go z) (sym y)) in
        let was = h.opened en'.1 in
        tied_to (pick_yes (u == t) _ _ (equal_test u t (sym y))) refl
        (subst (λ z. Tied (last_after (suc k) (entry_of T (state_at T op es k) (Go z)) (last_at (log_of T op es) t k))
        (local_of (after T (state_at T op es k) (Go z)) t)) y (go_tied t k en'.0 was.0 was.1 st)))
    | inr y ↦ tied_to (pick_not (u == t) _ _ (unequal_test u t (λ z. y (sym z))))
        (put_other (state_at T op es k) u t (T.feed (local_of (state_at T op es k) u)
        (seen_next T (state_at T op es k) u)).local y) h
  ]

  opening_local : (t : ℕ) → t < op.threads → local_of (state_at T op es 0) t ≡ idle op.quota t
  opening_local t h = get_or-map-range_with_len (idle op.quota) 0 op.threads t t (idle 0 0) h (omega arith)

  pub tied : (t : ℕ) → t < op.threads → (k : ℕ) → k ≤ last
      → Tied (last_at (log_of T op es) t k) (local_of (state_at T op es k) t)
  tied t th zero l = tied_to refl (opening_local t th) (record { closed = λ e. refl; opened = λ e. absurd (e refl) })
  tied t th (suc k) l = tied_step t th k (omega arith) (es k) refl (r.enabled k (omega arith)) (tied t th k (omega arith))

right_reply : (done : Bool) (q : ℕ) (vs : ℕ → View) (first now t : ℕ) (call : Call) (pc : ℕ) (a : Option Reply)
    → Answered done q vs first now t call pc a
    → RightReply done q (contents_of vs) (counts_of vs) first now t call a
right_reply true q vs first now t call pc None h = tt
right_reply false q vs first now t call pc None h = tt
right_reply true q vs first now t call pc (Some r) h = h.1
right_reply false q vs first now t call pc (Some r) h = h.1

module _ (T : Table) (law : Lawful T) (op : Opening) (es : ℕ → Event) (last : ℕ) (r : Run T op es last) where
  opened : (t : ℕ) → t < op.threads → used_in (state_at T op es 0) t ≡ 0
  opened t h = ap (λ (l : Local). l.used) (opening_local T law op es last r t h)

  enters_at : (k : ℕ) → k < last → (e : Event) → es k ≡ e → Enabled (state_at T op es k) e
      → Enters op.threads op.quota (log_of T op es) (contents_at T op es) (counts_at T op es) k
      (entry_of T (state_at T op es k) e)
  enters_at k l (Begin t call) ee en =
      let o : StateLaws T.marks (sizes op) (state_at T op es k) = law.states op last k es r (omega arith) in
      let th : t < op.threads = rw o.locals at en.0 in
      let ti = tied T law op es last r t th k (omega arith) in
      let now : state_at T op es (suc k) ≡ after T (state_at T op es k) (Begin t call) =
      ap (λ z. after T (state_at T op es k) z) ee in
      let same : used_in (after T (state_at T op es k) (Begin t call)) ≡ used_in (state_at T op es k) = λ j u. same_used u j in
      let view_is : views T op es (suc k) ≡ views T op es k = ap (λ z. view_of (sizes op) z) now
      ∙ ap (λ f. view (sizes op) (state_at T op es k).words f) same in record {
        of_a_thread = th;
        idle = ti.closed en.1;
        content = λ j. ((λ c. subst (λ v. InContent v j) (sym view_is) c), (λ c. subst (λ v. InContent v j) view_is c));
        same_counts = λ u h. ap (λ z. used_in z u) now ∙ same_used u;
      }
    where
      same_used : (u : ℕ) → used_in (after T (state_at T op es k) (Begin t call)) u ≡ used_in (state_at T op es k) u
      same_used u = elim (same_or_not u t) [
        | inl y ↦ (subst (λ z. used_in (after T (state_at T op es k) (Begin t call)) z ≡ used_in (state_at T op es k) z) (sym y)
            (ap (λ (l : Local). l.used) (put_same (state_at T op es k) t
            (T.begin call (local_of (state_at T op es k) t)) en.0) ∙ (law.begins call (local_of (state_at T op es k) t)).used))
        | inr y ↦ ap (λ (l : Local). l.used) (put_other (state_at T op es k) t u
            (T.begin call (local_of (state_at T op es k) t)) y)
      ]
  enters_at k l (Go t) ee en =
      let o : StateLaws T.marks (sizes op) (state_at T op es k) = law.states op last k es r (omega arith) in
      let th : t < op.threads = rw o.locals at en.0 in
      let ti = tied T law op es last r t th k (omega arith) in
      let was = ti.opened en.1 in
      let now : state_at T op es (suc k) ≡ after T (state_at T op es k) (Go t) = ap (λ z. after T (state_at T op es k) z) ee in
      let st : StepAt T op es k t = law.steps op last k t es r l ee in
      let ch : Option (Key × Bool) = T.effect (local_of (state_at T op es k) t) (seen_next T (state_at T op es k) t) in
      let fl : Local = (T.feed (local_of (state_at T op es k) t) (seen_next T (state_at T op es k) t)).local in
      let fa : Option Reply = (T.feed (local_of (state_at T op es k) t) (seen_next T (state_at T op es k) t)).answer in record {
        of_a_thread = th;
        under_way = was.0;
        content = st.content;
        own_count = ap (λ z. used_in z t) now ∙ ap (λ (l : Local). l.used)
            (put_same (state_at T op es k) t fl en.0) ∙ st.counts;
        other_counts = λ u h y. ap (λ z. used_in z u) now ∙ ap (λ (l : Local). l.used)
            (put_other (state_at T op es k) t u fl y);
        may = subst (λ c. MayChange op.quota (counts_at T op es k t) c (has_changed (log_of T op es) t k) ch) was.1 st.by_call;
        right = subst (λ c. RightReply (has_changed (log_of T op es) t (suc k)) op.quota (contents_at T op es) (counts_at T op es)
            (begun_at (log_of T op es) t k) (suc k) t c fa) was.1
            (subst (λ f. RightReply (has_changed (log_of T op es) t (suc k)) op.quota (contents_at T op es)
            (counts_at T op es) f (suc k) t (local_of (state_at T op es k) t).call fa) (begun_go k t ee)
            (right_reply (has_changed (log_of T op es) t (suc k)) op.quota (views T op es)
            (begun_at (log_of T op es) t (suc k)) (suc k) t (local_of (state_at T op es k) t).call fl.pc fa st.answered));
      }
    where
      begun_go : (k t : ℕ) → es k ≡ Go t → begun_at (log_of T op es) t (suc k) ≡ begun_at (log_of T op es) t k
      begun_go k t ee = ap (λ (x : LastCall). x.begun)
          (last_own (log_of T op es) t k (ap (λ z. entry_of T (state_at T op es k) z) ee) refl)

  pub account_of : Account op last (log_of T op es) (contents_at T op es) (counts_at T op es)
  account_of = record {
    increasing = r.opens.increasing;
    opens = content_opens op r.opens;
    none_yet = opened;
    enters = λ k l. enters_at k l (es k) refl (r.enabled k l);
  }
