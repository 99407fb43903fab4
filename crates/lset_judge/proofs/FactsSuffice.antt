-- Proof: if some call on a key contradicts a call that ended before it started, the facts that the judge stores about
-- the key suffice to find a clash (two calls that contradict each other).
use Rattle.std.proofs.Common.{inl, inr, ◌≡◌, ◌≢◌, ◌⊎◌, ℕ, ◌+◌, ◌<◌, ◌≤◌, true, false, List, [], ◌∷◌, ◌++◌, refl, sym, ap, ◌∙◌, arith, subst, get_or}
use Rattle.std.proofs.Common.{append-nil, length-append}
use Rattle.std.specs.Prelude.{Option, Some, None, IfSome, IsSome, is_some, IsSomeAnd, All, Contains, ◌-◌}
use Rattle.std.proofs.lemmas.Bool.{cases_Bool, true≢false}
use Rattle.std.proofs.lemmas.List.{get_or_default, get_or_append_left}
use Rattle.std.proofs.lemmas.List.Elements.{All-contains, Contains-append_right, Contains-append_cases}
use Rattle.std.proofs.lemmas.List.Sorted.{Contains-permutation}
use Rattle.lset_words.specs.declared.Call.{Call}
use Rattle.lset_words.specs.declared.Key.{Key}
use Rattle.lset_words.specs.declared.Reply.{Reply}
use Rattle.lset_words.specs.declared.history.CallRecord.{CallRecord}
use Rattle.lset_words.specs.declared.effect.Presence.{Presence}
use Rattle.lset_words.specs.declared.effect.Presence.TheVariants.{Present, Absent}
use Rattle.lset_words.specs.declared.effect.Effect.{Effect}
use Rattle.lset_words.specs.declared.effect.Effect.TheVariants.{Changes, Sees, Other}
use Rattle.lset_words.specs.SequentialSet.{has_key}
use Rattle.lset_words.specs.Effects.{presence, effect_of}
use Rattle.lset_words.specs.Words.{key_of}
use Rattle.lset_words.specs.History.{IsHistory, call_numbered, no_call}
use Rattle.lset_words.proofs.Numbers.{same_or_not, below_or_not}
use Rattle.lset_history.specs.History.{latest_moment}
use Rattle.lset_history.proofs.Pairs.{pairs_head}
use Rattle.lset_judge.specs.declared.clash.Clash.{Clash}
use Rattle.lset_judge.specs.declared.stream.StreamCall.{StreamCall}
use Rattle.lset_judge.specs.declared.stream.Pending.{Pending}
use Rattle.lset_judge.specs.declared.stream.Failed.{Failed}
use Rattle.lset_judge.specs.declared.stream.Refusal.{Refusal}
use Rattle.lset_judge.specs.declared.stream.Stream.{Stream}
use Rattle.lset_judge.specs.declared.stream.StreamVerdict.TheVariants.{NotLinearizable}
use Rattle.lset_judge.specs.Rule.{Event}
use Rattle.lset_judge.specs.Events.{Kind, changes, sees, nothing, kind_as, kind_if, until_if, begin_event}
use Rattle.lset_judge.specs.Verdict.{is_plain}
use Rattle.lset_judge.specs.Rest.{has_ended, turns_to}
use Rattle.lset_judge.specs.Clash.{record_if, other, left_so, needed_by, leaves_if, needs_if, since_of, is_before, EndsBefore, ComesFirst, HasNoClash, IsOf, NothingTurns, WasSo, Clashes, InOrder, IsClash}
use Rattle.lset_judge.specs.Stream.{behind_all, record_of, pending_of, key_in, event_of, IsMetBy, IsToldBy, MayCome, IsStreamOf, IsJudgedTo, state_for, failed_verdict}
use Rattle.lset_judge.specs.Facts.{Facts, first_of, is_call, call_kept, until_of, facts_opened, facts_for, begun_by, IsEnded, AreFacts, AreKnownBy}
use Rattle.lset_judge.specs.Facts.{IsStanding, ComesAfter, IsClashing, BeginIsKnown, EndIsKnown, clash_met, clash_with}
use Rattle.lset_judge.specs.Facts.{IsLatest, IsPast, IsAsGood, AreComplete, NoneMissed, AreCompleteBy, HasNone}
use Rattle.lset_judge.specs.Pending.{IsNext}
use Rattle.lset_judge.specs.Judge.{left_by}
use Rattle.lset_judge.proofs.EventLemmas.{if_some, for_some, none_or_some}
use Rattle.lset_judge.proofs.TimelineFromOrder.{begins_differ, end_apart}
use Rattle.lset_judge.proofs.StreamSteps.{same_some, until_end, first_or_later, ends_moved}
use Rattle.lset_judge.proofs.ClashOfKey.{left_end, need_end, some_same, ended_by_then, before_end}
use Rattle.lset_judge.proofs.ClosingVerdict.{all_over}
use Rattle.lset_judge.proofs.FactsGoOn.{is_of_more, was_still, first_still, is_own, has_next, ends_now, clash_found, never_fails}
use Rattle.lset_judge.proofs.NoClashYet.{none_yet}

-- ---- Lemmas about the states of a key

other_twice : (p : Presence) → other (other p) ≡ p
other_twice Present = refl
other_twice Absent = refl

same_or_other : (p q : Presence) → (p ≡ q) ⊎ (p ≡ other q)
same_or_other Present Present = inl refl
same_or_other Present Absent = inr refl
same_or_other Absent Present = inr refl
same_or_other Absent Absent = inl refl

never_other : (p : Presence) → p ≡ other p → ⊥
never_other Present e = cc
never_other Absent e = cc

changes_or_needs : (f : Effect) (q : Presence) → left_so f ≡ Some q → (turns_to q (kind_as f) ≡ true) ⊎ (needed_by f ≡ Some q)
changes_or_needs (Changes Present) Present e = inl refl
changes_or_needs (Changes Absent) Absent e = inl refl
changes_or_needs (Changes Present) Absent e = absurd cc
changes_or_needs (Changes Absent) Present e = absurd cc
changes_or_needs (Sees r) q e = inr e
changes_or_needs Other q e = absurd cc

turns_or_needs : (c : Call) (o : Option (ℕ × Reply)) (q : Presence) → leaves_if c o ≡ Some q
    → (turns_to q (kind_if c o) ≡ true) ⊎ (needs_if c o ≡ Some q)
turns_or_needs c None q h = absurd cc
turns_or_needs c (Some e) q h = changes_or_needs (effect_of c e.1) q h

-- ---- Lemmas about calls that have ended

past_later : (m n : ℕ) (o : Option CallRecord) → m ≤ n → IsPast m o → IsPast n o
past_later m n None up h = tt
past_later m n (Some x) up h = for_some (λ (e : ℕ × Reply). e.0 ≤ n) x.ended (λ e q. let l = if_some (λ (d : ℕ × Reply). d.0 ≤ m) x.ended e q h in omega (arith, l, up))

if_some_and : (P Q : ℕ × Reply → Type 0) (o : Option (ℕ × Reply)) → ((e : ℕ × Reply) → P e → Q e) → IsSomeAnd o P → IfSome o Q
if_some_and P Q None f h = tt
if_some_and P Q (Some e) f h = f e h

ends_past : (m n : ℕ) (o : Option CallRecord) → n ≤ m → EndsBefore o n → IsPast m o
ends_past m n None up h = tt
ends_past m n (Some x) up h = if_some_and (λ (e : ℕ × Reply). e.0 < n) (λ (e : ℕ × Reply). e.0 ≤ m) x.ended (λ e l. omega (arith, l, up)) h

if_ended : (P : ℕ × Reply → Type 0) (o : Option (ℕ × Reply)) (e : ℕ × Reply) → o ≡ Some e → IsSomeAnd o P → P e
if_ended P o e s h = subst (λ (q : Option (ℕ × Reply)). IsSomeAnd q P) s h

ended_before : (n : ℕ) (x : CallRecord) (e : ℕ × Reply) → x.ended ≡ Some e → e.0 < n → EndsBefore (Some x) n
ended_before n x e s l = subst (λ (o : Option (ℕ × Reply)). IsSomeAnd o (λ (d : ℕ × Reply). d.0 < n)) (sym s) l

ended_past : (m : ℕ) (x : CallRecord) (e : ℕ × Reply) → x.ended ≡ Some e → e.0 ≤ m → IsPast m (Some x)
ended_past m x e s l = subst (λ (o : Option (ℕ × Reply)). IfSome o (λ (d : ℕ × Reply). d.0 ≤ m)) (sym s) l

in_order : (calls : List CallRecord) (key : ℕ) (there : Presence) (left : Option Presence) (first second : Option CallRecord) → ComesFirst first second
    → InOrder calls key there left first second
in_order calls key there left None second h = tt
in_order calls key there left (Some x) None h = tt
in_order calls key there left (Some x) (Some y) h = inl h

ended_or_pending : (threads : ℕ) (opening : List ℕ) (calls : List CallRecord) (s : Stream) → IsStreamOf threads opening calls s → (y : CallRecord) (e : ℕ × Reply)
    → Contains calls y → y.ended ≡ Some e → (e.0 ≤ s.moment) ⊎ (Contains s.pending (pending_of y) × ((pending_of y).end ≡ e.0))
ended_or_pending threads opening calls s is y e c ended =
    let at : call_numbered calls c.0 ≡ y = get_or_default calls c.0 no_call y c.1 ∙ c.2 in
    elim (is.pending.kept c.0 c.1) [
      | inl done ↦ inl (let u = done.2 in
          let same = ap (λ (d : ℕ × Reply). d.0) (same_some y.ended e done.0 ended (ap (λ (z : CallRecord). z.ended) (sym at) ∙ done.1)) in omega (arith, same, u))
      | inr q ↦ inr (subst (λ (z : CallRecord). Contains s.pending (pending_of z)) at q, until_end behind_all y.begun y.ended e ended)
    ]

latest_low : (calls : List CallRecord) (key : ℕ) (p : Presence) (n since : ℕ) (second : Option CallRecord) → IsLatest calls key p n → NothingTurns calls key p since second
    → ((x : CallRecord) → Contains calls x → is_before x.begun second ≡ true) → n ≤ since
latest_low calls key p n since second (inl z) none before = omega (arith, z)
latest_low calls key p n since second (inr y) none before =
    let x : CallRecord = y.0 in
    let ended = All-contains (λ (z : CallRecord). (key_of z.call).0 ≡ key → turns_to p (kind_if z.call z.ended) ≡ true → is_before z.begun second ≡ true
    → has_ended since z.ended ≡ true) calls x none y.1.known y.1.own y.2 (before x y.1.known) in
    let u = ended_by_then since (until_if behind_all x.begun x.ended) behind_all x x.ended refl refl ended in
    let v = y.3 in omega (arith, u, v)

-- ---- The stored facts suffice to find a clash when the set opens

pub complete_first : (opening : List ℕ) (k : ℕ) (f : Facts) → f ≡ facts_opened (presence (has_key k opening)) → AreComplete opening [] 0 k f
complete_first opening k f e = subst (AreComplete opening [] 0 k) (sym e) (record {
  latest = λ there. inl (none there);
  since = refl;
  past = tt;
  best = best;
})
  where
    there : Presence
    there = presence (has_key k opening)

    none : (p : Presence) → until_of p (facts_opened there) ≡ 0
    none Present = refl
    none Absent = refl

    best : (p : Presence) (first : Option CallRecord) → WasSo [] k there p first → IsPast 0 first → until_of (other p) (facts_opened there) ≤ since_of first
        → IsAsGood k (facts_opened there) p first
    best p None so past low = record { was = so; standing = low; early = λ n h. tt }
    best p (Some x) so past low = absurd (let c = so.0.known.1 in omega (arith, c))

-- ---- The stored facts still suffice to find a clash when a call starts

until_begun : (kind : Kind) (u : ℕ) (f : Facts) (there : Presence) → (until_of there (begun_by (begin_event kind u) f) ≡ until_of there f)
    ⊎ ((turns_to there kind ≡ true) × (until_of there (begun_by (begin_event kind u) f) ≡ u))
until_begun (changes true) u f Present = elim (below_or_not f.puts_until u) [ inl l ↦ inr (refl, omega (arith, l)) | inr l ↦ inl (omega (arith, l)) ]
until_begun (changes false) u f Present = inl refl
until_begun (changes true) u f Absent = inl refl
until_begun (changes false) u f Absent = elim (below_or_not f.takes_until u) [ inl l ↦ inr (refl, omega (arith, l)) | inr l ↦ inl (omega (arith, l)) ]
until_begun (sees w) u f there = inl refl
until_begun nothing u f there = inl refl

begun_still : (kind : Kind) (u : ℕ) (f : Facts) → (begun_by (begin_event kind u) f).begun ≡ f.begun
begun_still (changes w) u f = refl
begun_still (sees w) u f = refl
begun_still nothing u f = refl

module _ (opening : List ℕ) (calls : List CallRecord) (x : CallRecord) (m : ℕ) (later : m < x.begun) (ends : IfSome x.ended (λ (e : ℕ × Reply). x.begun < e.0))
    (begun : All (λ (y : CallRecord). y.begun ≤ m) calls)
    (over : (y : CallRecord) (e : ℕ × Reply) → Contains calls y → y.ended ≡ Some e → e.0 ≤ x.begun → e.0 ≤ m) where
  abbrev with_x : List CallRecord
  with_x = calls ++ x ∷ []

  begun_now : (y : CallRecord) → Contains calls y → y.begun ≤ m
  begun_now y c = All-contains (λ (z : CallRecord). z.begun ≤ m) calls y begun c

  old_or_new : (y : CallRecord) → Contains with_x y → Contains calls y ⊎ (y ≡ x)
  old_or_new y c = elim (Contains-append_cases calls (x ∷ []) y c) [
    | inl a ↦ inl a
    | inr b ↦ elim (first_or_later x [] y b) [ inl e ↦ inr e | inr n ↦ absurd (let l = n.1 in omega (arith, l)) ]
  ]

  past_old : (y : CallRecord) (e : ℕ × Reply) → Contains with_x y → y.ended ≡ Some e → e.0 ≤ x.begun → Contains calls y × (e.0 ≤ m)
  past_old y e c ended low = elim (old_or_new y c) [
    | inl a ↦ (a, over y e a ended low)
    | inr same ↦ absurd (let l = if_some (λ (d : ℕ × Reply). x.begun < d.0) x.ended e (ap (λ (z : CallRecord). z.ended) (sym same) ∙ ended) ends in omega (arith, l, low))
  ]

  firsts : (k : ℕ) (p : Presence) (first : Option CallRecord) → WasSo with_x k (presence (has_key k opening)) p first → IsPast x.begun first
      → WasSo calls k (presence (has_key k opening)) p first × IsPast m first × (since_of first ≤ m)
  firsts k p None so past = (so, tt, omega arith)
  firsts k p (Some y) so past =
      let d = left_end y.call y.ended p so.1 in
      let o = past_old y d.0 so.0.known d.1 (if_some (λ (e : ℕ × Reply). e.0 ≤ x.begun) y.ended d.0 d.1 past) in
      ((record { known = o.0; own = so.0.own }, so.1), ended_past m y d.0 d.1 o.1, begun_now y o.0)

  until_after : m < until_if behind_all x.begun x.ended
  until_after = elim (none_or_some x.ended) [
    | inl e ↦ (let u : until_if behind_all x.begun x.ended ≡ behind_all + x.begun = ap (until_if behind_all x.begun) e in omega (arith, u, later))
    | inr e ↦ (let u = until_end behind_all x.begun x.ended e.0 e.1 in
        let l = if_some (λ (d : ℕ × Reply). x.begun < d.0) x.ended e.0 e.1 ends in omega (arith, u, l, later))
  ]

  module _ (k : ℕ) (f g : Facts) (old : AreComplete opening calls m k f) (was : g.was ≡ f.was) (begins : g.begun ≡ f.begun) (first : first_of k g ≡ first_of k f)
      (untils : (there : Presence) → (until_of there g ≡ until_of there f)
      ⊎ (((key_of x.call).0 ≡ k) × (turns_to there (kind_if x.call x.ended) ≡ true) × (until_of there g ≡ until_if behind_all x.begun x.ended))) where
    good : (p : Presence) (o : Option CallRecord) → WasSo calls k (presence (has_key k opening)) p o → IsPast m o → since_of o ≤ m → until_of (other p) g ≤ since_of o
        → (until_of (other p) g ≡ until_of (other p) f) ⊎ (((key_of x.call).0 ≡ k) × (turns_to (other p) (kind_if x.call x.ended) ≡ true)
        × (until_of (other p) g ≡ until_if behind_all x.begun x.ended))
        → IsAsGood k g p o
    good p o so past low stands (inl e) =
        let b = old.best p o so past (omega (arith, stands, e)) in let l = b.standing in record {
          was = was ∙ b.was;
          standing = omega (arith, l, e, begins);
          early = λ n h. subst (λ (q : Option StreamCall). EndsBefore (record_if q) n) (sym first) (b.early n h);
        }
    good p o so past low stands (inr t) = absurd (let u = t.2 in let a = until_after in omega (arith, u, a, low, stands))

    complete_more : AreComplete opening with_x x.begun k g
    complete_more = record {
      latest = λ there. elim (untils there) [
        | inl e ↦ elim (old.latest there) [
          | inl z ↦ inl (e ∙ z)
          | inr y ↦ inr (y.0, is_of_more calls (x ∷ []) k y.0 y.1, y.2, e ∙ y.3)
        ]
        | inr t ↦ inr (x, record { known = Contains-append_right calls (x ∷ []) x (0, omega arith, refl); own = t.0 }, t.1, t.2)
      ];
      since = begins ∙ old.since ∙ ap (λ (o : Option StreamCall). since_of (record_if o)) (sym first);
      past = subst (λ (o : Option StreamCall). IsPast x.begun (record_if o)) (sym first) (past_later m x.begun (record_if (first_of k f)) (omega (arith, later)) old.past);
      best = λ p o so past low. let b = firsts k p o so past in good p o b.0 b.1 b.2 low (untils (other p));
    }

  abbrev event : Event
  event = begin_event (kind_if x.call x.ended) (until_if behind_all x.begun x.ended)

  begun_complete : (k : ℕ) (f g : Facts) → (key_of x.call).0 ≡ k → AreComplete opening calls m k f → g ≡ begun_by event f → AreComplete opening with_x x.begun k g
  begun_complete k f g own old e = subst (AreComplete opening with_x x.begun k) (sym e)
      (complete_more k f (begun_by event f) old (was_still event f) (begun_still (kind_if x.call x.ended) (until_if behind_all x.begun x.ended) f) (first_still event k f)
      (λ there. elim (until_begun (kind_if x.call x.ended) (until_if behind_all x.begun x.ended) f there) [ inl s ↦ inl s | inr t ↦ inr (own, t.0, t.1) ]))

  same_complete : (k : ℕ) (f g : Facts) → AreComplete opening calls m k f → g ≡ f → AreComplete opening with_x x.begun k g
  same_complete k f g old e = subst (AreComplete opening with_x x.begun k) (sym e) (complete_more k f f old refl refl refl (λ there. inl refl))

  none_missed_more : (k : ℕ) → NoneMissed opening calls m k → NoneMissed opening with_x x.begun k
  none_missed_more k none p first y before c past =
      let e = need_end y.call y.ended p c.needed.1 in
      let o = past_old y e.0 c.needed.0.known e.1 (if_some (λ (d : ℕ × Reply). d.0 ≤ x.begun) y.ended e.0 e.1 past) in
      let early = begun_now y o.0 in
      let f = firsts k p first c.was_so (ends_past x.begun y.begun first (omega (arith, early, later)) before) in
      none p first y before (record {
        was_so = f.0;
        needed = (record { known = o.0; own = c.needed.0.own }, c.needed.1);
        nothing = λ i d low.
            let long = length-append calls (x ∷ []) in
            subst (λ (z : CallRecord). (key_of z.call).0 ≡ k → turns_to (other p) (kind_if z.call z.ended) ≡ true → is_before z.begun (Some y) ≡ true
            → has_ended (since_of first) z.ended ≡ true) (get_or_append_left calls (x ∷ []) d i low) (c.nothing i d (omega (arith, low, long)));
      }) (ended_past m y e.0 e.1 o.1)

  module _ (s t : Stream) where
    pub complete_at : (was failed : Option Failed) → IsMetBy s.states (key_of x.call).0 x.begun event t.states was failed
        → BeginIsKnown s.states (key_of x.call).0 event t.states was s.clash → AreCompleteBy opening calls m s.states was s.clash
        → AreCompleteBy opening with_x x.begun t.states failed s.clash
    complete_at None None met kept old = λ k. elim (same_or_not k (key_of x.call).0) [
      | inr ne ↦ same_complete k (facts_for s.states k) (facts_for t.states k) (old k) (kept.1 k ne)
      | inl e ↦ subst (λ j. AreComplete opening with_x x.begun j (facts_for t.states j)) (sym e)
          (begun_complete (key_of x.call).0 (facts_for s.states (key_of x.call).0) (facts_for t.states (key_of x.call).0) refl (old (key_of x.call).0) kept.0)
    ]
    complete_at None (Some f) met kept old =
        absurd (never_fails (kind_if x.call x.ended) (until_if behind_all x.begun x.ended) (x.begun - 1) (state_for s.states (key_of x.call).0) met.2)
    complete_at (Some f) failed met kept old = subst (λ o. AreCompleteBy opening with_x x.begun t.states o s.clash) (sym met) (still s.clash kept old)
      where
        still : (clash : Option Clash) → BeginIsKnown s.states (key_of x.call).0 event t.states (Some f) clash
            → AreCompleteBy opening calls m s.states (Some f) clash → AreCompleteBy opening with_x x.begun t.states (Some f) clash
        still (Some c) e h = tt
        still None (inl e) h = (
          begun_complete f.key.0 (facts_for s.states f.key.0) (facts_for t.states f.key.0) (sym e.1) h.0 e.0,
          none_missed_more f.key.0 h.1,
        )
        still None (inr e) h = (same_complete f.key.0 (facts_for s.states f.key.0) (facts_for t.states f.key.0) h.0 e.0, none_missed_more f.key.0 h.1)

pub complete_begin : (threads : ℕ) (opening : List ℕ) (calls : List CallRecord) (s : Stream) → IsStreamOf threads opening calls s → (x : CallRecord)
    → MayCome s.pending s.moment x → All (λ (p : Pending). x.begun ≤ p.end) s.pending → (t : Stream) → t.moment ≡ x.begun
    → IsMetBy s.states (key_of x.call).0 x.begun (begin_event (kind_if x.call x.ended) (until_if behind_all x.begun x.ended)) t.states s.failed t.failed
    → BeginIsKnown s.states (key_of x.call).0 (begin_event (kind_if x.call x.ended) (until_if behind_all x.begun x.ended)) t.states s.failed s.clash
    → t.clash ≡ s.clash → AreCompleteBy opening calls s.moment s.states s.failed s.clash
    → AreCompleteBy opening (calls ++ x ∷ []) t.moment t.states t.failed t.clash
complete_begin threads opening calls s is x may met t moment by kept same old =
    subst (AreCompleteBy opening (calls ++ x ∷ []) t.moment t.states t.failed) (sym same)
    (subst (λ (m : ℕ). AreCompleteBy opening (calls ++ x ∷ []) m t.states t.failed s.clash) (sym moment)
    (complete_at opening calls x s.moment may.begins may.ends is.begun over s t s.failed t.failed by kept old))
  where
    over : (y : CallRecord) (e : ℕ × Reply) → Contains calls y → y.ended ≡ Some e → e.0 ≤ x.begun → e.0 ≤ s.moment
    over y e c ended low = elim (ended_or_pending threads opening calls s is y e c ended) [
      | inl l ↦ l
      | inr w ↦ absurd (
          let far = All-contains (λ (p : Pending). x.begun ≤ p.end) s.pending (pending_of y) met w.0 in
          let ne = (All-contains (λ (p : Pending). (p.end ≢ x.begun) × IfSome x.ended (λ (e : ℕ × Reply). p.end ≢ e.0)) s.pending (pending_of y) may.apart w.0).0 in
          let u = w.1 in ne (omega (arith, far, u, low)))
    ]

-- ---- The stored facts still suffice to find a clash when a call ends

apart_calls : (threads : ℕ) (calls : List CallRecord) → IsHistory threads calls → (x y : CallRecord) → Contains calls x → Contains calls y → (x ≡ y → ⊥)
    → (x.begun ≢ y.begun) × ((e : ℕ × Reply) → x.ended ≡ Some e → e.0 ≢ y.begun)
apart_calls threads calls history x y a b ne =
    let at : get_or calls a.0 no_call ≡ x = get_or_default calls a.0 no_call x a.1 ∙ a.2 in
    let bt : get_or calls b.0 no_call ≡ y = get_or_default calls b.0 no_call y b.1 ∙ b.2 in
    let differ : a.0 ≢ b.0 = λ q. ne (sym at ∙ ap (λ (i : ℕ). get_or calls i no_call) q ∙ bt) in
    let last : ℕ = latest_moment calls in
    let upto : latest_moment calls ≤ last = omega arith in (
      (λ q. begins_differ threads calls history last upto a.0 b.0 a.1 b.1 differ (ap (λ (z : CallRecord). z.begun) at ∙ q ∙ sym (ap (λ (z : CallRecord). z.begun) bt))),
      (λ e s q. end_apart threads calls history last upto b.0 a.0 e b.1 a.1 (λ z. differ (sym z)) (ap (λ (z : CallRecord). z.ended) at ∙ s)
          (q ∙ sym (ap (λ (z : CallRecord). z.begun) bt))),
    )

begun_first : (k : ℕ) (f : Facts) (c : StreamCall) → first_of k f ≡ Some c → f.begun ≡ c.begun
begun_first k f c h = elim (cases_Bool (is_call f.kept)) [
  | inl t ↦ (let e : Some (call_kept k f) ≡ Some c = rw t at h in let d : call_kept k f ≡ c = cc in ap (λ (z : StreamCall). z.begun) d)
  | inr n ↦ absurd (let e : None ≡ Some c = rw n at h in cc)
]

module _ (threads : ℕ) (opening : List ℕ) (calls : List CallRecord) (s t : Stream) (upto : ℕ) (p : Pending) (rest : List Pending)
    (next : IsNext upto s.pending p rest) (moment : t.moment ≡ p.end) (is : IsStreamOf threads opening calls s) (now : IsStreamOf threads opening calls t) where
  abbrev key : ℕ
  key = key_in p

  abbrev call : StreamCall
  call = p.call

  abbrev there : ℕ → Presence
  there k = presence (has_key k opening)

  own : IsOf calls key (record_of call)
  own = is_own threads opening calls s t upto p rest next moment is

  at_end : (e : ℕ × Reply) → call.ended ≡ Some e → e.0 ≡ t.moment
  at_end e q = ends_now threads opening calls s t upto p rest next moment is e q

  goes_up : s.moment < t.moment
  goes_up = let l = All-contains (λ (q : Pending). s.moment < q.end) s.pending p is.pending.later (has_next threads opening calls s t upto p rest next moment is) in
      omega (arith, l, moment)

  begun_old : (y : CallRecord) → Contains calls y → y.begun ≤ s.moment
  begun_old y c = All-contains (λ (z : CallRecord). z.begun ≤ s.moment) calls y is.begun c

  old_or_call : (y : CallRecord) (e : ℕ × Reply) → Contains calls y → y.ended ≡ Some e → e.0 ≤ t.moment → (e.0 ≤ s.moment) ⊎ (y ≡ record_of call)
  old_or_call y e c ended low = elim (ended_or_pending threads opening calls s is y e c ended) [
    | inl l ↦ inl l
    | inr w ↦ elim (first_or_later p rest (pending_of y) (Contains-permutation s.pending (p ∷ rest) (pending_of y) next.is w.0)) [
      | inl r ↦ inr (ap (λ (z : Pending). record_of z.call) r)
      | inr d ↦ absurd (
          let differs = pairs_head (λ (a b : Pending). a.end ≢ b.end) p rest (ends_moved s.pending (p ∷ rest) next.is is.pending.apart) d.0 (pending_of y) d.1 in
          let there : (get_or rest d.0 (pending_of y)).end ≡ (pending_of y).end = ap (λ (z : Pending). z.end) d.2 in
          let up = All-contains (λ (z : Pending). p.end ≤ z.end) s.pending (pending_of y) next.smallest w.0 in
          let u = w.1 in differs (omega (arith, there, up, u, low, moment)))
    ]
  ]

  first_split : (k : ℕ) (q : Presence) (first : Option CallRecord) → WasSo calls k (there k) q first → IsPast t.moment first
      → IsPast s.moment first ⊎ (first ≡ Some (record_of call))
  first_split k q None so past = inl tt
  first_split k q (Some y) so past =
      let d = left_end y.call y.ended q so.1 in
      elim (old_or_call y d.0 so.0.known d.1 (if_some (λ (e : ℕ × Reply). e.0 ≤ t.moment) y.ended d.0 d.1 past)) [
        | inl low ↦ inl (ended_past s.moment y d.0 d.1 low)
        | inr same ↦ inr (ap Some same)
      ]

  before_call : (o : Option CallRecord) → EndsBefore o call.begun → IsPast s.moment o
  before_call o h = let b = begun_old (record_of call) own.known in ends_past s.moment call.begun o b h

  still_complete : (k : ℕ) (f g : Facts) → k ≢ key → AreComplete opening calls s.moment k f → g ≡ f → AreComplete opening calls t.moment k g
  still_complete k f g ne old e = subst (AreComplete opening calls t.moment k) (sym e) (record {
    latest = old.latest;
    since = old.since;
    past = (let l = goes_up in past_later s.moment t.moment (record_if (first_of k f)) (omega (arith, l)) old.past);
    best = λ q first so past low. elim (first_split k q first so past) [
      | inl older ↦ old.best q first so older low
      | inr same ↦ absurd (ne (let w = subst (WasSo calls k (there k) q) same so in sym w.0.own))
    ];
  })

  still_none : (k : ℕ) → k ≢ key → NoneMissed opening calls s.moment k → NoneMissed opening calls t.moment k
  still_none k ne none q first y before c past =
      let e = need_end y.call y.ended q c.needed.1 in
      elim (old_or_call y e.0 c.needed.0.known e.1 (if_some (λ (d : ℕ × Reply). d.0 ≤ t.moment) y.ended e.0 e.1 past)) [
        | inl low ↦ none q first y before c (ended_past s.moment y e.0 e.1 low)
        | inr same ↦ ne (sym c.needed.0.own ∙ ap (λ (z : CallRecord). (key_of z.call).0) same)
      ]

  module _ (f : Facts) (facts : AreFacts opening calls key f) (old : AreComplete opening calls s.moment key f) where
    until_own : (q : Presence) (x : CallRecord) (e : ℕ × Reply) → IsOf calls key x → x.ended ≡ Some e → turns_to q (kind_if x.call x.ended) ≡ true
        → e.0 ≤ until_of q f
    until_own q x e of ended turns =
        let l : until_if behind_all x.begun x.ended ≤ until_of q f =
        All-contains (λ (z : CallRecord). (key_of z.call).0 ≡ key → turns_to q (kind_if z.call z.ended) ≡ true
        → until_if behind_all z.begun z.ended ≤ until_of q f) calls x (facts.over q) of.known of.own turns in
        let u = until_end behind_all x.begun x.ended e ended in omega (arith, l, u)

    since_low : f.begun ≤ s.moment
    since_low = by (first_of key f) facts.was old.since
      where
        by : (o : Option StreamCall) → WasSo calls key (there key) f.was (record_if o) → f.begun ≡ since_of (record_if o) → f.begun ≤ s.moment
        by None so e = omega (arith, e)
        by (Some x) so e = let b = begun_old (record_of x) so.0.known in omega (arith, e, b)

    pair_found : (q : Presence) (first : Option CallRecord) → EndsBefore first call.begun → Clashes calls key (there key) None q first (Some (record_of call))
        → IsClashing f call
    pair_found q first before c =
        let e = need_end call.call call.ended q c.needed.1 in
        let low = latest_low calls key (other q) (until_of (other q) f) (since_of first) (Some (record_of call)) (old.latest (other q)) c.nothing
        (λ x h. let b = begun_old x h in let n = at_end e.0 e.1 in let l = goes_up in before_end x.begun e.0 (record_of call) e.1 (omega (arith, b, n, l))) in
        let b = old.best q first c.was_so (before_call first before) low in
        let stands = b.standing in let since = old.since in record {
          needs = c.needed.1 ∙ ap (λ (r : Presence). Some (other r)) (sym b.was);
          standing = subst (λ (r : Presence). until_of (other r) f ≤ since_of (record_if (first_of key f))) (sym b.was) (omega (arith, stands, since));
          order = order (first_of key f) (b.early call.begun before);
        }
      where
        order : (o : Option StreamCall) → EndsBefore (record_if o) call.begun → ComesAfter f o call
        order None h = tt
        order (Some x) h = inl h

    two_stand : (q : Presence) → f.was ≡ q → until_of (other q) f ≤ f.begun → leaves_if call.call call.ended ≡ Some (other q) → until_of q f ≤ call.begun
        → IsClashing f call
    two_stand q was stands leaves low =
        let since = old.since in record {
          needs = needs ∙ ap (λ (r : Presence). Some (other r)) (sym was);
          standing = subst (λ (r : Presence). until_of (other r) f ≤ since_of (record_if (first_of key f))) (sym was) (omega (arith, stands, since));
          order = order (first_of key f) facts.was old.past;
        }
      where
        e : (d : ℕ × Reply) × (call.ended ≡ Some d)
        e = let d = left_end call.call call.ended (other q) leaves in (d.0, d.1)

        needs : needs_if call.call call.ended ≡ Some (other q)
        needs = elim (turns_or_needs call.call call.ended (other q) leaves) [
          | inr n ↦ n
          | inl turns ↦ absurd (let l = until_own (other q) (record_of call) e.0 own e.1 turns in let n = at_end e.0 e.1 in let u = goes_up in let b = since_low in
              omega (arith, l, n, u, b, stands))
        ]

        order : (o : Option StreamCall) → WasSo calls key (there key) f.was (record_if o) → IsPast s.moment (record_if o) → ComesAfter f o call
        order None so past = tt
        order (Some x) so past =
            let d = left_end x.call x.ended f.was so.1 in
            let over = if_some (λ (z : ℕ × Reply). z.0 ≤ s.moment) x.ended d.0 d.1 past in
            let left : leaves_if x.call x.ended ≡ Some q = so.1 ∙ ap Some was in
            let ne : record_of x ≡ record_of call → ⊥ = λ z. never_other q (some_same q (other q)
            (sym left ∙ ap (λ (y : CallRecord). leaves_if y.call y.ended) z ∙ leaves)) in
            let apart = apart_calls threads calls is.history (record_of x) (record_of call) so.0.known own.known ne in
            elim (below_or_not d.0.0 call.begun) [
              | inl early ↦ inl (subst (λ (o : Option (ℕ × Reply)). IsSomeAnd o (λ (z : ℕ × Reply). z.0 < call.begun)) (sym d.1) early)
              | inr late ↦ inr (record {
                apart = apart.0;
                left = other q;
                leaves = leaves;
                needs = elim (turns_or_needs x.call x.ended q left) [
                  | inr n ↦ n ∙ ap Some (sym (other_twice q))
                  | inl turns ↦ absurd (let l = until_own q (record_of x) d.0 so.0 d.1 turns in apart.1 d.0 d.1 (omega (arith, l, low, late)))
                ];
                since = subst (λ (r : Presence). until_of r f ≤ call.begun) (sym (other_twice q)) low;
                ends = subst (λ (o : Option (ℕ × Reply)). IsSomeAnd o (λ (z : ℕ × Reply). IsSomeAnd call.ended (λ (y : ℕ × Reply). z.0 ≤ y.0))) (sym d.1)
                    (subst (λ (o : Option (ℕ × Reply)). IsSomeAnd o (λ (y : ℕ × Reply). d.0.0 ≤ y.0)) (sym e.1)
                    (let n = at_end e.0 e.1 in let u = goes_up in omega (arith, n, u, over)));
              })
            ]

    kept_before : (n : ℕ) → s.moment < n → EndsBefore (record_if (first_of key f)) n
    kept_before n up = by (first_of key f) facts.was old.past
      where
        by : (o : Option StreamCall) → WasSo calls key (there key) f.was (record_if o) → IsPast s.moment (record_if o) → EndsBefore (record_if o) n
        by None so past = tt
        by (Some x) so past =
            let d = left_end x.call x.ended f.was so.1 in let l = if_some (λ (z : ℕ × Reply). z.0 ≤ s.moment) x.ended d.0 d.1 past in
            ended_before n (record_of x) d.0 d.1 (omega (arith, l, up))

    ended_complete : (g : Facts) → IsEnded call f g → (IsClashing f call → ⊥) → AreComplete opening calls t.moment key g
    ended_complete g (inl same) none = subst (AreComplete opening calls t.moment key) (sym same.same) (record {
      latest = old.latest;
      since = old.since;
      past = (let l = goes_up in past_later s.moment t.moment (record_if (first_of key f)) (omega (arith, l)) old.past);
      best = λ q first so past low. elim (first_split key q first so past) [
        | inl older ↦ old.best q first so older low
        | inr e ↦ (
            let w = subst (WasSo calls key (there key) q) e so in
            let plain = All-contains (λ (z : CallRecord). IfSome z.ended (λ (y : ℕ × Reply). is_plain z.call y.1 ≡ true)) calls (record_of call) is.plain own.known in
            let v = same.serves plain q w.1 (subst (λ (o : Option CallRecord). until_of (other q) f ≤ since_of o) e low) in record {
              was = v.0;
              standing = v.1;
              early = λ n h.
                  let d = left_end call.call call.ended q w.1 in
                  let b = if_ended (λ (z : ℕ × Reply). z.0 < n) call.ended d.0 d.1 (subst (λ (o : Option CallRecord). EndsBefore o n) e h) in
                  let at = at_end d.0 d.1 in let u = goes_up in kept_before n (omega (arith, b, at, u));
            })
      ];
    })
    ended_complete g (inr kept) none = record {
      latest = λ q. subst (IsLatest calls key (q)) (sym (untils q)) (old.latest q);
      since = begun_first key g call kept.first ∙ ap (λ (o : Option StreamCall). since_of (record_if o)) (sym kept.first);
      past = subst (λ (o : Option StreamCall). IsPast t.moment (record_if o)) (sym kept.first)
          (for_some (λ (e : ℕ × Reply). e.0 ≤ t.moment) call.ended (λ e q. let n = at_end e q in omega (arith, n)));
      best = λ q first so past low. elim (first_split key q first so past) [
        | inl older ↦ absurd (
            let b = old.best q first so older (let u = untils (other q) in omega (arith, u, low)) in
            elim (same_or_other g.was q) [
              | inl e ↦ kept.better (b.was ∙ sym e) (subst (λ (r : Presence). until_of (other r) f ≤ f.begun) (sym e) b.standing)
              | inr e ↦ none (two_stand q b.was b.standing (kept.leaves ∙ ap Some e)
                  (subst (λ (r : Presence). until_of r f ≤ call.begun) (ap other e ∙ other_twice q) kept.standing))
            ])
        | inr e ↦ (
            let w = subst (WasSo calls key (there key) q) e so in
            let same : g.was ≡ q = some_same g.was q (sym kept.leaves ∙ w.1) in
            let b = begun_first key g call kept.first in
            let stands = subst (λ (r : Presence). until_of (other r) f ≤ call.begun) same kept.standing in
            let u = untils (other q) in record {
              was = same;
              standing = omega (arith, b, stands, u);
              early = λ n h. subst (λ (o : Option StreamCall). EndsBefore (record_if o) n) (sym kept.first) (subst (λ (o : Option CallRecord). EndsBefore o n) e h);
            })
      ];
    }
      where
        untils : (q : Presence) → until_of q g ≡ until_of q f
        untils Present = kept.puts
        untils Absent = kept.takes

    ended_none : (IsClashing f call → ⊥) → NoneMissed opening calls s.moment key → NoneMissed opening calls t.moment key
    ended_none none missed q first y before c past =
        let e = need_end y.call y.ended q c.needed.1 in
        elim (old_or_call y e.0 c.needed.0.known e.1 (if_some (λ (d : ℕ × Reply). d.0 ≤ t.moment) y.ended e.0 e.1 past)) [
          | inl low ↦ missed q first y before c (ended_past s.moment y e.0 e.1 low)
          | inr same ↦ none (pair_found q first (subst (λ (z : CallRecord). EndsBefore first z.begun) same before)
              (subst (λ (z : CallRecord). Clashes calls key (there key) None q first (Some z)) same c))
        ]

    none_shown : IsJudgedTo opening calls t.moment t.states None → IsClashing f call → ⊥
    none_shown judged shown =
        let c : Clash = clash_with key f (Some call) in
        let l = goes_up in
        let h = clash_found opening calls f call facts is.before t.moment c (record { is = refl; clashing = shown }) own (λ e q. let n = at_end e q in omega (arith, n)) in
        none_yet threads opening calls t now judged key f.was (record_if (first_of key f)) (Some (record_of call))
        (past_later s.moment t.moment (record_if (first_of key f)) (omega (arith, l)) old.past)
        (for_some (λ (e : ℕ × Reply). e.0 ≤ t.moment) call.ended (λ e q. let n = at_end e q in omega (arith, n)))
        (subst (λ (cs : List CallRecord). IsClash cs key (there key) None f.was (record_if (first_of key f)) (Some (record_of call))) (append-nil calls)
        (h [] (λ i d low. absurd (omega (arith, low)))))

  none_before : (k : ℕ) → IsJudgedTo opening calls s.moment s.states None → NoneMissed opening calls s.moment k
  none_before k judged q first y before c past =
      let b = begun_old y c.needed.0.known in
      none_yet threads opening calls s is judged k q first (Some y) (ends_past s.moment y.begun first b before) past
      (c, in_order calls k (there k) None first (Some y) before)

  complete_after : (was failed : Option Failed) (clash : Option Clash) → IsMetBy s.states key p.end (event_of p) t.states was failed
      → EndIsKnown s.states call t.states was s.clash clash
      → IfSome failed (λ (f : Failed). f.key.0 ≡ key → clash ≡ None → IsClashing (facts_for s.states key) call → ⊥)
      → IsJudgedTo opening calls s.moment s.states was → IsJudgedTo opening calls t.moment t.states failed
      → AreKnownBy opening calls s.moment s.states was s.clash → AreCompleteBy opening calls s.moment s.states was s.clash
      → AreCompleteBy opening calls t.moment t.states failed clash
  complete_after None None clash met kept missed judged goes known old = λ k. elim (same_or_not k key) [
    | inr ne ↦ still_complete k (facts_for s.states k) (facts_for t.states k) ne (old k) (kept.1 k ne)
    | inl e ↦ subst (λ j. AreComplete opening calls t.moment j (facts_for t.states j)) (sym e)
        (ended_complete (facts_for s.states key) (known key) (old key) (facts_for t.states key) kept.0.facts
        (none_shown (facts_for s.states key) (known key) (old key) goes))
  ]
  complete_after None (Some f) (Some c) met kept missed judged goes known old = tt
  complete_after None (Some f) None met kept missed judged goes known old =
      let none = missed met.0 refl in
      subst (λ k. AreComplete opening calls t.moment k (facts_for t.states k) × NoneMissed opening calls t.moment k) (sym met.0) (
        ended_complete (facts_for s.states key) (known key) (old key) (facts_for t.states key) kept.0.facts none,
        ended_none (facts_for s.states key) (known key) (old key) none (none_before key judged),
      )
  complete_after (Some f) failed clash met kept missed judged goes known old =
      subst (λ o. AreCompleteBy opening calls t.moment t.states o clash) (sym met)
      (still s.clash clash kept (subst (λ o. IfSome o (λ (g : Failed). g.key.0 ≡ key → clash ≡ None → IsClashing (facts_for s.states key) call → ⊥)) met missed) known old)
    where
      still : (was clash : Option Clash) → EndIsKnown s.states call t.states (Some f) was clash
          → (f.key.0 ≡ key → clash ≡ None → IsClashing (facts_for s.states key) call → ⊥)
          → AreKnownBy opening calls s.moment s.states (Some f) was → AreCompleteBy opening calls s.moment s.states (Some f) was
          → AreCompleteBy opening calls t.moment t.states (Some f) clash
      still (Some c) clash e missed known h = subst (AreCompleteBy opening calls t.moment t.states (Some f)) (sym e) tt
      still None (Some c) e missed known h = tt
      still None None (inl e) missed known h =
          let none = missed e.1 refl in
          let k = subst (λ j. AreFacts opening calls j (facts_for s.states j)) e.1 known in
          let c = subst (λ j. AreComplete opening calls s.moment j (facts_for s.states j)) e.1 h.0 in
          subst (λ j. AreComplete opening calls t.moment j (facts_for t.states j) × NoneMissed opening calls t.moment j) (sym e.1) (
            ended_complete (facts_for s.states key) k c (facts_for t.states key) e.0.facts none,
            ended_none (facts_for s.states key) k c none (subst (NoneMissed opening calls s.moment) e.1 h.1),
          )
      still None None (inr e) missed known h =
          (still_complete f.key.0 (facts_for s.states f.key.0) (facts_for t.states f.key.0) e.2 h.0 e.0, still_none f.key.0 e.2 h.1)

  pub complete_end : IsMetBy s.states key p.end (event_of p) t.states s.failed t.failed → EndIsKnown s.states call t.states s.failed s.clash t.clash
      → IfSome t.failed (λ (f : Failed). f.key.0 ≡ key → t.clash ≡ None → IsClashing (facts_for s.states key) call → ⊥)
      → AreKnownBy opening calls s.moment s.states s.failed s.clash → AreCompleteBy opening calls s.moment s.states s.failed s.clash
      → AreCompleteBy opening calls t.moment t.states t.failed t.clash
  complete_end met kept missed known old = complete_after s.failed t.failed t.clash met kept missed is.judged now.judged known old

-- ---- A verdict without a clash is correct

pub none_at_end : (s : Stream) (opening : List ℕ) (refusal : Refusal) (left : Option Presence) → IsToldBy s.failed (NotLinearizable refusal)
    → (IsSome left → refusal.moment ≡ None)
    → ((s.clash ≡ None) ⊎ (s.failed ≡ None))
    → ((l : Presence) → left ≡ Some l → s.failed ≡ None → l ≡ other (facts_for s.states refusal.key.0).was
    → IsStanding refusal.key.0 (facts_for s.states refusal.key.0) → ⊥)
    → HasNone opening refusal left s
none_at_end s opening refusal left told timed unmet unleft threads calls kept met = by s.failed s.clash told unmet unleft kept.stream.judged kept.complete
  where
    over : (y : CallRecord) → Contains calls y → IsPast s.moment (Some y)
    over y c =
        let at : call_numbered calls c.0 ≡ y = get_or_default calls c.0 no_call y c.1 ∙ c.2 in
        subst (λ (z : CallRecord). IsPast s.moment (Some z)) at (all_over threads opening calls s kept.stream met c.0 c.1)

    over_if : (p : Presence) (o : Option CallRecord) → WasSo calls refusal.key.0 (presence (has_key refusal.key.0 opening)) p o → IsPast s.moment o
    over_if p None so = tt
    over_if p (Some x) so = over x so.0.known

    by : (failed : Option Failed) (clash : Option Clash) → IsToldBy failed (NotLinearizable refusal) → ((clash ≡ None) ⊎ (failed ≡ None))
        → ((l : Presence) → left ≡ Some l → failed ≡ None → l ≡ other (facts_for s.states refusal.key.0).was → IsStanding refusal.key.0 (facts_for s.states refusal.key.0) → ⊥)
        → IsJudgedTo opening calls s.moment s.states failed → AreCompleteBy opening calls s.moment s.states failed clash
        → HasNoClash calls refusal.key.0 (presence (has_key refusal.key.0 opening)) left
    by (Some f) (Some c) told (inl e) unleft judged old p first second before c2 = absurd cc
    by (Some f) clash told (inr e) unleft judged old p first second before c = absurd cc
    by (Some f) None told (inl e) unleft judged old p first None before c =
        let a : refusal.moment ≡ None = timed (ap is_some c.0.needed) in absurd (let v : NotLinearizable refusal ≡ failed_verdict f = told in cc)
    by (Some f) None told (inl e) unleft judged old p first (Some y) before c =
        let same : f.key ≡ refusal.key = (let v : NotLinearizable refusal ≡ failed_verdict f = told in cc) in
        subst (λ (j : Key). NoneMissed opening calls s.moment j.0) same old.1 p first y before
        (record { was_so = c.0.was_so; needed = c.0.needed; nothing = c.0.nothing }) (over y c.0.needed.0.known)
    by None clash told unmet unleft judged old p first (Some y) before c =
        none_yet threads opening calls s kept.stream judged refusal.key.0 p first (Some y) (over_if p first c.0.was_so) (over y c.0.needed.0.known)
        (record { was_so = c.0.was_so; needed = c.0.needed; nothing = c.0.nothing }, in_order calls refusal.key.0 (presence (has_key refusal.key.0 opening)) None first (Some y) before)
    by None clash told unmet unleft judged old p first None before c =
        let f : Facts = facts_for s.states refusal.key.0 in let o = old refusal.key.0 in
        let low = latest_low calls refusal.key.0 (other p) (until_of (other p) f) (since_of first) None (o.latest (other p)) c.0.nothing (λ x h. refl) in
        let b = o.best p first c.0.was_so (over_if p first c.0.was_so) low in
        let stands = b.standing in let since = o.since in
        unleft (other p) c.0.needed refl (ap other (sym b.was))
        (subst (λ (r : Presence). until_of (other r) f ≤ since_of (record_if (first_of refusal.key.0 f))) (sym b.was) (omega (arith, stands, since)))

not_failed : (failed : Option Failed) (refusal : Refusal) → IsToldBy failed (NotLinearizable refusal) → refusal.moment ≡ None → failed ≡ None
not_failed None refusal told none = refl
not_failed (Some f) refusal told none = absurd (let v : NotLinearizable refusal ≡ failed_verdict f = told in cc)

pub none_met : (s : Stream) (refusal : Refusal) (left : Option Presence) (clash : Option Clash) → IsToldBy s.failed (NotLinearizable refusal)
    → (IsSome left → refusal.moment ≡ None) → left ≡ None → clash ≡ clash_met s.failed s.clash → clash ≡ None → (opening : List ℕ)
    → HasNone opening refusal left s
none_met s refusal left clash told timed e met none opening =
    none_at_end s opening refusal left told timed (unmet s.failed s.clash (sym met ∙ none)) (λ l f. absurd (let g : None ≡ Some l = sym e ∙ f in cc))
  where
    unmet : (failed : Option Failed) (c : Option Clash) → clash_met failed c ≡ None → (c ≡ None) ⊎ (failed ≡ None)
    unmet None c h = inr refl
    unmet (Some f) c h = inl h

pub none_left : (s : Stream) (refusal : Refusal) (left : Option Presence) (l : Presence) (clash : Option Clash) → IsToldBy s.failed (NotLinearizable refusal)
    → (IsSome left → refusal.moment ≡ None) → left ≡ Some l
    → (clash ≡ None → s.failed ≡ None → l ≡ other (facts_for s.states refusal.key.0).was → IsStanding refusal.key.0 (facts_for s.states refusal.key.0) → ⊥)
    → clash ≡ None → (opening : List ℕ) → HasNone opening refusal left s
none_left s refusal left l clash told timed e missed none opening =
    none_at_end s opening refusal left told timed (inr (not_failed s.failed refusal told (timed (ap is_some e))))
    (λ r f failed same. missed none failed ((let g : Some l ≡ Some r = sym e ∙ f in some_same l r g) ∙ same))

pub left_timed : (keys : List ℕ) (k : ℕ) (moment : Option ℕ) (left : Option Presence) → left ≡ left_by keys k moment → IsSome left → moment ≡ None
left_timed keys k None left e h = refl
left_timed keys k (Some m) left e h = absurd (true≢false (sym h ∙ ap is_some e))
