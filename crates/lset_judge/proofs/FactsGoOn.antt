-- Proof: the facts that the judge stores about the calls on each key are correct when the set opens, and stay correct
-- when a call starts or ends. The judge uses the facts to find a clash (two calls that contradict each other).
use Rattle.std.proofs.Common.{inl, inr, ◌≡◌, ◌≢◌, ℕ, suc, ◌-◌, ◌<◌, ◌≤◌, true, false, List, [], ◌∷◌, ◌++◌, refl, sym, ap, ◌∙◌, arith, subst, length, get_or}
use Rattle.std.proofs.Common.{append_assoc, append-nil}
use Rattle.std.specs.Prelude.{Option, Some, None, IfSome, IsSomeAnd, All, Contains, is_some, nat_lt}
use Rattle.std.proofs.Math.Nat.{le-max_left, le-max_right}
use Rattle.std.proofs.lemmas.Bool.{true≢false}
use Rattle.std.proofs.lemmas.Bool.Decides.{nat_tests}
use Rattle.std.proofs.lemmas.List.Elements.{All-append, All-cons, All-push, All-contains, Contains-append_left, Contains-get_or}
use Rattle.std.proofs.lemmas.List.Sorted.{Contains-permutation, IsPermutation-sym}
use Rattle.lset_words.specs.declared.Call.{Call}
use Rattle.lset_words.specs.declared.Key.{Key}
use Rattle.lset_words.specs.declared.Reply.{Reply}
use Rattle.lset_words.specs.declared.history.CallRecord.{CallRecord}
use Rattle.lset_words.specs.declared.effect.Presence.{Presence}
use Rattle.lset_words.specs.declared.effect.Presence.TheVariants.{Present, Absent}
use Rattle.lset_words.specs.SequentialSet.{has_key}
use Rattle.lset_words.specs.Effects.{presence}
use Rattle.lset_words.specs.Words.{key_of}
use Rattle.lset_words.specs.History.{call_numbered, no_call}
use Rattle.lset_words.proofs.Numbers.{same_or_not}
use Rattle.lset_judge.specs.declared.clash.Clash.{Clash}
use Rattle.lset_judge.specs.declared.stream.StreamCall.{StreamCall}
use Rattle.lset_judge.specs.declared.stream.Pending.{Pending}
use Rattle.lset_judge.specs.declared.stream.Failed.{Failed}
use Rattle.lset_judge.specs.declared.stream.Refusal.{Refusal}
use Rattle.lset_judge.specs.declared.stream.Stream.{Stream}
use Rattle.lset_judge.specs.declared.stream.StreamVerdict.TheVariants.{NotLinearizable}
use Rattle.lset_judge.specs.Rule.{Event, begins, ends, looks, leaves, idle, State, fits, found, entered, open_changes}
use Rattle.lset_judge.specs.Events.{Kind, changes, sees, nothing, kind_if, until_if, begin_event, end_event}
use Rattle.lset_judge.specs.Rest.{has_ended, turns_to}
use Rattle.lset_judge.specs.Clash.{record_if, other, needs_if, IsOf, WasSo, since_of, is_before, is_before_end, NothingTurns, Clashes, InOrder, IsClash}
use Rattle.lset_judge.specs.Stream.{behind_all, record_of, pending_of, key_in, event_of, state_for, IsBefore, IsMetBy, IsToldBy, IsStreamOf, failed_verdict}
use Rattle.lset_judge.specs.Facts.{Facts, first_of, until_of, facts_opened, facts_for, begun_by, IsEnded, AreOverBy, AreFacts, IsClashBy, AreKnownBy, IsStreamKept}
use Rattle.lset_judge.specs.Facts.{EndsBy, ClashTurned, ComesAfter, IsFound, IsFoundLeft, BeginIsKnown, EndIsKept, EndIsKnown, ClashesStream, clash_met}
use Rattle.lset_judge.specs.Judge.{ClashesIn}
use Rattle.lset_judge.specs.Pending.{IsNext}
use Rattle.lset_judge.proofs.RuleLeads.{at_once}

-- ---- The stored facts are correct when the set opens

pub first_facts : (opening : List ℕ) (k : ℕ) (f : Facts) → f ≡ facts_opened (presence (has_key k opening)) → AreFacts opening [] k f
first_facts opening k f e = subst (AreFacts opening [] k) (sym e) (record {
  was = refl;
  over = λ there i d low. absurd (omega (arith, low));
})

-- ---- The stored facts show only clashes that exist

ended_since : (since begun : ℕ) (o : Option (ℕ × Reply)) → until_if behind_all begun o ≤ since → since < behind_all → has_ended since o ≡ true
ended_since since begun None low bound = absurd (omega (arith, low, bound))
ended_since since begun (Some e) low bound = grind (arith, nat_tests)

some_of : {A : Type 0} (P : A → Type 0) (o : Option A) → IsSomeAnd o P → (d : A) × (o ≡ Some d) × P d
some_of P None h = absurd h
some_of P (Some d) h = (d, refl, h)

need_ends : (c : Call) (o : Option (ℕ × Reply)) (p : Presence) → needs_if c o ≡ Some p → (e : ℕ × Reply) × (o ≡ Some e)
need_ends c None p h = absurd cc
need_ends c (Some e) p h = (e, refl)

pub is_of_more : (calls later : List CallRecord) (key : ℕ) (x : CallRecord) → IsOf calls key x → IsOf (calls ++ later) key x
is_of_more calls later key x is = record { known = Contains-append_left calls later x is.known; own = is.own }

was_more : (calls later : List CallRecord) (key : ℕ) (there was : Presence) (first : Option CallRecord) → WasSo calls key there was first
    → WasSo (calls ++ later) key there was first
was_more calls later key there was None is = is
was_more calls later key there was (Some x) is = (is_of_more calls later key x is.0, is.1)

module _ (opening : List ℕ) (calls : List CallRecord) (key : ℕ) (f : Facts) (facts : AreFacts opening calls key f) (before : All IsBefore calls) where
  abbrev there : Presence
  there = presence (has_key key opening)

  begins_before : (x : CallRecord) → IsOf calls key x → x.begun < behind_all
  begins_before x is = (All-contains IsBefore calls x before is.known).0

  since_before : (was : Presence) (first : Option StreamCall) → WasSo calls key there was (record_if first) → since_of (record_if first) < behind_all
  since_before was None so = omega arith
  since_before was (Some x) so = begins_before (record_of x) so.0

  over : (turns : Presence) (since : ℕ) → until_of turns f ≤ since → since < behind_all → (i : ℕ) (d : CallRecord) → i < length calls
      → (key_of (get_or calls i d).call).0 ≡ key → turns_to turns (kind_if (get_or calls i d).call (get_or calls i d).ended) ≡ true
      → has_ended since (get_or calls i d).ended ≡ true
  over turns since low bound i d inside own is =
      let o = facts.over turns i d inside own is in
      ended_since since (get_or calls i d).begun (get_or calls i d).ended (omega (arith, o, low)) bound

  nothing_by : (moment : ℕ) (later : List CallRecord) → All (λ (z : CallRecord). moment < z.begun) later → (turns : Presence) (since : ℕ)
      → until_of turns f ≤ since → since < behind_all → (y : CallRecord) (e : ℕ × Reply) → y.ended ≡ Some e → e.0 ≤ moment
      → NothingTurns (calls ++ later) key turns since (Some y)
  nothing_by moment later after turns since low bound y e ended by =
      All-append (λ (x : CallRecord). (key_of x.call).0 ≡ key → turns_to turns (kind_if x.call x.ended) ≡ true → is_before x.begun (Some y) ≡ true
      → has_ended since x.ended ≡ true) calls later
      (λ i d inside own is b. over turns since low bound i d inside own is)
      (λ i d inside own is b.
      let late = after i d inside in
      let t : nat_lt (get_or later i d).begun e.0 ≡ true = subst (λ (o : Option (ℕ × Reply)). is_before_end (get_or later i d).begun o ≡ true) ended b in
      let early : (get_or later i d).begun < e.0 = grind (arith, nat_tests) in absurd (omega (arith, late, early, by)))

  module _ (moment : ℕ) (call : StreamCall) (is : IsOf calls key (record_of call)) (e : ℕ × Reply) (ended : call.ended ≡ Some e) (by : e.0 ≤ moment)
      (later : List CallRecord) (after : All (λ (z : CallRecord). moment < z.begun) later) where
    abbrev more : List CallRecord
    more = calls ++ later

    first_clashes : (was : Presence) (first : Option StreamCall) → WasSo calls key there was (record_if first)
        → until_of (other was) f ≤ since_of (record_if first) → needs_if call.call call.ended ≡ Some (other was)
        → Clashes more key there None was (record_if first) (Some (record_of call))
    first_clashes was first so since needs = record {
      was_so = was_more calls later key there was (record_if first) so;
      needed = (is_of_more calls later key (record_of call) is, needs);
      nothing = nothing_by moment later after (other was) (since_of (record_if first)) since (since_before was first so) (record_of call) e ended by;
    }

    ends_so : (x : StreamCall) → EndsBy x.ended call.ended → (d : ℕ × Reply) × (x.ended ≡ Some d) × (d.0 ≤ moment)
    ends_so x h =
        let d = some_of (λ (d : ℕ × Reply). IsSomeAnd call.ended (λ (e : ℕ × Reply). d.0 ≤ e.0)) x.ended h in
        let low = subst (λ (o : Option (ℕ × Reply)). IsSomeAnd o (λ (g : ℕ × Reply). d.0.0 ≤ g.0)) ended d.2 in
        (d.0, d.1, omega (arith, low, by))

    turned : (x : StreamCall) → IsOf calls key (record_of x) → (t : ClashTurned f x call)
        → Clashes more key there None t.left (Some (record_of call)) (Some (record_of x))
    turned x own t =
        let d = ends_so x t.ends in record {
          was_so = (is_of_more calls later key (record_of call) is, t.leaves);
          needed = (is_of_more calls later key (record_of x) own, t.needs);
          nothing = nothing_by moment later after (other t.left) call.begun t.since (begins_before (record_of call) is) (record_of x) d.0 d.1 d.2;
        }

    is_clash : (was : Presence) (first : Option StreamCall) → WasSo calls key there was (record_if first)
        → until_of (other was) f ≤ since_of (record_if first) → needs_if call.call call.ended ≡ Some (other was)
        → ComesAfter f first call → IsClash more key there None was (record_if first) (Some (record_of call))
    is_clash was None so since needs order = (first_clashes was None so since needs, tt)
    is_clash was (Some x) so since needs (inl p) = (first_clashes was (Some x) so since needs, inl p)
    is_clash was (Some x) so since needs (inr t) = (first_clashes was (Some x) so since needs, inr (t.apart, (t.left, turned x so.0 t)))

  clash_is_left : (left : Presence) (c : Clash) → IsFoundLeft key f left c → IsClash calls key there (Some left) c.was (record_if c.first) (record_if c.second)
  clash_is_left left c s = subst (λ (q : Clash). IsClash calls key there (Some left) q.was (record_if q.first) (record_if q.second)) (sym s.is) (
    record {
      was_so = facts.was;
      needed = ap Some s.is_other;
      nothing = λ i d inside own is b. over (other f.was) (since_of (record_if (first_of key f))) s.standing (since_before f.was (first_of key f) facts.was) i d inside own is;
    },
    in_order (first_of key f),
  )
    where
      in_order : (first : Option StreamCall) → InOrder calls key there (Some left) (record_if first) None
      in_order None = tt
      in_order (Some x) = tt

abbrev own_key : StreamCall → ℕ
own_key call = (key_of call.call).0

pub clash_found : (opening : List ℕ) (calls : List CallRecord) (f : Facts) (call : StreamCall) → AreFacts opening calls (own_key call) f
    → All IsBefore calls → (moment : ℕ) (c : Clash) → IsFound f call c → IsOf calls (own_key call) (record_of call)
    → ((e : ℕ × Reply) → call.ended ≡ Some e → e.0 ≤ moment) → IsClashBy opening calls moment (own_key call) c
clash_found opening calls f call facts before moment c s is by_then = λ later after.
    let k = own_key call in
    let e = need_ends call.call call.ended (other f.was) s.clashing.needs in
    subst (λ (q : Clash). IsClash (calls ++ later) k (presence (has_key k opening)) None q.was (record_if q.first) (record_if q.second)) (sym s.is)
    (is_clash opening calls k f facts before moment call is e.0 e.1 (by_then e.0 e.1) later after f.was (first_of k f) facts.was
    s.clashing.standing s.clashing.needs s.clashing.order)

-- ---- The stored facts stay correct when a call ends

pub ended_facts : (opening : List ℕ) (calls : List CallRecord) (call : StreamCall) (old new : Facts) → AreFacts opening calls (own_key call) old
    → IsEnded call old new → IsOf calls (own_key call) (record_of call) → AreFacts opening calls (own_key call) new
ended_facts opening calls call old new facts (inl same) is = subst (AreFacts opening calls (own_key call)) (sym same.same) facts
ended_facts opening calls call old new facts (inr kept) is = record {
  was = subst (λ (o : Option StreamCall). WasSo calls (own_key call) (presence (has_key (own_key call) opening)) new.was (record_if o)) (sym kept.first)
      (is, kept.leaves);
  over = over;
}
  where
    over : (there : Presence) → AreOverBy calls (own_key call) there (until_of there new)
    over Present = subst (AreOverBy calls (own_key call) Present) (sym kept.puts) (facts.over Present)
    over Absent = subst (AreOverBy calls (own_key call) Absent) (sym kept.takes) (facts.over Absent)

pub end_begins_nothing : (k : Kind) (begun : ℕ) (f : Facts) → begun_by (end_event k begun) f ≡ f
end_begins_nothing (changes w) begun f = refl
end_begins_nothing (sees w) begun f = refl
end_begins_nothing nothing begun f = refl

clash_later : (opening : List ℕ) (calls : List CallRecord) (m n key : ℕ) (c : Clash) → m ≤ n → IsClashBy opening calls m key c → IsClashBy opening calls n key c
clash_later opening calls m n key c up h = λ later after. h later (λ i d low. let l = after i d low in omega (arith, l, up))

module _ (threads : ℕ) (opening : List ℕ) (calls : List CallRecord) (s t : Stream) (upto : ℕ) (p : Pending) (rest : List Pending)
    (next : IsNext upto s.pending p rest) (moment : t.moment ≡ p.end) (is : IsStreamOf threads opening calls s) where
  abbrev key : ℕ
  key = key_in p

  pub has_next : Contains s.pending p
  has_next = Contains-permutation (p ∷ rest) s.pending p (IsPermutation-sym s.pending (p ∷ rest) next.is) (0, omega arith, refl)

  later_end : s.moment ≤ t.moment
  later_end = let now : s.moment < p.end = All-contains (λ (q : Pending). s.moment < q.end) s.pending p is.pending.later has_next in omega (arith, now, moment)

  numbered : (n : ℕ) × (n < length calls) × (p ≡ pending_of (call_numbered calls n))
  numbered = All-contains (λ (q : Pending). (n : ℕ) × (n < length calls) × (q ≡ pending_of (call_numbered calls n))) s.pending p is.pending.known has_next

  pub is_own : IsOf calls key (record_of p.call)
  is_own = record {
    known = subst (λ (q : Pending). Contains calls (record_of q.call)) (sym numbered.2) (Contains-get_or calls numbered.0 no_call numbered.1);
    own = refl;
  }

  pub ends_now : (e : ℕ × Reply) → p.call.ended ≡ Some e → e.0 ≡ t.moment
  ends_now e at = sym (moment ∙ subst (λ (q : Pending). q.end ≡ until_if behind_all q.call.begun q.call.ended) (sym numbered.2) refl
      ∙ ap (until_if behind_all p.call.begun) at)

  pub ends_at : (e : ℕ × Reply) → p.call.ended ≡ Some e → e.0 ≤ t.moment
  ends_at e at = let same = ends_now e at in omega (arith, same)

  kept_clash : (clash : Option Clash) (f : Failed) → f.key.0 ≡ key → EndIsKept s.states p.call t.states clash → AreFacts opening calls key (facts_for s.states key)
      → AreKnownBy opening calls t.moment t.states (Some f) clash
  kept_clash None f same kept facts = subst (λ k. AreFacts opening calls k (facts_for t.states k)) (sym same)
      (ended_facts opening calls p.call (facts_for s.states key) (facts_for t.states key) facts kept.facts is_own)
  kept_clash (Some c) f same kept facts = subst (λ k. IsClashBy opening calls t.moment k c) (sym same)
      (clash_found opening calls (facts_for s.states key) p.call facts is.before t.moment c kept.found is_own ends_at)

  failed_at : (was failed : Option Failed) (clash : Option Clash) → IsMetBy s.states key p.end (event_of p) t.states was failed
      → EndIsKnown s.states p.call t.states was s.clash clash → AreKnownBy opening calls s.moment s.states was s.clash
      → AreKnownBy opening calls t.moment t.states failed clash
  failed_at None None clash met kept known = λ k. elim (same_or_not k key) [
    | inr ne ↦ subst (AreFacts opening calls k) (sym (kept.1 k ne)) (known k)
    | inl e ↦ subst (λ j. AreFacts opening calls j (facts_for t.states j)) (sym e)
        (ended_facts opening calls p.call (facts_for s.states key) (facts_for t.states key) (known key) kept.0.facts is_own)
  ]
  failed_at None (Some f) clash met kept known = kept_clash clash f met.0 kept.0 (known key)
  failed_at (Some f) failed clash met kept known = subst (λ o. AreKnownBy opening calls t.moment t.states o clash) (sym met) (still s.clash kept known)
    where
      still : (was : Option Clash) → EndIsKnown s.states p.call t.states (Some f) was clash → AreKnownBy opening calls s.moment s.states (Some f) was
          → AreKnownBy opening calls t.moment t.states (Some f) clash
      still (Some c) e h = subst (AreKnownBy opening calls t.moment t.states (Some f)) (sym e) (clash_later opening calls s.moment t.moment f.key.0 c later_end h)
      still None (inl e) h = kept_clash clash f e.1 e.0 (subst (λ k. AreFacts opening calls k (facts_for s.states k)) e.1 h)
      still None (inr e) h = subst (AreKnownBy opening calls t.moment t.states (Some f)) (sym e.1) (subst (AreFacts opening calls f.key.0) (sym e.0) h)

  pub end_known : EndIsKnown s.states p.call t.states s.failed s.clash t.clash → IsMetBy s.states key p.end (event_of p) t.states s.failed t.failed
      → AreKnownBy opening calls s.moment s.states s.failed s.clash → AreKnownBy opening calls t.moment t.states t.failed t.clash
  end_known kept met known = failed_at s.failed t.failed t.clash met kept known

-- ---- The stored facts stay correct when a call starts

pub first_still : (v : Event) (k : ℕ) (f : Facts) → first_of k (begun_by v f) ≡ first_of k f
first_still (begins w u) k f = refl
first_still (ends w) k f = refl
first_still (looks w n) k f = refl
first_still (leaves w) k f = refl
first_still idle k f = refl

pub was_still : (v : Event) (f : Facts) → (begun_by v f).was ≡ f.was
was_still (begins w u) f = refl
was_still (ends w) f = refl
was_still (looks w n) f = refl
was_still (leaves w) f = refl
was_still idle f = refl

until_grows : (v : Event) (there : Presence) (f : Facts) → until_of there f ≤ until_of there (begun_by v f)
until_grows (begins true u) Present f = le-max_left f.puts_until u
until_grows (begins false u) Present f = omega arith
until_grows (begins true u) Absent f = omega arith
until_grows (begins false u) Absent f = le-max_left f.takes_until u
until_grows (ends w) to f = omega arith
until_grows (looks w n) to f = omega arith
until_grows (leaves w) to f = omega arith
until_grows idle to f = omega arith

until_own : (k : Kind) (u : ℕ) (there : Presence) (f : Facts) → turns_to there k ≡ true → u ≤ until_of there (begun_by (begin_event k u) f)
until_own (changes true) u Present f t = le-max_right f.puts_until u
until_own (changes false) u Present f t = absurd (true≢false (sym t))
until_own (changes true) u Absent f t = absurd (true≢false (sym t))
until_own (changes false) u Absent f t = le-max_right f.takes_until u
until_own (sees w) u to f t = absurd (true≢false (sym t))
until_own nothing u to f t = absurd (true≢false (sym t))

pub never_fails : (kind : Kind) (u m : ℕ) (s : State) → entered (begin_event kind u) (found m (begin_event kind u) s) ≡ None → ⊥
never_fails kind u m s e = true≢false (ap is_some (sym (ap (entered (begin_event kind u)) (at_once (open_changes s) m (begin_event kind u) s (fit kind))) ∙ e))
  where
    fit : (k : Kind) → fits (suc m) (begin_event k u) s ≡ true
    fit (changes w) = refl
    fit k = refl

module _ (opening : List ℕ) (calls : List CallRecord) (x : CallRecord) where
  abbrev with_x : List CallRecord
  with_x = calls ++ x ∷ []

  abbrev event : Event
  event = begin_event (kind_if x.call x.ended) (until_if behind_all x.begun x.ended)

  facts_more : (k : ℕ) (f g : Facts) → AreFacts opening calls k f → g.was ≡ f.was → first_of k g ≡ first_of k f
      → ((there : Presence) → until_of there f ≤ until_of there g)
      → ((there : Presence) → (key_of x.call).0 ≡ k → turns_to there (kind_if x.call x.ended) ≡ true → until_if behind_all x.begun x.ended ≤ until_of there g)
      → AreFacts opening with_x k g
  facts_more k f g facts was first grows own = record {
    was = subst (λ (p : Presence). WasSo with_x k (presence (has_key k opening)) p (record_if (first_of k g))) (sym was)
        (subst (λ (o : Option StreamCall). WasSo with_x k (presence (has_key k opening)) f.was (record_if o)) (sym first)
        (was_more calls (x ∷ []) k (presence (has_key k opening)) f.was (record_if (first_of k f)) facts.was));
    over = λ there. All-push (λ (y : CallRecord). (key_of y.call).0 ≡ k → turns_to there (kind_if y.call y.ended) ≡ true
        → until_if behind_all y.begun y.ended ≤ until_of there g) calls x
        (λ i d low mine is. let l = facts.over there i d low mine is in let up = grows there in omega (arith, l, up)) (own there);
  }

  begun_facts : (k : ℕ) (f g : Facts) → AreFacts opening calls k f → g ≡ begun_by event f → AreFacts opening with_x k g
  begun_facts k f g facts e = subst (AreFacts opening with_x k) (sym e)
      (facts_more k f (begun_by event f) facts (was_still event f) (first_still event k f) (λ there. until_grows event there f)
      (λ there own t. until_own (kind_if x.call x.ended) (until_if behind_all x.begun x.ended) there f t))

  same_facts : (k : ℕ) (f g : Facts) → k ≢ (key_of x.call).0 → AreFacts opening calls k f → g ≡ f → AreFacts opening with_x k g
  same_facts k f g ne facts e = subst (AreFacts opening with_x k) (sym e)
      (facts_more k f f facts refl refl (λ there. omega arith) (λ there own t. absurd (ne (sym own))))

  module _ (s t : Stream) (begun : s.moment < x.begun) (moment : t.moment ≡ x.begun) where
    begin_at : (was failed : Option Failed) → IsMetBy s.states (key_of x.call).0 x.begun event t.states was failed
        → BeginIsKnown s.states (key_of x.call).0 event t.states was s.clash → AreKnownBy opening calls s.moment s.states was s.clash
        → AreKnownBy opening with_x t.moment t.states failed s.clash
    begin_at None None met kept known = λ k. elim (same_or_not k (key_of x.call).0) [
      | inr ne ↦ same_facts k (facts_for s.states k) (facts_for t.states k) ne (known k) (kept.1 k ne)
      | inl e ↦ subst (λ j. AreFacts opening with_x j (facts_for t.states j)) (sym e)
          (begun_facts (key_of x.call).0 (facts_for s.states (key_of x.call).0) (facts_for t.states (key_of x.call).0) (known (key_of x.call).0) kept.0)
    ]
    begin_at None (Some f) met kept known =
        absurd (never_fails (kind_if x.call x.ended) (until_if behind_all x.begun x.ended) (x.begun - 1) (state_for s.states (key_of x.call).0) met.2)
    begin_at (Some f) failed met kept known = subst (λ o. AreKnownBy opening with_x t.moment t.states o s.clash) (sym met) (still s.clash kept known)
      where
        still : (clash : Option Clash) → BeginIsKnown s.states (key_of x.call).0 event t.states (Some f) clash
            → AreKnownBy opening calls s.moment s.states (Some f) clash → AreKnownBy opening with_x t.moment t.states (Some f) clash
        still (Some c) e h = λ later after.
            subst (λ (cs : List CallRecord). IsClash cs f.key.0 (presence (has_key f.key.0 opening)) None c.was (record_if c.first) (record_if c.second))
            (sym (append_assoc calls (x ∷ []) later))
            (h (x ∷ later) (All-cons (λ (z : CallRecord). s.moment < z.begun) x later begun
            (λ i d low. let l = after i d low in omega (arith, l, begun, moment))))
        still None (inl e) h = begun_facts f.key.0 (facts_for s.states f.key.0) (facts_for t.states f.key.0) h e.0
        still None (inr e) h = same_facts f.key.0 (facts_for s.states f.key.0) (facts_for t.states f.key.0) e.1 h e.0

    pub begin_known : IsMetBy s.states (key_of x.call).0 x.begun event t.states s.failed t.failed
        → BeginIsKnown s.states (key_of x.call).0 event t.states s.failed s.clash → t.clash ≡ s.clash
        → AreKnownBy opening calls s.moment s.states s.failed s.clash → AreKnownBy opening with_x t.moment t.states t.failed t.clash
    begin_known met kept same known = subst (AreKnownBy opening with_x t.moment t.states t.failed) (sym same) (begin_at s.failed t.failed met kept known)

-- ---- The clash found after the last call is correct

pub clash_of_met : (s : Stream) (refusal : Refusal) → IsToldBy s.failed (NotLinearizable refusal) → (clash : Option Clash) → clash ≡ clash_met s.failed s.clash
    → IfSome clash (λ (c : Clash). (opening : List ℕ) → ClashesStream opening refusal None s c)
clash_of_met s refusal told None e = tt
clash_of_met s refusal told (Some c) e = λ opening threads calls kept. by opening calls s.failed s.clash told e kept.known
  where
    by : (opening : List ℕ) (calls : List CallRecord) (failed : Option Failed) (clash : Option Clash) → IsToldBy failed (NotLinearizable refusal)
        → Some c ≡ clash_met failed clash → AreKnownBy opening calls s.moment s.states failed clash
        → IsClash calls refusal.key.0 (presence (has_key refusal.key.0 opening)) None c.was (record_if c.first) (record_if c.second)
    by opening calls None clash told e known = absurd cc
    by opening calls (Some f) None told e known = absurd cc
    by opening calls (Some f) (Some d) told e known =
        let same : d ≡ c = cc in
        let key : f.key ≡ refusal.key = (let v : NotLinearizable refusal ≡ failed_verdict f = told in cc) in
        subst (λ (q : Clash). IsClash calls refusal.key.0 (presence (has_key refusal.key.0 opening)) None q.was (record_if q.first) (record_if q.second)) same
        (subst (λ (k : Key). IsClash calls k.0 (presence (has_key k.0 opening)) None d.was (record_if d.first) (record_if d.second)) key
        (subst (λ (cs : List CallRecord). IsClash cs f.key.0 (presence (has_key f.key.0 opening)) None d.was (record_if d.first) (record_if d.second))
        (append-nil calls) (known [] (λ i e low. absurd (omega (arith, low))))))

pub clash_of_left : (s : Stream) (refusal : Refusal) (left : Presence) (clash : Option Clash)
    → IfSome clash (λ (c : Clash). (s.failed ≡ None) × IsFoundLeft refusal.key.0 (facts_for s.states refusal.key.0) left c)
    → IfSome clash (λ (c : Clash). (opening : List ℕ) → ClashesStream opening refusal (Some left) s c)
clash_of_left s refusal left None h = tt
clash_of_left s refusal left (Some c) h = λ opening threads calls kept.
    let known = subst (λ (o : Option Failed). AreKnownBy opening calls s.moment s.states o s.clash) h.0 kept.known in
    clash_is_left opening calls refusal.key.0 (facts_for s.states refusal.key.0) (known refusal.key.0) kept.stream.before left c h.1

pub clash_now : (s : Stream) (refusal : Refusal) (left known : Option Presence) (clash : Option Clash) → left ≡ known
    → IfSome clash (λ (c : Clash). (opening : List ℕ) → ClashesStream opening refusal left s c)
    → (threads : ℕ) (opening : List ℕ) (calls : List CallRecord) → IsStreamKept threads opening calls s
    → IfSome clash (ClashesIn opening calls refusal.key.0 known)
clash_now s refusal left known None e h threads opening calls kept = tt
clash_now s refusal left known (Some c) e h threads opening calls kept =
    subst (λ (o : Option Presence). ClashesIn opening calls refusal.key.0 o c) e (h opening threads calls kept)
