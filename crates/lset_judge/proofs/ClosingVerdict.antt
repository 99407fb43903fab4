-- Proof: once the judge has processed the starts and ends of all recorded calls, its verdict is correct.
use Rattle.std.proofs.Common.{◌≡◌, ◌≢◌, ℕ, ◌-◌, ◌<◌, ◌≤◌, Bool, false, List, [], ◌∷◌, sym, ap, ◌∙◌, arith, inl, inr, zero, suc, true, refl, subst, length, get_or}
use Rattle.std.specs.Prelude.{◌==◌, ◌&&◌, nat_le, None, IfSome, ◌||◌, Option, Some, is_some, MatchOption, All}
use Rattle.std.specs.List.{AllByRecursion}
use Rattle.std.specs.List.Sorted.{IsStrictlyIncreasing}
use Rattle.std.proofs.lemmas.Bool.Decides.{nat_tests}
use Rattle.std.proofs.lemmas.List.Elements.{All-filter, recursion_from_All, All-head, All-tail}
use Rattle.std.proofs.lemmas.List.Kept.{AllPairs-filter}
use Rattle.std.proofs.lemmas.Bool.{cases_Bool, or_left}
use Rattle.std.proofs.lemmas.List.{get_or_default}
use Rattle.std.proofs.lemmas.List.Sums.{count_by-le-length}
use Rattle.lset_words.specs.declared.Reply.{Reply}
use Rattle.lset_words.specs.declared.history.CallRecord.{CallRecord}
use Rattle.lset_words.specs.SequentialSet.{has_key}
use Rattle.lset_words.specs.Words.{key_of}
use Rattle.lset_words.specs.History.{IsCall, Follows, IsHistory, call_numbered, no_call}
use Rattle.lset_words.proofs.Numbers.{unequal_test, below_or_not}
use Rattle.lset_history.specs.History.{HistoryValue, latest_moment, moment_of}
use Rattle.lset_judge.specs.Rule.{Event, state_after, may_leave, State, leaves, same, options, nearest, turned_by, turned_if, settled, open_changes, found, entered}
use Rattle.lset_judge.specs.Rule.{stepped}
use Rattle.lset_judge.specs.Events.{event_at, rule_explains}
use Rattle.lset_judge.specs.Verdict.{IsUnexplained, with_quota, calls_by, of_key, IsExplained, IsJudged, IsRefusedBy, may_add}
use Rattle.lset_judge.proofs.StatesAfter.{failed_by, left_alike, quiet_until, same_after, stays_after, stays_failed}
use Rattle.lset_judge.proofs.RuleDecides.{unexplained, explained, explained_so}
use Rattle.lset_judge.proofs.EventLemmas.{IsSilent, ends_not, event_filter, event_idle, for_some, if_some, latest_filter, opens_so}
use Rattle.lset_judge.specs.declared.stream.Failed.{Failed}
use Rattle.lset_judge.specs.declared.stream.Pending.{Pending}
use Rattle.lset_judge.specs.declared.stream.Stream.{Stream}
use Rattle.lset_judge.specs.Leaving.{has_any, may_be_left}
use Rattle.lset_judge.specs.Stream.{stream_history, behind_all, state_for, pending_of, verdict_of_key, FailsFirst, HasFailed, IsStreamOf, IsStreamVerdict}
use Rattle.lset_judge.proofs.PlacedCalls.{same_flips}
use Rattle.lset_judge.proofs.RuleLeads.{at_once, no_state, settled_none}
use Rattle.lset_judge.proofs.StreamSteps.{same_some, until_end}

-- ---- Lemmas about calls that start after a moment

abbrev EndsLater : CallRecord → Type 0
EndsLater x = IfSome x.ended (λ (e : ℕ × Reply). x.begun < e.0)

abbrev is_by : ℕ → ℕ → CallRecord → Bool
is_by k M x = (key_of x.call).0 == k && nat_le x.begun M

event_by : (last k M m : ℕ) (xs : List CallRecord) → m ≤ M → AllByRecursion EndsLater xs → event_at last k (calls_by k M xs) m ≡ event_at last k xs m
event_by last k M m xs low later = event_filter last k m (is_by k M) xs (silent xs later)
  where
    apart : (x : CallRecord) → EndsLater x → is_by k M x ≡ false → IsSilent k m x
    apart x ends f t =
        let above : M < x.begun = (let g : nat_le x.begun M ≡ false = rw t at f in grind (arith, nat_tests)) in (
          unequal_test x.begun m (λ e. omega (arith, e, above, low)),
          ends_not m x.ended (for_some (λ (e : ℕ × Reply). e.0 ≢ m) x.ended (λ e is same.
              let after = if_some (λ (d : ℕ × Reply). x.begun < d.0) x.ended e is ends in omega (arith, after, same, above, low))),
        )

    silent : (xs : List CallRecord) → AllByRecursion EndsLater xs → AllByRecursion (λ (x : CallRecord). is_by k M x ≡ false → IsSilent k m x) xs
    silent [] a = tt
    silent (x ∷ xs) a = (apart x a.0, silent xs a.1)

module _ (last : ℕ) (h : HistoryValue) (told : IsHistory h.opening.threads h.calls) (upto : latest_moment h.calls ≤ last) (k M : ℕ) where
  abbrev own : List CallRecord
  own = calls_by k M h.calls

  abbrev among : ℕ → Event
  among = event_at last k own

  own_told : IsHistory h.opening.threads own
  own_told = record {
    each = All-filter (is_by k M) (IsCall h.opening.threads) h.calls told.each;
    pairs = AllPairs-filter Follows (is_by k M) h.calls told.pairs;
  }

  later : AllByRecursion EndsLater h.calls
  later = recursion_from_All EndsLater h.calls (λ i d l. (told.each i d l).ends_later)

  none_of_them : (quota : ℕ) (left : List ℕ) → may_leave among (has_key k h.opening.keys) (has_key k left) last ≡ false
      → IsUnexplained (of_key k M (with_quota quota h)) left
  none_of_them quota left fails =
      unexplained last (of_key k M (with_quota quota h)) left (let a = latest_filter (is_by k M) h.calls in omega (arith, a, upto)) own_told k
      (ap (λ b. may_leave among b (has_key k left) last) (opens_so (has_key k h.opening.keys) k) ∙ fails)

  pub refused_by : state_after (event_at last k h.calls) (has_key k h.opening.keys) M ≡ None → (quota : ℕ) (left : List ℕ)
      → IsUnexplained (of_key k M (with_quota quota h)) left
  refused_by none quota left = none_of_them quota left
      (failed_by own last (let a = latest_filter (is_by k M) h.calls in omega (arith, a, upto)) k (has_key k h.opening.keys) (has_key k left) M
      (same_after among (event_at last k h.calls) (has_key k h.opening.keys) M (λ m low. event_by last k M m h.calls low later) ∙ none))

  pub refused_left : (keys : List ℕ) → M ≡ latest_moment h.calls → rule_explains last h keys k ≡ false → (quota : ℕ) (left : List ℕ)
      → has_key k left ≡ has_key k keys → IsUnexplained (of_key k M (with_quota quota h)) left
  refused_left keys all fails quota left same = none_of_them quota left
      (ap (λ b. may_leave among (has_key k h.opening.keys) b last) same
      ∙ left_alike among (event_at last k h.calls) (has_key k h.opening.keys) (has_key k keys) last (λ m low. elim (below_or_not M m) [
        | inr early ↦ event_by last k M m h.calls early later
        | inl late ↦ event_idle k m last own (let a = latest_filter (is_by k M) h.calls in omega (arith, a, late, all))
            ∙ sym (event_idle k m last h.calls (omega (arith, late, all)))
      ])
      ∙ fails)

-- ---- Lemmas about the possible final states of a key

module _ (m : ℕ) (w : Bool) where
  one_turn : (n : ℕ) (s : State) (os : List ℕ) → same w s.there ≡ false → options s ≡ os → length os ≤ n
      → is_some (settled n m (leaves w) (Some s)) ≡ has_any os
  one_turn zero s [] f e low = rw f refl
  one_turn zero s (x ∷ xs) f e low = absurd (omega (arith, low))
  one_turn (suc n) s [] f e low = rw f (ap (λ (os : List ℕ). is_some (settled n m (leaves w) (turned_if m s os))) e ∙ ap is_some (settled_none n m (leaves w)))
  one_turn (suc n) s (x ∷ xs) f e low =
      rw f (ap (λ (os : List ℕ). is_some (settled n m (leaves w) (turned_if m s os))) e
      ∙ ap is_some (at_once n m (leaves w) (turned_by m (nearest x xs) s) (same_flips w s.there f)))

  few : (s : State) → length (options s) ≤ open_changes s
  few s = elim (cases_Bool s.there) [ inl t ↦ rw t (omega arith) | inr t ↦ rw t (omega arith) ]

  pub leaves_so : (s : State) → is_some (stepped m (leaves w) (Some s)) ≡ may_be_left w s
  leaves_so s = kept (found m (leaves w) s) ∙ elim (cases_Bool (same w s.there)) [
    | inl t ↦ ap is_some (at_once (open_changes s) m (leaves w) s t) ∙ sym (or_left (same w s.there) (has_any (options s)) t)
    | inr f ↦ one_turn (open_changes s) s (options s) f refl (few s) ∙ sym (rw f refl)
  ]
    where
      kept : (o : Option State) → is_some (entered (leaves w) o) ≡ is_some o
      kept None = refl
      kept (Some t) = refl

pub as_it_is : (s : State) → may_be_left s.there s ≡ true
as_it_is s = of s.there (has_any (options s))
  where
    of : (w b : Bool) → (same w w || b) ≡ true
    of true b = refl
    of false b = refl

-- ---- Lemmas about the last moment of a history

pub latest_upto : (G : ℕ) (xs : List CallRecord) → All (λ (x : CallRecord). (x.begun ≤ G) × IfSome x.ended (λ (e : ℕ × Reply). e.0 ≤ G)) xs → latest_moment xs ≤ G
latest_upto G [] a = omega arith
latest_upto G (x ∷ xs) a =
    let P : CallRecord → Type 0 = λ x. (x.begun ≤ G) × IfSome x.ended (λ (e : ℕ × Reply). e.0 ≤ G) in
    let here = All-head P x xs a in
    let rest = latest_upto G xs (All-tail P x xs a) in
    let b = here.0 in let e = upto x.ended here.1 in omega (arith, b, e, rest)
  where
    upto : (o : Option (ℕ × Reply)) → IfSome o (λ (e : ℕ × Reply). e.0 ≤ G) → moment_of o ≤ G
    upto None h = omega arith
    upto (Some e) h = h

-- ---- Proof of the verdict

module _ (threads : ℕ) (opening : List ℕ) (calls : List CallRecord) (s : Stream) (is : IsStreamOf threads opening calls s)
    (met : All (λ (p : Pending). behind_all ≤ p.end) s.pending) where
  abbrev h : HistoryValue
  h = stream_history threads opening calls

  pub all_over : (n : ℕ) → n < length calls → IfSome (call_numbered calls n).ended (λ (e : ℕ × Reply). e.0 ≤ s.moment)
  all_over n low = for_some (λ (e : ℕ × Reply). e.0 ≤ s.moment) (call_numbered calls n).ended (λ e q. elim (is.pending.kept n low) [
    | inl over ↦ (let u = over.2 in let same = ap (λ (z : ℕ × Reply). z.0) (same_some (call_numbered calls n).ended e over.0 q over.1) in omega (arith, same, u))
    | inr c ↦ absurd (
        let d : Pending = pending_of (call_numbered calls n) in
        let f = met c.0 d c.1 in let g = ap (λ (p : Pending). p.end) c.2 in
        let u : d.end ≡ e.0 = until_end behind_all (call_numbered calls n).begun (call_numbered calls n).ended e q in
        let b = if_some (λ (z : ℕ × Reply). z.0 < behind_all) (call_numbered calls n).ended e q (is.before n no_call low).1 in
        omega (arith, f, g, u, b))
  ])

  latest : latest_moment calls ≤ s.moment
  latest = latest_upto s.moment calls (λ n d low.
      subst (λ (x : CallRecord). (x.begun ≤ s.moment) × IfSome x.ended (λ (e : ℕ × Reply). e.0 ≤ s.moment)) (sym (get_or_is n d low))
      (is.begun n no_call low, all_over n low))
    where
      get_or_is : (n : ℕ) (d : CallRecord) → n < length calls → get_or calls n d ≡ get_or calls n no_call
      get_or_is n d low = get_or_default calls n d no_call low

  behind : latest_moment calls ≤ behind_all
  behind = let a = latest in let b = is.moment in omega (arith, a, b)

  upto : s.moment ≤ behind_all
  upto = let b = is.moment in omega (arith, b)

  module _ (judged : (k : ℕ) → state_after (event_at behind_all k calls) (has_key k opening) s.moment ≡ Some (state_for s.states k)) where
    pub left_judged : (left : Bool) (k : ℕ) → may_leave (event_at behind_all k calls) (has_key k opening) left behind_all ≡ may_be_left left (state_for s.states k)
    left_judged left k =
        ap (λ (o : Option State). is_some (stepped behind_all (leaves left) o))
        (stays_after calls behind_all behind k (has_key k opening) s.moment latest upto ∙ judged k)
        ∙ leaves_so behind_all left (state_for s.states k)

    is_judged : IsJudged h
    is_judged = record {
      plain = is.plain;
      room = λ t. count_by-le-length (λ (x : CallRecord). may_add x.call x.ended && x.thread == t) calls;
    }

    stream_explained : (keys : List ℕ) → IsStrictlyIncreasing keys → ((k : ℕ) → may_be_left (has_key k keys) (state_for s.states k) ≡ true)
        → IsExplained h keys
    stream_explained keys increase may = explained behind_all h keys behind is.history is.opens is_judged increase (λ k. left_judged (has_key k keys) k ∙ may k)

    never_fails : (k m : ℕ) → HasFailed h k m → ⊥
    never_fails k m fails = no_state (state_for s.states k) (sym (elim (below_or_not s.moment m) [
      | inr early ↦ stays_failed (event_at behind_all k calls) (has_key k opening) (s.moment - m) m s.moment (omega (arith, early)) fails
      | inl late ↦ sym (quiet_until (event_at behind_all k calls) (has_key k opening) (m - s.moment) s.moment m (omega (arith, late))
          (λ j l low. event_idle k j behind_all calls (let a = latest in omega (arith, a, l)))) ∙ fails
    ]) ∙ judged k) ⊥

    stream_left : (keys : List ℕ) (k : ℕ) → may_be_left (has_key k keys) (state_for s.states k) ≡ false
        → ((quota : ℕ) → IsUnexplained (with_quota quota h) keys) × IsRefusedBy h keys k None × FailsFirst h k None
    stream_left keys k wrong =
        let fails : rule_explains behind_all h keys k ≡ false = left_judged (has_key k keys) k ∙ wrong in (
          (λ quota. unexplained behind_all (with_quota quota h) keys behind is.history k fails),
          refused_left behind_all h is.history behind k (latest_moment calls) keys refl fails,
          never_fails,
        )

    pub stream_closed : (keys : List ℕ) → IsStrictlyIncreasing keys → (found : Option ℕ)
        → MatchOption found ((k : ℕ) → may_be_left (has_key k keys) (state_for s.states k) ≡ true)
        (λ (k : ℕ). may_be_left (has_key k keys) (state_for s.states k) ≡ false)
        → IsStreamVerdict h keys (verdict_of_key found)
    stream_closed keys increase None may = stream_explained keys increase may
    stream_closed keys increase (Some k) wrong = stream_left keys k wrong

    pub stream_cut_off : (keys : List ℕ) × IsExplained h keys
    stream_cut_off =
        let so = explained_so behind_all h (λ k. (state_for s.states k).there) behind is.history is.opens is_judged
        (λ k. left_judged (state_for s.states k).there k ∙ as_it_is (state_for s.states k)) in (so.0, so.1)

  pub stream_refused : (f : Failed) → state_after (event_at behind_all f.key.0 calls) (has_key f.key.0 opening) f.moment ≡ None
      → ((k m : ℕ) → HasFailed h k m → f.moment ≤ m)
      → (keys : List ℕ) → ((quota : ℕ) → IsUnexplained (with_quota quota h) keys) × IsRefusedBy h keys f.key.0 (Some f.moment)
      × FailsFirst h f.key.0 (Some f.moment)
  stream_refused f none first keys = (
    (λ quota. unexplained behind_all (with_quota quota h) keys behind is.history f.key.0
        (failed_by calls behind_all behind f.key.0 (has_key f.key.0 opening) (has_key f.key.0 keys) f.moment none)),
    (λ quota left. refused_by behind_all h is.history behind f.key.0 f.moment none quota left),
    (none, first),
  )
