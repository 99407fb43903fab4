-- Proof: the stored state of a stream (a judge of calls in sequence) stays correct when a call starts.
use Rattle.std.proofs.Common.{◌≡◌, ◌≢◌, ℕ, suc, ◌+◌, ◌-◌, ◌<◌, ◌≤◌, true, List, [], ◌∷◌, ◌++◌, refl, sym, ap, ◌∙◌, arith, subst, inl, inr}
use Rattle.std.proofs.Common.{length, get_or, length-append}
use Rattle.std.specs.Prelude.{Option, Some, None, IfSome, IsSomeAnd, All, Contains}
use Rattle.std.specs.List.Sorted.{IsPermutation}
use Rattle.std.proofs.lemmas.List.{get_or_default, get_or_append_left, get_or_push}
use Rattle.std.proofs.lemmas.List.Elements.{recursion_from_All, All-push, All-cons}
use Rattle.std.proofs.lemmas.List.Sorted.{All-permutation, Contains-permutation, IsPermutation-sym}
use Rattle.std.proofs.lemmas.List.Kept.{AllPairs-cons}
use Rattle.lset_words.specs.declared.Reply.{Reply}
use Rattle.lset_words.specs.declared.history.CallRecord.{CallRecord}
use Rattle.lset_words.specs.SequentialSet.{has_key}
use Rattle.lset_words.specs.Words.{key_of}
use Rattle.lset_words.specs.History.{Follows, call_numbered, no_call}
use Rattle.lset_words.proofs.Numbers.{below_or_not}
use Rattle.lset_history.proofs.CallByCall.{history_begun}
use Rattle.lset_judge.specs.declared.stream.Failed.{Failed}
use Rattle.lset_judge.specs.declared.stream.Pending.{Pending}
use Rattle.lset_judge.specs.declared.stream.Stream.{Stream}
use Rattle.lset_judge.specs.Events.{kind_if, until_if, begin_event, event_at}
use Rattle.lset_judge.specs.Stream.{behind_all, pending_of, key_in, event_of, no_pending, IsOver, IsBefore, ArePending, IsJudgedTo, IsMetBy}
use Rattle.lset_judge.specs.Pending.{IsNext}
use Rattle.lset_judge.specs.Stream.{IsStreamOf, MayCome}
use Rattle.lset_judge.specs.Verdict.{is_plain}
use Rattle.lset_judge.proofs.StatesAfter.{same_after}
use Rattle.lset_judge.proofs.StreamSteps.{same_some, until_end, event_before, event_begun, goes_to}
use Rattle.lset_judge.proofs.EventLemmas.{if_some, for_some, none_or_some}
use Rattle.lset_judge.proofs.StreamSteps.{quiet_before, ends_next, without_next, ends_moved, later_too}

some_and : (P : ℕ × Reply → Type 0) (o : Option (ℕ × Reply)) (e : ℕ × Reply) → o ≡ Some e → P e → IsSomeAnd o P
some_and P o e s h = subst (λ q. IsSomeAnd q P) (sym s) h

-- ---- Lemmas about the next moment when a pending call ends

pub end_met : (threads : ℕ) (opening : List ℕ) (calls : List CallRecord) (s t : Stream) (moment : ℕ) (p : Pending) (rest : List Pending)
    → moment ≤ behind_all → IsNext moment s.pending p rest → t.pending ≡ rest → t.moment ≡ p.end
    → IsMetBy s.states (key_in p) p.end (event_of p) t.states s.failed t.failed → IsStreamOf threads opening calls s → IsStreamOf threads opening calls t
end_met threads opening calls s t moment p rest upto next pending at met is =
    let here = Contains-permutation (p ∷ rest) s.pending p (IsPermutation-sym s.pending (p ∷ rest) next.is) (0, omega arith, refl) in
    let i : ℕ = here.0 in let low = here.1 in
    let own : get_or s.pending i no_pending ≡ p = sym (get_or_default s.pending i p no_pending low) ∙ here.2 in
    let at_end : p.end ≡ (get_or s.pending i no_pending).end = ap (λ (q : Pending). q.end) (sym own) in
    let soon = next.early in
    let early : (get_or s.pending i no_pending).end < behind_all = omega (arith, at_end, soon, upto) in
    let smallest = subst (λ (q : Pending). All (λ (r : Pending). q.end ≤ r.end) s.pending) (sym own) next.smallest in
    let now = is.pending.later i no_pending low in
    let e : t.moment ≡ (get_or s.pending i no_pending).end = at ∙ at_end in
    record {
      opens = is.opens;
      history = is.history;
      plain = is.plain;
      before = is.before;
      begun = λ n d inside. let up = is.begun n d inside in omega (arith, up, now, e);
      moment = omega (arith, e, early);
      pending = subst (λ ps. ArePending calls t.moment ps) (sym pending)
          (subst (λ m. ArePending calls m rest) (sym e)
          (without_next threads calls is.history is.before s.moment is.begun s.pending is.pending i low early smallest rest
          (subst (λ (q : Pending). IsPermutation s.pending (q ∷ rest)) (sym own) next.is)));
      judged = subst (λ m. IsJudgedTo opening calls m t.states t.failed) (sym e)
          (goes_to opening calls s.moment ((get_or s.pending i no_pending).end - 1) (key_in (get_or s.pending i no_pending))
          (event_of (get_or s.pending i no_pending)) (omega (arith, now))
          (λ j from upto k. quiet_before threads calls is.history is.before s.moment is.begun s.pending is.pending j from
          (λ n d inside. let up = smallest n d inside in omega (arith, up, upto, now)) k)
          (λ k. ap (event_at behind_all k calls) (let z : suc ((get_or s.pending i no_pending).end - 1) ≡ (get_or s.pending i no_pending).end = omega (arith, now) in z)
          ∙ ends_next threads calls is.history is.before s.moment is.begun s.pending is.pending i low early k)
          (get_or s.pending i no_pending).end (let z : (get_or s.pending i no_pending).end ≡ suc ((get_or s.pending i no_pending).end - 1) = omega (arith, now) in z)
          s.states t.states s.failed t.failed
          (subst (λ (q : Pending). IsMetBy s.states (key_in q) q.end (event_of q) t.states s.failed t.failed) (sym own) met) is.judged);
    }

-- ---- Proof for a call x that starts

module _ (threads : ℕ) (opening : List ℕ) (calls : List CallRecord) (s : Stream) (is : IsStreamOf threads opening calls s) (x : CallRecord)
    (may : MayCome s.pending s.moment x) (met : All (λ (p : Pending). x.begun ≤ p.end) s.pending) where
  abbrev call : ℕ → CallRecord
  call n = get_or calls n no_call

  far : All (λ (p : Pending). x.begun < p.end) s.pending
  far i d low = let up = met i d low in let ne = (may.apart i d low).0 in omega (arith, up, ne)

  later_end : (e : ℕ × Reply) → x.ended ≡ Some e → x.begun < e.0
  later_end e q = if_some (λ (e : ℕ × Reply). x.begun < e.0) x.ended e q may.ends

  follow_over : (n : ℕ) → n < length calls → IsOver s.moment (call n) → Follows (call n) x
  follow_over n low over =
      let up = is.begun n no_call low in let b = may.begins in let u = over.2 in
      let ends : (d : ℕ × Reply) → (call n).ended ≡ Some d → d.0 ≤ s.moment = λ d q.
      let same = ap (λ (z : ℕ × Reply). z.0) (same_some (call n).ended d over.0 q over.1) in omega (arith, same, u) in
      record {
        increasing = omega (arith, up, b);
        begins_alone = for_some (λ (e : ℕ × Reply). e.0 ≢ x.begun) (call n).ended (λ d q z. let l = ends d q in omega (arith, l, b, z));
        ends_alone = for_some (λ (e : ℕ × Reply). (e.0 ≢ (call n).begun) × IfSome (call n).ended (λ (d : ℕ × Reply). e.0 ≢ d.0)) x.ended
            (λ e q. let l = later_end e q in (
              (λ z. omega (arith, z, l, up, b)),
              for_some (λ (d : ℕ × Reply). e.0 ≢ d.0) (call n).ended (λ d r z. let m = ends d r in omega (arith, z, l, m, b)),
            ));
        none_open = λ same. some_and (λ (e : ℕ × Reply). e.0 < x.begun) (call n).ended over.0 over.1 (omega (arith, u, b));
      }

  follow_pending : (n : ℕ) → n < length calls → Contains s.pending (pending_of (call n)) → Follows (call n) x
  follow_pending n low c =
      let up = is.begun n no_call low in let b = may.begins in
      let d : Pending = pending_of (call n) in
      let after : x.begun < d.end = (let f = far c.0 d c.1 in let g = ap (λ (p : Pending). p.end) c.2 in omega (arith, f, g)) in
      let ends : (e : ℕ × Reply) → (call n).ended ≡ Some e → d.end ≡ e.0 = λ e q. until_end behind_all (call n).begun (call n).ended e q in
      record {
        increasing = omega (arith, up, b);
        begins_alone = for_some (λ (e : ℕ × Reply). e.0 ≢ x.begun) (call n).ended (λ e q z. let l = ends e q in omega (arith, l, after, z));
        ends_alone = for_some (λ (e : ℕ × Reply). (e.0 ≢ (call n).begun) × IfSome (call n).ended (λ (d : ℕ × Reply). e.0 ≢ d.0)) x.ended
            (λ e q. let l = later_end e q in (
              (λ z. omega (arith, z, l, up, b)),
              for_some (λ (d : ℕ × Reply). e.0 ≢ d.0) (call n).ended (λ g r z.
                  let m = ends g r in
                  let ne = if_some (λ (e : ℕ × Reply). (get_or s.pending c.0 d).end ≢ e.0) x.ended e q (may.apart c.0 d c.1).1 in
                  let k = ap (λ (p : Pending). p.end) c.2 in omega (arith, m, ne, k, z)),
            ));
        none_open = λ same. absurd (
            let f = may.free c.0 d c.1 (ap (λ (p : Pending). p.call.thread) c.2 ∙ same) in
            let g = ap (λ (p : Pending). p.end) c.2 in omega (arith, f, g, after));
      }

  follows : All (λ (y : CallRecord). Follows y x) calls
  follows n d low = subst (λ y. Follows y x) (sym (get_or_default calls n d no_call low)) (elim (is.pending.kept n low) [
    | inl over ↦ follow_over n low over
    | inr c ↦ follow_pending n low c
  ])

  abbrev more : List CallRecord
  more = calls ++ x ∷ []

  old_call : (n : ℕ) → n < length calls → call_numbered more n ≡ call n
  old_call n low = get_or_append_left calls (x ∷ []) no_call n low

  new_call : call_numbered more (length calls) ≡ x
  new_call = get_or_push calls x no_call (length calls) refl

  long : length more ≡ length calls + 1
  long = length-append calls (x ∷ [])

  ends_apart : (k : ℕ) (d : Pending) → k < length s.pending → (get_or s.pending k d).end ≢ (pending_of x).end
  ends_apart k d low z = elim (none_or_some x.ended) [
    | inr e ↦ (
        let ne = if_some (λ (e : ℕ × Reply). (get_or s.pending k d).end ≢ e.0) x.ended e.0 e.1 (may.apart k d low).1 in
        ne (z ∙ until_end behind_all x.begun x.ended e.0 e.1))
    | inl none ↦ (
        let own : (pending_of x).end ≡ behind_all + x.begun = ap (until_if behind_all x.begun) none in
        let known = is.pending.known k d low in
        let n : ℕ = known.0 in
        let u = ap (λ (p : Pending). p.end) known.2 in
        let up = is.begun n no_call known.1 in let b = may.begins in
        elim (none_or_some (call n).ended) [
          | inr e ↦ (
              let v : (pending_of (call n)).end ≡ e.0.0 = until_end behind_all (call n).begun (call n).ended e.0 e.1 in
              let w = if_some (λ (e : ℕ × Reply). e.0 < behind_all) (call n).ended e.0 e.1 (is.before n no_call known.1).1 in
              omega (arith, z, own, u, v, w))
          | inl unended ↦ (
              let v : (pending_of (call n)).end ≡ behind_all + (call n).begun = ap (until_if behind_all (call n).begun) unended in
              omega (arith, z, own, u, v, up, b))
        ])
  ]

  own_later : x.begun < (pending_of x).end
  own_later = elim (none_or_some x.ended) [
    | inr e ↦ (let l = later_end e.0 e.1 in let v : (pending_of x).end ≡ e.0.0 = until_end behind_all x.begun x.ended e.0 e.1 in omega (arith, l, v))
    | inl none ↦ (let v : (pending_of x).end ≡ behind_all + x.begun = ap (until_if behind_all x.begun) none in omega (arith, v))
  ]

  pub begins_apart : All (λ (p : Pending). p.end ≢ (pending_of x).end) s.pending
  begins_apart k d low = ends_apart k d low

  module _ (now : List Pending) (moved : IsPermutation (pending_of x ∷ s.pending) now) where
    pub with_begun : ArePending more x.begun now
    with_begun = record {
      known = All-permutation (λ (p : Pending). (n : ℕ) × (n < length more) × (p ≡ pending_of (call_numbered more n))) (pending_of x ∷ s.pending) now moved
          (All-cons (λ (p : Pending). (n : ℕ) × (n < length more) × (p ≡ pending_of (call_numbered more n))) (pending_of x) s.pending
          (length calls, omega (arith, long), ap pending_of (sym new_call))
          (λ i d low. let k = is.pending.known i d low in let l = k.1 in
          (k.0, omega (arith, l, long), k.2 ∙ ap pending_of (sym (old_call k.0 k.1)))));
      kept = λ n low. elim (below_or_not n (length calls)) [
        | inl old ↦ elim (is.pending.kept n old) [
          | inl over ↦ inl (over.0, ap (λ (y : CallRecord). y.ended) (old_call n old) ∙ over.1, let u = over.2 in let b = may.begins in omega (arith, u, b))
          | inr c ↦ inr (subst (Contains now) (ap pending_of (sym (old_call n old)))
              (Contains-permutation (pending_of x ∷ s.pending) now (pending_of (call n)) moved (later_too (pending_of x) s.pending (pending_of (call n)) c)))
        ]
        | inr last ↦ inr (
            let e : length calls ≡ n = omega (arith, last, low, long) in
            subst (λ j. Contains now (pending_of (call_numbered more j))) e
            (subst (Contains now) (ap pending_of (sym new_call))
            (Contains-permutation (pending_of x ∷ s.pending) now (pending_of x) moved (0, omega arith, refl))))
      ];
      apart = ends_moved (pending_of x ∷ s.pending) now moved (AllPairs-cons (λ (p q : Pending). p.end ≢ q.end) (pending_of x) s.pending
          (λ k d low z. ends_apart k d low (sym z)) is.pending.apart);
      later = All-permutation (λ (p : Pending). x.begun < p.end) (pending_of x ∷ s.pending) now moved
          (All-cons (λ (p : Pending). x.begun < p.end) (pending_of x) s.pending own_later far);
    }

  still_judged : (failed : Option Failed) → IsJudgedTo opening calls s.moment s.states failed → IsJudgedTo opening more s.moment s.states failed
  still_judged None so = λ k. same_after (event_at behind_all k more) (event_at behind_all k calls) (has_key k opening) s.moment
      (λ j l. event_before behind_all k j calls x (let b = may.begins in omega (arith, l, b)) may.ends) ∙ so k
  still_judged (Some f) so = (
    so.0,
    same_after (event_at behind_all f.key.0 more) (event_at behind_all f.key.0 calls) (has_key f.key.0 opening) f.moment
        (λ j l. event_before behind_all f.key.0 j calls x (let b = may.begins in let u = so.0 in omega (arith, l, u, b)) may.ends) ∙ so.1,
    (λ k m fails. elim (below_or_not m f.moment) [
      | inr late ↦ late
      | inl early ↦ so.2 k m (sym (same_after (event_at behind_all k more) (event_at behind_all k calls) (has_key k opening) m
          (λ j l. event_before behind_all k j calls x (let b = may.begins in let u = so.0 in omega (arith, l, early, u, b)) may.ends)) ∙ fails)
    ]),
  )

  pub call_begun : x.thread < threads → (t : Stream) → IsPermutation (pending_of x ∷ s.pending) t.pending → t.moment ≡ x.begun
      → IsMetBy s.states (key_of x.call).0 x.begun (begin_event (kind_if x.call x.ended) (until_if behind_all x.begun x.ended)) t.states s.failed t.failed
      → IsStreamOf threads opening more t
  call_begun of_thread t moved moment by =
      let b = may.begins in record {
        opens = is.opens;
        history = history_begun threads calls x is.history
            (record { call = record { of_a_thread = of_thread; counted = omega (arith, b); ends_later = may.ends }; follows = follows });
        plain = All-push (λ (y : CallRecord). IfSome y.ended (λ (e : ℕ × Reply). is_plain y.call e.1 ≡ true)) calls x is.plain may.plain;
        before = All-push IsBefore calls x is.before may.before;
        begun = All-push (λ (y : CallRecord). y.begun ≤ t.moment) calls x (λ n d low. let up = is.begun n d low in omega (arith, up, b, moment)) (omega (arith, moment));
        moment = (let u = may.before.0 in omega (arith, u, moment));
        pending = subst (λ m. ArePending more m t.pending) (sym moment) (with_begun t.pending moved);
        judged = subst (λ m. IsJudgedTo opening more m t.states t.failed) (sym moment)
            (goes_to opening more s.moment (x.begun - 1) (key_of x.call).0 (begin_event (kind_if x.call x.ended) (until_if behind_all x.begun x.ended))
            (omega (arith, b))
            (λ j from upto k. event_before behind_all k j calls x (omega (arith, upto, b)) may.ends
            ∙ quiet_before threads calls is.history is.before s.moment is.begun s.pending is.pending j from
            (λ n d inside. let f = far n d inside in omega (arith, f, upto)) k)
            (λ k. ap (event_at behind_all k more) (let z : suc (x.begun - 1) ≡ x.begun = omega (arith, b) in z)
            ∙ event_begun behind_all k calls x (recursion_from_All (λ (y : CallRecord). (y.begun ≢ x.begun) × IfSome y.ended (λ (e : ℕ × Reply). e.0 ≢ x.begun)) calls
            (λ n d low. let f = follows n d low in ((let r = f.increasing in λ z. omega (arith, r, z)), f.begins_alone))))
            x.begun (let z : x.begun ≡ suc (x.begun - 1) = omega (arith, b) in z) s.states t.states s.failed t.failed by
            (still_judged s.failed is.judged));
      }
