-- Proofs about the events from the start of a recorded call to the start of the next: the moments before the next
-- pending call ends, the moment when the pending call ends, and the moment when the next call starts.
use Rattle.std.proofs.Common.{◌≡◌, ◌≢◌, ℕ, suc, ◌+◌, ◌-◌, ◌<◌, ◌≤◌, List, [], ◌∷◌, ◌++◌, refl, sym, ap, ◌∙◌, arith, subst}
use Rattle.std.proofs.Common.{◌⊎◌, Bool, zero, inl, inr, length, get_or}
use Rattle.std.specs.Prelude.{◌==◌, if◌then◌else◌, Option, Some, None, IfSome, All, AllPairs, Contains}
use Rattle.std.specs.List.{AllByRecursion}
use Rattle.std.specs.List.Sorted.{IsPermutation}
use Rattle.std.proofs.lemmas.Bool.{cases_Bool}
use Rattle.std.proofs.lemmas.List.{get_or_default}
use Rattle.std.proofs.lemmas.List.Elements.{All-tail}
use Rattle.std.proofs.lemmas.List.Sorted.{All-permutation, Contains-permutation}
use Rattle.std.proofs.lemmas.Map.Keys.{apart_from_distinct, IsDistinct-from_apart, IsDistinct-IsPermutation}
use Rattle.lset_words.specs.declared.Reply.{Reply}
use Rattle.lset_words.specs.declared.history.CallRecord.{CallRecord}
use Rattle.lset_words.specs.SequentialSet.{has_key}
use Rattle.lset_words.specs.Words.{key_of}
use Rattle.lset_words.specs.History.{IsHistory, call_numbered, no_call}
use Rattle.lset_words.proofs.Numbers.{below_or_not, same_or_not, equal_test, unequal_test, same_number, other_number}
use Rattle.lset_history.proofs.Pairs.{pairs_head, pairs_tail}
use Rattle.lset_judge.specs.declared.stream.Failed.{Failed}
use Rattle.lset_judge.specs.declared.stream.Pending.{Pending}
use Rattle.lset_judge.specs.Rule.{Event, State, idle, found, entered, stepped, state_after}
use Rattle.lset_judge.specs.Events.{kind_if, until_if, begin_event, event_at}
use Rattle.lset_judge.specs.Stream.{States, behind_all, state_for, pending_of, key_in, event_of, no_pending, IsBefore, ArePending, IsJudgedTo}
use Rattle.lset_judge.specs.Stream.{IsMetBy, MayCome}
use Rattle.lset_judge.proofs.StatesAfter.{idle_step, quiet_until, stays_failed}
use Rattle.lset_judge.proofs.RuleLeads.{no_state}
use Rattle.lset_judge.proofs.EventLemmas.{Told, of_nothing, of_begin, of_end, told, ends_there, if_some, for_some, none_or_some, ends_not, one_before, passed_over}

-- ---- Lemmas about the ends of calls

pub same_some : (o : Option (ℕ × Reply)) (a b : ℕ × Reply) → o ≡ Some a → o ≡ Some b → a ≡ b
same_some o a b p q = cc

pub until_end : (last begun : ℕ) (o : Option (ℕ × Reply)) (e : ℕ × Reply) → o ≡ Some e → until_if last begun o ≡ e.0
until_end last begun o e s = ap (until_if last begun) s

-- ---- Lemmas about adding a call to a history

pub event_before : (last k j : ℕ) (xs : List CallRecord) (x : CallRecord) → j < x.begun → IfSome x.ended (λ (e : ℕ × Reply). x.begun < e.0)
    → event_at last k (xs ++ x ∷ []) j ≡ event_at last k xs j
event_before last k j [] x low later = passed_over last k j x [] (λ t. (
  unequal_test x.begun j (λ q. omega arith),
  ends_not j x.ended (for_some (λ (e : ℕ × Reply). e.0 ≢ j) x.ended
      (λ e s q. let l : x.begun < e.0 = if_some (λ (e : ℕ × Reply). x.begun < e.0) x.ended e s later in omega (arith, l, q, low))),
))
event_before last k j (y ∷ ys) x low later = one_before last k j y (ys ++ x ∷ []) ys (event_before last k j ys x low later)

pub event_begun : (last k : ℕ) (xs : List CallRecord) (x : CallRecord)
    → AllByRecursion (λ (y : CallRecord). (y.begun ≢ x.begun) × IfSome y.ended (λ (e : ℕ × Reply). e.0 ≢ x.begun)) xs
    → event_at last k (xs ++ x ∷ []) x.begun
    ≡ (if (key_of x.call).0 == k then begin_event (kind_if x.call x.ended) (until_if last x.begun x.ended) else idle)
event_begun last k [] x a = elim (cases_Bool ((key_of x.call).0 == k)) [
  | inl t ↦ rw (t, equal_test x.begun x.begun refl) refl
  | inr f ↦ rw f refl
]
event_begun last k (y ∷ ys) x a =
    passed_over last k x.begun y (ys ++ x ∷ []) (λ t. (unequal_test y.begun x.begun a.0.0, ends_not x.begun y.ended a.0.1)) ∙ event_begun last k ys x a.1

-- ---- Lemmas about the judge's test at a single event

module _ (opening : List ℕ) (calls : List CallRecord) where
  abbrev event : ℕ → ℕ → Event
  event k = event_at behind_all k calls

  module _ (m n key : ℕ) (v : Event) (up : m ≤ n) (quiet : (j : ℕ) → m < j → j ≤ n → (k : ℕ) → event k j ≡ idle)
      (at_it : (k : ℕ) → event k (suc n) ≡ (if key == k then v else idle)) where
    step_to : (k : ℕ) (s : State) (w : Event) → state_after (event k) (has_key k opening) m ≡ Some s → event k (suc n) ≡ w
        → state_after (event k) (has_key k opening) (suc n) ≡ entered w (found n w s)
    step_to k s w so is =
        ap (λ (u : Event). stepped n u (state_after (event k) (has_key k opening) n)) is
        ∙ ap (stepped n w) (quiet_until (event k) (has_key k opening) (n - m) m n (omega (arith, up)) (λ j l h. quiet j l h k) ∙ so)

    not_yet : (k i : ℕ) (s : State) → state_after (event k) (has_key k opening) m ≡ Some s → state_after (event k) (has_key k opening) i ≡ None
        → suc n ≤ i
    not_yet k i s so fails = elim (below_or_not i (suc n)) [
      | inr late ↦ late
      | inl early ↦ no_state s (sym (stays_failed (event k) (has_key k opening) (n - i) i n (omega (arith, early)) fails)
          ∙ quiet_until (event k) (has_key k opening) (n - m) m n (omega (arith, up)) (λ j l h. quiet j l h k) ∙ so) (suc n ≤ i)
    ]

    own : (k : ℕ) → key ≡ k → event k (suc n) ≡ v
    own k e = at_it k ∙ rw (equal_test key k e) refl

    other : (k : ℕ) → key ≢ k → event k (suc n) ≡ idle
    other k e = at_it k ∙ rw (unequal_test key k e) refl

    goes : (before after : States) (was failed : Option Failed) → IsMetBy before key (suc n) v after was failed
        → IsJudgedTo opening calls m before was → IsJudgedTo opening calls (suc n) after failed
    goes before after (Some f) failed met so =
        subst (IsJudgedTo opening calls (suc n) after) (sym met) (let l = so.0 in (omega (arith, l, up), so.1, so.2))
    goes before after None None met so = λ k. elim (same_or_not key k) [
      | inl e ↦ subst (λ j. state_after (event j) (has_key j opening) (suc n) ≡ Some (state_for after j)) e
          (step_to key (state_for before key) v (so key) (own key refl) ∙ ap (λ (i : ℕ). entered v (found i v (state_for before key))) (let z : n ≡ suc n - 1 = omega arith in z)
          ∙ met.0)
      | inr e ↦ step_to k (state_for before k) idle (so k) (other k e) ∙ idle_step n (Some (state_for before k))
          ∙ ap (λ (s : State). Some s) (sym (met.1 k (λ q. e (sym q))))
    ]
    goes before after None (Some f) met so =
        let last : state_after (event key) (has_key key opening) (suc n) ≡ None =
        step_to key (state_for before key) v (so key) (own key refl)
        ∙ ap (λ (i : ℕ). entered v (found i v (state_for before key))) (let z : n ≡ suc n - 1 = omega arith in z) ∙ met.2 in
        let l = met.1 in (
          omega (arith, l),
          ap (λ (i : ℕ). state_after (event f.key.0) (has_key f.key.0 opening) i) l
              ∙ ap (λ (i : ℕ). state_after (event i) (has_key i opening) (suc n)) met.0 ∙ last,
          (λ k i fails. let late = not_yet k i (state_for before k) (so k) fails in omega (arith, l, late)),
        )

    pub goes_to : (j : ℕ) → j ≡ suc n → (before after : States) (was failed : Option Failed) → IsMetBy before key j v after was failed
        → IsJudgedTo opening calls m before was → IsJudgedTo opening calls j after failed
    goes_to j e before after was failed met so = subst (λ (i : ℕ). IsJudgedTo opening calls i after failed) (sym e)
        (goes before after was failed (subst (λ (i : ℕ). IsMetBy before key i v after was failed) e met) so)

-- ---- Lemmas about reordering or extending the list of pending calls

abbrev same : Pending → Pending → Bool
same p q = p.end == q.end

pub ends_moved : (xs ys : List Pending) → IsPermutation xs ys → AllPairs (λ (p q : Pending). p.end ≢ q.end) xs
    → AllPairs (λ (p q : Pending). p.end ≢ q.end) ys
ends_moved xs ys is apart i j d low inside = other_number (get_or ys i d).end (get_or ys j d).end
    (apart_from_distinct same ys i j d (IsDistinct-IsPermutation same flips xs ys is
    (IsDistinct-from_apart same xs (λ i j d low inside. unequal_test (get_or xs i d).end (get_or xs j d).end (apart i j d low inside)))) low inside)
  where
    flips : (p q : Pending) → (p.end == q.end) ≡ (q.end == p.end)
    flips p q = elim (same_or_not p.end q.end) [
      | inl e ↦ equal_test p.end q.end e ∙ sym (equal_test q.end p.end (sym e))
      | inr n ↦ unequal_test p.end q.end n ∙ sym (unequal_test q.end p.end (λ e. n (sym e)))
    ]

pub first_or_later : {X : Type 0} (x : X) (xs : List X) (y : X) → Contains (x ∷ xs) y → (y ≡ x) ⊎ Contains xs y
first_or_later x xs y (zero, low, is) = inl (sym is)
first_or_later x xs y (suc k, low, is) = inr (k, omega (arith, low), is)

pub later_too : {X : Type 0} (x : X) (xs : List X) (y : X) → Contains xs y → Contains (x ∷ xs) y
later_too x xs y (k, low, is) = (suc k, omega (arith, low), is)

-- ---- Lemmas about the calls that are pending after moment m

module _ (threads : ℕ) (calls : List CallRecord) (history : IsHistory threads calls) (before : All IsBefore calls) (m : ℕ)
    (begun : All (λ (x : CallRecord). x.begun ≤ m) calls) (pending : List Pending) (are : ArePending calls m pending) where
  abbrev call : ℕ → CallRecord
  call n = get_or calls n no_call

  among : (n : ℕ) (e : ℕ × Reply) → n < length calls → (call n).ended ≡ Some e → m < e.0 → Contains pending (pending_of (call n))
  among n e low s later = elim (are.kept n low) [
    | inl over ↦ absurd (let u = over.2 in let same = ap (λ (d : ℕ × Reply). d.0) (same_some (call n).ended e over.0 s over.1) in omega (arith, u, same, later))
    | inr c ↦ c
  ]

  pub quiet_before : (j : ℕ) → m < j → All (λ (p : Pending). j < p.end) pending → (k : ℕ) → event_at behind_all k calls j ≡ idle
  quiet_before j low far k = by (event_at behind_all k calls j) (told behind_all k j calls)
    where
      by : (v : Event) → Told behind_all k j calls v → v ≡ idle
      by v (of_nothing e) = e
      by v (of_begin b) = absurd (let l = b.known in let o = b.begun in let u = begun b.number no_call l in omega (arith, o, u, low))
      by v (of_end e) = absurd (
          let a = e.at in
          let c = among e.number e.end e.known e.ended (omega (arith, a, low)) in
          let d : Pending = pending_of (call e.number) in
          let f = far c.0 d c.1 in
          let g = ap (λ (p : Pending). p.end) c.2 in
          let u : d.end ≡ e.end.0 = until_end behind_all (call e.number).begun (call e.number).ended e.end e.ended in
          omega (arith, f, g, u, a))

  ended_at : (n : ℕ) → n < length calls → (pending_of (call n)).end < behind_all → (e : ℕ × Reply) × ((call n).ended ≡ Some e) × (e.0 ≡ (pending_of (call n)).end)
  ended_at n low early = elim (none_or_some (call n).ended) [
    | inl e ↦ absurd (let u : (pending_of (call n)).end ≡ behind_all + (call n).begun = ap (until_if behind_all (call n).begun) e in omega (arith, u, early))
    | inr e ↦ (e.0, e.1, sym (until_end behind_all (call n).begun (call n).ended e.0 e.1))
  ]

  module _ (i : ℕ) (low : i < length pending) (early : (get_or pending i no_pending).end < behind_all) where
    abbrev next : Pending
    next = get_or pending i no_pending

    abbrev number : ℕ
    number = (are.known i no_pending low).0

    of_number : number < length calls
    of_number = (are.known i no_pending low).1

    is_next : next ≡ pending_of (call number)
    is_next = (are.known i no_pending low).2

    end_of : (e : ℕ × Reply) × ((call number).ended ≡ Some e) × (e.0 ≡ (pending_of (call number)).end)
    end_of = let u = ap (λ (p : Pending). p.end) is_next in ended_at number of_number (omega (arith, u, early))

    same_place : (c : ℕ) (d : Pending) → c < length pending → (get_or pending c d).end ≡ next.end → get_or pending c d ≡ next
    same_place c d inside e =
        let here : get_or pending c d ≡ get_or pending c no_pending = get_or_default pending c d no_pending inside in
        let f = ap (λ (p : Pending). p.end) here in
        elim (same_or_not c i) [
          | inl q ↦ here ∙ ap (λ (j : ℕ). get_or pending j no_pending) q
          | inr ne ↦ absurd (elim (below_or_not c i) [
            | inl less ↦ are.apart c i no_pending less low (sym f ∙ e)
            | inr more ↦ are.apart i c no_pending (omega (arith, ne, more)) inside (sym e ∙ f)
          ])
        ]

    pub ends_next : (k : ℕ) → event_at behind_all k calls next.end ≡ (if key_in next == k then event_of next else idle)
    ends_next k =
        let e : ℕ × Reply = end_of.0 in let s = end_of.1 in
        let at_end : e.0 ≡ next.end = end_of.2 ∙ sym (ap (λ (p : Pending). p.end) is_next) in
        let later : (call number).begun < e.0 =
        if_some (λ (d : ℕ × Reply). (call number).begun < d.0) (call number).ended e s (history.each number no_call of_number).ends_later in
        elim (cases_Bool (key_in next == k)) [
          | inl t ↦ (let key : (key_of (call number).call).0 ≡ k = sym (ap (λ (p : Pending). key_in p) is_next) ∙ same_number (key_in next) k t in
              ap (λ (j : ℕ). event_at behind_all k calls j) (sym at_end)
              ∙ ends_there behind_all k number calls e of_number history.pairs key s later
              ∙ sym (ap (λ (p : Pending). event_of p) is_next) ∙ rw t refl)
          | inr f ↦ by (event_at behind_all k calls next.end) (told behind_all k next.end calls) (other_number (key_in next) k f) ∙ rw f refl
        ]
      where
        by : (v : Event) → Told behind_all k next.end calls v → key_in next ≢ k → v ≡ idle
        by v (of_nothing e) ne = e
        by v (of_begin b) ne = absurd (
            let l = b.known in let o = b.begun in let u = begun b.number no_call l in let w = are.later i no_pending low in
            omega (arith, o, u, w))
        by v (of_end e) ne = absurd (
            let a = e.at in let w = are.later i no_pending low in
            let c = among e.number e.end e.known e.ended (omega (arith, a, w)) in
            let d : Pending = pending_of (call e.number) in
            let u : d.end ≡ e.end.0 = until_end behind_all (call e.number).begun (call e.number).ended e.end e.ended in
            let is : get_or pending c.0 d ≡ next = same_place c.0 d c.1 (ap (λ (p : Pending). p.end) c.2 ∙ u ∙ a) in
            ne (ap (λ (p : Pending). key_in p) (sym is ∙ c.2) ∙ e.own))

    module _ (smallest : All (λ (p : Pending). next.end ≤ p.end) pending) (rest : List Pending) (is : IsPermutation pending (next ∷ rest)) where
      rest_of : (P : Pending → Type 0) → All P pending → All P rest
      rest_of P all = All-tail P next rest (All-permutation P pending (next ∷ rest) is all)

      all_apart : AllPairs (λ (p q : Pending). p.end ≢ q.end) (next ∷ rest)
      all_apart = ends_moved pending (next ∷ rest) is are.apart

      pub without_next : ArePending calls next.end rest
      without_next = record {
        known = rest_of (λ (p : Pending). (n : ℕ) × (n < length calls) × (p ≡ pending_of (call_numbered calls n))) are.known;
        kept = λ n inside. elim (are.kept n inside) [
          | inl over ↦ inl (over.0, over.1, let u = over.2 in let w = are.later i no_pending low in omega (arith, u, w))
          | inr c ↦ elim (first_or_later next rest (pending_of (call n)) (Contains-permutation pending (next ∷ rest) (pending_of (call n)) is c)) [
            | inl q ↦ inl (
                let u = ap (λ (p : Pending). p.end) q in
                let e = ended_at n inside (omega (arith, u, early)) in
                (e.0, e.1, let f = e.2 in omega (arith, f, u)))
            | inr d ↦ inr d
          ]
        ];
        apart = pairs_tail (λ (p q : Pending). p.end ≢ q.end) next rest all_apart;
        later = λ j d inside.
            let up = rest_of (λ (p : Pending). next.end ≤ p.end) smallest j d inside in
            let differs : next.end ≢ (get_or rest j d).end = pairs_head (λ (p q : Pending). p.end ≢ q.end) next rest all_apart j d inside in
            omega (arith, up, differs);
      }

pub may_still : (old new : List Pending) (m n : ℕ) (x : CallRecord) → MayCome old m x → All (Contains old) new → n < x.begun → MayCome new n x
may_still old new m n x may some begins = record {
  begins = begins;
  ends = may.ends;
  before = may.before;
  plain = may.plain;
  apart = λ i d low. let c = some i d low in
      subst (λ (p : Pending). (p.end ≢ x.begun) × IfSome x.ended (λ (e : ℕ × Reply). p.end ≢ e.0)) c.2 (may.apart c.0 (get_or new i d) c.1);
  free = λ i d low. let c = some i d low in
      subst (λ (p : Pending). p.call.thread ≡ x.thread → p.end ≤ x.begun) c.2 (may.free c.0 (get_or new i d) c.1);
}
