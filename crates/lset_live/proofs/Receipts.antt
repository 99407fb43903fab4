-- Proof of the law of receipts. A completed call stays in the history when the run gets longer. In each linearization
-- of the longer history, the completed call precedes all calls that started after it had ended.
use Rattle.std.proofs.Common.{◌≡◌, ◌⊎◌, ⊎_elim, ℕ, zero, suc, ◌+◌, ◌<◌, ◌≤◌, ◌==◌, Bool, true, false, List, [], ◌∷◌}
use Rattle.std.proofs.Common.{◌++◌, map, length, get_or, Option, Some, None, refl, sym, ap, ◌∙◌, subst, arith, length-append}
use Rattle.std.proofs.Common.{append_assoc, if◌then◌else◌}
use Rattle.std.specs.Prelude.{◌&&◌, is_none, Contains, IsSomeAnd}
use Rattle.std.proofs.lemmas.List.{map-append, get_or_default}
use Rattle.std.proofs.lemmas.Bool.{cases_order}
use mathlib.Core.Option.{some, some-injective, some-ne-none}
use lib.ListN.{get_elem?}
use Rattle.lset_words.specs.declared.Call.{Call}
use Rattle.lset_words.specs.declared.Reply.{Reply}
use Rattle.lset_words.specs.declared.history.CallRecord.{CallRecord}
use Rattle.lset_words.specs.declared.history.Placed.{Placed}
use Rattle.lset_words.specs.History.{Linearizes, Precedes, answered, call_numbered}
use Rattle.lset_words.specs.Log.{Log, Entry, Change, TracedCall, is_under_way, traced_on, calls_after, calls_at, record_of, history_at}
use Rattle.lset_words.specs.Log.Entry.{began, stepped}
use Rattle.lset_words.specs.SequentialSet.{SetState, opening_set}
use Rattle.lset_words.specs.Words.{Opening}
use Rattle.lset_steps.specs.declared.Event.{Event}
use Rattle.lset_steps.specs.declared.Event.TheVariants.{Begin, Go}
use Rattle.lset_steps.specs.Steps.{Table, state_at, event_at, entry_of, log_of}
use Rattle.lset_steps.proofs.MoreEvents.{state_agree}
use Rattle.lset_rule.specs.Runs.{StartsWith, history_of}
use Rattle.lset_rule.proofs.OneMoreEvent.{event_of_first}
use Rattle.lset_live.specs.Explained.{IsAnswered, StandsBefore}

-- ---- Lemmas about a completed call in a longer run
module _ (m : ℕ) (y : CallRecord) (d : ℕ × Reply) (ended : y.ended ≡ Some d) where
  stays_before : (z : TracedCall) (xs : List TracedCall) (n : ℕ) → get_elem? (map record_of xs) n ≡ some y →
      get_elem? (map record_of (xs ++ z ∷ [])) n ≡ some y
  stays_before z [] n at = absurd (some-ne-none y (sym at))
  stays_before z (x ∷ xs) zero at = at
  stays_before z (x ∷ xs) (suc n) at = stays_before z xs n at

  module _ (t : ℕ) (ch : Option Change) (a : Option Reply) where
    same : (x : TracedCall) (b : Bool) (o : Option (ℕ × Reply)) → o ≡ Some d →
        record_of (if b && is_none o then traced_on m ch a x else x) ≡ record_of x
    same x true o is = ap (λ z. record_of (if is_none z then traced_on m ch a x else x)) is
    same x false o is = refl

    stays_at_step : (xs : List TracedCall) (n : ℕ) → get_elem? (map record_of xs) n ≡ some y →
        get_elem? (map record_of (map (λ x. if is_under_way t x then traced_on m ch a x else x) xs)) n ≡ some y
    stays_at_step [] n at = absurd (some-ne-none y (sym at))
    stays_at_step (x ∷ xs) zero at = ap some (same x (x.thread == t) x.ended
        (ap (λ (z : CallRecord). z.ended) (some-injective (record_of x) y at) ∙ ended)) ∙ at
    stays_at_step (x ∷ xs) (suc n) at = stays_at_step xs n at

  stays : (e : Entry) (xs : List TracedCall) (n : ℕ) → get_elem? (map record_of xs) n ≡ some y →
      get_elem? (map record_of (calls_after m e xs)) n ≡ some y
  stays (began t c) xs n at = stays_before (record { thread = t; call = c; begun = m; changed = None; ended = None }) xs n at
  stays (stepped t ch a) xs n at = stays_at_step t ch a xs n at

same_or_less : (k m : ℕ) → k ≤ suc m → (k ≡ suc m) ⊎ (k ≤ m)
same_or_less k m le = grind arith

stays_to : (log : Log) (k m n : ℕ) (y : CallRecord) (d : ℕ × Reply) → y.ended ≡ Some d → k ≤ m →
    get_elem? (history_at log k) n ≡ some y → get_elem? (history_at log m) n ≡ some y
stays_to log k zero n y d ended le at =
    let is : k ≡ 0 = omega arith in subst (λ z. get_elem? (history_at log z) n ≡ some y) is at
stays_to log k (suc m) n y d ended le at = ⊎_elim
    (λ (is : k ≡ suc m). subst (λ z. get_elem? (history_at log z) n ≡ some y) is at)
    (λ (less : k ≤ m). stays (suc m) y d ended (log m) (calls_at log m) n (stays_to log k m n y d ended less at))
    (same_or_less k m le)

calls_agree : (f g : Log) (k : ℕ) → ((j : ℕ) → j < k → g j ≡ f j) → calls_at g k ≡ calls_at f k
calls_agree f g zero h = refl
calls_agree f g (suc k) h = ap (λ e. calls_after (suc k) e (calls_at g k)) (h k (omega arith))
    ∙ ap (calls_after (suc k) (f k)) (calls_agree f g k (λ j l. h j (omega arith)))

log_of_first : (T : Table) (k : Opening) (es rest : List Event) (j : ℕ) → j < length es → log_of T k (event_at (es ++ rest)) j ≡ log_of T k (event_at es) j
log_of_first T k es rest j l =
    ap (λ s. entry_of T s (event_at (es ++ rest) j))
    (state_agree T k (event_at es) (event_at (es ++ rest)) j (λ a b. event_of_first es rest a (omega arith)))
    ∙ ap (entry_of T (state_at T k (event_at es) j)) (event_of_first es rest j l)

pub ended_stays : (T : Table) (k : Opening) (log es : List Event) → StartsWith log es → (n : ℕ) (y : CallRecord) (d : ℕ × Reply) →
    y.ended ≡ Some d → get_elem? (history_of T k es) n ≡ some y → get_elem? (history_of T k log) n ≡ some y
ended_stays T k log es (rest, is) n y d ended at =
    let long = length-append es rest in
    subst (λ (l : List Event). get_elem? (history_of T k l) n ≡ some y) (sym is)
    (stays_to (log_of T k (event_at (es ++ rest))) (length es) (length (es ++ rest)) n y d ended (omega arith)
    (ap (λ (l : List TracedCall). get_elem? (map record_of l) n)
    (calls_agree (log_of T k (event_at es)) (log_of T k (event_at (es ++ rest))) (length es) (log_of_first T k es rest)) ∙ at))

-- ---- Lemmas about two calls that do not overlap
numbered : (H : List CallRecord) (n : ℕ) (y : CallRecord) → get_elem? H n ≡ some y → (call_numbered H n ≡ y) × (n < length H)
numbered [] n y at = absurd (some-ne-none y (sym at))
numbered (x ∷ H) zero y at = (some-injective x y at, omega arith)
numbered (x ∷ H) (suc n) y at = let r = numbered H n y at in (r.0, let l = r.1 in omega arith)

split_one : (P : List Placed) (j : ℕ) (q : Placed) → j < length P → get_or P j q ≡ q → (ys : List Placed) × (zs : List Placed)
    × (P ≡ ys ++ q ∷ zs)
split_one [] j q lt is = absurd (omega arith)
split_one (x ∷ P) zero q lt is = ([], P, ap (λ z. z ∷ P) is)
split_one (x ∷ P) (suc j) q lt is = let r = split_one P j q (omega arith) is in (x ∷ r.0, r.1, ap (λ l. x ∷ l) r.2)

split_two : (P : List Placed) (i j : ℕ) (p q : Placed) → i < j → j < length P → get_or P i p ≡ p → get_or P j q ≡ q →
    (xs : List Placed) × (ys : List Placed) × (zs : List Placed) × (P ≡ xs ++ p ∷ (ys ++ q ∷ zs))
split_two [] i j p q lt few a b = absurd (omega arith)
split_two (x ∷ P) zero zero p q lt few a b = absurd (omega arith)
split_two (x ∷ P) zero (suc j) p q lt few a b =
    let r = split_one P j q (omega arith) b in ([], r.0, r.1, λ i. a i ∷ r.2 i)
split_two (x ∷ P) (suc i) zero p q lt few a b = absurd (omega arith)
split_two (x ∷ P) (suc i) (suc j) p q lt few a b =
    let r = split_two P i j p q (omega arith) (omega arith) a b in (x ∷ r.0, r.1, r.2, ap (λ l. x ∷ l) r.3)

some_end : (o : Option (ℕ × Reply)) (a b : ℕ × Reply) → o ≡ Some a → o ≡ Some b → a.0 ≡ b.0
some_end o a b ea eb = ap moment (sym ea ∙ eb)
  where
    moment : Option (ℕ × Reply) → ℕ
    moment None = 0
    moment (Some z) = z.0

module _ (q : ℕ) (s : SetState) (H : List CallRecord) (P : List Placed) (L : Linearizes q s H P) (i j : ℕ) (x y : CallRecord) (d e : ℕ × Reply) (at_i : get_elem? H i ≡ some x) (at_j : get_elem? H j ≡ some y) (x_ended : x.ended ≡ Some d) (y_ended : y.ended ≡ Some e) (lt : d.0 < y.begun) (later : d.0 < e.0) where
  abbrev one : Placed
  one = record { call = i; reply = d.1 }

  abbrev other : Placed
  other = record { call = j; reply = e.1 }

  x_is : call_numbered H i ≡ x
  x_is = (numbered H i x at_i).0

  y_is : call_numbered H j ≡ y
  y_is = (numbered H j y at_j).0

  has_one : Contains P one
  has_one = L.ended i d.0 d.1 (numbered H i x at_i).1 (ap (λ (z : CallRecord). z.ended) x_is ∙ x_ended)

  has_other : Contains P other
  has_other = L.ended j e.0 e.1 (numbered H j y at_j).1 (ap (λ (z : CallRecord). z.ended) y_is ∙ y_ended)

  precedes : Precedes (call_numbered H i) (call_numbered H j)
  precedes = subst (λ (z : CallRecord × CallRecord). Precedes z.0 z.1) (λ k. (sym x_is k, sym y_is k))
      (subst (λ o. IsSomeAnd o (λ (z : ℕ × Reply). z.0 < y.begun)) (sym x_ended) lt)

  in_turn : has_one.0 < has_other.0
  in_turn = ⊎_elim
      (λ (same : has_one.0 ≡ has_other.0).
      let number : i ≡ j = ap (λ (z : Placed). z.call) (sym has_one.2 ∙ (get_or_default P has_one.0 one other has_one.1
      ∙ (ap (λ k. get_or P k other) same ∙ has_other.2))) in
      let both : x ≡ y = sym x_is ∙ (ap (call_numbered H) number ∙ y_is) in
      let times : d.0 ≡ e.0 = some_end x.ended d e x_ended (ap (λ (z : CallRecord). z.ended) both ∙ y_ended) in
      absurd (omega arith))
      (λ (ne : (has_one.0 < has_other.0) ⊎ (has_other.0 < has_one.0)). ⊎_elim (λ l. l)
      (λ (l : has_other.0 < has_one.0). absurd (L.in_time has_other.0 has_one.0 other l has_one.1
      (subst (λ (z : Placed × Placed). Precedes (call_numbered H z.0.call) (call_numbered H z.1.call))
      (λ k. (sym (get_or_default P has_one.0 other one has_one.1 ∙ has_one.2) k, sym has_other.2 k)) precedes)))
      ne) (cases_order has_one.0 has_other.0)

  pub in_order : StandsBefore (map (answered H) P) (record { thread = x.thread; call = x.call; reply = d.1 }) (record {
    thread = y.thread;
    call = y.call;
    reply = e.1;
  })
  in_order =
      let t = split_two P has_one.0 has_other.0 one other in_turn has_other.1 has_one.2 has_other.2 in
      let f = answered H in
      record {
        first = map f t.0;
        between = map f t.1;
        last = map f t.2;
        is = ap (map f) t.3 ∙ (map-append f t.0 (one ∷ (t.1 ++ other ∷ t.2))
            ∙ ((λ k. map f t.0 ++ f one ∷ map-append f t.1 (other ∷ t.2) k)
            ∙ (λ k. map f t.0 ++ record { thread = (x_is k).thread; call = (x_is k).call; reply = d.1 } ∷ (map f t.1 ++ record {
              thread = (y_is k).thread;
              call = (y_is k).call;
              reply = e.1;
            } ∷ map f t.2))));
      }

pub starts_on : (a b c : List Event) → StartsWith a b → StartsWith b c → StartsWith a c
starts_on a b c (x, is) (y, so) = (y ++ x, is ∙ (ap (λ l. l ++ x) so ∙ append_assoc c y x))

pub answered_on : (T : Table) (k : Opening) (t : ℕ) (c : Call) (r : Reply) (before after : List Event) → IsAnswered T k t c r before after
    → StartsWith after before
answered_on T k t c r before after a = (
  (a.others ++ Begin t c ∷ a.since) ++ Go t ∷ [],
  a.is
      ∙ (ap (λ l. l ++ Go t ∷ []) (append_assoc before a.others (Begin t c ∷ a.since))
      ∙ append_assoc before (a.others ++ Begin t c ∷ a.since) (Go t ∷ [])),
)

pub keep_order : (T : Table) (k : Opening) (t u : ℕ) (c d : Call) (r a : Reply) (old given taken after events : List Event)
    → IsAnswered T k t c r old given → StartsWith taken given → IsAnswered T k u d a taken after → StartsWith events after
    → (order : List Placed) → Linearizes k.quota (opening_set k) (history_of T k events) order
    → StandsBefore (map (answered (history_of T k events)) order) (record { thread = t; call = c; reply = r })
    (record { thread = u; call = d; reply = a })
keep_order T k t u c d r a old given taken after events x on y more order L =
    let from : StartsWith events given = starts_on events after given more
    (starts_on after taken given (answered_on T k u d a taken after y) on) in
    let one = ended_stays T k events given from x.number _ (length given, r) refl x.call in
    let two = ended_stays T k events after more y.number _ (length after, a) refl y.call in
    let l1 = ap length on.1 in
    let l2 = length-append given on.0 in
    let l3 = length-append taken y.others in
    let l4 = ap length y.is in
    let l5 = length-append ((taken ++ y.others) ++ Begin u d ∷ y.since) (Go u ∷ []) in
    let l6 = length-append (taken ++ y.others) (Begin u d ∷ y.since) in
    in_order k.quota (opening_set k) (history_of T k events) order L x.number y.number _ _ (length given, r) (length after, a)
    one two refl refl (omega arith) (omega arith)
