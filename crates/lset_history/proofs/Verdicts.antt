-- Proof: either one of the checks finds the first error in an order, or the order explains the history.
use Rattle.std.proofs.Common.{rules, ◌≡◌, ◌≢◌, ℕ, ◌<◌, ◌==◌, Bool, true, false, List, [], length, get_or, Option, Some, None}
use Rattle.std.proofs.Common.{refl, sym, ap, ◌∙◌, subst, inl, inr, ◌⊎◌, arith}
use Rattle.std.proofs.lemmas.Grind.{common_steps}
use Rattle.std.specs.List.{All, AllPairs, Contains}
use Rattle.std.specs.List.Sorted.{IsStrictlyIncreasing}
use Rattle.std.specs.Option.{IfSome, IsSomeAnd, IsSome}
use Rattle.std.proofs.lemmas.List.{get_or_default, take_all}
use Rattle.std.proofs.lemmas.List.Folds.{list_any_none}
use Rattle.std.proofs.lemmas.Bool.{cases_Bool, cases_order, ne_eqb, false≢true}
use Rattle.lset_words.specs.declared.Reply.{Reply}
use Rattle.lset_words.specs.declared.history.CallRecord.{CallRecord}
use Rattle.lset_words.specs.declared.history.Placed.{Placed}
use Rattle.lset_words.specs.SequentialSet.{SetState, opening_set}
use Rattle.lset_words.specs.History.{call_numbered, Precedes, Linearizes, IsHistory}
use Rattle.lset_history.specs.History.{HistoryValue}
use Rattle.lset_history.specs.Oracle.{OracleValue, set_opened}
use Rattle.lset_history.specs.declared.fault.OrderFault.{OrderFault}
use Rattle.lset_history.specs.declared.fault.OrderFault.TheVariants.{Unknown, Twice, Missing, WrongReply, TooEarly, WrongSet}
use Rattle.lset_history.specs.declared.fault.OrderFault.TheVariants.{Memory}
use Rattle.lset_history.specs.Faults.{Explains, IsFault, Passes, RefusesFirst, MissesNone, MissesFirst, IsMissing, IsUnknown}
use Rattle.lset_history.specs.Faults.{IsTwice, HasWrongReply, IsTooEarly, place_at, set_left_by}
use Rattle.lset_history.specs.Checks.{HasKnownCalls, stands, MarksCalls, IsLeftOut, HasReplies, after_order}
use Rattle.lset_history.proofs.EarlierPlaces.{stands_earlier, legal_at, passes_replies}

read_place : (order : List Placed) (i : ℕ) (d : Placed) → i < length order → get_or order i d ≡ place_at order i
read_place order i d low = get_or_default order i d (place_at [] 0) low

-- ---- Lemmas about the check for unknown calls
pub passes_known : (calls : List CallRecord) (order : List Placed) → HasKnownCalls calls order
    → Passes (IsUnknown calls order) order
passes_known calls order known place low unknown = let h = known place (place_at [] 0) low in omega arith

-- ---- Lemmas about the check for missing calls
absent_stands : (order : List Placed) (n : ℕ) → All (λ (p : Placed). p.call ≢ n) order → stands order n ≡ false
absent_stands order n absent = list_any_none (λ (p : Placed). p.call == n) order (λ k d low. ne_eqb _ n (absent k d low))

stands_absent : (order : List Placed) (n : ℕ) → stands order n ≡ false → All (λ (p : Placed). p.call ≢ n) order
stands_absent order n h k d low = grind (arith, common_steps)

left_out : (calls : List CallRecord) (order : List Placed) (marks : List Bool) (n : ℕ) → MarksCalls marks order
    → IsMissing calls order n → IsLeftOut calls marks n
left_out calls order marks n holds m =
    record { known = m.known; ended = m.ended; absent = holds n ∙ absent_stands order n m.absent }

pub misses_none : (calls : List CallRecord) (order : List Placed) (marks : List Bool) → MarksCalls marks order
    → ((n : ℕ) → IsLeftOut calls marks n → ⊥) → MissesNone calls order
misses_none calls order marks holds none n m = none n (left_out calls order marks n holds m)

pub misses_first : (calls : List CallRecord) (order : List Placed) (marks : List Bool) (n : ℕ) → MarksCalls marks order
    → IsLeftOut calls marks n × ((k : ℕ) → k < n → IsLeftOut calls marks k → ⊥) → MissesFirst calls order n
misses_first calls order marks n holds h = record {
  missing = record { known = h.0.known; ended = h.0.ended; absent = stands_absent order n (sym (holds n) ∙ h.0.absent) };
  smallest = λ k low m. h.1 k low (left_out calls order marks k holds m);
}

-- ---- Proof that the order linearizes the history
pairs_of_places : (R : Placed → Placed → Type 0) (order : List Placed)
    → ((i j : ℕ) → i < j → j < length order → R (place_at order i) (place_at order j)) → AllPairs R order
pairs_of_places R order h i j d low inside = rw (read_place order i d (omega arith), read_place order j d inside) (h i j low inside)

reply_of_end : (o : Option (ℕ × Reply)) (end : ℕ) (reply other : Reply) → o ≡ Some (end, reply)
    → IfSome o (λ (e : ℕ × Reply). e.1 ≡ other) → reply ≡ other
reply_of_end o end reply other e h = rw e at h

placed_as : (p : Placed) (number : ℕ) (reply : Reply) → p.call ≡ number → p.reply ≡ reply
    → p ≡ record { call = number; reply = reply }
placed_as p number reply e f = rw (← e, ← f) refl

pub linearizes : (o : OracleValue) (calls : List CallRecord) (order : List Placed)
    → HasKnownCalls calls order → Passes (IsTwice order) order → MissesNone calls order → HasReplies o calls order → Passes
    (IsTooEarly calls order) order → Linearizes o.quota o.state calls order
linearizes o calls order known once none replies early = record {
  known = known;
  once = pairs_of_places (λ (p r : Placed). p.call ≢ r.call) order (λ i j low inside e. once j inside (i, low, e));
  ended = λ number end reply low e. stands_there number end reply low e (cases_Bool (stands order number));
  legal = replies.legal;
  in_time = pairs_of_places (λ (p r : Placed). Precedes (call_numbered calls r.call) (call_numbered calls p.call) → ⊥) order
      (λ i j low inside w. early i (omega arith) (j, low, inside, w));
}
  where
    stands_there : (number end : ℕ) (reply : Reply) → number < length calls
        → (call_numbered calls number).ended ≡ Some (end, reply)
        → (stands order number ≡ true) ⊎ (stands order number ≡ false) → Contains order (record { call = number; reply = reply })
    stands_there number end reply low e (inr absent) =
        absurd (grind (arith, common_steps))
    stands_there number end reply low e (inl there) =
        let at : (k : ℕ) × (k < length order) × (k < length order) × ((place_at order k).call ≡ number) =
        stands_earlier order (length order) number (subst (λ ps. stands ps number ≡ true) (sym (take_all (length order) order (omega arith))) there) in
        let k = at.0 in
        let recorded = subst (λ n. IfSome (call_numbered calls n).ended (λ (w : ℕ × Reply). w.1 ≡ (place_at order k).reply)) at.3
        (replies.recorded k (place_at [] 0) at.1) in (
          k,
          at.1,
          read_place order k _ at.1 ∙ placed_as (place_at order k) number reply at.3 (sym
              (reply_of_end _ end reply _ e recorded)),
        )

-- ---- Lemmas that combine the results of several checks

-- The result of the first two checks: all calls of the order are in the history, no call is in the order twice, and
-- `marks` is true for exactly the calls of the order.
pub record StandsOnce (h : HistoryValue) (calls : List CallRecord) (order : List Placed) (marks : List Bool) : Type 0 where
  pub calls_are : calls ≡ h.calls
  pub known : HasKnownCalls calls order
  pub once : Passes (IsTwice order) order
  pub holds : MarksCalls marks order

-- The result of the first three checks: `StandsOnce` holds, and the order contains every completed call. The sequential
-- set is still in its opening state.
pub record LeavesNoneOut (h : HistoryValue) (calls : List CallRecord) (order : List Placed) (marks : List Bool)
    (oracle : OracleValue) : Type 0 where
  pub stands_once : StandsOnce h calls order marks
  pub none_out : (number : ℕ) → IsLeftOut calls marks number → ⊥
  pub opens : oracle ≡ set_opened h.opening

pub stands_once : (h : HistoryValue) (calls : List CallRecord) (order : List Placed) (marks : List Bool)
    → calls ≡ h.calls → HasKnownCalls calls order → Passes (IsTwice order) order → MarksCalls marks order
    → StandsOnce h calls order marks
stands_once h calls order marks e known once holds = record { calls_are = e; known = known; once = once; holds = holds }

pub leaves_none_out : (h : HistoryValue) (calls : List CallRecord) (order : List Placed) (marks : List Bool)
    (oracle : OracleValue) → StandsOnce h calls order marks → ((number : ℕ) → IsLeftOut calls marks number → ⊥)
    → oracle ≡ set_opened h.opening → LeavesNoneOut h calls order marks oracle
leaves_none_out h calls order marks oracle once none opens =
    record { stands_once = once; none_out = none; opens = opens }

pub threads_below : (h : HistoryValue) (calls : List CallRecord) (oracle : OracleValue) → calls ≡ h.calls
    → IsHistory h.opening.threads h.calls → oracle ≡ set_opened h.opening
    → All (λ (x : CallRecord). x.thread < oracle.threads) calls
threads_below h calls oracle e history opens k d low = let c = history.each k d (rw e at low) in grind arith

none_missing : (h : HistoryValue) (order : List Placed) (marks : List Bool) (oracle : OracleValue)
    → LeavesNoneOut h h.calls order marks oracle → MissesNone h.calls order
none_missing h order marks oracle l = misses_none h.calls order marks l.stands_once.holds l.none_out

pub missing_fault : (h : HistoryValue) (calls : List CallRecord) (order : List Placed) (keys : List ℕ) (marks : List Bool)
    (number : ℕ) → StandsOnce h calls order marks
    → IsLeftOut calls marks number × ((smaller : ℕ) → smaller < number → IsLeftOut calls marks smaller → ⊥)
    → IsFault h order keys (Missing number)
missing_fault h calls order keys marks number s out =
    (passes_known h.calls order (rw s.calls_are at s.known), s.once, misses_first h.calls order marks number s.holds (rw s.calls_are at out))

settled : (h : HistoryValue) (calls : List CallRecord) (order : List Placed) (marks : List Bool) (oracle : OracleValue)
    → LeavesNoneOut h calls order marks oracle → LeavesNoneOut h h.calls order marks (set_opened h.opening)
settled h calls order marks oracle l =
    let same = l.stands_once.calls_are in record { stands_once = rw same at l.stands_once; none_out = rw same at l.none_out; opens = refl }

pub wrong_reply_fault : (h : HistoryValue) (calls : List CallRecord) (order : List Placed) (keys : List ℕ) (marks : List Bool)
    (oracle : OracleValue) (number : ℕ)
    → LeavesNoneOut h calls order marks oracle → RefusesFirst (HasWrongReply oracle.quota oracle.state calls order) order number
    → IsFault h order keys (WrongReply number)
wrong_reply_fault h calls order keys marks oracle number l w =
    let own = settled h calls order marks oracle l in (
      passes_known h.calls order own.stands_once.known,
      own.stands_once.once,
      none_missing h order marks _ own,
      rw (l.opens, l.stands_once.calls_are) at w,
    )

own_replies : (h : HistoryValue) (calls : List CallRecord) (order : List Placed) (marks : List Bool) (oracle : OracleValue)
    → LeavesNoneOut h calls order marks oracle → HasReplies oracle calls order → HasReplies (set_opened h.opening) h.calls order
own_replies h calls order marks oracle l r = rw (l.opens, l.stands_once.calls_are) at r

pub too_early_fault : (h : HistoryValue) (calls : List CallRecord) (order : List Placed) (keys : List ℕ) (marks : List Bool)
    (oracle : OracleValue) (number : ℕ) → LeavesNoneOut h calls order marks oracle → HasReplies oracle calls order
    → RefusesFirst (IsTooEarly calls order) order number → IsFault h order keys (TooEarly number)
too_early_fault h calls order keys marks oracle number l r e =
    let own = settled h calls order marks oracle l in (
      passes_known h.calls order own.stands_once.known,
      own.stands_once.once,
      none_missing h order marks _ own,
      passes_replies _ h.calls order (own_replies h calls order marks oracle l r),
      rw l.stands_once.calls_are at e,
    )

keys_after : (h : HistoryValue) (calls : List CallRecord) (order : List Placed) (marks : List Bool) (oracle : OracleValue)
    → LeavesNoneOut h calls order marks oracle
    → (after_order oracle calls order).state.keys ≡ (set_left_by (opening_set h.opening) h.calls order).keys
keys_after h calls order marks oracle l =
    ap (λ (o : OracleValue). (after_order o calls order).state.keys) l.opens
    ∙ ap (λ (xs : List CallRecord). (set_left_by (opening_set h.opening) xs order).keys) l.stands_once.calls_are

pub wrong_set_fault : (h : HistoryValue) (calls : List CallRecord) (order : List Placed) (keys : List ℕ) (marks : List Bool)
    (oracle now : OracleValue)
    → LeavesNoneOut h calls order marks oracle → HasReplies oracle calls order → Passes (IsTooEarly calls order) order
    → now ≡ after_order oracle calls order → now.state.keys ≢ keys → IsFault h order keys WrongSet
wrong_set_fault h calls order keys marks oracle now l r e after other =
    let own = settled h calls order marks oracle l in (
      passes_known h.calls order own.stands_once.known,
      own.stands_once.once,
      none_missing h order marks _ own,
      passes_replies _ h.calls order (own_replies h calls order marks oracle l r),
      rw l.stands_once.calls_are at e,
      λ same. other (ap (λ (o : OracleValue). o.state.keys) after ∙ keys_after h calls order marks oracle l ∙ sym same),
    )

pub explained : (h : HistoryValue) (calls : List CallRecord) (order : List Placed) (keys : List ℕ) (marks : List Bool)
    (oracle now : OracleValue)
    → LeavesNoneOut h calls order marks oracle → HasReplies oracle calls order → Passes (IsTooEarly calls order) order
    → now ≡ after_order oracle calls order → now.state.keys ≡ keys → IsStrictlyIncreasing now.state.keys → Explains h order keys
explained h calls order keys marks oracle now l r e after same increasing =
    let own = settled h calls order marks oracle l in record {
      linearizes = linearizes (set_opened h.opening) h.calls order own.stands_once.known own.stands_once.once
          (none_missing h order marks _ own)
          (own_replies h calls order marks oracle l r) (rw l.stands_once.calls_are at e);
      keys_left = sym same ∙ ap (λ (o : OracleValue). o.state.keys) after ∙ keys_after h calls order marks oracle l;
      increasing = subst IsStrictlyIncreasing same increasing;
    }

-- ---- Proof that an order with an error does not explain the history
pair_of_places : (R : Placed → Placed → Type 0) (order : List Placed) (i j : ℕ) → AllPairs R order → i < j → j < length order
    → R (place_at order i) (place_at order j)
pair_of_places R order i j pairs low inside = pairs i j (place_at [] 0) low inside

ended_there : (o : Option (ℕ × Reply)) → IsSome o → (end : ℕ × Reply) × (o ≡ Some end)
ended_there None h = absurd (false≢true h)
ended_there (Some e) h = (e, refl)

other_ended : (o : Option (ℕ × Reply)) (reply : Reply) → IsSomeAnd o (λ (end : ℕ × Reply). end.1 ≢ reply)
    → (end : ℕ × Reply) × (o ≡ Some end) × (end.1 ≢ reply)
other_ended None reply h = absurd h
other_ended (Some e) reply h = (e, refl, h)

never_missing : (quota : ℕ) (start : SetState) (calls : List CallRecord) (order : List Placed) (number : ℕ)
    → Linearizes quota start calls order → IsMissing calls order number → ⊥
never_missing quota start calls order number l m =
    let end = ended_there (call_numbered calls number).ended m.ended in
    let at : Contains order (record { call = number; reply = end.0.1 }) = l.ended number end.0.0 end.0.1 m.known end.1 in
    m.absent at.0 (record { call = number; reply = end.0.1 }) at.1 (ap (λ (p : Placed). p.call) at.2)

never_wrong : (quota : ℕ) (start : SetState) (calls : List CallRecord) (order : List Placed) (i : ℕ) → i < length order
    → Linearizes quota start calls order → HasWrongReply quota start calls order i → ⊥
never_wrong quota start calls order i inside l (inr w) = w (legal_at quota calls order i start inside l.legal)
never_wrong quota start calls order i inside l (inl w) =
    let p = place_at order i in
    let end = other_ended (call_numbered calls p.call).ended p.reply w in
    let x : Placed = record { call = p.call; reply = end.0.1 } in
    let at : Contains order x = l.ended p.call end.0.0 end.0.1 (l.known i (place_at [] 0) inside) end.1 in grind (
      arith,
      read_place,
      pair_of_places,
      cases_order,
    )

pub not_explained : (h : HistoryValue) (order : List Placed) (keys : List ℕ) (fault : OrderFault)
    → IsFault h order keys fault → fault ≢ Memory → Explains h order keys → ⊥
not_explained h order keys (Unknown number) f ne x =
    let low = x.linearizes.known f.place (place_at [] 0) f.inside in
    let past = f.refused in omega arith
not_explained h order keys (Twice number) f ne x =
    let twice = f.1.refused in
    pair_of_places (λ (p r : Placed). p.call ≢ r.call) order twice.0 f.1.place x.linearizes.once twice.1 f.1.inside twice.2
not_explained h order keys (Missing number) f ne x = never_missing h.opening.quota _ h.calls order number x.linearizes f.2.missing
not_explained h order keys (WrongReply number) f ne x =
    never_wrong h.opening.quota _ h.calls order f.3.place f.3.inside x.linearizes f.3.refused
not_explained h order keys (TooEarly number) f ne x = search rules
not_explained h order keys WrongSet f ne x = f.5 x.keys_left
not_explained h order keys Memory f ne x = ne refl
