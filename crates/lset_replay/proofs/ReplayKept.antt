-- The invariant of a recorder, which collects the calls of a run: its history, pending calls and linearization points
-- describe the events recorded so far.
use Rattle.std.proofs.lemmas.Grind.{common_steps}
use Rattle.std.proofs.Common.{◌≡◌, ◌≢◌, ℕ, suc, ◌<◌, ◌≤◌, true, false, inl, inr, List, [], ◌∷◌, ◌++◌, length, map, sym, refl}
use Rattle.std.proofs.Common.{subst, ap, ◌∙◌, arith, length-set, get_or-set_same, get_or-set_other}
use Rattle.std.specs.Prelude.{All, Option, Some, None}
use Rattle.std.proofs.lemmas.List.{length-map, get_or_push, get_or_append_left, map-append}
use Rattle.lset_words.specs.declared.Call.{Call}
use Rattle.lset_words.specs.declared.Reply.{Reply}
use Rattle.lset_words.specs.declared.history.CallRecord.{CallRecord}
use Rattle.lset_words.specs.Log.{Log, Entry, Change, TracedCall, calls_at, calls_after, history_at, record_of, is_open}
use Rattle.lset_words.specs.Log.{LastCall, has_changed}
use Rattle.lset_words.proofs.LastCalls.{last_own, last_other}
use Rattle.lset_words.specs.Log.Entry.{began}
use Rattle.lset_words.specs.Account.{Contents, Counts, Enters}
use Rattle.lset_history.specs.Placement.{traced_at, no_traced, IsSmallestFit}
use Rattle.lset_words.proofs.Numbers.{same_or_not, below_or_not}
use Rattle.lset_words.specs.Words.{Opening}
use Rattle.lset_history.proofs.Calls.{new_call}
use Rattle.lset_replay.proofs.OpenCalls.{OpenNumber, open_new, open_began, length_began}
use Rattle.lset_replay.specs.declared.places.OpenCall.{OpenCall}
use Rattle.lset_replay.specs.declared.places.Linearized.{Linearized}
use Rattle.lset_replay.specs.Trace.{Trace, open_call_at, place_at, number_of, fit, changed_at, settled, begun_on, changed_on}
use Rattle.lset_replay.specs.Trace.{ended_on}
use Rattle.lset_history.specs.Changes.{is_present, IsBounded}
use Rattle.lset_history.proofs.ChangeLaws.{all_upto_later}
use Rattle.lset_replay.proofs.KeyChanges.{Tells, changes_by, quiet_keys}

-- Holds if, after the first `k` events, `o` is the pending call of thread `t`, with the number, operation and start of
-- the call.
pub record IsWatched (log : Log) (contents : Contents) (counts : Counts) (k t : ℕ) (o : OpenCall) : Type 0 where
  pub here : OpenNumber (calls_at log k) t o.number o.call o.begun
  pub since : o.begun ≤ k
  -- As long as the pending call has not changed the set, its thread has added no key since the start of the call.
  pub steady : has_changed log t k ≡ false → (m : ℕ) → o.begun ≤ m → m ≤ k → counts m t ≡ counts k t

-- Holds if `p` is the linearization point of a call. If the call changed the set, the point is the moment (event
-- number) of the change. If a completed call changed nothing, the point is the first moment during the call when the
-- call's reply is correct. A pending call without a change has no linearization point.
abbrev pub PlaceBy : ℕ → Contents → Counts → TracedCall → Option ℕ → Option (ℕ × Reply) → Option Linearized → Type 0
PlaceBy q contents counts x (Some m) ended p = p ≡ Some (changed_at m)
PlaceBy q contents counts x None None p = p ≡ None
PlaceBy q contents counts x None (Some end) p =
    (m : ℕ) × (p ≡ Some (record { moment = m; reply = end.1; change = false })) × IsSmallestFit q contents counts x end.0 end.1 m

abbrev pub PlaceOf : ℕ → Contents → Counts → TracedCall → Option Linearized → Type 0
PlaceOf q contents counts x p = PlaceBy q contents counts x x.changed x.ended p

-- Holds if the recorder's content `s` describes the first `k` events of the run.
pub record Follows (op : Opening) (log : Log) (contents : Contents) (counts : Counts) (k : ℕ) (s : Trace) : Type 0 where
  pub history : s.calls ≡ history_at log k
  pub seats : length s.under_way ≡ op.threads
  pub numbered : length s.places ≡ length (calls_at log k)
  pub upto : (j : ℕ) → All (λ x. x ≤ k) (s.changes j)
  pub keys : (j m : ℕ) → m ≤ k → Tells (is_present s.changes j m) (contents m j)
  pub bounded : IsBounded s.changes
  pub idle : (t : ℕ) → t < op.threads → is_open log t k ≡ false → open_call_at s.under_way t ≡ None
  pub busy : (t : ℕ) → t < op.threads → is_open log t k ≡ true
      → (o : OpenCall) × (open_call_at s.under_way t ≡ Some o) × IsWatched log contents counts k t o
  pub placed : (i : ℕ) → i < length (calls_at log k)
      → PlaceOf op.quota contents counts (traced_at (calls_at log k) i) (place_at s.places i)

-- ---- Lemmas about the effect of a step on each part of the recorder
abbrev pub change_place : Option Change → ℕ → Option Linearized → Option Linearized
change_place None m p = p
change_place (Some c) m p = Some (changed_at m)

abbrev pub end_place : (ℕ → List ℕ) → ℕ → Option Reply → OpenCall → Option Linearized → Option Linearized
end_place changes m None o p = p
end_place changes m (Some r) o p = settled p (fit changes o r m) m r

module _ (m t : ℕ) where
  pub changed_calls : (ch : Option Change) (s : Trace) → (changed_on m t ch s).calls ≡ s.calls
  changed_calls None s = refl
  changed_calls (Some c) s = refl

  pub changed_seats : (ch : Option Change) (s : Trace) → (changed_on m t ch s).under_way ≡ s.under_way
  changed_seats None s = refl
  changed_seats (Some c) s = refl

  pub changed_open : (ch : Option Change) (s : Trace) (u : ℕ) (o : Option OpenCall) → open_call_at s.under_way u ≡ o
      → open_call_at (changed_on m t ch s).under_way u ≡ o
  changed_open None s u o e = e
  changed_open (Some c) s u o e = e

  pub changed_changes : (ch : Option Change) (s : Trace) → (changed_on m t ch s).changes ≡ changes_by ch m s.changes
  changed_changes None s = refl
  changed_changes (Some (x, b)) s = refl

  pub changed_count : (ch : Option Change) (s : Trace) → length (changed_on m t ch s).places ≡ length s.places
  changed_count None s = refl
  changed_count (Some c) s = length-set s.places (number_of (open_call_at s.under_way t)) (Some (changed_at m))

  pub changed_other : (ch : Option Change) (s : Trace) (i : ℕ) → i ≢ number_of (open_call_at s.under_way t)
      → place_at (changed_on m t ch s).places i ≡ place_at s.places i
  changed_other None s i d = refl
  changed_other (Some c) s i d = get_or-set_other s.places (number_of (open_call_at s.under_way t)) i (Some (changed_at m)) None d

  pub changed_here : (ch : Option Change) (s : Trace) → number_of (open_call_at s.under_way t) < length s.places
      → place_at (changed_on m t ch s).places (number_of (open_call_at s.under_way t)) ≡ change_place ch m (place_at s.places
      (number_of (open_call_at s.under_way t)))
  changed_here None s l = refl
  changed_here (Some c) s l = get_or-set_same s.places (number_of (open_call_at s.under_way t)) (Some (changed_at m)) None l

  pub ended_seats : (r : Option Reply) (s : Trace) → length (ended_on m t r s).under_way ≡ length s.under_way
  ended_seats None s = refl
  ended_seats (Some x) s = length-set s.under_way t None

  pub ended_others : (r : Option Reply) (s : Trace) (u : ℕ) → u ≢ t
      → open_call_at (ended_on m t r s).under_way u ≡ open_call_at s.under_way u
  ended_others None s u d = refl
  ended_others (Some x) s u d = get_or-set_other s.under_way t u None None d

  pub ended_seat : (x : Reply) (s : Trace) → t < length s.under_way → open_call_at (ended_on m t (Some x) s).under_way t ≡ None
  ended_seat x s l = get_or-set_same s.under_way t None None l

  pub ended_count : (r : Option Reply) (s : Trace) → length (ended_on m t r s).places ≡ length s.places
  ended_count None s = refl
  ended_count (Some x) s = length-set s.places (number_of (open_call_at s.under_way t)) _

  pub ended_other : (r : Option Reply) (s : Trace) (o : OpenCall) (i : ℕ) → open_call_at s.under_way t ≡ Some o → i ≢ o.number
      → place_at (ended_on m t r s).places i ≡ place_at s.places i
  ended_other None s o i e d = refl
  ended_other (Some x) s o i e d = get_or-set_other s.places (number_of (open_call_at s.under_way t)) i _ None (λ z. d (z
      ∙ ap number_of e))

  pub ended_here : (r : Option Reply) (s : Trace) (o : OpenCall) → open_call_at s.under_way t ≡ Some o →
      o.number < length s.places
      → place_at (ended_on m t r s).places o.number ≡ end_place s.changes m r o (place_at s.places o.number)
  ended_here None s o e l = refl
  ended_here (Some x) s o e l = rw e (get_or-set_same s.places o.number (settled (place_at s.places o.number)
      (fit s.changes o x m) m x) None l)

  pub ended_changes : (r : Option Reply) (s : Trace) → (ended_on m t r s).changes ≡ s.changes
  ended_changes None s = refl
  ended_changes (Some x) s = refl

-- ---- Lemmas about an event that starts a call
pub calls_are : (log : Log) (k : ℕ) (e : Entry) → log k ≡ e → calls_at log (suc k) ≡ calls_after (suc k) e (calls_at log k)
calls_are log k e at = ap (λ z. calls_after (suc k) z (calls_at log k)) at

-- Lemmas: if `IsWatched` holds after `k` events for the pending call `o` of thread `u`, and the call is still pending
-- after `k + 1` events, `IsWatched` holds then too. By the premise `quiet`, thread `u` adds no key in event `k + 1`
-- unless the call has changed the set.
module _ (log : Log) (contents : Contents) (counts : Counts) (k u : ℕ) (o : OpenCall)
    (quiet : has_changed log u (suc k) ≡ false → (has_changed log u k ≡ false) × (counts (suc k) u ≡ counts k u))
    (w : IsWatched log contents counts k u o) where
  pub steady_next : has_changed log u (suc k) ≡ false → (m : ℕ) → o.begun ≤ m → m ≤ suc k → counts m u ≡ counts (suc k) u
  steady_next f m a b = grind arith

  pub watched_next : OpenNumber (calls_at log (suc k)) u o.number o.call o.begun → IsWatched log contents counts (suc k) u o
  watched_next here = let l : o.begun ≤ k = w.since in record { here = here; since = omega arith; steady = steady_next }

module _ (op : Opening) (log : Log) (contents : Contents) (counts : Counts) (k t : ℕ) (call : Call) (s : Trace)
    (at : log k ≡ began t call) (en : Enters op.threads op.quota log contents counts k (began t call))
    (f : Follows op log contents counts k s) where
  count_calls : length s.calls ≡ length (calls_at log k)
  count_calls = ap (λ (xs : List CallRecord). length xs) f.history ∙ length-map (calls_at log k) record_of

  begun_history : (begun_on (suc k) t call s).calls ≡ history_at log (suc k)
  begun_history = ap (λ xs. xs ++ record { thread = t; call = call; begun = suc k; ended = None } ∷ []) f.history
      ∙ sym (map-append record_of (calls_at log k) (new_call k t call ∷ []))
      ∙ sym (ap (λ xs. map record_of xs) (calls_are log k (began t call) at))

  begun_numbered : length (begun_on (suc k) t call s).places ≡ length (calls_at log (suc k))
  begun_numbered = grind (arith, common_steps)

  begun_keys : (j m : ℕ) → m ≤ suc k → Tells (is_present s.changes j m) (contents m j)
  begun_keys j m l = quiet_keys contents k s.changes f.upto f.keys j m l (en.content j).0 (en.content j).1

  begun_idle : (u : ℕ) → u < op.threads → is_open log u (suc k) ≡ false →
      open_call_at (begun_on (suc k) t call s).under_way u ≡ None
  begun_idle u l e = elim (same_or_not t u) [
    | inl y ↦ absurd (let g = sym (ap (λ (x : LastCall). x.pending) (last_own log u k at y)) ∙ e in cc)
    | inr d ↦ (get_or-set_other s.under_way t u _ None (λ z. d (sym z))
        ∙ f.idle u l (sym (ap (λ (x : LastCall). x.pending) (last_other log u k at d)) ∙ e))
  ]

  begun_busy : (u : ℕ) → u < op.threads → is_open log u (suc k) ≡ true
      → (o : OpenCall) × (open_call_at (begun_on (suc k) t call s).under_way u ≡ Some o) × IsWatched log contents counts
      (suc k) u o
  begun_busy u l e = elim (same_or_not t u) [
    | inl y ↦ (let seats : length s.under_way ≡ op.threads = f.seats in (
      record { number = length s.calls; call = call; begun = suc k },
      rw (← y) (get_or-set_same s.under_way t _ None (let th : t < op.threads = en.of_a_thread in omega arith)),
      record {
        here = subst (λ xs. OpenNumber xs u (length s.calls) call (suc k)) (sym (calls_are log k (began t call) at))
            (subst (λ z. OpenNumber (calls_at log k ++ new_call k t call ∷ []) u z call (suc k)) (sym count_calls)
            (rw (← y) (open_new k t call (calls_at log k))));
        since = (let now : suc k ≤ suc k = omega arith in now);
        steady = λ g m a b. ap (λ z. counts z u) (let from : suc k ≤ m = a in let now : m ≡ suc k = omega arith in now);
      },
    ))
    | inr d ↦ (let w = f.busy u l (sym (ap (λ (x : LastCall). x.pending) (last_other log u k at d)) ∙ e) in (
      w.0,
      get_or-set_other s.under_way t u _ None (λ z. d (sym z)) ∙ w.1,
      watched_next log contents counts k u w.0
          (λ g. (
            sym (ap (λ (x : LastCall). x.changed) (last_other log u k at d)) ∙ g,
            en.same_counts u l,
          )) w.2
          (subst (λ xs. OpenNumber xs u w.0.number w.0.call w.0.begun) (sym (calls_are log k (began t call) at))
          (open_began (new_call k t call) (calls_at log k) u w.0.number w.0.call w.0.begun w.2.here)),
    ))
  ]

  begun_placed : (i : ℕ) → i < length (calls_at log (suc k))
      → PlaceOf op.quota contents counts (traced_at (calls_at log (suc k)) i) (place_at (begun_on (suc k) t call s).places i)
  begun_placed i l =
      let long : length (calls_at log (suc k)) ≡ suc (length (calls_at log k)) = length_began log k t call at in
      let b : length s.places ≡ length (calls_at log k) = f.numbered in
      elim (below_or_not i (length (calls_at log k))) [
        | inr y ↦ rw (ap (λ xs. traced_at xs i) (calls_are log k (began t call) at) ∙ get_or_push (calls_at log k)
            (new_call k t call) no_traced i (omega arith)) (get_or_push s.places None None i (omega arith))
        | inl y ↦ rw (ap (λ xs. traced_at xs i) (calls_are log k (began t call) at) ∙ get_or_append_left (calls_at log k)
            (new_call k t call ∷ []) no_traced i y) (subst (λ z. PlaceOf op.quota contents counts (traced_at
            (calls_at log k) i) z) (sym (get_or_append_left s.places
            (None ∷ []) None i (omega arith))) (f.placed i y))
      ]

  pub follows_beginning : Follows op log contents counts (suc k) (begun_on (suc k) t call s)
  follows_beginning = record {
    history = begun_history;
    seats = length-set s.under_way t _ ∙ f.seats;
    numbered = begun_numbered;
    upto = λ j. all_upto_later (s.changes j) k (suc k) (omega arith) (f.upto j);
    keys = begun_keys;
    bounded = f.bounded;
    idle = begun_idle;
    busy = begun_busy;
    placed = begun_placed;
  }
