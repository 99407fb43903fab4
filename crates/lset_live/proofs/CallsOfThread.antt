-- Proof: in the history of a run, the calls of a thread are its completed calls, followed by its pending call if the
-- thread has one.
use Rattle.std.proofs.Common.{◌≡◌, ◌≢◌, ⊎_elim, ℕ, zero, suc, ◌<◌, ◌≤◌, ◌==◌, Bool, true, false, cond, List, [], ◌∷◌, ◌++◌, map}
use Rattle.std.proofs.Common.{Option, Some, None, refl, sym, ap, ◌∙◌, arith, append-nil, if◌then◌else◌}
use Rattle.std.specs.Prelude.{filter, ◌&&◌, is_none}
use Rattle.std.proofs.lemmas.List.{map-append}
use Rattle.std.proofs.lemmas.List.Elements.{filter-append}
use Rattle.lset_words.proofs.Numbers.{same_or_not, equal_test, unequal_test, same_number}
use Rattle.lset_words.specs.declared.Reply.{Reply}
use Rattle.lset_words.specs.declared.history.CallRecord.{CallRecord}
use Rattle.lset_words.specs.Log.{Log, Entry, Change, TracedCall, is_under_way, traced_on, ended_by, calls_after, calls_at}
use Rattle.lset_words.specs.Log.{record_of, history_at, LastCall, maker, last_after, last_at}
use Rattle.lset_words.specs.Log.Entry.{began, stepped}
use Rattle.lset_history.proofs.Calls.{way_of}
use Rattle.lset_rule.specs.declared.view.OwnCall.{OwnCall}
use Rattle.lset_rule.specs.declared.view.PendingCall.{PendingCall}
use Rattle.lset_rule.specs.Runs.{pending_of, done_next, under_at, done_at, under_after, ending}
use Rattle.lset_rule.proofs.OneMoreEvent.{under_step}

abbrev pub of_thread : ℕ → List CallRecord → List CallRecord
of_thread u xs = filter (λ (x : CallRecord). x.thread == u) xs

abbrev pub ended_record : ℕ → OwnCall → CallRecord
ended_record u c = record { thread = u; call = c.call; begun = c.begun; ended = Some (c.ended, c.reply) }

abbrev pub open_records : ℕ → Option PendingCall → List CallRecord
open_records u None = []
open_records u (Some o) = record { thread = u; call = o.call; begun = o.begun; ended = None } ∷ []

-- Converts the completed calls and the pending call of thread `u` to the call records of a history.
abbrev pub thread_records : ℕ → List OwnCall → Option PendingCall → List CallRecord
thread_records u done under_way = map (ended_record u) done ++ open_records u under_way

module _ (m : ℕ) (ch : Option Change) (a : Option Reply) where
  abbrev on : ℕ → TracedCall → TracedCall
  on t x = if is_under_way t x then traced_on m ch a x else x

  -- ---- Lemmas about a step of another thread
  step_other : (t u : ℕ) → t ≢ u → (xs : List TracedCall) → of_thread u (map record_of (map (on t) xs)) ≡ of_thread u
      (map record_of xs)
  step_other t u ne [] = refl
  step_other t u ne (x ∷ xs) = by_way (is_under_way t x) refl (step_other t u ne xs)
    where
      by_way : (b : Bool) → is_under_way t x ≡ b → of_thread u (map record_of (map (on t) xs)) ≡ of_thread u (map record_of xs)
          → cond ((record_of (if b then traced_on m ch a x else x)).thread == u) (record_of (if b then traced_on m ch a x else x)
          ∷ of_thread u (map record_of (map (on t) xs))) (of_thread u (map record_of (map (on t) xs)))
          ≡ cond (x.thread == u) (record_of x ∷ of_thread u (map record_of xs)) (of_thread u (map record_of xs))
      by_way false e ih = ap (λ l. cond (x.thread == u) (record_of x ∷ l) l) ih
      by_way true e ih = let not : (x.thread == u) ≡ false = unequal_test x.thread u (λ z. ne ((way_of t x e).0 ∙ z)) in
          ap (λ b. cond b (record_of (traced_on m ch a x) ∷ of_thread u (map record_of (map (on t) xs)))
          (of_thread u (map record_of (map (on t) xs)))) not
          ∙ (ih ∙ sym (ap (λ b. cond b (record_of x ∷ of_thread u (map record_of xs)) (of_thread u (map record_of xs))) not))

  -- ---- Lemmas about a step of thread `u`
  abbrev ends : CallRecord → CallRecord
  ends x = if is_none x.ended then record x { ended = ended_by m a } else x

  thread_kept : (b : Bool) (x : TracedCall) → (record_of (if b then traced_on m ch a x else x)).thread ≡ x.thread
  thread_kept true x = refl
  thread_kept false x = refl

  step_own : (u : ℕ) (xs : List TracedCall) →
      of_thread u (map record_of (map (on u) xs)) ≡ map ends (of_thread u (map record_of xs))
  step_own u [] = refl
  step_own u (x ∷ xs) =
      ap (λ z. cond (z == u) (record_of (on u x) ∷ of_thread u (map record_of (map (on u) xs)))
      (of_thread u (map record_of (map (on u) xs)))) (thread_kept (is_under_way u x) x)
      ∙ by_case (x.thread == u) x.ended refl (step_own u xs)
    where
      by_case : (c : Bool) (o : Option (ℕ × Reply)) → x.ended ≡ o →
          of_thread u (map record_of (map (on u) xs)) ≡ map ends (of_thread u (map record_of xs))
          → cond c (record_of (if c && is_none o then traced_on m ch a x else x) ∷ of_thread u (map record_of (map (on u) xs)))
          (of_thread u (map record_of (map (on u) xs)))
          ≡ map ends (cond c (record_of x ∷ of_thread u (map record_of xs)) (of_thread u (map record_of xs)))
      by_case false o e ih = ih
      by_case true None e ih = (λ i. (ap (λ z. if is_none z then record (record_of x) { ended = ended_by m a } else record_of x)
          (sym e) i) ∷ ih i)
      by_case true (Some end) e ih = (λ i. (ap (λ z. if is_none z then record (record_of x) { ended = ended_by m a }
          else record_of x) (sym e) i) ∷ ih i)

  ends_done : (u : ℕ) (done : List OwnCall) → map ends (map (ended_record u) done) ≡ map (ended_record u) done
  ends_done u [] = refl
  ends_done u (c ∷ cs) = ap (λ l. ended_record u c ∷ l) (ends_done u cs)

open_step : (m u : ℕ) (ch : Option Change) (a : Option Reply) (done : List OwnCall) (o : Option PendingCall)
    → map (ends m ch a) (thread_records u done o) ≡ thread_records u (done ++ ending a o m) (under_after a o)
open_step m u ch a done o = map-append (ends m ch a) (map (ended_record u) done) (open_records u o)
    ∙ (ap (λ l. l ++ map (ends m ch a) (open_records u o)) (ends_done m ch a u done) ∙ last a o)
  where
    last : (a : Option Reply) (o : Option PendingCall) → map (ended_record u) done
        ++ map (ends m ch a) (open_records u o) ≡ thread_records u (done ++ ending a o m) (under_after a o)
    last (Some r) (Some x) = sym (append-nil (map (ended_record u) done ++ map (ends m ch (Some r)) (open_records u (Some x))))
        ∙ ap (λ l. l ++ []) (sym (map-append (ended_record u) done _))
    last (Some r) None = ap (λ l. map (ended_record u) l ++ []) (sym (append-nil done))
    last None (Some x) = ap (λ l. map (ended_record u) l ++ open_records u (Some x)) (sym (append-nil done))
    last None None = ap (λ l. map (ended_record u) l ++ []) (sym (append-nil done))

abbrev pub MayBegin : Entry → ℕ → Option PendingCall → Type 0
MayBegin (began t c) u o = t ≡ u → o ≡ None
MayBegin (stepped t ch a) u o = Unit {0}

pub thread_next : (m : ℕ) (e : Entry) (u : ℕ) (xs : List TracedCall) (done : List OwnCall) (last : LastCall)
    → MayBegin e u (pending_of last)
    → of_thread u (map record_of xs) ≡ thread_records u done (pending_of last)
    → of_thread u (map record_of (calls_after m e xs)) ≡ thread_records u (done_next m e u (pending_of last) done)
    (pending_of (if maker e == u then last_after m e last else last))
thread_next m (began t c) u xs done last may h =
    ap (of_thread u) (map-append record_of xs _) ∙ (filter-append (λ (x : CallRecord). x.thread == u) (map record_of xs) _
    ∙ (ap (λ l. l ++ of_thread u (x ∷ [])) h ∙ by_test (t == u) refl))
  where
    x : CallRecord
    x = record { thread = t; call = c; begun = m; ended = None }

    by_test : (b : Bool) → (t == u) ≡ b → thread_records u done (pending_of last)
        ++ cond b (record { thread = t; call = c; begun = m; ended = None } ∷ []) []
        ≡ thread_records u done (pending_of (if b then last_after m (began t c) last else last))
    by_test true e = let is : t ≡ u = same_number t u e in
        (λ i. thread_records u done (may is i) ++ record { thread = is i; call = c; begun = m; ended = None } ∷ [])
        ∙ ap (λ l. l ++ record { thread = u; call = c; begun = m; ended = None } ∷ [])
        (append-nil (map (ended_record u) done))
    by_test false e = append-nil (thread_records u done (pending_of last))
thread_next m (stepped t ch a) u xs done last may h = ⊎_elim
    (λ (y : t ≡ u). let yes : (t == u) ≡ true = equal_test t u y in
    ap (λ z. of_thread u (map record_of (map (on m ch a z) xs))) y
    ∙ (step_own m ch a u xs ∙ (ap (map (ends m ch a)) h ∙ (open_step m u ch a done (pending_of last)
    ∙ ap (thread_records u (done ++ ending a (pending_of last) m)) (sym (under_step m t ch a last))
    ∙ (λ i. thread_records u (if sym yes i then done ++ ending a (pending_of last) m else done)
    (pending_of (if sym yes i then last_after m (stepped t ch a) last else last)))))))
    (λ (y : t ≢ u). let no : (t == u) ≡ false = unequal_test t u y in
    step_other m ch a t u y xs ∙ (h
    ∙ (λ i. thread_records u (if sym no i then done ++ ending a (pending_of last) m else done)
    (pending_of (if sym no i then last_after m (stepped t ch a) last else last)))))
    (same_or_not t u)

pub thread_calls : (log : Log) (u last : ℕ) → ((k : ℕ) → k < last → MayBegin (log k) u (under_at log u k)) → (k : ℕ) → k ≤ last
    → of_thread u (history_at log k) ≡ thread_records u (done_at log u k) (under_at log u k)
thread_calls log u last may zero l = refl
thread_calls log u last may (suc k) l = thread_next (suc k) (log k) u (calls_at log k) (done_at log u k) (last_at log u k)
    (may k (omega arith)) (thread_calls log u last may k (omega arith))
