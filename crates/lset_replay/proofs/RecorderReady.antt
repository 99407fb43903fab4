-- Proof: in every run of a list, the next event satisfies the conditions for recording it.
use Rattle.std.proofs.Common.{◌≡◌, ℕ, zero, suc, ◌<◌, ◌≤◌, ◌^◌, Bool, true, false, List, [], ◌∷◌, get_or, sym, refl, subst, ap, ◌∙◌, arith, ◌&&◌, length}
use Rattle.std.specs.Prelude.{All, if◌then◌else◌, Contains as InList, ◌==◌, Option, None, is_none, IfSome}
use Rattle.std.proofs.lemmas.List.Elements.{All-from_get_or, All-map}
use Rattle.std.proofs.lemmas.List.{length-map, length-replicate, get_or-replicate}
use Rattle.std.proofs.lemmas.List.Folds.{list_any_none}
use Rattle.std.proofs.Math.ListN.{get_or-map}
use Rattle.std.proofs.lemmas.Bool.{false_from_ne_true}
use Rattle.lset_words.specs.Account.{Contents, Counts, Enters, Account}
use Rattle.lset_words.specs.SequentialSet.{has_key}
use Rattle.lset_words.specs.Words.{Opening}
use Rattle.lset_words.specs.declared.Call.{Call}
use Rattle.lset_words.specs.declared.Reply.{Reply}
use Rattle.lset_words.specs.declared.history.CallRecord.{CallRecord}
use Rattle.lset_words.specs.Log.{Log, Entry, Change, TracedCall, is_under_way, calls_at, history_at, record_of, is_open}
use Rattle.lset_words.specs.Log.Entry.{began, stepped}
use Rattle.lset_history.specs.Placement.{no_traced}
use Rattle.lset_words.specs.History.{call_numbered}
use Rattle.lset_history.specs.Changes.{opened_moments, is_present, state_at, IsBounded, moments_of}
use Rattle.lset_history.proofs.Keys.{has_from, has_false, has_none}
use Rattle.lset_history.specs.History.{IsLater, MayBegin, has_open}
use Rattle.lset_history.proofs.Calls.{Traced, if_some, run_of, calls_of, way_of}
use Rattle.lset_replay.proofs.KeyChanges.{Tells, HoldsKeys, may_change}
use Rattle.lset_replay.proofs.OpenCalls.{OpenNumber}
use Rattle.lset_replay.specs.declared.recorder.Recorder.{Recorder}
use Rattle.lset_replay.specs.Trace.{Trace, trace_at, trace_after, trace_of, MayStep, MayChange}
use Rattle.lset_replay.proofs.ReplayKept.{Follows, follows_beginning}
use Rattle.lset_replay.proofs.StepKept.{follows_step}

-- ---- Lemmas about the keys before the first event

one_upto : (i : ℕ) → i < 1 → get_or (0 ∷ []) i 0 ≤ 0
one_upto zero l = omega arith
one_upto (suc i) l = absurd (omega arith)

pub opened_upto : (keys : List ℕ) (j : ℕ) → All (λ x. x ≤ 0) (opened_moments keys j)
opened_upto keys j = by_test (has_key j keys)
  where
    by_test : (b : Bool) → All (λ x. x ≤ 0) (if b then 0 ∷ [] else [])
    by_test true = All-from_get_or (λ x. x ≤ 0) (0 ∷ []) 0 one_upto
    by_test false = All-from_get_or (λ x. x ≤ 0) [] 0 (λ i below. absurd (omega arith))

present_at_first : (keys : List ℕ) (j : ℕ) → is_present (opened_moments keys) j 0 ≡ has_key j keys
present_at_first keys j = by_test (has_key j keys)
  where
    by_test : (b : Bool) → state_at false (if b then 0 ∷ [] else []) 0 ≡ b
    by_test true = refl
    by_test false = refl

module _ (op : Opening) (contents : Contents) (opens : (k : ℕ) → (contents 0 k → InList op.keys k) × (InList op.keys k → contents 0 k)) where
  tells_first : (j : ℕ) → Tells (is_present (opened_moments op.keys) j 0) (contents 0 j)
  tells_first j = (
    λ e. (opens j).1 (has_from j op.keys (sym (present_at_first op.keys j) ∙ e)),
    λ e c. has_none j op.keys (sym (present_at_first op.keys j) ∙ e) ((opens j).0 c),
  )

  pub opened_tells : (j m : ℕ) → m ≤ 0 → Tells (is_present (opened_moments op.keys) j m) (contents m j)
  opened_tells j m b =
      let first : 0 ≡ m = omega arith in
      subst (λ y. Tells (is_present (opened_moments op.keys) j y) (contents y j)) first (tells_first j)

  pub opened_bounded : ((j : ℕ) → contents 0 j → j < 2 ^ 32) → IsBounded (opened_moments op.keys)
  opened_bounded low key high = ap (λ b. if b then 0 ∷ [] else []) (has_false key op.keys (λ c.
      let l : key < 2 ^ 32 = low key ((opens key).1 c) in omega arith))

module _ (op : Opening) (last : ℕ) (log : Log) (contents : Contents) (counts : Counts)
    (account : Account op last log contents counts)
    (low : HoldsKeys last contents) where
  entered : (k : ℕ) → k < last → (s : Trace) → (e : Entry) → log k ≡ e → Enters op.threads op.quota log contents counts k e
      → Follows op log contents counts k s
      → Follows op log contents counts (suc k) (trace_after (suc k) e s)
  entered k l s (began t call) at en f = follows_beginning op log contents counts k t call s at en f
  entered k l s (stepped t change reply) at en f = follows_step op last log contents counts account low k
      (omega arith) l t change reply s at en f

  pub follows : (k : ℕ) → k ≤ last → Follows op log contents counts k (trace_at op log k)
  follows zero l = record {
    history = refl;
    seats = length-replicate op.threads None;
    numbered = refl;
    upto = opened_upto op.keys;
    keys = opened_tells op contents account.opens;
    bounded = opened_bounded op contents account.opens (λ j. low 0 j (omega arith));
    idle = λ t m e. get_or-replicate op.threads t None None m;
    busy = λ t m e. absurd (cc);
    placed = λ i m. absurd (omega arith);
  }
  follows (suc k) l = entered k l (trace_at op log k) (log k) refl (account.enters k l) (follows k (omega arith))

  module _ (k : ℕ) (below : k ≤ last) (r : Recorder) (threads : r.history.opening.threads ≡ op.threads) (is : trace_of r ≡ trace_at op log k) where
    now : Follows op log contents counts k (trace_of r)
    now = subst (λ s. Follows op log contents counts k s) (sym is) (follows k below)

    each : All (Traced (run_of op.threads op.quota log contents counts) k) (calls_at log k)
    each = (calls_of op last log contents counts account k below).each

    begun_before : (x : TracedCall) → Traced (run_of op.threads op.quota log contents counts) k x → (record_of x).begun < suc k
    begun_before x t = let a : x.begun ≤ k = t.already in omega arith

    ended_before : (x : TracedCall) → Traced (run_of op.threads op.quota log contents counts) k x
        → IfSome (record_of x).ended (λ (e : ℕ × Reply). e.0 < suc k)
    ended_before x t = if_some x.ended (λ e. e.0 < suc k) (λ e i. omega (arith, (t.ends e.0 e.1 i).0))

    of_each : (P : CallRecord → Type 0) → ((x : TracedCall) → Traced (run_of op.threads op.quota log contents counts) k x → P (record_of x))
        → All P (history_at log k)
    of_each P f = All-map P record_of (calls_at log k) (λ i d l. f _ (each i d l))

    later : IsLater r.history.calls (suc k)
    later = subst (λ (xs : List CallRecord). IsLater xs (suc k)) (sym now.history) (record {
      counted = omega arith;
      begins = of_each (λ y. y.begun < suc k) begun_before;
      ends = of_each (λ y. IfSome y.ended (λ (e : ℕ × Reply). e.0 < suc k)) ended_before;
    })

    shut : (t : ℕ) → is_open log t k ≡ false → (x : TracedCall) → Traced (run_of op.threads op.quota log contents counts) k x
        → is_under_way t x ≡ false
    shut t e x h = false_from_ne_true (is_under_way t x) (λ y. let w = way_of t x y in let o = h.is_open w.1 in
        let busy : is_open log t k ≡ true = rw w.0 o.is in cc)

    pub may_begin : (t : ℕ) (call : Call) → Enters op.threads op.quota log contents counts k (began t call)
        → MayBegin r.history t (suc k) × (t < length r.under_way.items)
    may_begin t call en = (
      record {
        of_a_thread = rw threads en.of_a_thread;
        idle = ap (λ (xs : List CallRecord). has_open xs t) now.history
            ∙ list_any_none (λ (x : CallRecord). x.thread == t && is_none x.ended) (history_at log k)
            (of_each (λ x. (x.thread == t && is_none x.ended) ≡ false) (shut t en.idle));
        later = later;
      },
      (let a : t < op.threads = en.of_a_thread in let b : length r.under_way.items ≡ op.threads = now.seats in omega arith),
    )

    pub may_step : (t : ℕ) (change : Option Change) (reply : Option Reply)
        → Enters op.threads op.quota log contents counts k (stepped t change reply)
        → MayStep r.history r.under_way.items r.places.items t (suc k) × MayChange (moments_of r.changes) (suc k) change
    may_step t change reply en =
        let o = now.busy t en.of_a_thread en.under_way in
        let number : OpenNumber (calls_at log k) t o.0.number o.0.call o.0.begun = o.2.here in
        let inside : o.0.number < length (calls_at log k) = number.below in
        let places : length r.places.items ≡ length (calls_at log k) = now.numbered in
        let records = ap (λ (xs : List CallRecord). length xs) now.history ∙ length-map (calls_at log k) record_of in
        let seats : length r.under_way.items ≡ op.threads = now.seats in
        let th : t < op.threads = en.of_a_thread in
        let since : o.0.begun ≤ k = o.2.since in (
          record {
            of_a_thread = omega arith;
            goes = rw o.1 (
              omega arith,
              omega arith,
              record {
                open_call = record {
                  known = omega arith;
                  not_ended = ap (λ (xs : List CallRecord). (call_numbered xs o.0.number).ended) now.history
                      ∙ ap (λ (x : CallRecord). x.ended) (get_or-map record_of (calls_at log k) o.0.number no_traced)
                      ∙ number.open_call.1;
                };
                later = later;
              },
            );
          },
          may_change contents k (moments_of r.changes) now.upto now.keys change en.content,
        )
