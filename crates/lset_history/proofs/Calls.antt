-- Properties of the calls of a run after each event, if each event is a valid start of a call or a valid step. Moment k
-- is the moment after the first k events.
use Rattle.std.proofs.Common.{rules, ◌≡◌, ◌≢◌, ℕ, zero, suc, ◌<◌, ◌≤◌, ◌⊎◌, Bool, true, false, ◌||◌, ◌&&◌, inl, inr, List, [], ◌∷◌, ◌++◌, map, length}
use Rattle.std.proofs.Common.{sym, refl, ap, subst, ◌∙◌, arith}
use Rattle.std.specs.Prelude.{slice_index_or, Option, Some, None, is_some, is_none, IfSome, IsSomeAnd, All, AllPairs, if◌then◌else◌}
use Rattle.std.proofs.lemmas.Bool.{cases_Bool}
use Rattle.std.proofs.lemmas.Bool.Decides.{nat_tests}
use Rattle.std.proofs.lemmas.List.{length-append, length-map, get_or-map, get_or_append_left, get_or_push}
use Rattle.std.proofs.lemmas.List.Elements.{All-push, All-map, All-weaker}
use Rattle.std.proofs.lemmas.List.Quantifiers.{all_pairs_push}
use Rattle.lset_words.specs.declared.Call.{Call}
use Rattle.lset_words.specs.declared.Reply.{Reply}
use Rattle.lset_words.specs.Log.{Log, Entry, Change, TracedCall, last_call, is_open, has_changed, is_change, calls_at}
use Rattle.lset_words.specs.Log.{LastCall, maker, last_at, calls_after, is_under_way, traced_on, changed_by, ended_by}
use Rattle.lset_words.specs.Log.Entry.{began, stepped}
use Rattle.lset_words.specs.Account.{Contents, Counts, MayChange, RightReply, Steps, Enters, Account}
use Rattle.lset_history.specs.Placement.{traced_at, no_traced}
use Rattle.lset_words.specs.Words.{Opening}
use Rattle.lset_words.proofs.Numbers.{equal_test, same_or_not}
use Rattle.lset_words.proofs.LastCalls.{last_own, last_other}

-- A run: its log of events and, at each moment (number of events so far), the keys of the set and each thread's number
-- of successful adds.
pub record Run : Type 1 where
  pub threads : ℕ
  pub quota : ℕ
  pub log : Log
  pub contents : Contents
  pub counts : Counts

abbrev pub run_of : ℕ → ℕ → Log → Contents → Counts → Run
run_of threads quota log contents counts =
    record { threads = threads; quota = quota; log = log; contents = contents; counts = counts }

-- Holds if event number `begun` of the run, counted from 1, is the start of the call `call`.
pub record Beginning (r : Run) (thread : ℕ) (call : Call) (begun : ℕ) : Type 0 where
  pub before : ℕ
  pub is : begun ≡ suc before
  pub entry : r.log before ≡ began thread call

-- Holds if event number `changed` of the run, counted from 1, is a step in which the call `call` changes the set, and
-- the call permits the change.
pub record ChangeAt (r : Run) (thread : ℕ) (call : Call) (begun changed : ℕ) : Type 0 where
  pub before : ℕ
  pub is : changed ≡ suc before
  pub later : begun < changed
  pub change : Change
  pub reply : Option Reply
  pub entry : r.log before ≡ stepped thread (Some change) reply
  pub may : MayChange r.quota (r.counts before thread) call false (Some change)

-- Holds if event number `end` of the run, counted from 1, ends the call `call` with a correct reply. If the call
-- changes the set, it does so in event number `end` or earlier.
pub record EndAt (r : Run) (thread : ℕ) (call : Call) (begun : ℕ) (changed : Option ℕ) (end : ℕ) (reply : Reply) : Type 0 where
  pub before : ℕ
  pub is : end ≡ suc before
  pub later : begun < end
  pub change : Option Change
  pub entry : r.log before ≡ stepped thread change (Some reply)
  pub after_change : (m : ℕ) → changed ≡ Some m → m ≤ end
  pub right : RightReply (is_some changed) r.quota r.contents r.counts begun end thread call (Some reply)

-- Holds if `last` is the call `call`, which began with event number `begun` and is still pending. The call has changed
-- the set if and only if `changed` is not `None`.
pub record OpenAt (last : LastCall) (call : Call) (begun : ℕ) (changed : Option ℕ) : Type 0 where
  pub is : last.pending ≡ true
  pub call_is : last.call ≡ call
  pub begun_is : last.begun ≡ begun
  pub changed_is : last.changed ≡ is_some changed

-- Holds if the call `x`, in its state after `k` events, agrees with the log: the start of `x` and, if any, the change
-- and the end of `x` are entries of the log.
pub record Traced (r : Run) (k : ℕ) (x : TracedCall) : Type 0 where
  pub of_a_thread : x.thread < r.threads
  pub begins : Beginning r x.thread x.call x.begun
  pub already : x.begun ≤ k
  pub changes : (m : ℕ) → x.changed ≡ Some m → (m ≤ k) × ChangeAt r x.thread x.call x.begun m
  pub is_open : x.ended ≡ None → OpenAt (last_at r.log x.thread k) x.call x.begun x.changed
  pub ends : (m : ℕ) (reply : Reply) → x.ended ≡ Some (m, reply)
      → (m ≤ k) × EndAt r x.thread x.call x.begun x.changed m reply

-- Holds if call `x` begins before call `y` and, if one thread makes both calls, also ends before `y` begins.
pub record Later (x y : TracedCall) : Type 0 where
  pub begins : x.begun < y.begun
  pub one_thread : x.thread ≡ y.thread → IsSomeAnd x.ended (λ (e : ℕ × Reply). e.0 < y.begun)

abbrev pub IsOpenOf : ℕ → TracedCall → Type 0
IsOpenOf t x = (x.thread ≡ t) × (x.ended ≡ None)

-- Holds if some call in the list satisfies the predicate `P`.
abbrev pub SomeCall : (TracedCall → Type 0) → List TracedCall → Type 0
SomeCall P xs = (i : ℕ) × (i < length xs) × P (traced_at xs i)

pub if_some : {A : Type 0} (o : Option A) (P : A → Type 0) → ((x : A) → o ≡ Some x → P x) → IfSome o P
if_some None P f = tt
if_some (Some x) P f = f x refl

-- Holds if `xs` are the calls of the run after `k` events: each call in `xs` agrees with the log, and `xs` contains
-- each pending call and each call that has changed the set.
pub record Calls (r : Run) (k : ℕ) (xs : List TracedCall) : Type 0 where
  pub each : All (Traced r k) xs
  pub pairs : AllPairs Later xs
  -- If thread `t` has a pending call in the log, the call is in `xs`.
  pub opens : (t : ℕ) → is_open r.log t k ≡ true → SomeCall (IsOpenOf t) xs
  -- If an entry of the log is a change of the set, the call that made the change is in `xs`.
  pub changers : (j t : ℕ) (change : Change) (reply : Option Reply) → j < k → r.log j ≡ stepped t (Some change) reply
      → SomeCall (λ x. x.changed ≡ Some (suc j)) xs

-- ---- Lemmas about log entries of other threads
waits : {r : Run} {k : ℕ} {x : TracedCall} → (x.ended ≡ None → maker (r.log k) ≢ x.thread) → Traced r k x
    → Traced r (suc k) x
waits {r} {k} {x} other t = record {
  of_a_thread = t.of_a_thread;
  begins = t.begins;
  already = omega arith;
  changes = λ m e. (omega (arith, t.changes m e), (t.changes m e).1);
  is_open = λ e. subst (λ c. OpenAt c x.call x.begun x.changed) (sym (last_other r.log x.thread k refl (other e)))
      (t.is_open e);
  ends = λ m y e. (omega (arith, t.ends m y e), (t.ends m y e).1);
}

-- ---- Lemmas about the start of a call
abbrev pub new_call : ℕ → ℕ → Call → TracedCall
new_call k t call = record { thread = t; call = call; begun = suc k; changed = None; ended = None }

begins : {r : Run} {k t : ℕ} {call : Call} → r.log k ≡ began t call → t < r.threads → Traced r (suc k) (new_call k t call)
begins {r} {k} {t} {call} e l = record {
  of_a_thread = l;
  begins = record { before = k; is = refl; entry = e };
  already = omega arith;
  changes = λ m c. absurd cc;
  is_open = λ c. subst (λ x. OpenAt x call (suc k) None) (sym (last_own r.log t k e refl))
      (record { is = refl; call_is = refl; begun_is = refl; changed_is = refl });
  ends = λ m y c. absurd cc;
}

starts : {r : Run} {k t : ℕ} {call : Call} {x : TracedCall} → is_open r.log t k ≡ false → Traced r k x → Later x (new_call k t call)
starts {k = k} {t = t} {x = x} shut p = record { begins = omega arith; one_thread = λ same. ended x.ended refl same }
  where
    ended : (o : Option (ℕ × Reply)) → x.ended ≡ o → x.thread ≡ t → IsSomeAnd o (λ (e : ℕ × Reply). e.0 < suc k)
    ended None e same = let still = (p.is_open e).is in absurd (let shut' = rw (← same) at shut in cc)
    ended (Some (m, y)) e same = omega (arith, p.ends m y e)

pub after_beginning : {r : Run} {k t : ℕ} {call : Call} {xs : List TracedCall} → r.log k ≡ began t call → t < r.threads
    → is_open r.log t k ≡ false → Calls r k xs → Calls r (suc k) (xs ++ new_call k t call ∷ [])
after_beginning {r} {k} {t} {call} {xs} e l shut h = record {
  each = All-push (Traced r (suc k)) xs (new_call k t call) (All-weaker (Traced r k) (Traced r (suc k)) still xs h.each) (begins e l);
  pairs = all_pairs_push Later xs (new_call k t call) h.pairs (λ i d m. starts shut (h.each i d m));
  opens = λ u o. elim (same_or_not t u) [
    | inl same ↦ (length xs, omega (arith, long), rw last (same, refl))
    | inr other ↦ kept (IsOpenOf u) (h.opens u (sym (ap (λ (x : LastCall). x.pending) (last_other r.log u k e other)) ∙ o))
  ];
  changers = λ j u change reply m f. kept (λ x. x.changed ≡ Some (suc j)) (h.changers j u change reply (before m f) f);
}
  where
    new : TracedCall
    new = new_call k t call

    long : length (xs ++ new ∷ []) ≡ suc (length xs)
    long = omega (arith, length-append xs (new ∷ []))

    last : traced_at (xs ++ new ∷ []) (length xs) ≡ new
    last = get_or_push xs new no_traced (length xs) refl

    still : (x : TracedCall) → Traced r k x → Traced r (suc k) x
    still x p = waits (λ none same. let still = (p.is_open none).is in cc) p

    kept : (P : TracedCall → Type 0) → SomeCall P xs → SomeCall P (xs ++ new ∷ [])
    kept P s = (s.0, omega (arith, long, s.1), rw (get_or_append_left xs (new ∷ []) no_traced s.0 s.1) s.2)

    before : {j u : ℕ} {change : Change} {reply : Option Reply} → j < suc k → r.log j ≡ stepped u (Some change) reply → j < k
    before m f = search rules

abbrev pub step_of : ℕ → ℕ → Option Change → Option Reply → TracedCall → TracedCall
step_of k t change reply x = if is_under_way t x then traced_on (suc k) change reply x else x

pub way_of : (t : ℕ) (x : TracedCall) → is_under_way t x ≡ true → (t ≡ x.thread) × (x.ended ≡ None)
way_of t x u = (grind (arith, nat_tests), grind (arith, nat_tests))

pub is_way : (t : ℕ) (x : TracedCall) → x.thread ≡ t → x.ended ≡ None → is_under_way t x ≡ true
is_way t x e n = rw (equal_test x.thread t e, n) refl

changed_as : (m n : ℕ) (change : Option Change) (before : Option ℕ) → changed_by m change before ≡ Some n
    → ((change ≡ None) × (before ≡ Some n)) ⊎ ((c : Change) × (change ≡ Some c) × (n ≡ m))
changed_as m n None before e = inl (refl, e)
changed_as m n (Some c) before e = inr (c, refl, cc)

ended_as : (m n : ℕ) (reply : Option Reply) (y : Reply) → ended_by m reply ≡ Some (n, y) → (reply ≡ Some y) × (n ≡ m)
ended_as m n reply y e = (grind arith, grind arith)

stays : (b : Bool) (reply : Option Reply) → (b && is_none reply) ≡ true → (b ≡ true) × (reply ≡ None)
stays true None e = (refl, refl)
stays true (Some y) e = absurd cc
stays false reply e = absurd cc

not_ended : (m : ℕ) (reply : Option Reply) → ended_by m reply ≡ None → reply ≡ None
not_ended m reply e = grind arith

has_now : (m : ℕ) (change : Option Change) (changed : Option ℕ)
    → (is_some changed || is_change change) ≡ is_some (changed_by m change changed)
has_now m change changed = grind arith

may_be : (quota count : ℕ) (call here : Call) (b : Bool) (c : Change) → here ≡ call → MayChange quota count here b (Some c)
    → MayChange quota count call false (Some c)
may_be quota count call here b (key, true) e m = (sym e ∙ m.0, refl, m.2)
may_be quota count call here b (key, false) e m = (sym e ∙ m.0, refl)

-- Lemmas about the pending call `x` of the thread that makes the next step.
module _ {r : Run} {k : ℕ} {change : Option Change} {reply : Option Reply} {x : TracedCall}
    (entry : r.log k ≡ stepped x.thread change reply)
    (s : Steps r.threads r.quota r.log r.contents r.counts k x.thread change reply) (none : x.ended ≡ None) (p : Traced r k x) where
  here : OpenAt (last_at r.log x.thread k) x.call x.begun x.changed
  here = p.is_open none

  now : has_changed r.log x.thread (suc k) ≡ is_some (changed_by (suc k) change x.changed)
  now = ap (λ (z : LastCall). z.changed) (last_own r.log x.thread k entry refl)
      ∙ rw here.changed_is (has_now (suc k) change x.changed)

  changes : (m : ℕ) → changed_by (suc k) change x.changed ≡ Some m → (m ≤ suc k) × ChangeAt r x.thread x.call x.begun m
  changes m e = elim (changed_as (suc k) m change x.changed e) [
    | inl o ↦ (omega (arith, p.changes m o.1), (p.changes m o.1).1)
    | inr o ↦ rw o.2 (
      omega arith,
      record {
        before = k;
        is = refl;
        later = omega (arith, p.already);
        change = o.0;
        reply = reply;
        entry = rw o.1 at entry;
        may = may_be _ _ _ _ _ o.0 here.call_is (rw o.1 at s.may);
      },
    )
  ]

  steps : Traced r (suc k) (traced_on (suc k) change reply x)
  steps = record {
    of_a_thread = p.of_a_thread;
    begins = p.begins;
    already = omega (arith, p.already);
    changes = changes;
    is_open = λ e. subst (λ z. OpenAt z x.call x.begun (changed_by (suc k) change x.changed))
        (sym (last_own r.log x.thread k entry refl))
        (record {
          is = rw (here.is, not_ended (suc k) reply e) refl;
          call_is = here.call_is;
          begun_is = here.begun_is;
          changed_is = rw here.changed_is (has_now (suc k) change x.changed);
        });
    ends = λ m y e. let w = ended_as (suc k) m reply y e in rw w.1 (
      omega arith,
      record {
        before = k;
        is = refl;
        later = omega (arith, p.already);
        change = change;
        entry = rw w.0 at entry;
        after_change = λ n c. (changes n c).0;
        right = rw (w.0, now, here.begun_is, here.call_is) at s.right;
      },
    );
  }

module _ {r : Run} {k t : ℕ} {change : Option Change} {reply : Option Reply} (entry : r.log k ≡ stepped t change reply)
    (s : Steps r.threads r.quota r.log r.contents r.counts k t change reply) where
  traced_step : (x : TracedCall) → Traced r k x → Traced r (suc k) (step_of k t change reply x)
  traced_step x p = elim (cases_Bool (is_under_way t x)) [
    | inl u ↦ rw u (let w = way_of t x u in steps (rw w.0 at entry) (rw w.0 at s) w.1 p)
    | inr u ↦ rw u (waits (λ none. rw entry (λ same. let way = is_way t x (sym same) none in cc)) p)
  ]

  later_step : (x y : TracedCall) → Later x y → Later (step_of k t change reply x) (step_of k t change reply y)
  later_step x y p = elim (cases_Bool (is_under_way t x)) [
    | inl u ↦ elim (cases_Bool (is_under_way t y)) [
      | inl v ↦ rw (u, v) (record { begins = p.begins; one_thread = λ e. absurd (never u e) })
      | inr v ↦ rw (u, v) (record { begins = p.begins; one_thread = λ e. absurd (never u e) })
    ]
    | inr u ↦ elim (cases_Bool (is_under_way t y)) [
      | inl v ↦ rw (u, v) (record { begins = p.begins; one_thread = p.one_thread })
      | inr v ↦ rw (u, v) p
    ]
  ]
    where
      never : is_under_way t x ≡ true → x.thread ≡ y.thread → ⊥
      never u e = rw (way_of t x u).1 at (p.one_thread e)

  open_step : (u : ℕ) (x : TracedCall) → (t ≡ u → reply ≡ None) → IsOpenOf u x → IsOpenOf u (step_of k t change reply x)
  open_step u x none p = elim (cases_Bool (is_under_way t x)) [
    | inl b ↦ rw b (p.0, rw (none ((way_of t x b).0 ∙ p.0)) refl)
    | inr b ↦ rw b p
  ]

  changer_stays : (m : ℕ) (x : TracedCall) → Traced r k x → x.changed ≡ Some m → (step_of k t change reply x).changed ≡ Some m
  changer_stays m x p c = elim (cases_Bool (is_under_way t x)) [
    | inl b ↦ rw b (let w = way_of t x b in let o = p.is_open w.1 in unchanged change (rw (w.0, o.changed_is, c) at s.may))
    | inr b ↦ rw b c
  ]
    where
      unchanged : (h : Option Change) → MayChange r.quota (r.counts k x.thread) (last_call r.log x.thread k) true h → changed_by (suc k) h x.changed ≡ Some m
      unchanged None may = c
      unchanged (Some (key, true)) may = absurd cc
      unchanged (Some (key, false)) may = absurd cc

  now_changes : (j u : ℕ) (here : Change) (told : Option Reply) → j ≡ k → r.log j ≡ stepped u (Some here) told → (x : TracedCall)
      → IsOpenOf t x → (step_of k t change reply x).changed ≡ Some (suc j)
  now_changes j u here told is e x p =
      let c : change ≡ Some here = cc in rw (is_way t x p.0 p.1, c) (ap (λ z. Some (suc z)) (sym is))

  after_step : {xs : List TracedCall} → Calls r k xs → Calls r (suc k) (map (step_of k t change reply) xs)
  after_step {xs} h = record {
    each = All-map (Traced r (suc k)) f xs (All-weaker (Traced r k) (λ x. Traced r (suc k) (f x)) traced_step xs h.each);
    pairs = λ i j d l m. rw (at i d (omega (arith, length-map xs f)), at j d (omega (arith, length-map xs f)))
        (later_step _ _ (h.pairs i j d l (omega (arith, length-map xs f))));
    opens = λ u o. let w = opens_as u o in let c = h.opens u w.0 in
        mapped (IsOpenOf u) c.0 c.1 (open_step u _ w.1 c.2);
    changers = λ j u here told l e. elim (same_or_not j k) [
      | inl now ↦ (let c = h.opens t s.under_way in
          mapped (λ x. x.changed ≡ Some (suc j)) c.0 c.1 (now_changes j u here told now e _ c.2))
      | inr past ↦ (let c = h.changers j u here told (omega arith) e in
          mapped (λ x. x.changed ≡ Some (suc j)) c.0 c.1 (changer_stays (suc j) _ (h.each c.0 no_traced c.1) c.2))
    ];
  }
    where
      f : TracedCall → TracedCall
      f = step_of k t change reply

      at : (i : ℕ) (d : TracedCall) → i < length xs → slice_index_or (map f xs) i d ≡ f (slice_index_or xs i d)
      at i d l = get_or-map f xs i d d l

      mapped : (P : TracedCall → Type 0) (i : ℕ) → i < length xs → P (f (traced_at xs i)) → SomeCall P (map f xs)
      mapped P i l p = (i, omega (arith, length-map xs f), rw (at i no_traced l) p)

      opens_as : (u : ℕ) → is_open r.log u (suc k) ≡ true → (is_open r.log u k ≡ true) × (t ≡ u → reply ≡ None)
      opens_as u o = elim (same_or_not t u) [
        | inl y ↦ (let w = stays _ reply (sym (ap (λ (x : LastCall). x.pending) (last_own r.log u k entry y)) ∙ o) in
            (w.0, λ z. w.1))
        | inr y ↦ (sym (ap (λ (x : LastCall). x.pending) (last_other r.log u k entry y)) ∙ o, λ z. absurd (y z))
      ]

-- Lemma: after each event of a run, the list of the run's calls has the properties in `Calls`. The proof is by
-- induction on the number of events.
pub calls_of : (op : Opening) (last : ℕ) (log : Log) (contents : Contents) (counts : Counts)
    → Account op last log contents counts
    → (k : ℕ) → k ≤ last → Calls (run_of op.threads op.quota log contents counts) k (calls_at log k)
calls_of op last log contents counts a zero l = grind arith
calls_of op last log contents counts a (suc k) l = enter (log k) refl (a.enters k (omega arith))
    (calls_of op last log contents counts a k (omega arith))
  where
    enter : (e : Entry) → log k ≡ e → Enters op.threads op.quota log contents counts k e
        → Calls (run_of op.threads op.quota log contents counts) k (calls_at log k)
        → Calls (run_of op.threads op.quota log contents counts) (suc k) (calls_after (suc k) e (calls_at log k))
    enter (began t call) e h c = after_beginning e h.of_a_thread h.idle c
    enter (stepped t change reply) e h c = after_step e h c
