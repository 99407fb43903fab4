-- Proof: if a recorder, which collects the calls of a run, describes the first `k` events, then it describes the first
-- `k + 1` events after recording a step.
use Rattle.std.proofs.Common.{◌≡◌, ℕ, suc, ◌<◌, ◌≤◌, true, false, ◌||◌, ◌&&◌, inl, inr, List, length, map, set, sym, refl}
use Rattle.std.proofs.Common.{subst, ap, ◌∙◌, arith, get_or-set_same, get_or-set_other}
use Rattle.std.specs.Prelude.{All, ◌-◌, Option, Some, None, is_none}
use Rattle.std.proofs.lemmas.List.{map-set, set-get_or}
use Rattle.std.proofs.lemmas.Bool.{or_parts, or_from}
use Rattle.std.proofs.Math.ListN.{get_or-map}
use Rattle.lset_words.specs.declared.Reply.{Reply}
use Rattle.lset_words.specs.Log.{Log, Change, TracedCall, traced_on, changed_by, ended_by, calls_at, calls_after, history_at}
use Rattle.lset_words.specs.Log.{LastCall, record_of, last_call, begun_at, is_open, has_changed, is_change, last_after, last_at}
use Rattle.lset_words.proofs.LastCalls.{last_own, last_other}
use Rattle.lset_words.specs.Log.Entry.{stepped}
use Rattle.lset_words.specs.Account.{Contents, Counts, FitsSometime, RightReply, Enters, Account, count_after}
use Rattle.lset_history.specs.Placement.{traced_at, no_traced, IsSmallestFit}
use Rattle.lset_words.specs.History.{no_call}
use Rattle.lset_words.proofs.Numbers.{same_or_not}
use Rattle.lset_words.specs.Words.{Opening}
use Rattle.lset_history.proofs.Calls.{Run, Traced, OpenAt, run_of, calls_of}
use Rattle.lset_replay.proofs.OpenCalls.{OpenNumber, open_stepped, length_stepped, step_sets}
use Rattle.lset_replay.specs.declared.places.OpenCall.{OpenCall}
use Rattle.lset_replay.specs.declared.places.Linearized.{Linearized}
use Rattle.lset_replay.specs.Trace.{Trace, open_call_at, place_at, number_of, fit, changed_at, read_at, settled, changed_on}
use Rattle.lset_replay.specs.Trace.{ended_on, needs_key, shows}
use Rattle.lset_history.proofs.FirstMoments.{first_passing_is}
use Rattle.lset_history.specs.Changes.{is_present, IsBounded}
use Rattle.lset_replay.proofs.KeyChanges.{HoldsKeys, Tells, changes_by, changed_keys, changed_upto, changed_bounded}
use Rattle.lset_replay.proofs.SmallestFits.{fit_smallest, smallest_of}
use Rattle.lset_replay.proofs.ReplayKept.{IsWatched, Follows, PlaceBy, PlaceOf, change_place, end_place, changed_calls}
use Rattle.lset_replay.proofs.ReplayKept.{changed_seats, changed_open, changed_changes, changed_count, changed_other, changed_here}
use Rattle.lset_replay.proofs.ReplayKept.{ended_seats, ended_others, ended_seat, ended_count, ended_other, ended_here}
use Rattle.lset_replay.proofs.ReplayKept.{ended_changes, calls_are, steady_next, watched_next}

-- ---- Lemmas about the linearization point of the call that takes the step
module _ (q : ℕ) (contents : Contents) (counts : Counts) (x : TracedCall) (m : ℕ) (changes : ℕ → List ℕ) (o : OpenCall) where
  changed_place : (ch : Option Change) (r : Option Reply) (p : Option Linearized) (c : ℕ) → p ≡ Some (changed_at c)
      → end_place changes m r o p ≡ Some (changed_at c)
  changed_place ch None p c e = e
  changed_place ch (Some r) p c e = ap (λ z. settled z (fit changes o r m) m r) e

  place_next : (changed : Option ℕ) (p : Option Linearized) (ch : Option Change) (r : Option Reply)
      → PlaceBy q contents counts x changed None p
      → (changed ≡ None → ch ≡ None → (a : Reply) → r ≡ Some a
      → (k : ℕ) × (fit changes o a m ≡ Some k) × IsSmallestFit q contents counts x m a k)
      → PlaceBy q contents counts (traced_on m ch r x) (changed_by m ch changed) (ended_by m r) (end_place changes m r o
      (change_place ch m p))
  place_next changed p (Some c) r h f = changed_place (Some c) r (Some (changed_at m)) m refl
  place_next (Some c) p None r h f = changed_place None r p c h
  place_next None p None None h f = h
  place_next None p None (Some a) h f =
      let w : (k : ℕ) × (fit changes o a m ≡ Some k) × IsSmallestFit q contents counts x m a k = f refl refl a refl in (
        w.0,
        ap (λ z. settled z (fit changes o a m) m a) h ∙ ap (λ z. Some (read_at z m a)) w.1,
        record { from = w.2.from; upto = w.2.upto; fits = w.2.fits; smallest = w.2.smallest },
      )

-- ---- Lemmas about the history after a step
module _ (m t : ℕ) (cs : List TracedCall) (ch : Option Change) (o : OpenCall) (s : Trace) where
  abbrev num : ℕ
  num = o.number

  ended_history : (r : Option Reply) → open_call_at s.under_way t ≡ Some o → s.calls ≡ map record_of cs
      → (traced_at cs num).ended ≡ None
      → (ended_on m t r s).calls ≡ map record_of (set cs num (traced_on m ch r (traced_at cs num)))
  ended_history None e g h = g ∙ sym (cc (
    map-set record_of cs num (traced_on m ch None (traced_at cs num)),
    h,
    get_or-map record_of cs num no_traced,
    set-get_or (map record_of cs) num no_call,
  ))
  ended_history (Some a) e g h = cc (
    e,
    g,
    get_or-map record_of cs num no_traced,
    map-set record_of cs num
        (traced_on m ch (Some a) (traced_at cs num)),
  )

no_count : (ch : Option Change) (c : ℕ) → is_change ch ≡ false → count_after ch c ≡ c
no_count None c e = refl
no_count (Some x) c e = absurd (cc)

module _ (op : Opening) (last : ℕ) (log : Log) (contents : Contents) (counts : Counts)
    (account : Account op last log contents counts)
    (low : HoldsKeys last contents) (k : ℕ) (below : k ≤ last) (next : suc k ≤ last)
    (t : ℕ) (ch : Option Change) (r : Option Reply) (s : Trace)
    (at : log k ≡ stepped t ch r) (en : Enters op.threads op.quota log contents counts k (stepped t ch r))
    (f : Follows op log contents counts k s) where
  abbrev run : Run
  run = run_of op.threads op.quota log contents counts

  abbrev open_now : (o : OpenCall) × (open_call_at s.under_way t ≡ Some o) × IsWatched log contents counts k t o
  open_now = f.busy t en.of_a_thread en.under_way

  -- The pending call of the thread that takes the step.
  abbrev watching : OpenCall
  watching = open_now.0

  abbrev number_here : ℕ
  number_here = watching.number

  abbrev here : TracedCall
  here = traced_at (calls_at log k) number_here

  number : OpenNumber (calls_at log k) t number_here watching.call watching.begun
  number = open_now.2.here

  -- The recorder's content after the change of the step, if the step changes the set.
  abbrev changed : Trace
  changed = changed_on (suc k) t ch s

  -- The recorder's content after the change and after the end of the call, if the step ends the call.
  abbrev kept : Trace
  kept = ended_on (suc k) t r changed

  traced : Traced run k here
  traced = (calls_of op last log contents counts account k below).each number_here no_traced number.below

  told : OpenAt (last_at log here.thread k) here.call here.begun here.changed
  told = traced.is_open number.open_call.1

  calls_next : calls_at log (suc k) ≡ set (calls_at log k) number_here (traced_on (suc k) ch r here)
  calls_next = calls_are log k (stepped t ch r) at
      ∙ step_sets op last log contents counts account k t ch r below number_here watching.call watching.begun number

  open_next : open_call_at changed.under_way t ≡ Some watching
  open_next = changed_open (suc k) t ch s t (Some watching) open_now.1

  own : last_at log t (suc k) ≡ last_after (suc k) (stepped t ch r) (last_at log t k)
  own = last_own log t k at refl

  quiet_here : has_changed log t (suc k) ≡ false → (has_changed log t k ≡ false) × (counts (suc k) t ≡ counts k t)
  quiet_here e =
      let w : (has_changed log t k ≡ false) × (is_change ch ≡ false) = or_parts (has_changed log t k) (is_change ch)
      (sym (ap (λ (x : LastCall). x.changed) own) ∙ e) in
      (w.0, en.own_count ∙ no_count ch (counts k t) w.1)

  step_history : kept.calls ≡ history_at log (suc k)
  step_history = ended_history (suc k) t (calls_at log k) ch watching changed r open_next
      (changed_calls (suc k) t ch s ∙ f.history) number.open_call.1 ∙ sym (ap (λ xs. map record_of xs) calls_next)

  kept_changes : kept.changes ≡ changes_by ch (suc k) s.changes
  kept_changes = ended_changes (suc k) t r changed ∙ changed_changes (suc k) t ch s

  step_keys : (j m : ℕ) → m ≤ suc k → Tells (is_present kept.changes j m) (contents m j)
  step_keys j m l = rw kept_changes (changed_keys contents k s.changes f.upto f.keys ch en.content j m l)

  step_upto : (j : ℕ) → All (λ x. x ≤ suc k) (kept.changes j)
  step_upto j = rw kept_changes (changed_upto contents k s.changes f.upto f.keys ch j)

  step_bounded : IsBounded kept.changes
  step_bounded = subst IsBounded (sym kept_changes) (changed_bounded contents k s.changes f.upto f.keys ch en.content
      (λ j m l c. low m j (omega arith) c) f.bounded)

  idle_here : (a : Option Reply) → ((last_at log t k).pending && is_none a) ≡ false
      → open_call_at (ended_on (suc k) t a changed).under_way t ≡ None
  idle_here None e = absurd (let g : true ≡ false = rw en.under_way at e in cc)
  idle_here (Some a) e = ended_seat (suc k) t a changed (grind arith)

  step_idle : (u : ℕ) → u < op.threads → is_open log u (suc k) ≡ false → open_call_at kept.under_way u ≡ None
  step_idle u l e = elim (same_or_not t u) [
    | inl y ↦ subst (λ z. open_call_at kept.under_way z ≡ None) y (idle_here r (sym (ap (λ (x : LastCall). x.pending) own)
        ∙ subst (λ z. is_open log z (suc k) ≡ false) (sym y) e))
    | inr d ↦ (ended_others (suc k) t r changed u (λ z. d (sym z)) ∙ changed_open (suc k) t ch s u None
        (f.idle u l (sym (ap (λ (x : LastCall). x.pending) (last_other log u k at d)) ∙ e)))
  ]

  open_here : (a : Option Reply) → ((last_at log t k).pending && is_none a) ≡ true
      → (open_call_at (ended_on (suc k) t a changed).under_way t ≡ Some watching)
      × OpenNumber (calls_after (suc k) (stepped t ch a) (calls_at log k)) t number_here watching.call watching.begun
  open_here None e = (
    open_next,
    open_stepped k t t ch None (calls_at log k) number_here watching.call watching.begun (inl refl) number,
  )
  open_here (Some a) e = absurd (let g : false ≡ true = rw en.under_way at e in cc)

  step_busy : (u : ℕ) → u < op.threads → is_open log u (suc k) ≡ true
      → (o : OpenCall) × (open_call_at kept.under_way u ≡ Some o) × IsWatched log contents counts (suc k) u o
  step_busy u l e = elim (same_or_not t u) [
    | inl y ↦ rw (← y) (
        let stays = open_here r (sym (ap (λ (x : LastCall). x.pending) own)
        ∙ subst (λ z. is_open log z (suc k) ≡ true) (sym y) e) in (
          watching,
          stays.0,
          watched_next log contents counts k t watching quiet_here open_now.2
              (subst (λ xs. OpenNumber xs t number_here watching.call watching.begun)
              (sym (calls_are log k (stepped t ch r) at)) stays.1),
        )
        )
    | inr d ↦ (let w = f.busy u l (sym (ap (λ (x : LastCall). x.pending) (last_other log u k at d)) ∙ e) in (
      w.0,
      ended_others (suc k) t r changed u (λ z. d (sym z)) ∙ changed_open (suc k) t ch s u (Some w.0) w.1,
      watched_next log contents counts k u w.0
          (λ g. (
            sym (ap (λ (x : LastCall). x.changed) (last_other log u k at d)) ∙ g,
            en.other_counts u l (λ z. d (sym z)),
          )) w.2
          (subst (λ xs. OpenNumber xs u w.0.number w.0.call w.0.begun) (sym (calls_are log k (stepped t ch r) at))
          (open_stepped k t u ch r (calls_at log k) w.0.number w.0.call w.0.begun (inr d) w.2.here)),
    ))
  ]

  fits_first : here.changed ≡ None → ch ≡ None → (a : Reply) → r ≡ Some a
      → (m : ℕ) × (fit kept.changes watching a (suc k) ≡ Some m) × IsSmallestFit op.quota contents counts here (suc k) a m
  fits_first e g a h =
      let th : here.thread ≡ t = number.open_call.0 in
      let unchanged : has_changed log t k ≡ false = subst (λ z. has_changed log z k ≡ false) th (cc (told.changed_is, e)) in
      let still : has_changed log t (suc k) ≡ false = ap (λ (x : LastCall). x.changed) own
      ∙ ap (λ z. has_changed log t k || is_change z) g ∙ or_from (has_changed log t k) false unchanged refl in
      let call_same = subst (λ z. last_call log z k ≡ here.call) th told.call_is ∙ number.open_call.2 in
      let begun_same = subst (λ z. begun_at log z k ≡ here.begun) th told.begun_is ∙ number.open_call.3 in
      let sometime : FitsSometime op.quota contents counts watching.begun (suc k) t watching.call a =
      subst (λ z. FitsSometime op.quota contents counts z (suc k) t watching.call a) begun_same
      (subst (λ z. FitsSometime op.quota contents counts (begun_at log t k) (suc k) t z a) call_same
      (subst (λ z. RightReply z op.quota contents counts (begun_at log t k) (suc k) t (last_call log t k) (Some a)) still
      (rw (← h) en.right))) in
      let since : watching.begun ≤ k = open_now.2.since in
      let w = fit_smallest op.quota contents counts watching.begun (suc k) t kept.changes watching.call a
      (fit kept.changes watching a (suc k)) step_bounded step_keys
      (first_passing_is (needs_key watching.call a) (shows kept.changes watching.call a) watching.begun
      (suc k - watching.begun) (suc k) (omega arith))
      (steady_next log contents counts k t watching quiet_here open_now.2 still) sometime in (
        w.0,
        w.1,
        smallest_of op.quota contents counts here watching.begun (suc k) t watching.call a w.0 number.open_call.3 th
            number.open_call.2 w.2,
      )

  step_placed : (i : ℕ) → i < length (calls_at log (suc k))
      → PlaceOf op.quota contents counts (traced_at (calls_at log (suc k)) i) (place_at kept.places i)
  step_placed i l =
      let long : length (calls_at log (suc k)) ≡ length (calls_at log k) = length_stepped log k t ch r at in
      let same_num : number_of (open_call_at s.under_way t) ≡ number_here = ap number_of open_now.1 in
      let places : length s.places ≡ length (calls_at log k) = f.numbered in
      let inside : number_here < length (calls_at log k) = number.below in
      let count1 : length changed.places ≡ length s.places = changed_count (suc k) t ch s in
      elim (same_or_not i number_here) [
        | inl y ↦ subst (λ z. PlaceOf op.quota contents counts (traced_at (calls_at log (suc k)) z) (place_at kept.places z))
            (sym y)
            (rw calls_next (subst (λ z. PlaceOf op.quota contents counts z (place_at kept.places number_here))
            (sym (get_or-set_same (calls_at log k) number_here (traced_on (suc k) ch r here) no_traced inside))
            (subst (λ z. PlaceOf op.quota contents counts (traced_on (suc k) ch r here) z)
            (sym (ended_here (suc k) t r changed watching open_next (omega arith)
            ∙ ap (λ z. end_place changed.changes (suc k) r watching (place_at changed.places z)) (sym same_num)
            ∙ ap (λ z. end_place changed.changes (suc k) r watching z) (changed_here (suc k) t ch s (omega arith))
            ∙ ap (λ z. end_place changed.changes (suc k) r watching (change_place ch (suc k) (place_at s.places z))) same_num
            ∙ ap (λ c. end_place c (suc k) r watching (change_place ch (suc k) (place_at s.places number_here)))
            (sym (ended_changes (suc k) t r changed))))
            (place_next op.quota contents counts here (suc k) kept.changes watching
            here.changed (place_at s.places number_here) ch r
            (subst (λ z. PlaceBy op.quota contents counts here here.changed z (place_at s.places number_here))
            number.open_call.1 (f.placed number_here inside)) fits_first))))
        | inr d ↦ subst (λ xs. PlaceOf op.quota contents counts (traced_at xs i) (place_at kept.places i)) (sym calls_next)
            (rw (get_or-set_other (calls_at log k) number_here i (traced_on (suc k) ch r here) no_traced d) (subst
            (λ z. PlaceOf op.quota contents counts (traced_at (calls_at log k) i) z)
            (sym (ended_other (suc k) t r changed watching i open_next d
            ∙ changed_other (suc k) t ch s i (λ z. d (z ∙ same_num))))
            (f.placed i (omega arith))))
      ]

  pub follows_step : Follows op log contents counts (suc k) kept
  follows_step = record {
    history = step_history;
    seats = ended_seats (suc k) t r changed ∙ ap (λ (xs : List (Option OpenCall)). length xs) (changed_seats (suc k) t ch s)
        ∙ f.seats;
    numbered = ended_count (suc k) t r changed ∙ changed_count (suc k) t ch s ∙ f.numbered ∙ sym (length_stepped log k t ch r at);
    upto = step_upto;
    keys = step_keys;
    bounded = step_bounded;
    idle = step_idle;
    busy = step_busy;
    placed = step_placed;
  }
