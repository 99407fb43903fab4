-- Proof that the start of a call and each step of a call preserve the invariant of the shared words and all seats. A
-- seat is one thread's access to the set.
use Rattle.std.proofs.Common.{◌≡◌, ◌≢◌, inl, inr, ℕ, ◌+◌, ◌<◌, ◌≤◌, false, List, [], ◌∷◌, ◌++◌, length, set, slice_index}
use Rattle.std.proofs.Common.{slice_set, Option, Some, None, refl, sym, ap, ◌∙◌, subst, arith, append-nil, append_assoc, length-append}
use mathlib.Core.Option.{some}
use lib.ListN.{get_elem?}
use Rattle.atomic_table.specs.Table as table
use Rattle.atomic_table.specs.Table.{Me, keeps, Allows}
use Rattle.lset_words.specs.declared.Call.{Call}
use Rattle.lset_steps.specs.declared.Local.{Local}
use Rattle.lset_steps.specs.declared.Action.{Action}
use Rattle.lset_steps.specs.declared.Event.{Event}
use Rattle.lset_steps.specs.declared.Event.TheVariants.{Begin, Go}
use Rattle.lset_rule.specs.declared.view.PendingCall.{PendingCall}
use Rattle.lset_rule.specs.declared.view.Past.{Past}
use Rattle.lset_rule.specs.declared.view.View.{View}
use Rattle.lset_steps.specs.Steps.{Table, State, Enabled, event_at, after, local_of, log_of, seen_by, seen_next, left_by}
use Rattle.lset_steps.specs.Laws.{Lawful, StateLaws, UnderWay, word_named}
use Rattle.lset_steps.proofs.WorldRuns.{named_in}
use Rattle.lset_words.specs.Words.{word_count, target, tail_word, Opening, sizes}
use Rattle.lset_rule.specs.Pasts.{root, calls_of, Before, InOrder, Apart, IsIn}
use Rattle.lset_steps.specs.Worlds.{thread_of, WorldState, IsRun}
use Rattle.lset_rule.specs.Runs.{Here, here, under_after, end_of, at_end, IsRunOf}
use Rattle.lset_rule.proofs.OneMoreEvent.{left, found, gone, begins, left_is, found_is, Tied, end_more, is_run_more, end_other, end_begin}
use Rattle.lset_rule.proofs.OneMoreEvent.{end_go, end_laws, end_tied, in_locals}
use Rattle.lset_rule.specs.Rule.{Holds, MatchesLog}
use Rattle.lset_rule.proofs.ViewsFit.{Fits, St, each_set, fits, holding, set_there, set_twice, stands_still}
use Rattle.lset_rule.specs.Views.{Stands, HasThread, InTime, IsOpen, IsIdle}
use Rattle.lset_rule.specs.Calls.{gone_view, begun_view, record_after, Goes, Starts}
use Rattle.lset_rule.proofs.RecordsOfRuns.{still_quiet, quiet_append, starts_more, asides_stay, before_more, after_calls, after_calls_other}
use Rattle.lset_rule.proofs.RecordsOfRuns.{after_root, after_apart, after_in, after_in_order, after_before, BegunBy, begun_by, after_in_time}

-- Holds if, at the end of the run of the events `es`, thread t has a pending call and the private state l.
abbrev pub IsAt : Table → Opening → List Event → ℕ → Local → Type 0
IsAt m k es t l = UnderWay m k (event_at es) (length es) t × (local_of (end_of m k es) t ≡ l)

-- Returns view v (what a seat knows about the run) after event e by the seat's own thread, with a new private state, a
-- new pending call, and a new record.
abbrev pub later : View → List Event → Event → Local → Option PendingCall → Past → View
later v log e l u r = record v { local = l; under = u; past = r; seen = log ++ e ∷ [] }

module _ (m : Table) where
  -- Lemma: because the events that a view (what a seat knows about the run) has not seen belong to threads of other
  -- seats, the state of each thread of the seat is the same after all events as after the events that the view has
  -- seen.
  pub still : (k : Opening) (log : List Event) (so : ℕ → ℕ) (j : ℕ) (v : View) (f : MatchesLog m k log so j v) (t : ℕ) → HasThread v t →
      at_end m k log t ≡ at_end m k v.seen t
  still k log so j v f t h = ap (λ l. at_end m k l t) f.is ∙ still_quiet m k v v.seen f.rest t h f.quiet

  pub others_fit : (k : Opening) (log : List Event) (so : ℕ → ℕ) (j : ℕ) (v : View) (e : Event) → ¬ (HasThread v (thread_of e)) →
      MatchesLog m k log so j v → MatchesLog m k (log ++ e ∷ []) so j v
  others_fit k log so j v e other f = record {
    shape = f.shape;
    rest = f.rest ++ e ∷ [];
    is = ap (λ l. l ++ e ∷ []) f.is ∙ append_assoc v.seen f.rest (e ∷ []);
    quiet = quiet_append v f.rest e f.quiet other;
    stands = f.stands;
    seat = f.seat;
    ours = starts_more log v.ours e f.ours;
    theirs = starts_more log v.theirs e f.theirs;
  }

  length_seen : (log seen rest : List Event) → log ≡ seen ++ rest → length seen ≤ length log
  length_seen log seen rest is = let a = ap length is in let b = length-append seen rest in omega arith

  module _ (law : Lawful m) (s : St) (v : View) (id : ℕ) (h : Holds m v.shape s) (at : get_elem? s.views id ≡ some v) (sp : v.spent ≡ false) where
    abbrev W : State
    W = end_of m v.shape h.log

    abbrev fit : MatchesLog m v.shape h.log h.seat_of id v
    fit = h.each id v at sp

    pub stood : at_end m v.shape h.log v.thread ≡ here v.local v.under (calls_of v.thread v.past)
    stood = still v.shape h.log h.seat_of id v fit v.thread (inl refl) ∙ fit.stands.own

    local_stood : local_of W v.thread ≡ v.local
    local_stood = ap (λ (x : Here). x.local) stood

    small : v.thread < v.shape.threads
    small = fit.stands.in_range v.thread (inl refl)

    len : length W.locals ≡ v.shape.threads
    len = (end_laws m law v.shape h.log h.ran).locals

    inside : v.thread < length W.locals
    inside = in_locals m law v.shape h.log h.ran v.thread small

    tied_stood : Tied v.under (local_of W v.thread)
    tied_stood = subst (λ z. Tied z (local_of W v.thread)) (ap (λ (x : Here). x.under) stood)
        (end_tied m law v.shape h.log h.ran v.thread small)

    begun_so_far : BegunBy v.under (length h.log)
    begun_so_far = subst (λ o. BegunBy o (length h.log)) (ap (λ (x : Here). x.under) stood)
        (begun_by (log_of m v.shape (event_at h.log)) v.thread (length h.log))

    pub all_ended : (n : ℕ) → length h.log < n → Before n v.past
    all_ended n lt =
        let le = length_seen h.log v.seen fit.rest fit.is in
        before_more (length v.seen + 1) n v.past (omega arith) fit.stands.ended

    pub moves : (e : Event) (l : Local) (u : Option PendingCall) (r : Past) (ws : List ℕ) → thread_of e ≡ v.thread → Enabled W e →
        ws ≡ (after m W e).words
        → at_end m v.shape (h.log ++ e ∷ []) v.thread ≡ here l u (calls_of v.thread r) →
        ((x : ℕ) → x ≢ v.thread → calls_of x r ≡ calls_of x v.past) → root r ≡ root v.past → (Apart v.past → Apart r) →
        ((x : ℕ) → IsIn x r → IsIn x v.past) → InOrder r → Before (length h.log + 2) r → InTime u r
        → Stands m (later v h.log e l u r)
        × ((h' : Holds m v.shape record { words = ws; homes = s.homes; views = set s.views id (later v h.log e l u r) })
        × (h'.log ≡ h.log ++ e ∷ []))
    moves e l u r ws mine enabled words me others same_root apart is_in in_order before in_time =
        let w : View = later v h.log e l u r in
        let log' : List Event = h.log ++ e ∷ [] in
        let ran' : IsRunOf m v.shape (h.log ++ e ∷ []) = is_run_more m v.shape h.log e h.ran len enabled in
        let long = length-append h.log (e ∷ []) in
        let stands : Stands m w = record {
          ran = ran';
          own = me;
          others = asides_stay (at_end m v.shape v.seen) (at_end m v.shape (h.log ++ e ∷ [])) v.thread v.past r v.others
              (λ x has ne. end_other m v.shape h.log e x (λ is. ne (is ∙ mine))
              ∙ still v.shape h.log h.seat_of id v fit x (inr has)) others fit.stands.others;
          in_range = fit.stands.in_range;
          of_thread = same_root ∙ fit.stands.of_thread;
          apart = apart fit.stands.apart;
          named = λ x h. fit.stands.named x (is_in x h);
          ordered = in_order;
          ended = before_more (length h.log + 2) (length (h.log ++ e ∷ []) + 1) r (omega arith) before;
          before = in_time;
        } in
        let mine_fits : MatchesLog m v.shape log' h.seat_of id w = record {
          shape = refl;
          rest = [];
          is = sym (append-nil log');
          quiet = tt;
          stands = stands;
          seat = fit.seat;
          ours = starts_more h.log v.ours e fit.ours;
          theirs = starts_more h.log v.theirs e fit.theirs;
        } in (
          stands,
          (
            holding m v.shape _ log' ran' (words ∙ ap (λ (z : State). z.words) (sym (end_more m v.shape h.log e))) h.seat_of
                (each_set (Fits m v.shape log' h.seat_of) s.views id w (fits mine_fits) (λ j x ne is. (
                  (λ alive. let f = h.each j x is alive in others_fit v.shape h.log h.seat_of j x e
                      (λ has. ne (sym (f.seat (thread_of e) has) ∙ (ap h.seat_of mine ∙ fit.seat v.thread (inl refl)))) f),
                  starts_more h.log x.seen e (h.known j x is),
                )))
                (λ t lt. stands_still s.views id (h.seat_of t) t v w at sp (λ has. has) (h.placed t lt)),
            refl,
          ),
        )

    module _ (u : PendingCall) (is_open : v.under ≡ Some u) where
      busy : (local_of W v.thread).pc ≢ 0
      busy = (subst (λ o. Tied o (local_of W v.thread)) is_open tied_stood).0

      pub may_go : Enabled W (Go v.thread)
      may_go = (inside, busy)

      pub is_at : IsAt m v.shape h.log v.thread v.local
      is_at = (record { run = h.ran; thread = small; open_call = busy }, local_stood)

      pub steps : let a = m.next v.local in
          let n = slice_index s.words (word_named a) in
          let w = gone_view m h.log (found a n) v in
          Goes m v (found a n) w × Holds m v.shape record {
            words = slice_set s.words (word_named a) (left a n);
            homes = s.homes;
            views = set s.views id w;
          }
      steps =
          let a : Action = m.next v.local in
          let n : ℕ = slice_index s.words (word_named a) in
          let f = m.feed v.local (found a n) in
          let e : Event = Go v.thread in
          let now : ℕ = length h.log + 1 in
          let r : Past = record_after v.past f.answer v.under now in
          let seen_is : seen_next m W v.thread ≡ found a n = (λ i. seen_by (sym h.words i) (m.next (local_stood i)))
          ∙ sym (found_is s.words a) in
          let words : slice_set s.words (word_named a) (left a n) ≡ (after m W e).words = left_is s.words a
          ∙ (λ i. left_by (h.words i) (m.next (sym local_stood i))) in
          let me : at_end m v.shape (h.log ++ e ∷ []) v.thread ≡ here f.local (under_after f.answer v.under) (calls_of v.thread r)
          =
          end_go m v.shape h.log v.thread inside ∙ ((λ i. gone (stood i) (m.feed (local_stood i) (seen_is i)) now)
          ∙ ap (here f.local (under_after f.answer v.under))
          (after_calls v.thread v.past f.answer v.under now fit.stands.of_thread)) in
          let b = moves e f.local (under_after f.answer v.under) r (slice_set s.words (word_named a) (left a n)) refl may_go words
          me
          (λ x ne. after_calls_other x v.past f.answer v.under now (λ is. ne (is ∙ fit.stands.of_thread)))
          (after_root v.past f.answer v.under now)
          (after_apart v.past f.answer v.under now) (after_in v.past f.answer v.under now)
          (after_in_order v.past f.answer v.under now fit.stands.ordered fit.stands.before)
          (after_before v.past f.answer v.under (length h.log) now (length h.log + 2) begun_so_far (omega arith) (omega arith)
          (all_ended (length h.log + 2) (omega arith)))
          (after_in_time v.past f.answer v.under now fit.stands.before) in (
            (
              h.log,
              (fit.rest, fit.is),
              (v.shape, event_at h.log, length h.log, v.thread, is_at.0, is_at.1, seen_is),
              refl,
              b.0,
              seen_is,
            ),
            b.1.0,
          )

    pub starts : (c : Call) → target c < tail_word → v.under ≡ None → let b = begun_view m h.log c v in
        Stands m b × ((h' : Holds m v.shape record { words = s.words; homes = s.homes; views = set s.views id b })
        × (h'.log ≡ b.seen))
    starts c low idle =
        let e : Event = Begin v.thread c in
        let now : ℕ = length h.log + 1 in
        let pc : (local_of W v.thread).pc ≡ 0 = subst (λ o. Tied o (local_of W v.thread)) idle tied_stood in
        moves e (m.begin c v.local) (Some (record { call = c; begun = now; steps = 0 })) v.past s.words refl (
          inside,
          pc,
          low,
        ) h.words
        (end_begin m v.shape h.log v.thread c inside ∙ (λ i. begins m (stood i) c now)) (λ x _. refl) refl (λ a. a) (λ x h. h)
        fit.stands.ordered (all_ended (length h.log + 2) (omega arith)) (all_ended now (omega arith))

abbrev pub M : Type 0
M = Me (Unit {0}) View

pub goes_on : (m : Table) (law : Lawful m) (slots id : ℕ) (me : M) (k : Opening) (a : Action) → a ≡ m.next me.0.local →
    me.0.shape ≡ k → IsOpen me.0
    → Allows (Holds m k) slots id me (word_named a) (left a) (λ n me'. Goes m me.0 (found a n) me'.0 × (me'.1 ≡ me.1))
goes_on m law slots id me k a acts shape is_open = let v : View = me.0 in
    let P : Opening × Action → Type 0 = λ z. Allows (Holds m z.0) slots id me (word_named z.1) (left z.1)
    (λ n me'. Goes m me.0 (found z.1 n) me'.0 × (me'.1 ≡ me.1)) in
    subst P (λ i. (shape i, sym acts i)) (λ s h _ at _. let r = steps m law s v id h at is_open.0 is_open.1.0 is_open.1.1 in (
      gone_view m h.log (found (m.next v.local) (slice_index s.words (word_named (m.next v.local)))) v,
      keeps,
      tt,
      r.1,
      (r.0, refl),
    ))

-- Lemma: the first step of a call, which includes the start of the call, preserves the invariant.
pub goes_first : (m : Table) (law : Lawful m) (slots id : ℕ) (me : M) (k : Opening) (c : Call) → target c < tail_word →
    (a : Action) → a ≡ m.next (m.begin c me.0.local) → me.0.shape ≡ k → IsIdle me.0
    → Allows (Holds m k) slots id me (word_named a) (left a) (λ n me'. Starts m c me.0 (found a n) me'.0 × (me'.1 ≡ me.1))
unfolding starts steps
goes_first m law slots id me k c low a acts shape is_idle = let v : View = me.0 in
    let P : Opening × Action → Type 0 = λ z. Allows (Holds m z.0) slots id me (word_named z.1) (left z.1)
    (λ n me'. Starts m c me.0 (found z.1 n) me'.0 × (me'.1 ≡ me.1)) in
    subst P (λ i. (shape i, sym acts i)) (λ s h _ at _.
    let b : View = begun_view m h.log c v in
    let st = starts m law s v id h at is_idle.0 c low is_idle.1 in
    let s' : St = record { words = s.words; homes = s.homes; views = set s.views id b } in
    let h' : Holds m v.shape s' = st.1.0 in
    let u : PendingCall = record { call = c; begun = length h.log + 1; steps = 0 } in
    let r = steps m law s' b id h' (set_there s.views id v b at) is_idle.0 u refl in
    let n : ℕ = found (m.next b.local) (slice_index s.words (word_named (m.next b.local))) in
    let w : View = gone_view m h'.log n b in
    let f = m.feed b.local n in (
      w,
      keeps,
      tt,
      subst (λ (vs : List View). Holds m v.shape record {
        words =
            slice_set s.words (word_named (m.next b.local))
            (left (m.next b.local) (slice_index s.words (word_named (m.next b.local))));
        homes = s.homes;
        views = vs;
      })
          (set_twice s.views id b w) r.1,
      (
        (
          h.log,
          ((h.each id v at is_idle.0).rest, (h.each id v at is_idle.0).is),
          r.0.2,
          ap (λ l. gone_view m l n b) st.1.1,
          r.0.4,
          ap (λ l. seen_next m (end_of m v.shape l) v.thread) (sym st.1.1) ∙ r.0.5,
        ),
        refl,
      ),
    ))

-- ---- Lemmas about the state of a seat's own thread (a seat is one thread's access to the set)
module _ (m : Table) (law : Lawful m) (v : View) (st : Stands m v) where
  own_small : v.thread < v.shape.threads
  own_small = st.in_range v.thread (inl refl)

  own_inside : v.thread < length (end_of m v.shape v.seen).locals
  own_inside = in_locals m law v.shape v.seen st.ran v.thread own_small

  pub own_number : v.local.thread ≡ v.thread
  own_number = ap (λ (x : Here). x.local.thread) (sym st.own)
      ∙ ((end_laws m law v.shape v.seen st.ran).threads v.thread own_small).thread

  pub own_tied : Tied v.under (local_of (end_of m v.shape v.seen) v.thread)
  own_tied = subst (λ z. Tied z (local_of (end_of m v.shape v.seen) v.thread)) (ap (λ (x : Here). x.under) st.own)
      (end_tied m law v.shape v.seen st.ran v.thread own_small)

  pub stands_at : IsOpen v → IsAt m v.shape v.seen v.thread v.local
  stands_at is_open = (
    record {
      run = st.ran;
      thread = own_small;
      open_call = (subst (λ o. Tied o (local_of (end_of m v.shape v.seen) v.thread)) is_open.1.1 own_tied).0;
    },
    ap (λ (x : Here). x.local) st.own,
  )

  pub begun_at : (c : Call) → target c < tail_word → IsIdle v → IsAt m v.shape (v.seen ++ Begin v.thread c ∷ []) v.thread
      (m.begin c v.local)
  begun_at c low is_idle =
      let e : Event = Begin v.thread c in
      let pc : (local_of (end_of m v.shape v.seen) v.thread).pc ≡ 0 =
      subst (λ o. Tied o (local_of (end_of m v.shape v.seen) v.thread)) is_idle.1 own_tied in
      let now : at_end m v.shape (v.seen ++ e ∷ []) v.thread ≡ begins m (here v.local v.under (calls_of v.thread v.past)) c
      (length v.seen + 1) =
      end_begin m v.shape v.seen v.thread c own_inside ∙ ap (λ h. begins m h c (length v.seen + 1)) st.own in
      let is : local_of (end_of m v.shape (v.seen ++ e ∷ [])) v.thread ≡ m.begin c v.local = ap (λ (x : Here). x.local) now in (
        record {
          run = is_run_more m v.shape v.seen e st.ran (end_laws m law v.shape v.seen st.ran).locals (own_inside, pc, low);
          thread = own_small;
          open_call = subst (λ (x : Local). x.pc ≢ 0) (sym is) (law.begins c v.local).opened;
        },
        is,
      )

in_table : (m : Table) → Lawful m → (k : Opening) (es : List Event) (t : ℕ) (l : Local) → IsAt m k es t l →
    word_named (m.next l) < word_count (sizes k)
in_table m law k es t l at =
    let s : State = end_of m k es in
    let laws : StateLaws m.marks (sizes k) s = end_laws m law k es at.0.run in
    let w : WorldState = record { sizes = sizes k; state = s } in
    let r : IsRun m w = record {
      opening = k;
      of_sizes = refl;
      events = es;
      run = at.0.run;
      is = refl;
      words = laws.words;
      locals = laws.locals;
    } in
    let b = named_in m w t law r (in_locals m law k es at.0.run t at.0.thread, at.0.open_call) in
    subst (λ z. word_named (m.next l) < z) laws.words (subst (λ (x : Local). word_named (m.next x) < length s.words) at.1 b)

pub in_words : (m : Table) → Lawful m → (k : Opening) (es : List Event) (t : ℕ) (l : Local) → IsAt m k es t l → (a : Action) →
    a ≡ m.next l → (key : Opening) → k ≡ key → (n : ℕ) → n ≡ word_count (sizes key) → word_named a < n
in_words m law k es t l at a acts key same n count =
    let b = in_table m law k es t l at in
    let P : ℕ × ℕ → Type 0 = λ z. z.0 < z.1 in
    subst P (λ i. (word_named (sym acts i), (ap (λ (q : Opening). word_count (sizes q)) same ∙ sym count) i)) b
