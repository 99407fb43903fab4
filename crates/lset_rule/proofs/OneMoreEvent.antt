-- Proofs about how appending an event to a run changes the state of each thread.
use Rattle.std.proofs.Common.{◌≡◌, ◌≢◌, inl, inr, ℕ, zero, suc, ◌+◌, ◌<◌, ◌≤◌, ◌==◌, Bool, true, false, List, [], ◌∷◌, ◌++◌, length}
use Rattle.std.proofs.Common.{Option, Some, None, refl, sym, ap, ◌∙◌, subst, arith, slice_index, slice_set, get_or-set_other}
use Rattle.std.proofs.Common.{get_or-set_same, if◌then◌else◌, length-append}
use Rattle.std.specs.Prelude.{◌&&◌, is_none}
use lib.Seq.{set-get_or}
use prog.Atomic.{either}
use Rattle.lset_words.proofs.Numbers.{same_or_not, equal_test, unequal_test}
use Rattle.lset_words.specs.declared.Call.{Call}
use Rattle.lset_words.specs.declared.Reply.{Reply}
use Rattle.lset_words.specs.Log.{Log, LastCall, Change, maker, last_after, last_at}
use Rattle.lset_words.specs.Log.Entry.{stepped}
use Rattle.lset_words.proofs.LastCalls.{last_own, last_other}
use Rattle.lset_steps.specs.declared.Local.{Local}
use Rattle.lset_steps.specs.declared.Action.{Action}
use Rattle.lset_steps.specs.declared.Action.TheVariants.{Load, Store, Exchange}
use Rattle.lset_steps.specs.declared.Fed.{Fed}
use Rattle.lset_steps.specs.declared.Event.{Event}
use Rattle.lset_steps.specs.declared.Event.TheVariants.{Begin, Go}
use Rattle.lset_steps.specs.Steps.{Table, State, Run, Enabled, state_at, event_at, after, local_of, log_of, entry_of, told, idle}
use Rattle.lset_steps.specs.Steps.{seen_by, seen_next, left_by}
use Rattle.lset_steps.specs.Laws.{Lawful, StateLaws, word_named}
use Rattle.lset_steps.specs.Worlds.{thread_of}
use Rattle.lset_steps.proofs.MoreEvents.{state_agree, run_more}
use Rattle.lset_steps.proofs.RunAccount as account
use Rattle.lset_rule.specs.declared.view.OwnCall.{OwnCall}
use Rattle.lset_rule.specs.declared.view.PendingCall.{PendingCall}
use Rattle.lset_rule.specs.Runs.{Here, here, under_after, ending, done_next, pending_of, under_at, done_at, here_at}
use Rattle.lset_rule.specs.Runs.{end_of, at_end, IsRunOf}
use Rattle.lset_words.specs.Words.{Opening, sizes}

pick_yes : {A : Type 0} (b : Bool) (x y : A) → b ≡ true → (if b then x else y) ≡ x
pick_yes b x y e = rw e refl

pick_not : {A : Type 0} (b : Bool) (x y : A) → b ≡ false → (if b then x else y) ≡ y
pick_not b x y e = rw e refl

-- Returns the value of a word after an action. `n` is the word's value before the action.
abbrev pub left : Action → ℕ → ℕ
left (Load w) n = n
left (Store w v) n = v
left (Exchange w old new) n = either (n == old) new n

-- Returns the value that an action sees in a word. `n` is the word's value before the action.
abbrev pub found : Action → ℕ → ℕ
found (Load w) n = n
found (Store w v) n = v
found (Exchange w old new) n = n

-- Returns the state of a thread after one of its steps. `h` is the state before the step, `f` is the outcome of the
-- step, and `n` is the number of the event.
abbrev pub gone : Here → Fed → ℕ → Here
gone h f n = here f.local (under_after f.answer h.under) (h.done ++ ending f.answer h.under n)

-- Returns the state of a thread after it starts call c. `h` is the state before the start, and `n` is the number of the
-- event.
abbrev pub begins : Table → Here → Call → ℕ → Here
begins T h c n = here (T.begin c h.local) (Some (record { call = c; begun = n; steps = 0 })) h.done

pub left_is : (ws : List ℕ) (a : Action) → slice_set ws (word_named a) (left a (slice_index ws (word_named a))) ≡ left_by ws a
left_is ws (Load w) = set-get_or ws w 0
left_is ws (Store w v) = refl
left_is ws (Exchange w old new) = by_test (slice_index ws w == old)
  where
    by_test : (b : Bool) → slice_set ws w (either b new (slice_index ws w)) ≡ (if b then slice_set ws w new else ws)
    by_test true = refl
    by_test false = set-get_or ws w 0

pub found_is : (ws : List ℕ) (a : Action) → found a (slice_index ws (word_named a)) ≡ seen_by ws a
found_is ws (Load w) = refl
found_is ws (Store w v) = refl
found_is ws (Exchange w old new) = refl

under_case : (a : Option Reply) (b : Bool) (u : PendingCall)
    → (if b && is_none a then Some (record u { steps = u.steps + 1 }) else None) ≡ under_after a (if b then Some u else None)
under_case None true u = refl
under_case None false u = refl
under_case (Some r) true u = refl
under_case (Some r) false u = refl

pub under_step : (m t : ℕ) (ch : Option Change) (a : Option Reply) (x : LastCall)
    → pending_of (last_after m (stepped t ch a) x) ≡ under_after a (pending_of x)
under_step m t ch a x = under_case a x.pending (record { call = x.call; begun = x.begun; steps = x.steps })

last_agree : (f g : Log) (t k : ℕ) → ((j : ℕ) → j < k → g j ≡ f j) → last_at g t k ≡ last_at f t k
last_agree f g t zero h = refl
last_agree f g t (suc k) h = ap (λ e. if maker e == t then last_after (suc k) e (last_at g t k) else last_at g t k) (h k (omega arith))
    ∙ ap (λ x. if maker (f k) == t then last_after (suc k) (f k) x else x) (last_agree f g t k (λ j l. h j (omega arith)))

pub done_agree : (f g : Log) (t k : ℕ) → ((j : ℕ) → j < k → g j ≡ f j) → done_at g t k ≡ done_at f t k
done_agree f g t zero h = refl
done_agree f g t (suc k) h = ap (λ e. done_next (suc k) e t (under_at g t k) (done_at g t k)) (h k (omega arith))
    ∙ (ap (λ x. done_next (suc k) (f k) t (pending_of x) (done_at g t k)) (last_agree f g t k (λ j l. h j (omega arith)))
    ∙ ap (λ d. done_next (suc k) (f k) t (under_at f t k) d) (done_agree f g t k (λ j l. h j (omega arith))))

-- ---- Lemmas about the state of a thread after an event is appended to a run
module _ (T : Table) (op : Opening) (es : ℕ → Event) (k t : ℕ) where
  at_begin : (c : Call) → es k ≡ Begin t c → t < length (state_at T op es k).locals
      → here_at T op es t (suc k) ≡ begins T (here_at T op es t k) c (suc k)
  at_begin c e lt =
      let s : State = state_at T op es k in
      let l : local_of (after T s (es k)) t ≡ T.begin c (local_of s t) = ap (λ z. local_of (after T s z) t) e
      ∙ get_or-set_same s.locals t (T.begin c (local_of s t)) (idle 0 0) lt in
      let u : under_at (log_of T op es) t (suc k) ≡ Some (record { call = c; begun = suc k; steps = 0 }) =
      ap pending_of (last_own (log_of T op es) t k (ap (λ z. entry_of T s z) e) refl) in
      let d : done_next (suc k) (entry_of T s (es k)) t (under_at (log_of T op es) t k) (done_at (log_of T op es) t k) ≡ done_at
      (log_of T op es) t k =
      ap (λ z. done_next (suc k) (entry_of T s z) t (under_at (log_of T op es) t k) (done_at (log_of T op es) t k)) e in
      λ i. here (l i) (u i) (d i)

  at_go : es k ≡ Go t → t < length (state_at T op es k).locals
      → here_at T op es t (suc k) ≡ gone (here_at T op es t k)
      (T.feed (local_of (state_at T op es k) t) (seen_next T (state_at T op es k) t)) (suc k)
  at_go e lt =
      let s : State = state_at T op es k in
      let f : Fed = T.feed (local_of s t) (seen_next T s t) in
      let b : (t == t) ≡ true = equal_test t t refl in
      let l : local_of (after T s (es k)) t ≡ f.local = ap (λ z. local_of (after T s z) t) e
      ∙ get_or-set_same s.locals t f.local (idle 0 0) lt in
      let u : under_at (log_of T op es) t (suc k) ≡ under_after f.answer (under_at (log_of T op es) t k) =
      ap pending_of (last_own (log_of T op es) t k (ap (λ z. entry_of T s z) e) refl)
      ∙ under_step (suc k) t (told T s (Go t)).change f.answer (last_at (log_of T op es) t k) in
      let d : done_next (suc k) (entry_of T s (es k)) t (under_at (log_of T op es) t k) (done_at (log_of T op es) t k)
      ≡ done_at (log_of T op es) t k ++ ending f.answer (under_at (log_of T op es) t k) (suc k) =
      ap (λ z. done_next (suc k) (entry_of T s z) t (under_at (log_of T op es) t k) (done_at (log_of T op es) t k)) e
      ∙ pick_yes (t == t) _ _ b in
      λ i. here (l i) (u i) (d i)

  other_local : (s : State) (e : Event) → t ≢ thread_of e → local_of (after T s e) t ≡ local_of s t
  other_local s (Begin u c) ne = get_or-set_other s.locals u t (T.begin c (local_of s u)) (idle 0 0) ne
  other_local s (Go u) ne = get_or-set_other s.locals u t (T.feed (local_of s u) (seen_next T s u)).local (idle 0 0) ne

  maker_is : (s : State) (e : Event) → maker (entry_of T s e) ≡ thread_of e
  maker_is s (Begin u c) = refl
  maker_is s (Go u) = refl

  other_done : (s : State) (e : Event) (o : Option PendingCall) (d : List OwnCall) → t ≢ thread_of e →
      done_next (suc k) (entry_of T s e) t o d ≡ d
  other_done s (Begin u c) o d ne = refl
  other_done s (Go u) o d ne = pick_not (u == t) _ _ (unequal_test u t (λ z. ne (sym z)))

  at_other : t ≢ thread_of (es k) → here_at T op es t (suc k) ≡ here_at T op es t k
  at_other ne =
      let s : State = state_at T op es k in
      let l = other_local s (es k) ne in
      let u : under_at (log_of T op es) t (suc k) ≡ under_at (log_of T op es) t k =
      ap pending_of (last_other (log_of T op es) t k refl (λ z. ne (sym z ∙ maker_is s (es k)))) in
      let d = other_done s (es k) (under_at (log_of T op es) t k) (done_at (log_of T op es) t k) ne in
      λ i. here (l i) (u i) (d i)

-- Holds if a thread's private state matches its pending call. If no call is pending, the thread is at row 0 of the step
-- table. If a call is pending, the thread is at a row other than 0, and its private state contains the call.
abbrev pub Tied : Option PendingCall → Local → Type 0
Tied None l = l.pc ≡ 0
Tied (Some u) l = (l.pc ≢ 0) × (l.call ≡ u.call)

tied_by : (b : Bool) (u : PendingCall) (l : Local) → (l.pc ≡ 0 → b ≡ false) → (l.pc ≢ 0 → (b ≡ true) × (l.call ≡ u.call))
    → Tied (if b then Some u else None) l
tied_by true u l closed opened =
    let busy : l.pc ≢ 0 = λ e. (let no : true ≡ false = closed e in cc) in (busy, (opened busy).1)
tied_by false u l closed opened = elim (same_or_not l.pc 0) [
  | inl e ↦ e
  | inr busy ↦ absurd (let no : false ≡ true = (opened busy).0 in cc)
]

pub tied : (T : Table) → Lawful T → (op : Opening) (es : ℕ → Event) (last : ℕ) → Run T op es last → (t k : ℕ) → t < op.threads
    → k ≤ last → Tied (here_at T op es t k).under (here_at T op es t k).local
tied T law op es last r t k th upto =
    let x = last_at (log_of T op es) t k in
    let agree = account.tied T law op es last r t th k upto in
    tied_by x.pending (record { call = x.call; begun = x.begun; steps = x.steps }) (local_of (state_at T op es k) t)
    agree.closed agree.opened

-- ---- Lemmas about appending events to a list of events
event_before : (es : List Event) (e : Event) (j : ℕ) → j < length es → event_at (es ++ e ∷ []) j ≡ event_at es j
event_before [] e j h = absurd (omega arith)
event_before (x ∷ es) e zero h = refl
event_before (x ∷ es) e (suc j) h = event_before es e j (omega arith)

event_last : (es : List Event) (e : Event) → event_at (es ++ e ∷ []) (length es) ≡ e
event_last [] e = refl
event_last (x ∷ es) e = event_last es e

pub length_more : (es : List Event) (e : Event) → length (es ++ e ∷ []) ≡ suc (length es)
length_more [] e = refl
length_more (x ∷ es) e = ap (λ k. suc k) (length_more es e)

module _ (T : Table) (k : Opening) (es : List Event) (e : Event) where
  abbrev more : ℕ → Event
  more = event_at (es ++ e ∷ [])

  states_before : (j : ℕ) → j ≤ length es → state_at T k more j ≡ state_at T k (event_at es) j
  states_before j l = state_agree T k (event_at es) more j (λ i m. event_before es e i (omega arith))

  logs_before : (j : ℕ) → j < length es → log_of T k more j ≡ log_of T k (event_at es) j
  logs_before j l = ap (λ s. entry_of T s (more j)) (states_before j (omega arith))
      ∙ ap (λ x. entry_of T (state_at T k (event_at es) j) x) (event_before es e j l)

  here_before : (t : ℕ) → here_at T k more t (length es) ≡ at_end T k es t
  here_before t =
      let l : local_of (state_at T k more (length es)) t ≡ local_of (end_of T k es) t =
      ap (λ s. local_of s t) (states_before (length es) (omega arith)) in
      let u = ap pending_of (last_agree (log_of T k (event_at es)) (log_of T k more) t (length es) logs_before) in
      let d = done_agree (log_of T k (event_at es)) (log_of T k more) t (length es) logs_before in
      λ i. here (l i) (u i) (d i)

  here_more : (t : ℕ) → at_end T k (es ++ e ∷ []) t ≡ here_at T k more t (suc (length es))
  here_more t = ap (λ j. here_at T k more t j) (length_more es e)

  pub end_more : end_of T k (es ++ e ∷ []) ≡ after T (end_of T k es) e
  end_more = ap (λ j. state_at T k more j) (length_more es e)
      ∙ (ap (λ x. after T (state_at T k more (length es)) x) (event_last es e)
      ∙ ap (λ s. after T s e) (states_before (length es) (omega arith)))

  pub is_run_more : IsRunOf T k es → length (end_of T k es).locals ≡ k.threads → Enabled (end_of T k es) e →
      IsRunOf T k (es ++ e ∷ [])
  is_run_more r len en = subst (λ z. Run T k more z) (sym (length_more es e))
      (run_more T k es (end_of T k es) e (record { run = r; is = refl; locals = len }) en)

  pub end_other : (t : ℕ) → t ≢ thread_of e → at_end T k (es ++ e ∷ []) t ≡ at_end T k es t
  end_other t ne = here_more t ∙ (at_other T k more (length es) t (λ z. ne (z ∙ ap thread_of (event_last es e))) ∙ here_before t)

pub end_begin : (T : Table) (k : Opening) (es : List Event) (t : ℕ) (c : Call) → t < length (end_of T k es).locals
    → at_end T k (es ++ Begin t c ∷ []) t ≡ begins T (at_end T k es t) c (length es + 1)
end_begin T k es t c lt =
    let e : Event = Begin t c in
    let one : suc (length es) ≡ length es + 1 = omega arith in
    here_more T k es e t ∙ (at_begin T k (more T k es e) (length es) t c (event_last es e)
    (subst (λ (s : State). t < length s.locals) (sym (states_before T k es e (length es) (omega arith))) lt)
    ∙ (λ i. begins T (here_before T k es e t i) c (one i)))

pub end_go : (T : Table) (k : Opening) (es : List Event) (t : ℕ) → t < length (end_of T k es).locals
    → at_end T k (es ++ Go t ∷ []) t ≡ gone (at_end T k es t) (T.feed (at_end T k es t).local (seen_next T (end_of T k es) t))
    (length es + 1)
end_go T k es t lt =
    let e : Event = Go t in
    let one : suc (length es) ≡ length es + 1 = omega arith in
    here_more T k es e t ∙ (at_go T k (more T k es e) (length es) t (event_last es e)
    (subst (λ (s : State). t < length s.locals) (sym (states_before T k es e (length es) (omega arith))) lt)
    ∙ (λ i. gone (here_before T k es e t i) (T.feed (local_of (states_before T k es e (length es) (omega arith) i) t)
    (seen_next T (states_before T k es e (length es) (omega arith) i) t)) (one i)))

pub event_of_first : (es rest : List Event) (j : ℕ) → j < length es → event_at (es ++ rest) j ≡ event_at es j
event_of_first [] rest j h = absurd (omega arith)
event_of_first (x ∷ es) rest zero h = refl
event_of_first (x ∷ es) rest (suc j) h = event_of_first es rest j (omega arith)

pub run_of_first : (T : Table) (k : Opening) (es rest : List Event) → IsRunOf T k (es ++ rest) → IsRunOf T k es
run_of_first T k es rest r = record {
  opens = r.opens;
  enabled = λ j l. let long = length-append es rest in
      subst (λ (z : State × Event). Enabled z.0 z.1) (λ i. (
        state_agree T k (event_at es) (event_at (es ++ rest)) j (λ a m. event_of_first es rest a (omega arith)) i,
        event_of_first es rest j l i,
      )) (r.enabled j (omega arith));
}

module _ (T : Table) (law : Lawful T) (k : Opening) (es : List Event) (r : IsRunOf T k es) where
  pub end_laws : StateLaws T.marks (sizes k) (end_of T k es)
  end_laws = law.states k (length es) (length es) (event_at es) r (omega arith)

  pub end_tied : (t : ℕ) → t < k.threads → Tied (at_end T k es t).under (at_end T k es t).local
  end_tied t th = tied T law k (event_at es) (length es) r t (length es) th (omega arith)

  pub in_locals : (t : ℕ) → t < k.threads → t < length (end_of T k es).locals
  in_locals t th = subst (λ z. t < z) (sym end_laws.locals) th
