-- Proof: a recorder, which collects the calls of a run, can record each enabled event, and then describes the run up to
-- that event.
use Rattle.std.proofs.Common.{◌≡◌, ℕ, suc, ◌+◌, ◌<◌, ◌⊎◌, inl, inr, List, sym, refl, subst, ap, ◌∙◌, add-one, arith}
use Rattle.lset_words.specs.Account.{Account, Enters}
use Rattle.lset_words.specs.Words.{Opening, Opens, sizes}
use Rattle.std.specs.Prelude.{Ok, Err}
use Rattle.lset_text.specs.declared.causes.Cause.{Cause}
use Rattle.lset_text.specs.declared.causes.Cause.TheVariants as cause
use Rattle.lset_steps.specs.declared.Event.{Event}
use Rattle.lset_steps.specs.declared.Event.TheVariants.{Begin, Go}
use Rattle.lset_steps.specs.declared.Told.{Told}
use Rattle.lset_steps.specs.declared.world.StepFault.{StepFault}
use Rattle.lset_steps.specs.declared.world.StepFault.TheVariants as step
use Rattle.lset_steps.specs.Promises.{HasAccount, ListedContent}
use Rattle.lset_steps.specs.Steps.{Table, State, opening, Run, Enabled, state_at, event_at, entry_of, log_of, told, after}
use Rattle.lset_steps.specs.Worlds.{WorldState, Refused}
use Rattle.lset_replay.specs.declared.events.LineEvent.{LineEvent}
use Rattle.lset_replay.specs.declared.recorder.Recorder.{Recorder}
use Rattle.lset_replay.specs.Events.{only_events}
use Rattle.lset_replay.specs.Reports.{IsFirstRefused}
use Rattle.lset_replay.specs.Trace.{no_trace, trace_of, trace_after, entry_told, MayRecord, MayChange}
use Rattle.lset_replay.specs.Follows.{AreSteps, HasFollowed, ComesNext, IsStoppedBy}
use Rattle.lset_replay.specs.Made.{HasMade}
use Rattle.lset_history.specs.Changes.{moments_of}
use Rattle.lset_replay.proofs.KeyChanges.{HoldsKeys}
use Rattle.lset_replay.proofs.EventLists.{IsAhead}
use Rattle.lset_replay.proofs.FollowedRuns.{TellsKeys, holds_keys, shown}
use Rattle.lset_replay.proofs.RecorderReady.{may_begin, may_step}

pub told_entry : (T : Table) (s : State) (e : Event) → entry_told e (told T s e) ≡ entry_of T s e
told_entry T s (Begin t call) = refl
told_entry T s (Go t) = refl

pub run_more : (T : Table) (op : Opening) (es : ℕ → Event) (k : ℕ) → Run T op es k → Enabled (state_at T op es k) (es k)
    → Run T op es (suc k)
run_more T op es k r e = record {
  opens = r.opens;
  enabled = λ j l. elim (last_or_before j k l) [
    | inl y ↦ subst (λ z. Enabled (state_at T op es z) (es z)) (sym y) e
    | inr y ↦ r.enabled j y
  ];
}
  where
    last_or_before : (j k : ℕ) → j < suc k → (j ≡ k) ⊎ (j < k)
    last_or_before j k l = grind arith

-- ---- Lemmas about executing and recording the next event
module _ (T : Table) (op : Opening) (events : List LineEvent) (k : ℕ) (w : WorldState)
    (r : Recorder) (h : HasFollowed T op events k w r) (next : LineEvent) (there : ComesNext events k next) where
  abbrev es : ℕ → Event
  es = event_at (only_events events)

  abbrev e : Event
  e = next.event

  state_is : w.state ≡ state_at T op es k
  state_is = ap (λ (x : WorldState). x.state) h.world

  next_moment : r.last + 1 ≡ suc k
  next_moment = ap (λ m. m + 1) h.counted ∙ add-one k

  run_on : Enabled w.state e → Run T op es (suc k)
  run_on en = run_more T op es k h.run
      (subst (λ z. Enabled (state_at T op es k) z) (sym there.event_is) (subst (λ z. Enabled z e) state_is en))

  pub followed : (w' : WorldState) (r' : Recorder) (a : Told) → Enabled w.state e
      → w' ≡ record w { state = after T w.state e } → a ≡ told T w.state e
      → trace_of r' ≡ trace_after (r.last + 1) (entry_told e a) (trace_of r) → r'.history.opening ≡ r.history.opening
      → r'.last ≡ r.last + 1
      → HasFollowed T op events (k + 1) w' r'
  followed w' r' a en world says trace opens counts = subst (λ m. HasFollowed T op events m w' r') (sym (add-one k)) (record {
    run = run_on en;
    world = world ∙ ap (λ (z : WorldState). record z { state = after T z.state e }) h.world
        ∙ ap (λ z. record { sizes = sizes op; state = after T (state_at T op es k) z }) (sym there.event_is);
    trace = trace ∙ ap (λ m. trace_after m (entry_told e a) (trace_of r)) next_moment
        ∙ ap (λ z. trace_after (suc k) (entry_told e z) (trace_of r)) says
        ∙ ap (λ z. trace_after (suc k) z (trace_of r)) (told_entry T w.state e ∙ ap (λ z. entry_of T z e) state_is
        ∙ sym (ap (λ z. entry_of T (state_at T op es k) z) there.event_is))
        ∙ ap (λ z. trace_after (suc k) (log_of T op es k) z) h.trace;
    opening_is = opens ∙ h.opening_is;
    counted = counts ∙ next_moment;
  })

  refused_here : (cause : StepFault) → Refused w e cause → IsFirstRefused T op events next.line cause
  refused_here cause refused = record {
    index = k;
    known = there.known;
    line_is = there.line_is;
    before = h.run;
    refused = subst (λ z. Refused (record { sizes = sizes op; state = state_at T op es k }) z cause) (sym there.event_is)
        (subst (λ z. Refused z e cause) h.world refused);
  }

  pub stopped : (c : Cause) (w' : WorldState) → HasMade T w e (Err c) w' → IsStoppedBy T op events next.line c
  stopped cause.NoThread w' made = refused_here step.NoThread made.0
  stopped cause.Busy w' made = refused_here step.Busy made.0
  stopped cause.Idle w' made = refused_here step.Idle made.0
  stopped cause.Memory w' made = tt
  stopped c w' made = made

  -- Lemma: the next event can be recorded. The proof uses the account of the run (a description of how each event
  -- changes the keys in the set).
  module _ (accounts : TellsKeys T) where
    open shown T op events use {log, contents, counts}

    pub ready : Enabled w.state e → (a : Told) → a ≡ told T w.state e → MayRecord r (r.last + 1) e a
    ready en a says = subst (λ m. MayRecord r m e a) (sym next_moment)
        (at e there.event_is a (says ∙ ap (λ z. told T z e) state_is))
      where
        account : Account op (suc k) log contents counts
        account = accounts.account op (suc k) es (run_on en)

        low : HoldsKeys (suc k) contents
        low = holds_keys T accounts op (suc k) es (run_on en)

        entered : (d : Event) → es k ≡ d → Enters op.threads op.quota log contents counts k (entry_of T (state_at T op es k) d)
        entered d i = subst (λ z. Enters op.threads op.quota log contents counts k (entry_of T (state_at T op es k) z)) i
            (account.enters k (omega arith))

        at : (d : Event) → es k ≡ d → (a : Told) → a ≡ told T (state_at T op es k) d → MayRecord r (suc k) d a
        at (Begin t call) i a says = may_begin op (suc k) log contents counts
            account low k (omega arith) r (ap (λ (o : Opening). o.threads) h.opening_is) h.trace t call (entered (Begin t call) i)
        at (Go t) i a says =
            let may = may_step op (suc k) log contents counts
            account low k (omega arith) r (ap (λ (o : Opening). o.threads) h.opening_is) h.trace t _ _ (entered (Go t) i) in
            (may.0, subst (λ (z : Told). MayChange (moments_of r.changes) (suc k) z.change) (sym says) may.1)

-- ---- Lemmas about the loop that executes the events

-- Holds if all events before those in `rest` were executed in the world `w` (the words and threads of a list) and
-- recorded in `r`.
pub record IsOnWay (T : Table) (op : Opening) (events rest : List LineEvent) (w : WorldState) (r : Recorder) : Type 0 where
  pub ahead : IsAhead events r.last rest
  pub followed : HasFollowed T op events r.last w r

module _ (T : Table) (accounts : TellsKeys T) (op : Opening) (events : List LineEvent) (w w' : WorldState) (r : Recorder)
    (h : HasFollowed T op events r.last w r) (next : LineEvent) (there : ComesNext events r.last next) (a : Told)
    (made : HasMade T w next.event (Ok a) w') where
  pub on_way : (r' : Recorder) (rest : List LineEvent)
      → (MayRecord r (r.last + 1) next.event a
      → trace_of r' ≡ trace_after (r.last + 1) (entry_told next.event a) (trace_of r))
      → r'.history.opening ≡ r.history.opening → r'.last ≡ r.last + 1 → IsAhead events (r.last + 1) rest
      → IsOnWay T op events rest w' r'
  on_way r' rest trace opens counts ahead = record {
    ahead = subst (λ m. IsAhead events m rest) (sym counts) ahead;
    followed = subst (λ m. HasFollowed T op events m w' r') (sym counts) (followed T op events r.last w r h next there w' r' a
        made.0 made.1 made.2 (trace (ready T op events r.last w r h next there accounts made.0 a made.2)) opens counts);
  }

  pub only_memory : (c : Cause) → (MayRecord r (r.last + 1) next.event a → c ≡ cause.Memory)
      → IsStoppedBy T op events next.line c
  only_memory c memory = subst (λ z. IsStoppedBy T op events next.line z)
      (sym (memory (ready T op events r.last w r h next there accounts made.0 a made.2))) tt

pub at_first : (T : Table) (op : Opening) (events : List LineEvent) (w : WorldState) (r : Recorder) → Opens op
    → r.history.opening ≡ op → w ≡ record { sizes = sizes op; state = opening op } → trace_of r ≡ no_trace r.history.opening
    → r.last ≡ 0 → HasFollowed T r.history.opening events 0 w r
at_first T op events w r opens is world trace counted = record {
  run = record { opens = subst Opens (sym is) opens; enabled = λ j l. absurd (omega arith) };
  world = world ∙ ap (λ (o : Opening). record { sizes = sizes o; state = opening o }) (sym is);
  trace = trace;
  opening_is = refl;
  counted = counted;
}

pub are_steps : (T : Table) → HasAccount T → ListedContent T → AreSteps T WorldState (λ w e r w'. HasMade T w e r w') (λ w. w)
are_steps T account listed = record { account = account; listed = listed; made = λ w e r w' made. made }
