-- Proof: a `contains` that does not block ends within its maximum number of steps.
use Rattle.std.proofs.Common.{◌≡◌, ◌≢◌, ℕ, suc, ◌+◌, ◌<◌, ◌≤◌, cond, List, [], ◌∷◌, ◌++◌, length, inl}
use Rattle.std.proofs.Common.{Option, Some, None, refl, sym, ap, ◌∙◌, subst, arith, length-append}
use Rattle.std.proofs.lemmas.List.{same_from_push}
use Rattle.lset_words.proofs.Numbers.{equal_test, if_same}
use Rattle.lset_words.specs.Log.{last_at}
use Rattle.lset_words.proofs.LastCalls.{last_own}
use Rattle.lset_words.specs.declared.Key.{Key}
use Rattle.lset_words.specs.declared.Call.{Call}
use Rattle.lset_words.specs.declared.Call.TheVariants.{Contains}
use Rattle.lset_words.specs.declared.Reply.{Reply}
use Rattle.lset_words.specs.Words.{sizes}
use Rattle.lset_steps.specs.declared.Event.{Event}
use Rattle.lset_steps.specs.declared.Event.TheVariants.{Begin, Go}
use Rattle.lset_steps.specs.declared.Local.{Local}
use Rattle.lset_steps.specs.Steps.{Table, State, Run, Enabled, state_at, event_at, local_of, log_of, entry_of, told}
use Rattle.lset_steps.specs.BoundedReads.{BoundedReads, steps_since, steps_after, most_reads}
use Rattle.lset_steps.specs.Laws.{Lawful}
use Rattle.lset_steps.specs.Promises.{IsContains}
use Rattle.lset_steps.proofs.MoreEvents.{event_last}
use Rattle.lset_rule.specs.declared.view.OwnCall.{OwnCall}
use Rattle.lset_rule.specs.declared.view.PendingCall.{PendingCall}
use Rattle.lset_rule.specs.declared.view.View.{View}
use Rattle.lset_rule.specs.Calls.{Makes}
use Rattle.lset_rule.specs.Seats.{TableSeat}
use Rattle.lset_rule.specs.Pasts.{calls_of, root}
use Rattle.lset_rule.specs.Runs.{Here, done_at, done_next, ending, own, pending_of, under_after, under_at}
use Rattle.lset_rule.proofs.OneMoreEvent.{Tied, tied, under_step}
use Rattle.lset_rule.specs.Dated.{record_of}
use Rattle.lset_live.proofs.SeenExplained.{seat_at}
use Rattle.lset_live.specs.Explained.{HasMadeAtMost}
use Rattle.lset_live.specs.Seats.{SeatValue, SetValue}
use Rattle.lset_words.specs.Records.{thread_of}

-- ---- Lemmas about a call that has ended
ended_call : (a : Option Reply) (o : Option PendingCall) (l : Local) (n : ℕ) (ds cs : List OwnCall) (x : OwnCall) → Tied o l
    → l.pc ≢ 0 → under_after a o ≡ None → ds ++ ending a o n ≡ cs ++ x ∷ [] → l.call ≡ x.call
ended_call a None l n ds cs x ti busy idle is = absurd (busy ti)
ended_call None (Some u) l n ds cs x ti busy idle is = absurd cc
ended_call (Some r) (Some u) l n ds cs x ti busy idle is =
    ti.1 ∙ ap (λ (z : OwnCall). z.call) (same_from_push ds cs (own u r n) x is).1

module _ (T : Table) (law : Lawful T) (reads : BoundedReads T) (key : Key) (v : View) (r : Reply) (w : View)
    (m : Makes T (Contains key) v r w) where
  abbrev es : ℕ → Event
  es = event_at w.seen

  abbrev before : List Event
  before = (m.log ++ Begin v.thread (Contains key) ∷ []) ++ m.between

  abbrev n : ℕ
  n = length before

  abbrev S : State
  S = state_at T w.shape es n

  abbrev made : OwnCall
  made = record { call = Contains key; reply = r; begun = length m.log + 1; ended = length w.seen }

  seen_is : w.seen ≡ before ++ Go w.thread ∷ []
  seen_is = m.seen ∙ ap (λ u. before ++ Go u ∷ []) (sym m.same.2)

  long : length w.seen ≡ suc (length before)
  long = ap (λ l. length l) seen_is ∙ (let e = length-append before (Go w.thread ∷ []) in omega arith)

  last_is : es (length before) ≡ Go w.thread
  last_is = ap (λ l. event_at l (length before)) seen_is ∙ event_last before (Go w.thread)

  run : Run T w.shape es (suc (length before))
  run = subst (λ k. Run T w.shape es k) long m.stands.ran

  small : w.thread < w.shape.threads
  small = m.stands.in_range w.thread (inl refl)

  ti : Tied (under_at (log_of T w.shape es) w.thread n) (local_of S w.thread)
  ti = tied T law w.shape es (suc n) run w.thread n small (omega arith)

  busy : (local_of (state_at T w.shape es (length before)) w.thread).pc ≢ 0
  busy = (subst (λ e. Enabled S e) last_is (run.enabled n (omega arith))).1

  rooted : root v.past ≡ w.thread
  rooted = sym (ap root m.past) ∙ m.stands.of_thread

  calls_now : calls_of w.thread w.past ≡ calls_of w.thread v.past ++ made ∷ []
  calls_now = ap (calls_of w.thread) m.past
      ∙ ap (λ b. calls_of w.thread v.past ++ cond b (made ∷ []) []) (equal_test w.thread (root v.past) (sym rooted))

  abbrev Under : ℕ → Option PendingCall
  Under k = under_at (log_of T w.shape es) w.thread k

  abbrev Done : ℕ → List OwnCall
  Done k = done_at (log_of T w.shape es) w.thread k

  under_now : under_after (told T S (Go w.thread)).answer (Under n) ≡ None
  under_now = sym (ap pending_of (last_own (log_of T w.shape es) w.thread n (ap (λ e. entry_of T S e) last_is) refl)
      ∙ under_step (suc n) w.thread (told T S (Go w.thread)).change (told T S (Go w.thread)).answer
      (last_at (log_of T w.shape es) w.thread n))
      ∙ ap (λ k. under_at (log_of T w.shape es) w.thread k) (sym long) ∙ ap (λ (h : Here). h.under) m.stands.own ∙ m.idle

  done_now : Done n ++ ending (told T S (Go w.thread)).answer (Under n) (suc n) ≡ calls_of w.thread v.past ++ made ∷ []
  done_now = sym (ap (λ e. done_next (suc n) (entry_of T S e) w.thread (Under n) (Done n)) last_is
      ∙ if_same w.thread w.thread refl (Done n ++ ending (told T S (Go w.thread)).answer (Under n) (suc n)) (Done n))
      ∙ ap (λ k. done_at (log_of T w.shape es) w.thread k) (sym long) ∙ ap (λ (h : Here). h.done) m.stands.own ∙ calls_now

  call_is : (local_of S w.thread).call ≡ Contains key
  call_is = ended_call (told T S (Go w.thread)).answer (Under n) (local_of S w.thread) (suc n) (Done n)
      (calls_of w.thread v.past) made ti busy under_now done_now

  within_shape : steps_since (event_at w.seen) w.thread (length w.seen) ≤ most_reads (sizes w.shape)
  within_shape =
      let few : steps_since es w.thread n < most_reads (sizes w.shape) = (reads w.shape (suc n) n w.thread es run (omega arith)
      small busy (subst (λ (c : Call). IsContains c) (sym call_is) tt)).few in
      let last : steps_since es w.thread (suc n) ≡ steps_since es w.thread n + 1 =
      ap (λ e. steps_after e w.thread (steps_since es w.thread n)) last_is
      ∙ if_same w.thread w.thread refl (steps_since es w.thread n + 1) (steps_since es w.thread n) in
      let all : steps_since es w.thread (length w.seen) ≡ steps_since es w.thread (suc n) =
      ap (λ k. steps_since es w.thread k) long in
      omega arith

  pub within : steps_since (event_at w.seen) (thread_of (record_of v.past)) (length w.seen) ≤ most_reads (sizes v.shape)
  within = subst (λ k. steps_since (event_at w.seen) (thread_of (record_of v.past)) (length w.seen) ≤ most_reads (sizes k))
      m.same.1 (subst (λ u. steps_since (event_at w.seen) u (length w.seen) ≤ most_reads (sizes w.shape))
      (sym rooted) within_shape)

pub few_steps : (T : Table) → Lawful T → BoundedReads T → (key : Key) (s : TableSeat) (r : Reply) (s' : TableSeat)
    → Makes T (Contains key) s.me.0 r s'.me.0 → (set : SetValue) (old : SeatValue) → seat_at s ≡ old → old.set ≡ set
    → HasMadeAtMost (most_reads (sizes set.shape)) (thread_of old.past) s'.me.0.seen
few_steps T law reads key s r s' made set old is of_set =
    subst (λ (z : SetValue). HasMadeAtMost (most_reads (sizes z.shape)) (thread_of old.past) s'.me.0.seen) of_set
    (subst (λ (o : SeatValue). HasMadeAtMost (most_reads (sizes o.set.shape)) (thread_of o.past) s'.me.0.seen) is
    (within T law reads key s.me.0 r s'.me.0 made))
