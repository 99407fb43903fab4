-- How each step of a call, and a whole call, changes the view of the caller's seat. A seat is one thread's access to
-- the set; its view is what it knows about the run.
use Rattle.std.specs.Prelude.{◌≡◌, ℕ, ◌+◌, List, [], ◌∷◌, ◌++◌, length, Option, Some, None}
use Rattle.atomic_table.specs.Table.{Me, Step}
use Rattle.lset_words.specs.declared.Call.{Call}
use Rattle.lset_words.specs.declared.Reply.{Reply}
use Rattle.lset_steps.specs.declared.Event.{Event}
use Rattle.lset_steps.specs.declared.Event.TheVariants.{Begin, Go}
use Rattle.lset_rule.specs.declared.view.PendingCall.{PendingCall}
use Rattle.lset_rule.specs.declared.view.Past.{Past}
use Rattle.lset_rule.specs.declared.view.View.{View}
use Rattle.lset_steps.specs.Steps.{Table, seen_next}
use Rattle.lset_steps.specs.Laws.{Sees}
use Rattle.lset_rule.specs.Pasts.{called}
use Rattle.lset_rule.specs.Runs.{StartsWith, own, under_after, end_of}
use Rattle.lset_rule.specs.Views.{Stands}

-- Returns the view of a seat (what the seat knows about the run) after its thread has started call c. `v` is the view
-- before the start, and `log` contains all events before the start.
abbrev pub begun_view : Table → List Event → Call → View → View
begun_view m log c v = record v {
  local = m.begin c v.local;
  under = Some (record { call = c; begun = length log + 1; steps = 0 });
  seen = log ++ Begin v.thread c ∷ [];
}

-- Returns the record of completed calls after event n. If the event ends the pending call (the reply is `Some x`), the
-- call is appended to the record r.
abbrev pub record_after : Past → Option Reply → Option PendingCall → ℕ → Past
record_after r (Some x) (Some u) n = called r (own u x n)
record_after r (Some x) None n = r
record_after r None u n = r

-- Returns the view of a seat (what the seat knows about the run) after a step of its thread that saw the value n. `v`
-- is the view before the step, and `log` contains all events before the step.
abbrev pub gone_view : Table → List Event → ℕ → View → View
gone_view m log n v = let f = m.feed v.local n in record v {
  local = f.local;
  under = under_after f.answer v.under;
  past = record_after v.past f.answer v.under (length log + 1);
  seen = log ++ Go v.thread ∷ [];
}

-- Holds if a step that sees the value n can change the view of its seat (what the seat knows about the run) from v to
-- w. `log` contains all events before the step, and starts with the events that v had seen. The view w has seen the
-- events of `log` and the step. `Sees` says that in some run, a thread with the private state in v next sees the value
-- n.
abbrev pub Goes : Table → View → ℕ → View → Type 0
Goes m v n w = (log : List Event) × (on : StartsWith log v.seen) × Sees m v.local n × (w ≡ gone_view m log n v) × Stands m w
    × (seen_next m (end_of m v.shape log) v.thread ≡ n)

-- Holds if the first step of call c, which sees the value n, can change the view of its seat (what the seat knows about
-- the run) from v to w. The call starts just before its first step.
abbrev pub Starts : Table → Call → View → ℕ → View → Type 0
Starts m c v n w = (log : List Event) × (on : StartsWith log v.seen) × Sees m (m.begin c v.local) n
    × (let b = begun_view m log c v in w ≡ gone_view m b.seen n b) × Stands m w
    × (let b = begun_view m log c v in seen_next m (end_of m v.shape b.seen) v.thread ≡ n)

-- `onward` and `starting` are `Goes` and `Starts` in the form that the crate `atomic_table` requires for an access to
-- the shared words. In addition, the access does not change which cells of the table the seat (one thread's access to
-- the set) owns.
abbrev pub onward : Table → Step (Unit {0}) → Me (Unit {0}) View → ℕ → Me (Unit {0}) View → Type 0
onward m st me n me' = Goes m me.0 n me'.0 × (me'.1 ≡ me.1)

abbrev pub starting : Table → Call → Step (Unit {0}) → Me (Unit {0}) View → ℕ → Me (Unit {0}) View → Type 0
starting m c st me n me' = Starts m c me.0 n me'.0 × (me'.1 ≡ me.1)

abbrev pub steps_of : Option PendingCall → ℕ
steps_of None = 0
steps_of (Some u) = u.steps

-- Holds if views v and w (what a seat knows about the run) differ at most in the private state of the seat's own
-- thread, the pending call, the record of completed calls, and the events seen.
abbrev pub Same : View → View → Type 0
Same v w = (w.spent ≡ v.spent) × (w.shape ≡ v.shape) × (w.thread ≡ v.thread) × (w.others ≡ v.others)
    × (w.ours ≡ v.ours) × (w.theirs ≡ v.theirs)

-- Holds if call c is pending, has changed the view of its seat (what the seat knows about the run) from v to w, and
-- started after all events that v had seen.
pub record IsMid (c : Call) (v w : View) : Type 0 where
  pub log : List Event
  pub before : StartsWith log v.seen
  pub since : StartsWith w.seen (log ++ Begin v.thread c ∷ [])
  pub steps : ℕ
  pub under : w.under ≡ Some (record { call = c; begun = length log + 1; steps = steps })
  pub past : w.past ≡ v.past
  pub same : Same v w

-- Holds if a whole call c with reply r has changed the view of its seat (what the seat knows about the run) from v to
-- w. The call started after all events that v had seen. The last step of the call is the last event that w has seen,
-- and only the call c has been added to the seat's record.
pub record Makes (m : Table) (c : Call) (v : View) (r : Reply) (w : View) : Type 0 where
  pub log : List Event
  pub between : List Event
  pub before : StartsWith log v.seen
  pub seen : w.seen ≡ (log ++ Begin v.thread c ∷ []) ++ between ++ Go v.thread ∷ []
  pub past : w.past ≡ called v.past (record { call = c; reply = r; begun = length log + 1; ended = length w.seen })
  pub idle : w.under ≡ None
  pub same : Same v w
  pub stands : Stands m w
