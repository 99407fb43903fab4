-- The invariant of a list on shared words (the code calls it the rule). Between any two steps, some list of events is a
-- run that ends with the words in memory, and the view of each seat matches the events of the run. A seat is one
-- thread's access to the set; its view is what it knows about the run. A receipt contains the events that one seat has
-- seen, and is used by another seat.
--
-- The definitions after `Holds` state how views change by actions that are not events: opening a set, splitting and
-- joining seats, and issuing and using receipts.
use Rattle.std.specs.Prelude.{◌≡◌, ℕ, zero, suc, ◌+◌, ◌-◌, ◌<◌, ◌≤◌, true, false, List, [], ◌∷◌, ◌++◌, length, None, cond, nat_le}
use Rattle.std.specs.List.{AllByRecursion}
use mathlib.Core.Option.{some}
use lib.ListN.{get_elem?}
use Rattle.atomic_table.specs.Table as table
use Rattle.atomic_table.specs.Table.{Me, Step}
use Rattle.lset_steps.specs.declared.Event.{Event}
use Rattle.lset_rule.specs.declared.view.SpareThread.{SpareThread}
use Rattle.lset_rule.specs.declared.view.Past.{Fresh}
use Rattle.lset_rule.specs.declared.view.View.{View}
use Rattle.lset_steps.specs.Steps.{Table, idle}
use Rattle.lset_steps.specs.Worlds.{thread_of}
use Rattle.lset_rule.specs.Pasts.{gathered}
use Rattle.lset_rule.specs.Runs.{StartsWith, end_of, IsRunOf}
use Rattle.lset_rule.specs.Views.{HasThread, Stands}
use Rattle.lset_words.specs.Words.{Opening}

-- Holds if no thread of the seat with view v (what the seat knows about the run) executed any of the events `es`.
abbrev pub IsQuiet : View → List Event → Type 0
IsQuiet v es = AllByRecursion (λ e. ¬ (HasThread v (thread_of e))) es

-- Holds if v, the view of seat j (what the seat knows about the run), matches the events of all threads. The view has
-- seen a prefix of all events, and only threads of other seats executed the later events. Seat j shares no thread with
-- any other seat. After a join or the use of a receipt (the events that another seat has seen), the view stores two
-- more prefixes of all events, `ours` and `theirs`.
pub record MatchesLog (m : Table) (k : Opening) (log : List Event) (seat_of : ℕ → ℕ) (j : ℕ) (v : View) : Type 0 where
  pub shape : v.shape ≡ k
  pub rest : List Event
  pub is : log ≡ v.seen ++ rest
  pub quiet : IsQuiet v rest
  pub stands : Stands m v
  pub seat : (t : ℕ) → HasThread v t → seat_of t ≡ j
  pub ours : StartsWith log v.ours
  pub theirs : StartsWith log v.theirs

-- Holds if view number j (what a seat knows about the run, counted from 0) is in use, and thread t belongs to the
-- view's seat.
abbrev pub StandsIn : List View → ℕ → ℕ → Type 0
StandsIn views j t = (v : View) × (get_elem? views j ≡ some v) × (v.spent ≡ false) × HasThread v t

-- The invariant: some run ends with the words in memory, and the view of each seat (what the seat knows about the run)
-- matches the events of the run. Each thread belongs to exactly one seat. If a seat is dropped, its view remains. A
-- view is spent if it belongs to a receipt (the events that a seat has seen, for use by another seat), or to a seat
-- that was merged into another seat. A spent view has no threads, but the events that it has seen are also a prefix of
-- the run.
pub record Holds (m : Table) (k : Opening) (s : table.State (Unit {0}) View) : Type 0 where
  pub log : List Event
  pub ran : IsRunOf m k log
  pub words : s.words ≡ (end_of m k log).words
  pub seat_of : ℕ → ℕ
  pub each : (j : ℕ) (v : View) → get_elem? s.views j ≡ some v → v.spent ≡ false → MatchesLog m k log seat_of j v
  pub placed : (t : ℕ) → t < k.threads → StandsIn s.views (seat_of t) t
  pub known : (j : ℕ) (v : View) → get_elem? s.views j ≡ some v → StartsWith log v.seen

-- Returns spare threads for the first seat: n idle threads, numbered from t. The first seat (one thread's access to the
-- set) has all threads of the set. It makes its calls as the last thread, and all other threads are spare.
abbrev pub asides_from : Opening → ℕ → ℕ → List SpareThread
asides_from k t zero = []
asides_from k t (suc n) = record { thread = t; local = idle k.quota t } ∷ asides_from k (t + 1) n

abbrev pub opener : Opening → View
opener k = record {
  spent = false;
  shape = k;
  thread = k.threads - 1;
  local = idle k.quota (k.threads - 1);
  under = None;
  others = asides_from k 0 (k.threads - 1);
  past = Fresh (k.threads - 1);
  seen = [];
  ours = [];
  theirs = [];
}

-- Returns the view (what a seat knows about the run) of a new seat that is split off from a seat with view v. The new
-- seat makes its calls as the first of the given spare threads, has an empty record, and has seen the same events as
-- the old seat.
abbrev head_aside : View → List SpareThread → View
head_aside v [] = record v { spent = true }
head_aside v (o ∷ os) = record v {
  thread = o.thread;
  local = o.local;
  under = None;
  others = [];
  past = Fresh o.thread;
  ours = [];
  theirs = [];
}

abbrev tail_asides : List SpareThread → List SpareThread
tail_asides [] = []
tail_asides (o ∷ os) = os

-- Returns the view of the old seat (what the seat knows about the run) after a split, in which the old seat loses its
-- first spare thread.
abbrev pub left_view : View → View
left_view v = record v { others = tail_asides v.others }

-- Returns the view of the new seat (what the seat knows about the run) after a split. The new seat makes its calls as
-- the first spare thread of the old seat.
abbrev pub right_view : View → View
right_view v = head_aside v v.others

-- Returns the longer of two lists of events.
abbrev pub longer : List Event → List Event → List Event
longer xs ys = cond (nat_le (length xs) (length ys)) ys xs

-- Returns the view of a seat (what the seat knows about the run) after the seat uses a receipt. The seat has then seen
-- the longer of two lists of events (its own list and the receipt's), and keeps both lists until its next load. The
-- receipt is used up.
abbrev pub informed : View → View → View
informed v w = record v {
  seen = longer v.seen w.seen;
  ours = v.seen;
  theirs = w.seen;
}

-- Returns the view of a seat (what the seat knows about the run) after another seat has joined it. The seat gets the
-- other seat's threads and record, and learns of the events that the other seat has seen. The view of the other seat is
-- spent.
abbrev pub joined : View → View → View
joined v w = record (informed v w) {
  others = v.others ++ record { thread = w.thread; local = w.local } ∷ w.others;
  past = gathered v.past w.past;
}

abbrev pub nobody : View
nobody = record (opener (record { threads = 0; quota = 0; keys = [] })) { spent = true }

-- Returns the view of a new receipt (what the receipt knows about the run). The view has no threads, and has seen the
-- same events as the seat that issued the receipt. The view of the seat does not change.
abbrev pub without_thread : View → View
without_thread v = record v { spent = true }

-- Holds if the first load after a seat (one thread's access to the set) joins another seat or uses a receipt can have
-- the given effect. The load shows that both lists of events that the seat keeps are prefixes of the events that the
-- seat has seen. The seat then drops both lists.
abbrev pub learned : Table → Step (Unit {0}) → Me (Unit {0}) View → ℕ → Me (Unit {0}) View → Type 0
learned m st me n me' =
    (me'.0 ≡ record me.0 { ours = []; theirs = [] }) × Stands m me'.0
    × (length me.0.ours ≤ length me.0.seen → StartsWith me.0.seen me.0.ours)
    × (length me.0.theirs ≤ length me.0.seen → StartsWith me.0.seen me.0.theirs) × (me'.1 ≡ me.1)
