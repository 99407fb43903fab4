-- Proof: the order in the report of a recorded run linearizes the history in the report.
use Rattle.std.proofs.Common.{◌≡◌, ℕ, suc, ◌<◌, Bool, true, false, List, [], ◌∷◌, length, map, sym, refl, subst, ap, ◌∙◌, arith}
use Rattle.std.specs.Prelude.{Option, Some, None}
use Rattle.std.specs.List.{swap}
use Rattle.std.specs.List.Sorted.{IsPermutation}
use Rattle.std.proofs.lemmas.List.{length-map, get_or-map, map-set}
use Rattle.std.proofs.lemmas.List.Sorted.{IsPermutation-refl, IsPermutation-swap, IsPermutation-trans, IsPermutation-keeps}
use Rattle.lset_words.specs.declared.Reply.{Reply}
use Rattle.lset_words.specs.Log.{Log, TracedCall, calls_at, history_at}
use Rattle.lset_words.specs.Account.{Contents, Counts, Account}
use Rattle.lset_history.specs.Placement.{Standing, standing, makes_change, traced_at, StandsBy, IsPlacement, placed_of, reply_by}
use Rattle.lset_words.specs.Words.{Opening}
use Rattle.lset_words.specs.declared.history.CallRecord.{CallRecord}
use Rattle.lset_words.specs.declared.history.Placed.{Placed}
use Rattle.lset_words.specs.History.{Linearizes}
use Rattle.lset_words.specs.SequentialSet.{opening_set}
use Rattle.lset_report.specs.Order.{placed_in, pointed_of}
use Rattle.lset_replay.specs.declared.places.Linearized.{Linearized}
use Rattle.lset_replay.specs.Trace.{trace_at, place_at, Trace}
use Rattle.lset_replay.specs.PlacedOrder.{point_of, pointed_from, IsOrderOf}
use Rattle.lset_replay.proofs.KeyChanges.{HoldsKeys}
use Rattle.lset_replay.proofs.ReplayKept.{PlaceBy, PlaceOf}
use Rattle.lset_replay.proofs.RecorderReady.{follows}
use Rattle.lset_steps.specs.declared.Event.{Event}
use Rattle.lset_steps.specs.Steps.{Table, Run, event_at, log_of}
use Rattle.lset_steps.specs.Chain.{View, contents_of, counts_of}
use Rattle.lset_steps.specs.Laws.{view_of, views}
use Rattle.lset_steps.specs.Worlds.{WorldState, IsContent, keys_in}
use Rattle.lset_steps.proofs.Segments.{chain_once}
use Rattle.lset_lists.specs.Headline.{history_of, keys_left, ExplainsRun, IsThePlacement, PlacementExplainsRuns}
use Rattle.lset_replay.specs.declared.events.LineEvent.{LineEvent}
use Rattle.lset_replay.specs.declared.recorder.Recorder.{Recorder}
use Rattle.lset_replay.specs.Events.{events_of, only_events}
use Rattle.lset_report.specs.Report.{ReportValue}
use Rattle.lset_replay.specs.Reports.{IsReportOf, IsReplay, IsExplained}
use Rattle.lset_replay.specs.Follows.{HasFollowed}
use Rattle.lset_replay.proofs.FollowedRuns.{TellsKeys, shown, account_then, low_then, kept_then}
use Rattle.lset_replay.proofs.EventLists.{as_many}
use Rattle.lset_schedule.specs.Plan.{Plan, opening_in}

-- ---- Lemmas about sorting the calls by linearization point

abbrev moment_of : Option Linearized → Option ℕ
moment_of None = None
moment_of (Some p) = Some p.moment

-- Returns whether a call has changed the set. The argument is the moment (event number) of the change, or `None` if the
-- call made no change.
changes : Option ℕ → Bool
changes None = false
changes (Some m) = true

module _ (q : ℕ) (contents : Contents) (counts : Counts) where
  reply_there : (x : TracedCall) (changed : Option ℕ) (ended : Option (ℕ × Reply)) (p : Linearized)
      → PlaceBy q contents counts x changed ended (Some p) → reply_by changed ended ≡ p.reply
  reply_there x (Some m) ended p h = cc
  reply_there x None None p h = absurd (cc)
  reply_there x None (Some end) p h = let e = h.1 in cc

  change_there : (x : TracedCall) (changed : Option ℕ) (ended : Option (ℕ × Reply)) (p : Linearized)
      → PlaceBy q contents counts x changed ended (Some p) → changes changed ≡ p.change
  unfolding changes
  change_there x (Some m) ended p h = cc
  change_there x None None p h = absurd (cc)
  change_there x None (Some end) p h = let e = h.1 in cc

  stands_there : (x : TracedCall) (changed : Option ℕ) (ended : Option (ℕ × Reply)) (p : Option Linearized)
      → PlaceBy q contents counts x changed ended p
      → StandsBy q contents counts x changed ended (moment_of p)
  stands_there x (Some m) ended p h = ap moment_of h
  stands_there x None None p h = ap moment_of h
  stands_there x None (Some end) p h = (h.0, ap moment_of h.1, h.2)

makes : (s : Standing) → makes_change s ≡ changes s.traced.changed
unfolding changes
makes s = at s s.traced.changed refl
  where
    at : (s : Standing) (c : Option ℕ) → s.traced.changed ≡ c → makes_change s ≡ changes s.traced.changed
    at s None e = rw e refl
    at s (Some m) e = rw e refl

placed_each : (ss : List Standing) → placed_in (map pointed_of ss) ≡ map placed_of ss
placed_each [] = refl
placed_each (s ∷ ss) = ap (λ z. placed_of s ∷ z) (placed_each ss)

map_swap : {X Y : Type 0} (f : X → Y) (zs : List X) (i j : ℕ) → i < length zs → j < length zs
    → swap (map f zs) i j ≡ map f (swap zs i j)
map_swap f [] i j a b = absurd (omega arith)
map_swap f (z ∷ zs) i j a b = rw (get_or-map f (z ∷ zs) i z (f z) a, get_or-map f (z ∷ zs) j z (f z) b) (simp map-set)

moved_back : {X Y : Type 0} (f : X → Y) (xs : List X) (ys : List Y) → IsPermutation (map f xs) ys
    → (zs : List X) × IsPermutation xs zs × (ys ≡ map f zs)
moved_back {X = X} {Y = Y} f xs ys moved = IsPermutation-keeps (map f xs) (λ l. (zs : List X) × IsPermutation xs zs × (l ≡ map f zs))
    (xs, IsPermutation-refl xs, refl) (λ l i j a b z. by_swap z.0 l i j a b z.1 z.2) ys moved
  where
    by_swap : (zs : List X) (l : List Y) (i j : ℕ) → i < length l → j < length l → IsPermutation xs zs → l ≡ map f zs
        → (ws : List X) × IsPermutation xs ws × (swap l i j ≡ map f ws)
    by_swap zs l i j a b p e = (
      swap zs i j,
      IsPermutation-trans xs zs (swap zs i j) p (IsPermutation-swap zs (swap zs i j) i j
          (omega (arith, length-map zs f, ap length e)) (omega (arith, length-map zs f, ap length e)) refl),
      rw e (map_swap f zs i j (omega (arith, length-map zs f, ap length e)) (omega (arith, length-map zs f, ap length e))),
    )

module _ (q : ℕ) (contents : Contents) (counts : Counts) where
  pointed_there : (x : TracedCall) (number : ℕ) (p : Linearized) → PlaceOf q contents counts x (Some p)
      → pointed_of (record { number = number; traced = x; moment = p.moment })
      ≡ record { point = point_of p; placed = record { call = number; reply = p.reply } }
  pointed_there x number p h =
      let s : Standing = record { number = number; traced = x; moment = p.moment } in
      rw (makes s, change_there q contents counts x x.changed x.ended p h, reply_there q contents counts x x.changed x.ended p h) refl

  pointed_each : (number : ℕ) (xs : List TracedCall) (ps : List (Option Linearized)) → length ps ≡ length xs
      → ((i : ℕ) → i < length xs → PlaceOf q contents counts (traced_at xs i) (place_at ps i))
      → map pointed_of (standing number xs (map moment_of ps)) ≡ pointed_from number ps
  pointed_each number [] [] l h = refl
  pointed_each number (x ∷ xs) (None ∷ ps) l h = pointed_each (suc number) xs ps (omega arith) (λ i n. h (suc i) (omega arith))
  pointed_each number (x ∷ xs) (Some p ∷ ps) l h = rw (
    pointed_there x number p (h 0 (omega arith)),
    pointed_each (suc number) xs ps (omega arith) (λ i n. h (suc i) (omega arith)),
  ) refl
  pointed_each number xs ps l h = absurd (omega arith)

  module _ (xs : List TracedCall) (ps : List (Option Linearized)) (l : length ps ≡ length xs)
      (h : (i : ℕ) → i < length xs → PlaceOf q contents counts (traced_at xs i) (place_at ps i)) where
    is_placement : (order : List Placed) → IsOrderOf ps order → IsPlacement q xs contents counts order
    is_placement order o =
        let ss : List Standing = standing 0 xs (map moment_of ps) in
        let z : (zs : List Standing) × IsPermutation ss zs × (o.sorted ≡ map pointed_of zs) =
        moved_back pointed_of ss o.sorted (rw (pointed_each 0 xs ps l h) o.are.moved) in
        record {
          places = map moment_of ps;
          one_each = length-map ps moment_of ∙ l;
          stands = λ i n. rw (get_or-map moment_of ps i None None (omega arith)) (stands_there q contents counts
              (traced_at xs i) (traced_at xs i).changed (traced_at xs i).ended (place_at ps i)
              (h i n));
          sorted = z.0;
          moved = z.1;
          rises = λ i j d n m. rw (get_or-map pointed_of z.0 i d (pointed_of d) (omega arith), get_or-map pointed_of z.0 j d (pointed_of d) m)
              at ((rw z.2 at o.are.rises) i j (pointed_of d) n (omega (arith, length-map z.0 pointed_of)));
          in_order = o.is ∙ ap placed_in z.2 ∙ placed_each z.0;
        }

module _ (op : Opening) (last : ℕ) (log : Log) (contents : Contents) (counts : Counts)
    (account : Account op last log contents counts)
    (low : HoldsKeys last contents) where
  pub placement : (order : List Placed) → IsOrderOf (trace_at op log last).places order
      → IsPlacement op.quota (calls_at log last) contents counts order
  placement =
      let f = follows op last log contents counts account low last (omega arith) in
      is_placement op.quota contents counts (calls_at log last) (trace_at op log last).places f.numbered f.placed

content_once : (v : View) (ks js : List ℕ) → IsContent v ks → IsContent v js → ks ≡ js
content_once v ks js a b = a.0.2 ∙ ap (keys_in v) (chain_once v 0 a.0.0 b.0.0 a.0.1 b.0.1) ∙ sym b.0.2

-- ---- Lemmas about the report of a recorded run
module _ (T : Table) (accounts : TellsKeys T) (op : Opening) (events : List LineEvent) (k : ℕ) (w : WorldState) (r : Recorder)
    (h : HasFollowed T op events k w r) where
  open shown T op events use {log, contents, counts}

  pub order_then : (order : List Placed) → IsOrderOf r.places.items order → IsPlacement op.quota (calls_at log k) contents counts order
  order_then order o = placement op k log contents counts (account_then T accounts op events k w r h)
      (low_then T accounts op events k w r h) order (subst (λ (s : Trace). IsOrderOf s.places order) h.trace o)

pub replay_is : (T : Table) (accounts : TellsKeys T) (p : Plan) (w : WorldState) (r : Recorder) (order : List Placed)
    (keys : List ℕ)
    → HasFollowed T (opening_in p) (events_of p) (length (events_of p)) w r
    → IsOrderOf r.places.items order
    → IsContent (view_of w.sizes w.state) keys
    → IsReplay T p (record { version = p.version; kind = p.kind; history = r.history; order = order; keys = keys })
replay_is T accounts p w r order keys h o c =
    let op : Opening = opening_in p in
    let es : ℕ → Event = event_at (only_events (events_of p)) in
    let n : ℕ = length (events_of p) in
    let e : length (only_events (events_of p)) ≡ n = as_many (events_of p) in
    record {
      version_is = refl;
      kind_is = refl;
      opening_is = h.opening_is;
      report = record {
        run = subst (λ z. Run T op es z) (sym e) h.run;
        history_is = (kept_then T accounts op (events_of p) n w r h).history ∙ ap (λ z. history_at (log_of T op es) z) (sym e);
        placement = subst (λ z. IsPlacement op.quota (calls_at (log_of T op es) z) (contents_of (views T op es))
            (counts_of (views T op es)) order) (sym e) (order_then T accounts op (events_of p) n w r h order o);
        content = subst (λ z. IsContent (views T op es z) keys) (sym e)
            (subst (λ (z : WorldState). IsContent (view_of z.sizes z.state) keys) h.world c);
      };
    }

-- ---- Lemmas about the order in a report
module _ (T : Table) (headline : PlacementExplainsRuns T) (op : Opening) (events : List Event) (history : List CallRecord)
    (order : List Placed) (keys : List ℕ)
    (h : IsReportOf T op events history order keys) where
  -- Lemma: the order in the report explains the run. Only one order is sorted by the linearization points, and
  -- `PlacementExplainsRuns` states that this order explains the run.
  run_explained : ExplainsRun T op (event_at events) (length events) order
  run_explained =
      let found : (o : List Placed) × ExplainsRun T op (event_at events) (length events) o
      × IsThePlacement T op (event_at events) (length events) o =
      headline op (length events) (event_at events) h.run in
      subst (λ o. ExplainsRun T op (event_at events) (length events) o) (sym (found.2.alone order h.placement)) found.1

  pub explains : Linearizes op.quota (opening_set op) history order
  explains = subst (λ z. Linearizes op.quota (opening_set op) z order) (sym h.history_is) run_explained.linearizes

  pub leaves : keys_left op history order ≡ keys
  leaves = ap (λ z. keys_left op z order) h.history_is
      ∙ content_once (views T op (event_at events) (length events))
      (keys_left op (history_of T op (event_at events) (length events)) order) keys run_explained.content h.content

pub explained_is : (T : Table) → PlacementExplainsRuns T → (p : Plan) (v : ReportValue) → IsReplay T p v → IsExplained v
explained_is T headline p v h = record {
  linearizes = subst (λ (o : Opening). Linearizes o.quota (opening_set o) v.history.calls v.order) (sym h.opening_is)
      (explains T headline (opening_in p) (only_events (events_of p)) v.history.calls v.order v.keys h.report);
  leaves = subst (λ z. keys_left z v.history.calls v.order ≡ v.keys) (sym h.opening_is)
      (leaves T headline (opening_in p) (only_events (events_of p)) v.history.calls v.order v.keys h.report);
  increasing = h.report.content.1;
}
