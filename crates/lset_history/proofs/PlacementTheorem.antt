-- Proof of the placement theorem: the order of a run's calls by their linearization points linearizes the history, and
-- leaves the final keys of the run.
use Rattle.std.proofs.Common.{◌≡◌, ◌≢◌, ℕ, zero, suc, ◌<◌, ◌≤◌, true, false, inl, inr, List, [], ◌∷◌, sym, refl, subst, ap}
use Rattle.std.proofs.Common.{◌∙◌, arith, length, map}
use Rattle.std.specs.Prelude.{◌==◌, Option, Some, None, IfSome, IsSomeAnd, slice_index, Contains, All, AllPairs}
use Rattle.std.specs.List.{AllByRecursion}
use Rattle.std.specs.List.Sorted.{IsStrictlyIncreasing, IsPermutation}
use Rattle.std.proofs.lemmas.Bool.Decides.{nat_tests}
use Rattle.std.proofs.lemmas.Bool.{cases_Bool}
use Rattle.std.proofs.lemmas.List.{length-map}
use Rattle.std.proofs.Math.ListN.{get_or-map}
use Rattle.std.proofs.lemmas.List.Elements.{All-from_recursion, recursion_from_All}
use Rattle.std.proofs.lemmas.List.Sorted.{All-permutation, Contains-permutation}
use Rattle.lset_words.specs.declared.Call.{Call}
use Rattle.lset_words.specs.declared.Call.TheVariants.{Add, Remove}
use Rattle.lset_words.specs.declared.Reply.{Reply}
use Rattle.lset_words.specs.declared.Reply.TheVariants.{True}
use Rattle.lset_words.specs.SequentialSet.{SetState, Answered, has_key, count_of, reply_to, after_call, opening_set, IsLegal, set_left}
use Rattle.lset_words.specs.Log.{Entry, Change, TracedCall, Log, calls_at, history_at, record_of}
use Rattle.lset_words.specs.Log.Entry.{began, stepped}
use Rattle.lset_words.specs.Account.{Content, Changes, MayChange, Contents, Counts, Account}
use Rattle.lset_history.specs.Placement.{Standing, makes_change, reply_by, ComesBefore, IsPlacement, StandsBy, StandsAt, standing}
use Rattle.lset_history.specs.Placement.{placed_of, no_traced, traced_at, place_at}
use Rattle.lset_words.proofs.Numbers.{same_or_not}
use Rattle.lset_words.proofs.IncreasingLists.{IncreasesFrom, same_increasing, increases_from_increasing}
use Rattle.lset_words.specs.declared.history.CallRecord.{CallRecord}
use Rattle.lset_words.specs.declared.history.Placed.{Placed}
use Rattle.lset_words.specs.History.{call_numbered, Precedes, answered, Linearizes}
use Rattle.lset_words.specs.Words.{Opening}
use Rattle.lset_history.proofs.Lists.{Pairs, SomeOf, all_imply, some_imply, all_map, some_contains, contains_map, contains_some, some_one}
use Rattle.lset_history.proofs.Lists.{pairs_map, pairs_std, pairs_rec, pairs_imply, map_twice}
use Rattle.lset_history.proofs.Keys.{has_true, has_false}
use Rattle.lset_history.proofs.Calls.{Run, Later, Calls, run_of, calls_of}
use Rattle.lset_history.proofs.SetFitting.{SameKeys, increases_for, replies_from_fits}
use Rattle.lset_history.proofs.SetStates.{Shows, keys_after, counts_after, set_after, set_at, shows_at}
use Rattle.lset_history.proofs.Standings.{Stood, Changing, changing, Reading, IsStanding, during, ended_place, EndedPlace, reading, stood}
use Rattle.lset_history.proofs.Standings.{has_place}

-- Converts a call with a linearization point to an item of an order: its thread, the call, and its reply.
abbrev pub answered_of : Standing → Answered
answered_of s = record { thread = s.traced.thread; call = s.traced.call; reply = reply_by s.traced.changed s.traced.ended }

-- Holds if the calls in `xs`, made one after another on a set in state `s`, return their replies and leave the set in
-- state `t`.
abbrev Leads : ℕ → SetState → SetState → List Standing → Type 0
Leads quota s t xs = IsLegal quota s (map answered_of xs) × (set_left s (map answered_of xs) ≡ t)

-- Holds if the call `x`, made on a set in state `s`, returns its reply and leaves the set in state `t`.
abbrev LeadsTo : ℕ → SetState → SetState → Standing → Type 0
LeadsTo quota s t x = let b = answered_of x in
    (reply_to quota s b.thread b.call ≡ b.reply) × (after_call s b.thread b.call b.reply ≡ t)

abbrev Stays : ℕ → SetState → Standing → Type 0
Stays quota s x = LeadsTo quota s s x

leads_first : (quota : ℕ) (s t u : SetState) (x : Standing) (xs : List Standing) → LeadsTo quota s t x → Leads quota t u xs
    → Leads quota s u (x ∷ xs)
leads_first quota s t u x xs a b = let c = rw (← a.1) at b in ((a.0, c.0), c.1)

-- ---- The set's reply to a call that changes the set
pub change_replies : (threads quota : ℕ) (content after : Content) (counts : ℕ → ℕ) (s : SetState) (t : ℕ) (call : Call)
    (change : Change) → Shows threads content counts s → t < threads → Changes (Some change) content after
    → MayChange quota (counts t) call false (Some change) → (reply_to quota s t call ≡ True)
    × (after_call s t call True ≡ record {
      keys = keys_after (Some change) s.keys;
      counts = counts_after t
          (Some change) s.counts;
    })
change_replies threads quota content after counts s t call (key, true) w l c m =
    let e : call ≡ Add key = m.0 in
    let a : has_key key.0 s.keys ≡ false = has_false key.0 s.keys (λ i. c.0 ((w.keys key.0).1 i)) in
    let n : slice_index s.counts t ≡ counts t = w.numbers t l in
    let below : counts t < quota = m.2 in
    let b : (count_of s t == quota) ≡ false = grind (arith, nat_tests) in
    (rw (e, a, b) refl, rw e refl)
change_replies threads quota content after counts s t call (key, false) w l c m =
    let e : call ≡ Remove key = m.0 in
    let a : has_key key.0 s.keys ≡ true = has_true key.0 s.keys ((w.keys key.0).0 c.0) in
    (rw (e, a) refl, rw e refl)

-- ---- The set's reply to a call that changes nothing
pub reading_stays : (r : Run) (s : Standing) (state : SetState) → Reading r s → SameKeys (r.contents s.moment) state.keys
    → IncreasesFrom 0 state.keys
    → count_of state s.traced.thread ≡ r.counts s.moment s.traced.thread → Stays r.quota state s
reading_stays r s state h same increasing n =
    let e : reply_by s.traced.changed s.traced.ended ≡ h.end.1 = replied s.traced.changed s.traced.ended h.no_change h.ended in
    let p : (reply_to r.quota state s.traced.thread s.traced.call ≡ h.end.1)
    × (after_call state s.traced.thread s.traced.call h.end.1 ≡ state) =
    replies_from_fits r.quota (r.contents s.moment) state same s.traced.thread
    (r.counts s.moment s.traced.thread) s.traced.call h.end.1 (increases_for s.traced.call state.keys increasing) n h.fit.fits in
    (p.0 ∙ sym e, ap (after_call state s.traced.thread s.traced.call) e ∙ p.1)
  where
    replied : (changed : Option ℕ) (ended : Option (ℕ × Reply)) → changed ≡ None → ended ≡ Some h.end
        → reply_by changed ended ≡ h.end.1
    replied changed ended e f = rw (e, f) refl

-- Holds if the order can list the call of `p` before the call of `q`: the call of `q` did not end before the call of
-- `p` began.
abbrev InTime : List CallRecord → Placed → Placed → Type 0
InTime history p q = Precedes (call_numbered history q.call) (call_numbered history p.call) → ⊥

-- Holds if the call `q` changes the set at moment `m`.
abbrev ChangesIn : ℕ → Standing → Type 0
ChangesIn m q = (makes_change q ≡ true) × (q.moment ≡ m)

module _ (op : Opening) (last : ℕ) (log : Log) (contents : Contents) (counts : Counts)
    (a : Account op last log contents counts) (places : List (Option ℕ))
    (stands : (i : ℕ) → i < length (calls_at log last)
    → StandsAt op.quota contents counts (traced_at (calls_at log last) i) (place_at places i)) where
  abbrev r : Run
  r = run_of op.threads op.quota log contents counts

  abbrev calls : List TracedCall
  calls = calls_at log last

  abbrev ss : List Standing
  ss = standing 0 calls places

  abbrev history : List CallRecord
  history = history_at log last

  abbrev Stands : Standing → Type 0
  Stands = Stood r last calls places

  told : Calls r last calls
  told = calls_of op last log contents counts a last (omega arith)

  all_stood : AllByRecursion Stands ss
  all_stood = stood r last calls places told stands

  shown : (k : ℕ) → k ≤ last → Shows op.threads (contents k) (counts k) (set_at op log k)
  shown = shows_at op last log contents counts a

  record_is : (i : ℕ) → call_numbered history i ≡ record_of (traced_at calls i)
  record_is i = get_or-map record_of calls i no_traced

  numbered : (s : Standing) → Stands s → call_numbered history s.number ≡ record_of s.traced
  numbered s h = record_is s.number ∙ ap record_of h.call_is

  answered_is : (s : Standing) → Stands s → answered history (placed_of s) ≡ answered_of s
  answered_is s h = ap answer (numbered s h)
    where
      answer : CallRecord → Answered
      answer c = record { thread = c.thread; call = c.call; reply = reply_by s.traced.changed s.traced.ended }

  -- ---- The set does not change between two changes in the log
  unchanged : (e : Entry) (s : SetState) → ((t : ℕ) (change : Change) (reply : Option Reply) → e ≡ stepped t (Some change) reply → ⊥)
      → set_after e s ≡ s
  unchanged (began t call) s none = refl
  unchanged (stepped t None reply) s none = refl
  unchanged (stepped t (Some change) reply) s none = absurd (none t change reply refl)

  quiet : (j m : ℕ) → j ≤ m → ((i t : ℕ) (change : Change) (reply : Option Reply) → j ≤ i → i < m → log i ≡ stepped t (Some change) reply → ⊥)
      → set_at op log m ≡ set_at op log j
  quiet j zero l none = let e : j ≡ 0 = omega arith in rw e refl
  quiet j (suc m) l none = elim (same_or_not j (suc m)) [
    | inl e ↦ rw e refl
    | inr d ↦ unchanged (log m) (set_at op log m) (λ t change reply e. none m t change reply (omega arith) (omega arith) e)
        ∙ quiet j m (omega arith) (λ i t change reply from below e. none i t change reply from (omega arith) e)
  ]

  -- ---- Lemmas about a call at its linearization point
  changed : (x : Standing) → Stands x → (c : Changing r x) → LeadsTo op.quota (set_at op log c.change.before) (set_at op log x.moment) x
  changed x h c =
      let j : ℕ = c.change.before in
      let m : x.moment ≡ suc j = c.change.is in
      let u : x.moment ≤ last = (during h).upto in
      let e = rw c.change.entry at (a.enters j (omega arith)) in
      let p = change_replies op.threads op.quota (contents j) (contents (suc j)) (counts j) (set_at op log j) x.traced.thread
      x.traced.call c.change.change (shown j (omega arith)) h.trace.of_a_thread e.content c.change.may in
      let q : reply_by x.traced.changed x.traced.ended ≡ True = rw c.is refl in
      (rw q p.0, rw (q, m, c.change.entry) p.1)

  read : (x : Standing) → Stands x → makes_change x ≡ false → Stays op.quota (set_at op log x.moment) x
  read x h still =
      let w : Shows op.threads (contents x.moment) (counts x.moment) (set_at op log x.moment) =
      shown x.moment (during h).upto in
      reading_stays r x (set_at op log x.moment) (reading h still) w.keys w.increasing
      (w.numbers x.traced.thread h.trace.of_a_thread)

  no_end : (o : Option (ℕ × Reply)) (moment begun : ℕ) → IfSome o (λ (e : ℕ × Reply). moment ≤ e.0)
      → IsSomeAnd o (λ (e : ℕ × Reply). e.0 < begun) → begun ≤ moment → ⊥
  no_end None moment begun f p l = p
  no_end (Some e) moment begun f p l = omega arith

  -- Lemma: no two calls change the set at the same moment, since there is one event at each moment.
  clash : (s q : Standing) → Stands s → Stands q → s.number < q.number → s.moment ≡ q.moment → makes_change s ≡ true
      → makes_change q ≡ true → ⊥
  clash s q h i l e f g =
      let later : Later s.traced q.traced = rw (h.call_is, i.call_is) at (told.pairs s.number q.number no_traced l i.known) in
      let c = changing h f in let d = changing i g in
      let before : c.change.before ≡ d.change.before = omega (arith, c.change.is, d.change.is) in
      let same : s.traced.thread ≡ q.traced.thread = cc (before, c.change.entry, d.change.entry) in
      no_end s.traced.ended s.moment q.traced.begun (during h).in_call (later.one_thread same) (omega (arith, (during i).from))

  -- ---- Lemmas about two calls of the order
  comes_on : (s q : Standing) → Stands s → Stands q → ComesBefore s q → (s.moment ≤ q.moment) × (makes_change q ≡ true → s.moment < q.moment)
  comes_on s q h i b = (moments, later)
    where
      moments : s.moment ≤ q.moment
      moments = grind arith

      later : makes_change q ≡ true → s.moment < q.moment
      later g = elim (cases_Bool (makes_change s)) [
        | inl f ↦ elim (same_or_not s.moment q.moment) [
          | inl e ↦ absurd (let l : s.number < q.number = grind arith in clash s q h i l e f g)
          | inr d ↦ omega (arith, moments)
        ]
        | inr f ↦ grind arith
      ]

  -- Holds if each call in `xs` takes effect at moment `m` or later, and after `m` if the call changes the set.
  abbrev Late : ℕ → List Standing → Type 0
  Late m xs = AllByRecursion (λ q. (m ≤ q.moment) × (makes_change q ≡ true → m < q.moment)) xs

  late_from : (x : Standing) → Stands x → (xs : List Standing) → AllByRecursion Stands xs → AllByRecursion (ComesBefore x) xs → Late x.moment xs
  late_from x h [] s b = tt
  late_from x h (q ∷ xs) s b = (comes_on x q h s.0 b.0, late_from x h xs s.1 b.1)

  none_due : (m i : ℕ) (xs : List Standing) → Late m xs → suc i ≤ m → SomeOf (ChangesIn (suc i)) xs → ⊥
  none_due m i [] late l s = s
  none_due m i (q ∷ xs) late l (inl s) = let b : m < q.moment = late.0.1 s.0 in omega (arith, s.1)
  none_due m i (q ∷ xs) late l (inr s) = none_due m i xs late.1 l s

  -- Holds if each change of the set after the first `j` events was made by a call in `xs`.
  abbrev Due : ℕ → List Standing → Type 0
  Due j xs = (i t : ℕ) (change : Change) (reply : Option Reply) → j ≤ i → i < last → log i ≡ stepped t (Some change) reply
      → SomeOf (ChangesIn (suc i)) xs

  -- Lemma: if the calls that take effect after moment `j` (the number of events so far) are applied in sorted order to
  -- the sequential set in its state at moment `j`, the set returns the replies of these calls. The proof is by
  -- induction on the calls: the set does not change between two changes.
  leads : (xs : List Standing) (j : ℕ) → j ≤ last → AllByRecursion Stands xs → Pairs ComesBefore xs → Late j xs → Due j xs
      → Leads op.quota (set_at op log j) (set_at op log last) xs
  leads [] j l s b late due = (tt, sym (quiet j last l due))
  leads (x ∷ xs) j l s b late due =
      let u : x.moment ≤ last = (during s.0).upto in
      let then : Late x.moment xs = late_from x s.0 xs s.1 b.0 in
      let rest : Leads op.quota (set_at op log x.moment) (set_at op log last) xs = leads xs x.moment u s.1 b.1 then
      (λ i t change reply from below e. elim (due i t change reply (omega (arith, late.0.0)) below e) [
        | inl q ↦ absurd (omega (arith, q.1))
        | inr q ↦ q
      ]) in
      elim (cases_Bool (makes_change x)) [
        | inl f ↦ (let c = changing s.0 f in
            let m : x.moment ≡ suc c.change.before = c.change.is in
            let first : j < x.moment = late.0.1 f in
            subst (λ z. Leads op.quota z (set_at op log last) (x ∷ xs))
            (quiet j c.change.before (omega arith) (λ i t change reply from below e. elim (due i t change reply from (omega arith) e) [
              | inl q ↦ omega (arith, q.1)
              | inr q ↦ none_due x.moment i xs then (omega arith) q
            ])) (leads_first op.quota _ _ _ x xs (changed x s.0 c) rest))
        | inr f ↦ subst (λ z. Leads op.quota z (set_at op log last) (x ∷ xs))
            (quiet j x.moment late.0.0 (λ i t change reply from below e. elim (due i t change reply from (omega arith) e) [
              | inl q ↦ cc (q.0, f)
              | inr q ↦ none_due x.moment i xs then (omega arith) q
            ])) (leads_first op.quota _ _ _ x xs (read x s.0 f) rest)
      ]

  changer_stands : Due 0 ss
  changer_stands j t change reply from l e =
      let o = told.changers j t change reply l e in
      let p : place_at places o.0 ≡ Some (suc j) =
      subst (λ z. StandsBy op.quota contents counts (traced_at calls o.0) z (traced_at calls o.0).ended
      (place_at places o.0)) o.2 (stands o.0 o.1) in
      some_imply (IsStanding o.0 (traced_at calls o.0) (suc j)) (ChangesIn (suc j))
      (λ q h. (let c : q.traced.changed ≡ Some (suc j) = ap (λ (x : TracedCall). x.changed) h.1 ∙ o.2 in rw c refl, h.2))
      ss (has_place r last calls places told stands o.0 (suc j) o.1 p)

  module _ (sorted : List Standing) (moved : IsPermutation ss sorted) (rises : AllPairs ComesBefore sorted) where
    placed_stood : AllByRecursion Stands sorted
    placed_stood = recursion_from_All Stands sorted (All-permutation Stands ss sorted moved (All-from_recursion Stands ss all_stood))

    pairs : Pairs ComesBefore sorted
    pairs = pairs_rec ComesBefore sorted rises

    some_sorted : (P : Standing → Type 0) → SomeOf P ss → (z : Standing) × P z × Contains sorted z
    some_sorted P s =
        let o : (z : Standing) × P z × SomeOf (λ x. x ≡ z) ss = some_one P ss s in
        (o.0, o.1, Contains-permutation ss sorted o.0 moved (some_contains o.0 ss o.2))

    led : Leads op.quota (opening_set op) (set_at op log last) sorted
    led = leads sorted 0 (omega arith) placed_stood pairs (all_imply Stands (λ q. (0 ≤ q.moment) × (makes_change q ≡ true → 0 < q.moment))
        (λ q h. (omega arith, λ f. omega (arith, (changing h f).change.is))) sorted placed_stood)
        (λ j t change reply from l e. let o = some_sorted (ChangesIn (suc j)) (changer_stands j t change reply from l e) in
        some_imply (λ x. x ≡ o.0) (ChangesIn (suc j)) (λ x e. subst (ChangesIn (suc j)) (sym e) o.1) sorted (contains_some o.0 sorted o.2))

    answers_are : map (answered history) (map placed_of sorted) ≡ map answered_of sorted
    answers_are = map_twice placed_of (answered history) answered_of sorted
        (all_imply Stands (λ s. answered history (placed_of s) ≡ answered_of s) answered_is sorted placed_stood)

    is_legal : IsLegal op.quota (opening_set op) (map (answered history) (map placed_of sorted))
    is_legal = rw answers_are led.0

    leaves : set_left (opening_set op) (map (answered history) (map placed_of sorted)) ≡ set_at op log last
    leaves = rw answers_are led.1

    -- ---- The order contains no call twice and keeps the real-time order
    is_once : AllPairs (λ (p q : Placed). p.call ≢ q.call) (map placed_of sorted)
    is_once = pairs_std (λ (p q : Placed). p.call ≢ q.call) (map placed_of sorted)
        (pairs_map placed_of (λ (p q : Placed). p.call ≢ q.call) sorted
        (pairs_imply Stands ComesBefore (λ s q. s.number ≢ q.number) apart sorted placed_stood pairs))
      where
        apart : (s q : Standing) → Stands s → Stands q → ComesBefore s q → s.number ≢ q.number
        apart s q h i b e =
            let t : s.traced ≡ q.traced = rw e at (sym h.call_is) ∙ i.call_is in
            let m : s.moment ≡ q.moment = cc in
            let c : makes_change s ≡ makes_change q = ap (λ z. makes_change (record { number = 0; traced = z; moment = 0 })) t in
            grind arith

    is_in_time : AllPairs (InTime history) (map placed_of sorted)
    is_in_time = pairs_std (InTime history) (map placed_of sorted) (pairs_map placed_of (InTime history) sorted
        (pairs_imply Stands ComesBefore (λ s q. InTime history (placed_of s) (placed_of q)) each sorted placed_stood pairs))
      where
        each : (s q : Standing) → Stands s → Stands q → ComesBefore s q → InTime history (placed_of s) (placed_of q)
        each s q h i b p = no_end q.traced.ended q.moment s.traced.begun (during i).in_call (rw (numbered q i, numbered s h) at p)
            (omega (arith, (during h).from, (comes_on s q h i b).0))

    -- ---- The order contains each completed call and only calls of the history
    is_known : All (λ (p : Placed). p.call < length history) (map placed_of sorted)
    is_known = All-from_recursion (λ (p : Placed). p.call < length history) (map placed_of sorted)
        (all_map placed_of (λ (p : Placed). p.call < length history) sorted
        (all_imply Stands (λ s. s.number < length history) (λ s h. omega (arith, length-map calls record_of, h.known)) sorted placed_stood))

    is_ended : (number end : ℕ) (reply : Reply) → number < length history → (call_numbered history number).ended ≡ Some (end, reply)
        → Contains (map placed_of sorted) (record { call = number; reply = reply })
    is_ended number end reply l e =
        let k : number < length calls = omega (arith, length-map calls record_of) in
        let f : (traced_at calls number).ended ≡ Some (end, reply) = ap (λ (c : CallRecord). c.ended) (sym (record_is number)) ∙ e in
        let p : EndedPlace (traced_at calls number).changed (traced_at calls number).ended reply (place_at places number) =
        ended_place r last (traced_at calls number) (end, reply) (place_at places number) f
        (told.each number no_traced k) (stands number k) in
        let o = some_sorted (IsStanding number (traced_at calls number) p.moment) (has_place r last calls places told stands number p.moment k p.is) in
        subst (Contains (map placed_of sorted)) (rw (o.1.0, o.1.1, p.reply_is) refl) (contains_map placed_of sorted o.0 o.2)

    placed_linearizes : Linearizes op.quota (opening_set op) history (map placed_of sorted)
    placed_linearizes = record { known = is_known; once = is_once; ended = is_ended; legal = is_legal; in_time = is_in_time }

pub linearizes : (op : Opening) (last : ℕ) (log : Log) (contents : Contents) (counts : Counts) (order : List Placed)
    → Account op last log contents counts → IsPlacement op.quota (calls_at log last) contents counts order
    → Linearizes op.quota (opening_set op) (history_at log last) order
linearizes op last log contents counts order a p = rw p.in_order
    (placed_linearizes op last log contents counts a p.places p.stands p.sorted p.moved p.rises)

pub leaves_set : (op : Opening) (last : ℕ) (log : Log) (contents : Contents) (counts : Counts) (order : List Placed)
    → Account op last log contents counts → IsPlacement op.quota (calls_at log last) contents counts order
    → Shows op.threads (contents last) (counts last) (set_left (opening_set op) (map (answered (history_at log last)) order))
leaves_set op last log contents counts order a p = rw (
  p.in_order,
  leaves op last log contents counts a p.places p.stands p.sorted p.moved p.rises,
) (shows_at op last log contents counts a last (omega arith))

pub leaves_keys : (op : Opening) (last : ℕ) (log : Log) (contents : Contents) (counts : Counts) (order : List Placed)
    → Account op last log contents counts → IsPlacement op.quota (calls_at log last) contents counts order
    → (keys : List ℕ) → IsStrictlyIncreasing keys
    → ((j : ℕ) → (contents last j → Contains keys j) × (Contains keys j → contents last j))
    → (set_left (opening_set op) (map (answered (history_at log last)) order)).keys ≡ keys
leaves_keys op last log contents counts order a p keys up same =
    let w : Shows op.threads (contents last) (counts last) (set_left (opening_set op)
    (map (answered (history_at log last)) order)) =
    leaves_set op last log contents counts order a p in
    same_increasing 0 0 (set_left (opening_set op) (map (answered (history_at log last)) order)).keys keys w.increasing
    (increases_from_increasing keys up)
    (λ k c. (same k).0 ((w.keys k).1 c)) (λ k c. (w.keys k).0 ((same k).1 c))
