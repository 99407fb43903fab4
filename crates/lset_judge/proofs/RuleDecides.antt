-- Proof: if the judge can decide a history, some order explains the history if and only if each key passes the judge's
-- test.
use Rattle.std.proofs.Common.{◌≡◌, ◌≢◌, ℕ, ◌+◌, List, [], ◌∷◌, ◌++◌, true, inl, inr, refl, sym, ap, ◌∙◌, arith, subst, get_or, map, Bool}
use Rattle.std.specs.Prelude.{◌==◌, ◌&&◌, if◌then◌else◌, Option, Some, None, All, AllPairs, IfSome, set, sum_by, cond, Contains, length, ◌<◌, ◌≤◌, false}
use Rattle.std.specs.List.Sorted.{IsStrictlyIncreasing}
use Rattle.std.proofs.lemmas.Bool.{cases_Bool, true≢false}
use Rattle.std.proofs.lemmas.Bool.Decides.{nat_tests}
use Rattle.std.proofs.lemmas.List.{length-replicate, get_or-replicate, get_or-set_same, get_or-set_other, length-set, map_push}
use Rattle.std.proofs.lemmas.List.Elements.{All-push, All-head, All-tail}
use Rattle.std.proofs.lemmas.List.Quantifiers.{all_pairs_push}
use Rattle.std.proofs.lemmas.List.Sums.{sum_by-set}
use Rattle.lset_words.specs.declared.Call.{Call}
use Rattle.lset_words.specs.declared.Call.TheVariants.{Add, Remove, Contains as IsIn}
use Rattle.lset_words.specs.declared.Key.{Key}
use Rattle.lset_words.specs.declared.Reply.{Reply}
use Rattle.lset_words.specs.declared.Reply.TheVariants.{True, False}
use Rattle.lset_words.specs.declared.history.CallRecord.{CallRecord}
use Rattle.lset_words.specs.declared.history.Placed.{Placed}
use Rattle.lset_words.specs.Words.{Opening}
use Rattle.lset_words.specs.SequentialSet.{SetState, Answered, opening_set, count_of, after_call, set_left, has_key, reply_to, IsLegal}
use Rattle.lset_words.specs.History.{call_numbered, answered, no_call, IsHistory}
use Rattle.lset_words.proofs.Numbers.{equal_test}
use Rattle.lset_words.proofs.IncreasingLists.{IncreasesFrom, same_increasing, increases_from_increasing, increasing_from_increases}
use Rattle.lset_history.proofs.Pairs.{pairs_head, pairs_tail}
use Rattle.lset_history.specs.History.{HistoryValue, latest_moment}
use Rattle.lset_history.proofs.Keys.{has_true, has_from, has_none, with_increases, without_increases}
use Rattle.lset_judge.specs.Verdict.{may_add, puts_in, adds_of, is_plain, IsJudged, IsExplained, IsUnexplained}
use Rattle.lset_judge.specs.Events.{changes, kind_of, kind_if, event_at, rule_explains, RulePasses}
use Rattle.lset_judge.proofs.EventLemmas.{kind}
use Rattle.lset_judge.proofs.PlacedCalls.{IsPlaced, placed_at}
use Rattle.lset_judge.specs.Rule.{may_leave}
use Rattle.lset_judge.proofs.TimelineFromOrder.{rule_refutes}
use Rattle.lset_judge.proofs.OrderFromRule.{order_found, linearizes}

-- ---- Lemmas about a quota (number of successful `add`s) that covers all `add`s of a thread

-- Returns how many keys a call adds for a thread: 1 or 0. `own` is true if the thread makes the call.
abbrev adds : Bool → Call → Reply → ℕ
adds own (Add j) True = if own then 1 else 0
adds own c r = 0

abbrev added : ℕ → List Answered → ℕ
added t [] = 0
added t (x ∷ xs) = adds (x.thread == t) x.call x.reply + added t xs

one_add : (t thread : ℕ) (s : SetState) → t < length s.counts
    → get_or (set s.counts thread (count_of s thread + 1)) t 0 ≡ get_or s.counts t 0 + (if thread == t then 1 else 0)
one_add t thread s inside = elim (cases_Bool (thread == t)) [
  | inl e ↦ (let same : thread ≡ t = grind (arith, nat_tests) in
      subst (λ z. get_or (set s.counts z (count_of s z + 1)) t 0 ≡ get_or s.counts t 0 + (if thread == t then 1 else 0)) (sym same)
      (get_or-set_same s.counts t (count_of s t + 1) 0 inside ∙ rw e refl))
  | inr e ↦ (let other : t ≢ thread = λ f. (let g : (thread == t) ≡ true = grind (arith, nat_tests) in cc) in
      get_or-set_other s.counts thread t (count_of s thread + 1) 0 other ∙ rw e (omega arith))
]

one_call : (t : ℕ) (s : SetState) (thread : ℕ) (c : Call) (r : Reply) → t < length s.counts
    → (count_of (after_call s thread c r) t ≡ count_of s t + adds (thread == t) c r)
    × (length (after_call s thread c r).counts ≡ length s.counts)
one_call t s thread (Add j) True inside = (one_add t thread s inside, length-set s.counts thread (count_of s thread + 1))
one_call t s thread (Remove j) True inside = (omega arith, refl)
one_call t s thread c r inside = (omega arith, refl)

all_calls : (t : ℕ) (s : SetState) (xs : List Answered) → t < length s.counts → count_of (set_left s xs) t ≡ count_of s t + added t xs
all_calls t s [] inside = omega arith
all_calls t s (x ∷ xs) inside =
    let one = one_call t s x.thread x.call x.reply inside in
    let here = one.0 in let same = one.1 in
    let rest = all_calls t (after_call s x.thread x.call x.reply) xs (omega (arith, same, inside)) in
    omega (arith, here, rest)

added_push : (t : ℕ) (xs : List Answered) (a : Answered) → added t (xs ++ a ∷ []) ≡ added t xs + adds (a.thread == t) a.call a.reply
added_push t [] a = omega arith
added_push t (x ∷ xs) a = let rest = added_push t xs a in omega (arith, rest)

-- ---- Lemmas about the sum of the numbers `f x` of all calls x in an order

abbrev tally : (CallRecord → ℕ) → List CallRecord → List Placed → ℕ
tally f calls [] = 0
tally f calls (p ∷ ps) = f (get_or calls p.call no_call) + tally f calls ps

tally_others : (f : CallRecord → ℕ) (calls : List CallRecord) (c : ℕ) (ps : List Placed) → All (λ (p : Placed). c ≢ p.call) ps
    → tally f (set calls c no_call) ps ≡ tally f calls ps
tally_others f calls c [] others = refl
tally_others f calls c (p ∷ ps) others =
    let other : p.call ≢ c = λ e. All-head (λ (p : Placed). c ≢ p.call) p ps others (sym e) in
    let here = ap f (get_or-set_other calls c p.call no_call no_call other) in
    let rest = tally_others f calls c ps (All-tail (λ (p : Placed). c ≢ p.call) p ps others) in
    omega (arith, here, rest)

tally_most : (f : CallRecord → ℕ) → f no_call ≡ 0 → (ps : List Placed) (calls : List CallRecord)
    → All (λ (p : Placed). p.call < length calls) ps → AllPairs (λ (p q : Placed). p.call ≢ q.call) ps → tally f calls ps ≤ sum_by f calls
tally_most f none [] calls known once = omega arith
tally_most f none (p ∷ ps) calls known once =
    let low : p.call < length calls = All-head (λ (p : Placed). p.call < length calls) p ps known in
    let len = length-set calls p.call no_call in
    let rest = tally_most f none ps (set calls p.call no_call)
    (λ k d l. let a = All-tail (λ (p : Placed). p.call < length calls) p ps known k d l in omega (arith, a, len))
    (pairs_tail (λ (p q : Placed). p.call ≢ q.call) p ps once) in
    let same = tally_others f calls p.call ps (pairs_head (λ (p q : Placed). p.call ≢ q.call) p ps once) in
    let all = sum_by-set f calls p.call no_call no_call low in
    omega (arith, none, rest, same, all)

-- ---- Lemmas about the `add`s of a thread

abbrev of_thread : ℕ → CallRecord → ℕ
of_thread t x = cond (may_add x.call x.ended && x.thread == t) 1 0

adds_once : (t : ℕ) (c : Call) (o : Option (ℕ × Reply)) → kind_if c o ≡ changes true
    → (adds (t == t) c True ≡ 1) × IfSome o (λ (e : ℕ × Reply). e.1 ≡ True)
adds_once t (Add k) None d = (rw (equal_test t t refl) refl, tt)
adds_once t c None d = absurd (cc)
adds_once t c (Some e) d = by c e.1 d refl
  where
    by : (c : Call) (r : Reply) → kind_of c r ≡ changes true → e.1 ≡ r → (adds (t == t) c True ≡ 1) × (e.1 ≡ True)
    by (Add k) True d q = (rw (equal_test t t refl) refl, q)
    by (Remove k) True d q = absurd (cc)
    by (IsIn k) True d q = absurd (cc)
    by c r d q = absurd (cc)

added_so : (k : Key) (o : Option (ℕ × Reply)) → IfSome o (λ (e : ℕ × Reply). e.1 ≡ True) → may_add (Add k) o ≡ true
added_so k None h = refl
added_so k (Some e) h = ap (λ r. puts_in (kind_of (Add k) r)) h

adds_most : (own : Bool) (c : Call) (r : Reply) (o : Option (ℕ × Reply)) → IfSome o (λ (e : ℕ × Reply). e.1 ≡ r)
    → adds own c r ≤ cond (may_add c o && own) 1 0
adds_most own (Add j) True o h = rw (added_so j o h) (omega arith)
adds_most own c r o h = omega arith

module _ (calls : List CallRecord) where
  abbrev Replied : Placed → Type 0
  Replied p = IfSome (call_numbered calls p.call).ended (λ (e : ℕ × Reply). e.1 ≡ p.reply)

  added_most : (t : ℕ) (o : List Placed) → All Replied o
      → added t (map (answered calls) o) ≤ tally (of_thread t) calls o
  added_most t [] replies = omega arith
  added_most t (p ∷ ps) replies =
      let x : CallRecord = call_numbered calls p.call in
      let here = adds_most (x.thread == t) x.call p.reply x.ended (All-head Replied p ps replies) in
      let rest = added_most t ps (All-tail Replied p ps replies) in
      omega (arith, here, rest)

  pub has_room : (op : Opening) → ((t : ℕ) → adds_of t calls ≤ op.quota)
      → ((n : ℕ) → n < length calls → (call_numbered calls n).thread < op.threads)
      → (o : List Placed) → All (λ (p : Placed). p.call < length calls) o → AllPairs (λ (p r : Placed). p.call ≢ r.call) o
      → All (λ (p : Placed). IfSome (call_numbered calls p.call).ended (λ (e : ℕ × Reply). e.1 ≡ p.reply)) o
      → (n : ℕ) → n < length calls → (IsPlaced n o → ⊥) → kind (call_numbered calls n) ≡ changes true
      → count_of (set_left (opening_set op) (map (answered calls) o)) (call_numbered calls n).thread < op.quota
  has_room op room of_threads o known once replies n low new is =
      let t : ℕ = (call_numbered calls n).thread in
      let p : Placed = record { call = n; reply = True } in
      let one = adds_once t (call_numbered calls n).call (call_numbered calls n).ended is in
      let some = added_most t (o ++ p ∷ [])
      (All-push (λ (q : Placed). IfSome (call_numbered calls q.call).ended (λ (e : ℕ × Reply). e.1 ≡ q.reply)) o p replies one.1) in
      let all = tally_most (of_thread t) refl (o ++ p ∷ []) calls
      (All-push (λ (q : Placed). q.call < length calls) o p known low)
      (all_pairs_push (λ (q r : Placed). q.call ≢ r.call) o p once (λ k d l e. new (placed_at n k d o l e))) in
      let more : added t (map (answered calls) (o ++ p ∷ [])) ≡ added t (map (answered calls) o) + 1 =
      ap (added t) (map_push (answered calls) o p) ∙ added_push t (map (answered calls) o) (answered calls p)
      ∙ ap (λ w. added t (map (answered calls) o) + w) one.0 in
      let within = of_threads n low in
      let counted = all_calls t (opening_set op) (map (answered calls) o) (omega (arith, length-replicate {A = ℕ} op.threads 0, within)) in
      let none : count_of (opening_set op) t ≡ 0 = get_or-replicate op.threads t 0 0 within in
      let most = room t in
      omega (arith, some, all, more, counted, none, most)

keeps_increasing : (quota thread : ℕ) (s : SetState) (c : Call) (r : Reply) → reply_to quota s thread c ≡ r → IncreasesFrom 0 s.keys
    → IncreasesFrom 0 (after_call s thread c r).keys
keeps_increasing quota thread s (Add k) True e r = elim (cases_Bool (has_key k.0 s.keys)) [
  | inl h ↦ absurd (let f : False ≡ True = rw h at e in cc)
  | inr h ↦ with_increases k.0 0 s.keys r (omega arith) (has_none k.0 s.keys h)
]
keeps_increasing quota thread s (Remove k) True e r = without_increases k.0 0 s.keys r
keeps_increasing quota thread s c q e r = r

left_increasing : (quota : ℕ) (s : SetState) (xs : List Answered) → IsLegal quota s xs → IncreasesFrom 0 s.keys → IncreasesFrom 0 (set_left s xs).keys
left_increasing quota s [] l r = r
left_increasing quota s (x ∷ xs) l r =
    left_increasing quota (after_call s x.thread x.call x.reply) xs l.1 (keeps_increasing quota x.thread s x.call x.reply l.0 r)

within : (xs ys : List ℕ) → ((k : ℕ) → has_key k xs ≡ has_key k ys) → (k : ℕ) → Contains xs k → Contains ys k
within xs ys h k c = has_from k ys (sym (h k) ∙ has_true k xs c)

same_keys : (xs ys : List ℕ) → IncreasesFrom 0 xs → IncreasesFrom 0 ys → ((k : ℕ) → has_key k xs ≡ has_key k ys) → xs ≡ ys
same_keys xs ys r s h = same_increasing 0 0 xs ys r s (within xs ys h) (within ys xs (λ k. sym (h k)))

pub explained_so : (last : ℕ) (h : HistoryValue) (left : ℕ → Bool) → latest_moment h.calls ≤ last → IsHistory h.opening.threads h.calls
    → IsStrictlyIncreasing h.opening.keys → IsJudged h
    → ((k : ℕ) → may_leave (event_at last k h.calls) (has_key k h.opening.keys) (left k) last ≡ true)
    → (keys : List ℕ) × IsExplained h keys × IncreasesFrom 0 keys × ((k : ℕ) → has_key k keys ≡ left k)
explained_so last h left upto history opens judged each =
    let threads : ℕ = h.opening.threads in
    let plain : (n : ℕ) (e : ℕ × Reply) → n < length h.calls → (call_numbered h.calls n).ended ≡ Some e → is_plain (call_numbered h.calls n).call e.1 ≡ true =
    λ n e low s. subst (λ o. IfSome o (λ (f : ℕ × Reply). is_plain (call_numbered h.calls n).call f.1 ≡ true)) s (judged.plain n no_call low) in
    let room = has_room h.calls h.opening judged.room (λ n low. (history.each n no_call low).of_a_thread) in
    let found = order_found threads h.calls history last upto h.opening.quota (opening_set h.opening) plain room left each in
    let l = linearizes threads h.calls history last upto h.opening.quota (opening_set h.opening) plain room found.0 found.1 in
    let increases = left_increasing h.opening.quota (opening_set h.opening) (map (answered h.calls) found.0) l.legal (increases_from_increasing h.opening.keys opens) in (
      (set_left (opening_set h.opening) (map (answered h.calls) found.0)).keys,
      (found.0, record { linearizes = l; keys_left = refl; increasing = increasing_from_increases 0 _ increases }),
      increases,
      found.2,
    )

pub explained : (last : ℕ) (h : HistoryValue) (keys : List ℕ) → latest_moment h.calls ≤ last → IsHistory h.opening.threads h.calls
    → IsStrictlyIncreasing h.opening.keys → IsJudged h → IsStrictlyIncreasing keys → RulePasses last h keys → IsExplained h keys
explained last h keys upto history opens judged increasing each =
    let so = explained_so last h (λ k. has_key k keys) upto history opens judged each in
    subst (IsExplained h) (same_keys so.0 keys so.2 (increases_from_increasing keys increasing) so.3) so.1

pub unexplained : (last : ℕ) (h : HistoryValue) (keys : List ℕ) → latest_moment h.calls ≤ last → IsHistory h.opening.threads h.calls → (k : ℕ)
    → rule_explains last h keys k ≡ false → IsUnexplained h keys
unexplained last h keys upto history k fails order e = true≢false (sym (rule_refutes last h keys order upto history e k) ∙ fails)
