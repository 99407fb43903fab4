-- Proof: if a thread has no pending call, a linearization of a history contains the thread's calls in the order in
-- which the thread made them. Each call follows all calls that ended before it started.
use Rattle.std.proofs.Common.{◌≡◌, ◌≢◌, ◌⊎◌, inl, inr, ⊎_elim, ℕ, zero, suc, ◌+◌, ◌<◌, ◌≤◌, ◌==◌, Bool, true, false, cond, List}
use Rattle.std.proofs.Common.{[], ◌∷◌, ◌++◌, map, length, get_or, Option, Some, None, refl, sym, ap, ◌∙◌, subst, arith}
use Rattle.std.proofs.Common.{append-nil, append_assoc}
use Rattle.std.specs.Prelude.{filter, Contains, AllPairs, IsSomeAnd}
use Rattle.std.specs.List.{AllByRecursion}
use Rattle.std.proofs.lemmas.List.Elements.{recursion_from_All, All-contains_itself}
use Rattle.std.proofs.lemmas.List.{get_or_default, map-append}
use Rattle.std.proofs.lemmas.Bool.{cases_order}
use Rattle.lset_words.proofs.Numbers.{same_or_not, below_or_not, equal_test, unequal_test, same_number}
use Rattle.lset_words.proofs.IncreasingLists.{IncreasesFrom, same_increasing, contains-cons, contains-head, contains-tail, contains-nil}
use Rattle.lset_words.specs.declared.Reply.{Reply}
use Rattle.lset_words.specs.declared.Reply.TheVariants.{True}
use Rattle.lset_words.specs.declared.history.CallRecord.{CallRecord}
use Rattle.lset_words.specs.declared.history.Placed.{Placed}
use Rattle.lset_words.specs.History.{Linearizes, Precedes, answered, call_numbered, no_call}
use Rattle.lset_words.specs.SequentialSet.{SetState, Answered}
use Rattle.lset_history.proofs.Lists.{Pairs, all_filter, all_left, all_both, all_imply, pairs_filter, pairs_imply, filter_none}
use Rattle.lset_rule.specs.declared.view.OwnCall.{OwnCall}
use Rattle.lset_rule.specs.declared.view.Past.{Past, Fresh, Called', Gathered'}
use Rattle.lset_rule.specs.Pasts.{root, InOrder, Apart, IsIn, calls_of}
use Rattle.lset_rule.proofs.RecordsOfRuns.{HasGathered, root_in, none_in}
use Rattle.lset_words.specs.Records.{Follows, Keeps, KeepsItems, calls_by}
use Rattle.lset_rule.specs.Dated.{call_of, record_of}
use Rattle.lset_live.proofs.DatedRecords.{said_by, has_own}
use Rattle.lset_live.proofs.CallsOfThread.{of_thread, ended_record}
use Rattle.lset_rule.proofs.RecordsOfRuns as dated
use Rattle.lset_live.proofs.PastCalls.{EndsBefore, gathered_before, gathered_in, gathered_other, own_is, own_last}

pairs_rec : {X : Type 0} (R : X → X → Type 0) (xs : List X) → AllPairs R xs → Pairs R xs
pairs_rec R [] a = tt
pairs_rec R (x ∷ xs) a = (
  recursion_from_All (R x) xs (λ j d l. a zero (suc j) d (omega arith) (omega arith)),
  pairs_rec R xs (λ i j d l m. a (suc i) (suc j) d (omega arith) (omega arith)),
)

-- Returns the numbers of thread `u`'s calls in a history whose first call has the number `n`.
abbrev numbers_of : ℕ → ℕ → List CallRecord → List ℕ
numbers_of u n [] = []
numbers_of u n (x ∷ xs) = cond (x.thread == u) (n ∷ numbers_of u (suc n) xs) (numbers_of u (suc n) xs)

numbers_increase : (u n m : ℕ) (xs : List CallRecord) → m ≤ n → IncreasesFrom m (numbers_of u n xs)
numbers_increase u n m [] l = tt
numbers_increase u n m (x ∷ xs) l = by_test (x.thread == u) (numbers_increase u (suc n) (n + 1) xs (omega arith))
    (numbers_increase u (suc n) m xs (omega arith))
  where
    by_test : (b : Bool) → IncreasesFrom (n + 1) (numbers_of u (suc n) xs) → IncreasesFrom m (numbers_of u (suc n) xs) →
        IncreasesFrom m (cond b (n ∷ numbers_of u (suc n) xs) (numbers_of u (suc n) xs))
    by_test true h k = (l, h)
    by_test false h k = k

numbers_in : (u n j : ℕ) (xs : List CallRecord) → Contains (numbers_of u n xs) j → (k : ℕ) × (j ≡ n + k) × (k < length xs)
    × ((get_or xs k no_call).thread ≡ u)
numbers_in u n j [] c = absurd (contains-nil j c)
numbers_in u n j (x ∷ xs) c = by_test (x.thread == u) refl (λ d. numbers_in u (suc n) j xs d) c
  where
    further : (k : ℕ) × (j ≡ suc n + k) × (k < length xs) × ((get_or xs k no_call).thread ≡ u) → (k : ℕ) × (j ≡ n + k)
        × (k < length (x ∷ xs)) × ((get_or (x ∷ xs) k no_call).thread ≡ u)
    further (k, e, l, h) = (suc k, omega arith, omega arith, h)

    by_test : (b : Bool) → (x.thread == u) ≡ b → (Contains (numbers_of u (suc n) xs) j → (k : ℕ) × (j ≡ suc n + k)
        × (k < length xs) × ((get_or xs k no_call).thread ≡ u))
        → Contains (cond b (n ∷ numbers_of u (suc n) xs) (numbers_of u (suc n) xs)) j → (k : ℕ) × (j ≡ n + k)
        × (k < length (x ∷ xs)) × ((get_or (x ∷ xs) k no_call).thread ≡ u)
    by_test true e ih d = ⊎_elim (λ (is : n ≡ j). (0, omega arith, omega arith, same_number x.thread u e)) (λ r. further (ih r))
        (contains-cons n j (numbers_of u (suc n) xs) d)
    by_test false e ih d = further (ih d)

in_numbers : (u n k : ℕ) (xs : List CallRecord) → k < length xs → (get_or xs k no_call).thread ≡ u →
    Contains (numbers_of u n xs) (n + k)
in_numbers u n k [] l h = absurd (omega arith)
in_numbers u n zero (x ∷ xs) l h = subst (λ b. Contains (cond b (n ∷ numbers_of u (suc n) xs) (numbers_of u (suc n) xs)) (n + 0))
    (sym (equal_test x.thread u h)) (contains-head n (n + 0) (numbers_of u (suc n) xs) (omega arith))
in_numbers u n (suc k) (x ∷ xs) l h =
    by_test (x.thread == u) (subst (Contains (numbers_of u (suc n) xs)) e (in_numbers u (suc n) k xs (omega arith) h))
  where
    e : suc n + k ≡ n + suc k
    e = omega arith

    by_test : (b : Bool) → Contains (numbers_of u (suc n) xs) (n + suc k) →
        Contains (cond b (n ∷ numbers_of u (suc n) xs) (numbers_of u (suc n) xs)) (n + suc k)
    by_test true c = contains-tail n (n + suc k) (numbers_of u (suc n) xs) c
    by_test false c = c

numbers_map : {Y : Type 0} (g : CallRecord → Y) (u n : ℕ) (xs : List CallRecord) (f : ℕ → CallRecord) →
    ((k : ℕ) → k < length xs → f (n + k) ≡ get_or xs k no_call)
    → map (λ j. g (f j)) (numbers_of u n xs) ≡ map g (of_thread u xs)
numbers_map g u n [] f h = refl
numbers_map g u n (x ∷ xs) f h =
    by_test (x.thread == u) here (numbers_map g u (suc n) xs f (λ k l. ap f (shift k) ∙ h (suc k) (omega arith)))
  where
    here : f n ≡ x
    here = ap f (zeroth n) ∙ h 0 (omega arith)
      where
        zeroth : (n : ℕ) → n ≡ n + 0
        zeroth n = omega arith

    shift : (k : ℕ) → suc n + k ≡ n + suc k
    shift k = omega arith

    by_test : (b : Bool) → f n ≡ x → map (λ j. g (f j)) (numbers_of u (suc n) xs) ≡ map g (of_thread u xs)
        → map (λ j. g (f j)) (cond b (n ∷ numbers_of u (suc n) xs) (numbers_of u (suc n) xs)) ≡ map g
        (cond b (x ∷ of_thread u xs) (of_thread u xs))
    by_test true e ih = λ i. g (e i) ∷ ih i
    by_test false e ih = ih

from_zero : (k : ℕ) → 0 + k ≡ k
from_zero k = omega arith

at_thread : (P : CallRecord → Type 0) (u k : ℕ) (xs : List CallRecord) → AllByRecursion P (of_thread u xs) → k < length xs →
    (get_or xs k no_call).thread ≡ u → P (get_or xs k no_call)
at_thread P u k [] a l h = absurd (omega arith)
at_thread P u zero (x ∷ xs) a l h =
    (subst (λ b. AllByRecursion P (cond b (x ∷ of_thread u xs) (of_thread u xs))) (equal_test x.thread u h) a).0
at_thread P u (suc k) (x ∷ xs) a l h = at_thread P u k xs (by_test (x.thread == u) a) (omega arith) h
  where
    by_test : (b : Bool) → AllByRecursion P (cond b (x ∷ of_thread u xs) (of_thread u xs)) → AllByRecursion P (of_thread u xs)
    by_test true a = a.1
    by_test false a = a

-- Returns the reply of a call that has ended. For a pending call (`None`), returns `True` as a default.
abbrev pub reply_in : Option (ℕ × Reply) → Reply
reply_in None = True
reply_in (Some e) = e.1

abbrev pub said : CallRecord → Answered
said x = record { thread = x.thread; call = x.call; reply = reply_in x.ended }

abbrev IsEnded : CallRecord → Type 0
IsEnded x = (e : ℕ × Reply) × (x.ended ≡ Some e)

all_ended : (u : ℕ) (ds : List OwnCall) → AllByRecursion IsEnded (map (ended_record u) ds)
all_ended u [] = tt
all_ended u (d ∷ ds) = (((d.ended, d.reply), refl), all_ended u ds)

pub map_said : (u : ℕ) (ds : List OwnCall) → map said (map (ended_record u) ds) ≡ map (said_by u) ds
map_said u [] = refl
map_said u (d ∷ ds) = ap (λ l. said_by u d ∷ l) (map_said u ds)

-- Returns whether the entry `p` of an order is a call of thread `u`.
abbrev of_placed : List CallRecord → ℕ → Placed → Bool
of_placed H u p = (call_numbered H p.call).thread == u

calls_by_map : (H : List CallRecord) (u : ℕ) (P : List Placed) →
    calls_by u (map (answered H) P) ≡ map (answered H) (filter (of_placed H u) P)
calls_by_map H u [] = refl
calls_by_map H u (p ∷ P) = by_test (of_placed H u p) (calls_by_map H u P)
  where
    by_test : (b : Bool) → calls_by u (map (answered H) P) ≡ map (answered H) (filter (of_placed H u) P)
        → cond b (answered H p ∷ calls_by u (map (answered H) P)) (calls_by u (map (answered H) P)) ≡ map (answered H)
        (cond b (p ∷ filter (of_placed H u) P) (filter (of_placed H u) P))
    by_test true ih = ap (λ l. answered H p ∷ l) ih
    by_test false ih = ih

map_answered : (H : List CallRecord) (F : List Placed) →
    AllByRecursion (λ (p : Placed). answered H p ≡ said (call_numbered H p.call)) F
    → map (answered H) F ≡ map said (map (λ (p : Placed). call_numbered H p.call) F)
map_answered H [] a = refl
map_answered H (p ∷ F) a = λ i. a.0 i ∷ map_answered H F a.1 i

increases_by : (lo : ℕ) (F : List Placed) → AllByRecursion (λ (p : Placed). lo ≤ p.call) F →
    Pairs (λ (p r : Placed). p.call < r.call) F → IncreasesFrom lo (map (λ (p : Placed). p.call) F)
increases_by lo [] a b = tt
increases_by lo (p ∷ F) a b = (
  a.0,
  increases_by (p.call + 1) F (all_imply (λ (r : Placed). p.call < r.call) (λ (r : Placed). p.call + 1 ≤ r.call)
      (λ r l. omega arith) F b.0) b.1,
)

all_zero : (F : List Placed) → AllByRecursion (λ (p : Placed). 0 ≤ p.call) F
all_zero [] = tt
all_zero (p ∷ F) = (omega arith, all_zero F)

contains_call : (P : List Placed) (p : Placed) → Contains P p → Contains (map (λ (r : Placed). r.call) P) p.call
contains_call [] p c = let l : c.0 < 0 = c.1 in absurd (omega arith)
contains_call (x ∷ P) p (zero, l, e) = contains-head x.call p.call (map (λ (r : Placed). r.call) P)
    (ap (λ (r : Placed). r.call) e)
contains_call (x ∷ P) p (suc k, l, e) = contains-tail x.call p.call (map (λ (r : Placed). r.call) P)
    (contains_call P p (k, omega arith, e))

contains_left : (b : Placed → Bool) (P : List Placed) (p : Placed) → Contains P p → b p ≡ true → Contains (filter b P) p
contains_left b [] p c t = let l : c.0 < 0 = c.1 in absurd (omega arith)
contains_left b (x ∷ P) p (zero, l, e) t = subst (λ z. Contains (cond z (x ∷ filter b P) (filter b P)) p) (sym (ap b e ∙ t)) (
  0,
  omega arith,
  e,
)
contains_left b (x ∷ P) p (suc k, l, e) t = by_test (b x) (contains_left b P p (k, omega arith, e) t)
  where
    by_test : (z : Bool) → Contains (filter b P) p → Contains (cond z (x ∷ filter b P) (filter b P)) p
    by_test true (j, m, h) = (suc j, omega arith, h)
    by_test false c = c

contains_in : (F : List Placed) (Q : Placed → Type 0) (j : ℕ) → AllByRecursion Q F → Contains (map (λ (r : Placed). r.call) F) j →
    (p : Placed) × Q p × (p.call ≡ j)
contains_in [] Q j a c = absurd (contains-nil j c)
contains_in (x ∷ F) Q j a c = ⊎_elim (λ e. (x, a.0, e)) (λ d. contains_in F Q j a.1 d)
    (contains-cons x.call j (map (λ (r : Placed). r.call) F) c)

all_passing : (Q : Placed → Type 0) (b : Placed → Bool) (P : List Placed) → AllByRecursion Q P →
    AllByRecursion (λ p. Q p × (b p ≡ true)) (filter b P)
all_passing Q b P a = all_both Q (λ p. b p ≡ true) (filter b P) (all_filter Q b P a) (all_left b P)

-- Assumptions of the lemmas below: `P` is a linearization of the history `H`, and the calls of each thread do not
-- overlap.
module _ (q : ℕ) (s : SetState) (H : List CallRecord) (P : List Placed) (L : Linearizes q s H P)
    (turns : (i j : ℕ) → i < j → j < length H → (call_numbered H i).thread ≡ (call_numbered H j).thread → Precedes (call_numbered H i) (call_numbered H j)) where
  abbrev rec_of : Placed → CallRecord
  rec_of p = call_numbered H p.call

  one_place : (a b : Placed) → Contains P a → Contains P b → a.call ≡ b.call → a ≡ b
  one_place a b (i, l, e) (j, m, h) same =
      ⊎_elim (λ (is : i ≡ j). sym e ∙ (get_or_default P i a b l ∙ (ap (λ k. get_or P k b) is ∙ h)))
      (λ (ne : (i < j) ⊎ (j < i)). ⊎_elim
      (λ lt. absurd (L.once i j a lt m (ap (λ (p : Placed). p.call) e
      ∙ (same ∙ ap (λ (p : Placed). p.call) (sym (get_or_default P j a b m ∙ h))))))
      (λ lt. absurd (L.once j i b lt l (ap (λ (p : Placed). p.call) h
      ∙ (sym same ∙ ap (λ (p : Placed). p.call) (sym (get_or_default P i b a l ∙ e))))))
      ne) (cases_order i j)

  -- Holds if `p` is an entry of the order `P`, and the call of `p` is in the history `H`.
  abbrev There : Placed → Type 0
  There p = (p.call < length H) × Contains P p

  all_there : AllByRecursion There P
  all_there = all_both (λ (p : Placed). p.call < length H) (Contains P) P
      (recursion_from_All (λ (p : Placed). p.call < length H) P L.known)
      (recursion_from_All (Contains P) P (All-contains_itself P))

  abbrev Ordered : Placed → Placed → Type 0
  Ordered p r = (p.call ≢ r.call) × (Precedes (rec_of r) (rec_of p) → ⊥)

  all_ordered : Pairs Ordered P
  all_ordered = pairs_rec Ordered P (λ i j d l m. (L.once i j d l m, L.in_time i j d l m))

  module _ (u : ℕ) (D : List OwnCall) (own : of_thread u H ≡ map (ended_record u) D) where
    abbrev F : List Placed
    F = filter (of_placed H u) P

    ended_all : AllByRecursion IsEnded (of_thread u H)
    ended_all = subst (AllByRecursion IsEnded) (sym own) (all_ended u D)

    ended_at : (j : ℕ) → j < length H → (call_numbered H j).thread ≡ u → IsEnded (call_numbered H j)
    ended_at j l h = at_thread IsEnded u j H ended_all l h

    pub right_reply : (p : Placed) → There p → of_placed H u p ≡ true → answered H p ≡ said (rec_of p)
    right_reply p there t =
        let e = ended_at p.call there.0 (same_number (rec_of p).thread u t) in
        let at = L.ended p.call e.0.0 e.0.1 there.0 e.1 in
        let is = one_place p (record { call = p.call; reply = e.0.1 }) there.1 at refl in
        (λ i. record { thread = (rec_of p).thread; call = (rec_of p).call; reply = (is i).reply })
        ∙ (λ i. record { thread = (rec_of p).thread; call = (rec_of p).call; reply = reply_in (sym e.1 i) })

    increasing : IncreasesFrom 0 (map (λ (p : Placed). p.call) F)
    increasing = increases_by 0 F (all_zero F) (pairs_imply (λ p. There p × (of_placed H u p ≡ true)) Ordered
        (λ (p r : Placed). p.call < r.call) ordered F (all_passing There (of_placed H u) P all_there)
        (pairs_filter Ordered (of_placed H u) P all_ordered))
      where
        ordered : (p r : Placed) → There p × (of_placed H u p ≡ true) → There r × (of_placed H u r ≡ true) → Ordered p r →
            p.call < r.call
        ordered p r a b o = ⊎_elim (λ lt. lt) (λ le. let ne : p.call ≢ r.call = o.0 in
            absurd (o.1 (turns r.call p.call (omega arith) a.0.0 (same_number (rec_of r).thread u b.1
            ∙ sym (same_number (rec_of p).thread u a.1))))) (below_or_not p.call r.call)

    numbers : map (λ (p : Placed). p.call) F ≡ numbers_of u 0 H
    numbers = same_increasing 0 0 (map (λ (p : Placed). p.call) F) (numbers_of u 0 H) increasing (numbers_increase u 0 0 H (omega arith))
        there back
      where
        there : (j : ℕ) → Contains (map (λ (p : Placed). p.call) F) j → Contains (numbers_of u 0 H) j
        there j c = let r = contains_in F (λ p. There p × (of_placed H u p ≡ true)) j
            (all_passing There (of_placed H u) P all_there) c in
            subst (Contains (numbers_of u 0 H)) (from_zero r.0.call ∙ r.2)
            (in_numbers u 0 r.0.call H r.1.0.0 (same_number (rec_of r.0).thread u r.1.1))

        back : (j : ℕ) → Contains (numbers_of u 0 H) j → Contains (map (λ (p : Placed). p.call) F) j
        back j c = let r = numbers_in u 0 j H c in
            let is : r.0 ≡ j = let e = r.1 in omega arith in
            let low : j < length H = subst (λ z. z < length H) is r.2 in
            let of_u : (call_numbered H j).thread ≡ u = subst (λ z. (call_numbered H z).thread ≡ u) is r.3 in
            let e = ended_at j low of_u in
            contains_call F (record { call = j; reply = e.0.1 })
            (contains_left (of_placed H u) P (record { call = j; reply = e.0.1 }) (L.ended j e.0.0 e.0.1 low e.1)
            (equal_test (call_numbered H j).thread u of_u))

    map_calls : (G : List Placed) → map rec_of G ≡ map (λ j. call_numbered H j) (map (λ (p : Placed). p.call) G)
    map_calls [] = refl
    map_calls (p ∷ G) = ap (λ l. rec_of p ∷ l) (map_calls G)

    same_list : {X : Type 0} (l : List X) → map (λ x. x) l ≡ l
    same_list [] = refl
    same_list (x ∷ l) = ap (λ z. x ∷ z) (same_list l)

    pub records : map rec_of F ≡ map (ended_record u) D
    records = map_calls F ∙ (ap (map (λ j. call_numbered H j)) numbers
        ∙ (numbers_map (λ (x : CallRecord). x) u 0 H (λ j. call_numbered H j) (λ k l. ap (λ j. call_numbered H j) (from_zero k))
        ∙ (same_list (of_thread u H) ∙ own)))

    replies : AllByRecursion (λ (p : Placed). answered H p ≡ said (rec_of p)) F
    replies = all_imply (λ p. There p × (of_placed H u p ≡ true)) (λ (p : Placed). answered H p ≡ said (rec_of p))
        (λ p a. right_reply p a.0 a.1) F (all_passing There (of_placed H u) P all_there)

    pub calls_by_is : calls_by u (map (answered H) P) ≡ map (said_by u) D
    calls_by_is = calls_by_map H u P ∙ (map_answered H F replies ∙ (ap (map said) records ∙ map_said u D))

    pub all_replies : AllByRecursion (λ (p : Placed). answered H p ≡ said (rec_of p)) F
    all_replies = replies

-- ---- Lemmas about the position of a call in the order
abbrev tail_of : List CallRecord → List CallRecord
tail_of [] = []
tail_of (x ∷ xs) = xs

abbrev head_of : CallRecord → List CallRecord → CallRecord
head_of d [] = d
head_of d (x ∷ xs) = x

record Stood (Q : Placed → Type 0) (f : Placed → CallRecord) (b : Placed → Bool) (g : OwnCall → CallRecord) (P : List Placed) (X : List OwnCall) (c : OwnCall) : Type 0 where
  before : List Placed
  here : Placed
  after : List Placed
  is : P ≡ before ++ here ∷ after
  there : Q here
  call : f here ≡ g c
  earlier : map f (filter b before) ≡ map g X
  early : AllByRecursion Q (filter b before)

module _ (Q : Placed → Type 0) (f : Placed → CallRecord) (b : Placed → Bool) (g : OwnCall → CallRecord) where
  split_at : (P : List Placed) (X : List OwnCall) (c : OwnCall) (Y : List OwnCall) → AllByRecursion Q (filter b P) →
      map f (filter b P) ≡ map g (X ++ c ∷ Y) → Stood Q f b g P X c
  split_at [] [] c Y a e = let l = ap length e in absurd (omega arith)
  split_at [] (x ∷ X) c Y a e = let l = ap length e in absurd (omega arith)
  split_at (p ∷ P) X c Y a e = by_test (b p) refl X (λ X' a' e'. split_at P X' c Y a' e') a e
    where
      by_test : (z : Bool) → b p ≡ z → (X : List OwnCall) →
          ((X' : List OwnCall) → AllByRecursion Q (filter b P) → map f (filter b P) ≡ map g (X' ++ c ∷ Y) → Stood Q f b g P X' c)
          → AllByRecursion Q (cond z (p ∷ filter b P) (filter b P)) → map f (cond z (p ∷ filter b P) (filter b P)) ≡ map g (X ++ c
          ∷ Y) → Stood Q f b g (p ∷ P) X c
      by_test false t X ih a e = let r = ih X a e in record {
        before = p ∷ r.before;
        here = r.here;
        after = r.after;
        is = ap (λ l. p ∷ l) r.is;
        there = r.there;
        call = r.call;
        earlier = ap (λ z. map f (cond z (p ∷ filter b r.before) (filter b r.before))) t ∙ r.earlier;
        early = subst (λ z. AllByRecursion Q (cond z (p ∷ filter b r.before) (filter b r.before))) (sym t) r.early;
      }
      by_test true t [] ih a e = record {
        before = [];
        here = p;
        after = P;
        is = refl;
        there = a.0;
        call = ap (head_of (f p)) e;
        earlier = refl;
        early = tt;
      }
      by_test true t (x ∷ X) ih a e = let r = ih X a.1 (ap tail_of e) in let h : f p ≡ g x = ap (head_of (f p)) e in record {
        before = p ∷ r.before;
        here = r.here;
        after = r.after;
        is = ap (λ l. p ∷ l) r.is;
        there = r.there;
        call = r.call;
        earlier = ap (λ z. map f (cond z (p ∷ filter b r.before) (filter b r.before))) t ∙ (λ i. h i ∷ r.earlier i);
        early = subst (λ z. AllByRecursion Q (cond z (p ∷ filter b r.before) (filter b r.before))) (sym t) (a.0, r.early);
      }

all_after : (Q : Placed → Type 0) (X : List Placed) (p : Placed) (Y : List Placed) → AllByRecursion Q (X ++ p ∷ Y) →
    AllByRecursion Q Y
all_after Q [] p Y a = a.1
all_after Q (x ∷ X) p Y a = all_after Q X p Y a.1

pairs_after : (R : Placed → Placed → Type 0) (X : List Placed) (p : Placed) (Y : List Placed) → Pairs R (X ++ p ∷ Y) →
    AllByRecursion (R p) Y
pairs_after R [] p Y a = a.0
pairs_after R (x ∷ X) p Y a = pairs_after R X p Y a.1

abbrev pub EndedBefore : ℕ → CallRecord → Type 0
EndedBefore n x = IsSomeAnd x.ended (λ (e : ℕ × Reply). e.0 < n)

module _ (q : ℕ) (s : SetState) (H : List CallRecord) (P : List Placed) (L : Linearizes q s H P)
    (turns : (i j : ℕ) → i < j → j < length H → (call_numbered H i).thread ≡ (call_numbered H j).thread → Precedes (call_numbered H i) (call_numbered H j)) where
  module _ (r : Past) (D : List OwnCall) (own : of_thread (root r) H ≡ map (ended_record (root r)) D) (c : OwnCall)
      (Y : List OwnCall) (is : D ≡ dated.own_calls r ++ c ∷ Y)
      (late : (v : ℕ) → HasGathered v r → AllByRecursion (EndedBefore c.begun) (of_thread v H)) where
    st : Stood (λ (p : Placed). answered H p ≡ said (call_numbered H p.call)) (λ (p : Placed). call_numbered H p.call)
        (of_placed H (root r)) (ended_record (root r)) P (dated.own_calls r) c
    st = split_at (λ (p : Placed). answered H p ≡ said (call_numbered H p.call)) (λ (p : Placed). call_numbered H p.call)
        (of_placed H (root r)) (ended_record (root r)) P (dated.own_calls r) c Y
        (all_replies q s H P L turns (root r) D own) (records q s H P L turns (root r) D own
        ∙ ap (map (ended_record (root r))) is)

    none : (v : ℕ) → AllByRecursion (EndedBefore c.begun) (of_thread v H) → AllByRecursion (λ p. of_placed H v p ≡ false) st.after
    none v ended = all_imply (λ p. There q s H P L turns p × Ordered q s H P L turns st.here p) (λ p. of_placed H v p ≡ false)
        other st.after
        (all_both (There q s H P L turns) (Ordered q s H P L turns st.here) st.after
        (all_after (There q s H P L turns) st.before st.here st.after
        (subst (AllByRecursion (There q s H P L turns)) st.is (all_there q s H P L turns)))
        (pairs_after (Ordered q s H P L turns) st.before st.here st.after
        (subst (Pairs (Ordered q s H P L turns)) st.is (all_ordered q s H P L turns))))
      where
        other : (p : Placed) → There q s H P L turns p × Ordered q s H P L turns st.here p → of_placed H v p ≡ false
        other p a = ⊎_elim (λ (y : (call_numbered H p.call).thread ≡ v).
            absurd (a.1.1 (subst (λ n. EndedBefore n (call_numbered H p.call)) (sym (ap (λ (x : CallRecord). x.begun) st.call))
            (at_thread (EndedBefore c.begun) v p.call H ended a.0.0 y))))
            (λ (n : (call_numbered H p.call).thread ≢ v). unequal_test (call_numbered H p.call).thread v n)
            (same_or_not (call_numbered H p.call).thread v)

    pub follows : Follows (map (answered H) P) (record_of r) (call_of c)
    follows = record {
      before = map (answered H) st.before;
      after = map (answered H) st.after;
      is = ap (map (answered H)) st.is
          ∙ (map-append (answered H) st.before (st.here ∷ st.after)
          ∙ (λ i. map (answered H) st.before ++ (st.there ∙ ap said st.call) i ∷ map (answered H) st.after));
      own = has_own (map (answered H) st.before) r (calls_by_map H (root r) st.before
          ∙ (map_answered H (filter (of_placed H (root r)) st.before) st.early
          ∙ (ap (map said) st.earlier ∙ map_said (root r) (dated.own_calls r))));
      gathered_before = λ v n. calls_by_map H v st.after
          ∙ ap (map (answered H)) (filter_none (of_placed H v) st.after (none v (late v n)));
    }

ended_records : (n v : ℕ) (ds : List OwnCall) → AllByRecursion (EndsBefore n) ds →
    AllByRecursion (EndedBefore n) (map (ended_record v) ds)
ended_records n v [] a = tt
ended_records n v (d ∷ ds) a = (a.0, ended_records n v ds a.1)

-- ---- Lemmas about the order of the calls in a seat's record
module _ (q : ℕ) (s : SetState) (H : List CallRecord) (P : List Placed) (L : Linearizes q s H P)
    (turns : (i j : ℕ) → i < j → j < length H → (call_numbered H i).thread ≡ (call_numbered H j).thread → Precedes (call_numbered H i) (call_numbered H j)) (D : ℕ → List OwnCall) where
  keeps_items : (r : Past) → Apart r → InOrder r → ((u : ℕ) → IsIn u r → of_thread u H ≡ map (ended_record u) (D u)) →
      ((u : ℕ) → HasGathered u r → D u ≡ calls_of u r)
      → (rest : List OwnCall) → D (root r) ≡ dated.own_calls r ++ rest → KeepsItems (map (answered H) P) (record_of r)
  keeps_items (Fresh t) a o own gat rest is = tt
  keeps_items (Called' p r c) a o own gat rest is =
      let is' : D (root r) ≡ dated.own_calls r ++ c ∷ rest = is ∙ append_assoc (dated.own_calls r) (c ∷ []) rest in
      let gat' : (u : ℕ) → HasGathered u r → D u ≡ calls_of u r = λ u h. gat u h ∙ own_last u r c (gathered_other u r a h) in (
        keeps_items r a o.0 own gat' (c ∷ rest) is',
        follows q s H P L turns r (D (root r)) (own (root r) (root_in r)) c rest is'
            (λ v h. subst (AllByRecursion (EndedBefore c.begun))
            (sym (own v (gathered_in v r h) ∙ ap (map (ended_record v)) (gat' v h)))
            (ended_records c.begun v (calls_of v r) (gathered_before c.begun v r a h o.1))),
      )
  keeps_items (Gathered' p r q' g) a o own gat rest is =
      let of_g : D (root g) ≡ dated.own_calls g = gat (root g) (inr (root_in g))
      ∙ (ap (λ l. l ++ calls_of (root g) g) (none_in (root g) r (λ k. a.2 (root g) k (root_in g))) ∙ own_is g a.1) in (
        keeps_items r a.0 o.0 (λ u h. own u (inl h)) (λ u h. gat u (inl h)
            ∙ (ap (λ l. calls_of u r ++ l) (none_in u g (λ k. a.2 u (gathered_in u r h) k)) ∙ append-nil (calls_of u r))) rest is,
        has_own (map (answered H) P) g (calls_by_is q s H P L turns (root g) (D (root g)) (own (root g) (inr (root_in g)))
            ∙ ap (map (said_by (root g))) of_g),
        keeps_items g a.1 o.1 (λ u h. own u (inr h)) (λ u h. gat u (inr (gathered_in u g h))
            ∙ ap (λ l. l ++ calls_of u g) (none_in u r (λ k. a.2 u k (gathered_in u g h)))) [] (of_g
            ∙ sym (append-nil (dated.own_calls g))),
      )

  pub keeps : (r : Past) → Apart r → InOrder r → ((u : ℕ) → IsIn u r → of_thread u H ≡ map (ended_record u) (D u)) →
      ((u : ℕ) → D u ≡ calls_of u r) → Keeps (map (answered H) P) (record_of r)
  keeps r a o own is = (
    has_own (map (answered H) P) r (calls_by_is q s H P L turns (root r) (D (root r)) (own (root r) (root_in r))
        ∙ ap (map (said_by (root r))) (is (root r) ∙ own_is r a)),
    keeps_items r a o own (λ u h. is u) [] (is (root r) ∙ (own_is r a ∙ sym (append-nil (dated.own_calls r)))),
  )
