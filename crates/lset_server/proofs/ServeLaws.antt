-- Lemmas about the workers of a server: what each worker has received and called, and the sums over all workers.
use Rattle.std.proofs.Common.{◌≡◌, ◌≢◌, ℕ, zero, suc, ◌+◌, ◌-◌, ◌*◌, ◌<◌, ◌≤◌, eqb, List, [], ◌∷◌, ◌++◌, length, map, sum_by, Option, None}
use Rattle.std.proofs.Common.{refl, sym, ap, ◌∙◌, subst, append_assoc, append-nil, arith, length-append, true, false, ⊎_elim}
use Rattle.std.proofs.lemmas.Bool.{ne_eqb, eq-eqb}
use Rattle.std.proofs.lemmas.Bool.Decides.{eqb_tells}
use Rattle.std.proofs.lemmas.List.{length-map}
use Rattle.std.proofs.lemmas.List.Sums.{sum_by-cons}
use Rattle.lset_words.specs.Records.{Record, CallMade, with_calls}
use Rattle.lset_live.specs.Seats.{SeatValue, gather_onto}
use Rattle.lset_words.proofs.RecordLaws.{with_calls-append}
use Rattle.lset_live.proofs.GatheredRecords.{gather_more}
use Rattle.lset_session.specs.declared.TheConstants.{MOST_LINES}
use Rattle.lset_words.specs.declared.TheConstants.{MOST_THREADS}
use Rattle.lset_server.specs.declared.channel.TheConstants.{PARTS}
use Rattle.lset_server.specs.declared.channel.Tally.{Tally}
use Rattle.lset_server.specs.Tallies.{tally, weigh, one_at, times, numbers_below, ReceivedOnce}
use Rattle.lset_server.specs.Serving.{followed, HasGathered}
use Rattle.lset_server.specs.Workers.{HasWorked, HaveWorked}
use Rattle.lset_server.proofs.BalanceKept.{weigh-append}

-- ---- Lemmas about a single worker thread

pub worked_more : (s s1 s2 : SeatValue) (v v' : Tally) (n m k number : ℕ) → HasWorked s s1 v n m
    → v' ≡ tally v.parts v.sent (v.received ++ number ∷ []) → s2.held ≡ s1.held
    → ((added : List CallMade) × (s2.past ≡ with_calls s1.past added) × (k ≡ length added)) → HasWorked s s2 v' (n + 1) (m + k)
worked_more s s1 s2 v v' n m k number b e same (more, recorded, count) = record {
  received = b.received ++ number ∷ [];
  view = e ∙ ap (λ (u : Tally). tally u.parts u.sent (u.received ++ number ∷ [])) b.view;
  number = omega (arith, b.number, length-append b.received (number ∷ []));
  added = b.added ++ more;
  recorded = recorded ∙ ap (λ (q : Record). with_calls q more) b.recorded ∙ sym (with_calls-append s.past b.added more);
  count = omega (arith, b.count, count, length-append b.added more);
  held = same ∙ b.held;
}

-- ---- Lemmas about the thread that sends connections to the workers

length-numbers : (n : ℕ) → length (numbers_below n) ≡ n
length-numbers zero = refl
length-numbers (suc n) = omega (arith, length-append (numbers_below n) (n ∷ []), length-numbers n)

pub part_more : (v u u' : Tally) (n m : ℕ) → u ≡ tally (v.parts - n) v.sent v.received →
    u' ≡ tally (u.parts - 1) u.sent u.received → m ≡ n + 1
    → u' ≡ tally (v.parts - m) v.sent v.received
part_more v u u' n m e f more =
    let parts : (v.parts - n) - 1 ≡ v.parts - m = omega (arith, more) in
    f ∙ ap (λ (x : Tally). tally (x.parts - 1) x.sent x.received) e ∙ ap (λ p. tally p v.sent v.received) parts

-- ---- Lemmas about starting and joining the workers

followed_more : (rs : List Record) (css : List (List CallMade)) (r : Record) (cs : List CallMade) → length css ≡ length rs
    → followed (rs ++ r ∷ []) (css ++ cs ∷ []) ≡ followed rs css ++ with_calls r cs ∷ []
followed_more [] [] r cs e = refl
followed_more [] (ds ∷ css) r cs e = absurd (omega (arith, e))
followed_more (q ∷ rs) [] r cs e = absurd (omega (arith, e))
followed_more (q ∷ rs) (ds ∷ css) r cs e = ap (λ l. with_calls q ds ∷ l) (followed_more rs css r cs (omega (arith, e)))

sum_lengths : (css : List (List CallMade)) (cs : List CallMade) → sum_by (λ l. length l) (css ++ cs ∷ []) ≡ sum_by (λ l. length l)
    css + length cs
sum_lengths [] cs = omega (arith, sum_by-cons (λ (l : List CallMade). length l) cs [])
sum_lengths (ds ∷ css) cs =
    omega (
      arith,
      sum_by-cons (λ (l : List CallMade). length l) ds (css ++ cs ∷ []),
      sum_by-cons (λ (l : List CallMade). length l) ds css,
      sum_lengths css cs,
    )

same_tally : (p p' : ℕ) (a a' t t' : List ℕ) → p ≡ p' → a ≡ a' → t ≡ t' → tally p a t ≡ tally p' a' t'
same_tally p p' a a' t t' e f g = ap (λ x. tally x a t) e ∙ ap (λ x. tally p' x t) f ∙ ap (λ x. tally p' a' x) g

pub joined_none : {H : Type 0} (f : H → Record) (hs hs' : List H) (v : Tally) → hs' ≡ hs
    → (done : List Record) × (done ++ map f hs' ≡ map f hs) × HaveWorked done None v v (length done) 0 0
joined_none f hs hs' v e = (
  [],
  ap (map f) e,
  record {
    added = [];
    each = refl;
    count = refl;
    end_is = refl;
    received = [];
    view = same_tally v.parts (v.parts + 0) v.sent v.sent v.received (v.received ++ []) (omega arith) refl
        (sym (append-nil v.received));
    number = refl;
  },
)

pub joined_next : {H : Type 0} (f : H → Record) (hs rest rest' : List H) (h : H) (s s' : SeatValue) (end end' : Option Record)
    (v u u' w : Tally) (n m k c : ℕ)
    → rest ≡ h ∷ rest' → ((done : List Record) × (done ++ map f rest ≡ map f hs) × HaveWorked done end v u (length done) n m) →
    f h ≡ s.past
    → HasWorked s s' w k c → u' ≡ tally (u.parts + w.parts) (u.sent ++ w.sent) (u.received ++ w.received) →
    end' ≡ gather_onto end (s'.past ∷ [])
    → (done : List Record) × (done ++ map f rest' ≡ map f hs) × HaveWorked done end' v u' (length done) (n + k) (m + c)
joined_next f hs rest rest' h s s' end end' v u u' w n m k c step (done, split, j) is b both more = (
  done ++ f h ∷ [],
  append_assoc done (f h ∷ []) (map f rest') ∙ ap (λ l. done ++ map f l) (sym step) ∙ split,
  record {
    added = j.added ++ b.added ∷ [];
    each = omega (arith, j.each, length-append j.added (b.added ∷ []), length-append done (f h ∷ []));
    count = omega (arith, j.count, b.count, sum_lengths j.added b.added);
    end_is = more ∙ ap (λ o. gather_onto o (s'.past ∷ [])) j.end_is ∙ sym (gather_more None (followed done j.added) s'.past)
        ∙ ap (λ q. gather_onto None (followed done j.added ++ q ∷ [])) (b.recorded ∙ ap (λ q. with_calls q b.added) (sym is))
        ∙ ap (gather_onto None) (sym (followed_more done j.added (f h) b.added j.each));
    received = j.received ++ b.received;
    view = both ∙ ap (λ (x : Tally). tally (x.parts + w.parts) (x.sent ++ w.sent) (x.received ++ w.received)) j.view
        ∙ ap (λ (x : Tally). tally ((v.parts + length done) + x.parts) (v.sent ++ x.sent) ((v.received ++ j.received)
        ++ x.received)) b.view
        ∙ same_tally ((v.parts + length done) + 1) (v.parts + length (done ++ f h ∷ [])) (v.sent ++ []) v.sent
        ((v.received ++ j.received) ++ b.received)
        (v.received ++ (j.received ++ b.received)) (omega (arith, length-append done (f h ∷ []))) (append-nil v.sent)
        (append_assoc v.received j.received b.received);
    number = omega (arith, j.number, b.number, length-append j.received b.received);
  },
)

pub bound_none : (most n total : ℕ) → n ≡ total → 0 + most * n ≤ most * total
bound_none most n total e = let same : most * n ≡ most * total = ap (λ k. most * k) e in omega (arith, same)

pub bound_next : (s d most n n' total : ℕ) → s + most * n ≤ total → n ≡ n' + 1 → d ≤ most → s + d + most * n' ≤ total
bound_next s d most n n' total h e small =
    let full : s + most * (n' + 1) ≤ total = subst (λ x. s + most * x ≤ total) e h in
    omega (arith, full, small)

pub bound_next' : (s d most n n' total : ℕ) → s + MOST_LINES * (most * n) ≤ total → n ≡ n' + 1 → d ≤ MOST_LINES * most →
    s + d + MOST_LINES * (most * n') ≤ total
bound_next' s d most n n' total h e small =
    let full : s + MOST_LINES * (most * (n' + 1)) ≤ total = subst (λ x. s + MOST_LINES * (most * x) ≤ total) e h in
    omega (arith, full, small)

-- ---- Lemmas about the whole server

pub as_many : {H T : Type 0} (seat_of : H → T) (hs : List H) (ss : List T) → map seat_of hs ≡ ss → length hs ≡ length ss
as_many seat_of hs ss e = sym (length-map hs seat_of) ∙ ap (λ l. length l) e

pub whole_again : (n many : ℕ) (v u x y : Tally) (received : List ℕ) (k : ℕ) → v ≡ tally PARTS [] [] → n ≤ MOST_THREADS →
    u ≡ tally (v.parts - n) v.sent v.received
    → x ≡ tally u.parts (u.sent ++ numbers_below many) u.received → k ≡ n →
    y ≡ tally (x.parts + k) x.sent (x.received ++ received)
    → y ≡ tally PARTS (numbers_below many) received
whole_again n many v u x y received k a few b c e f =
    let xv : x ≡ tally (PARTS - n) (numbers_below many) [] =
    c ∙ ap (λ (z : Tally). tally z.parts (z.sent ++ numbers_below many) z.received) (b
    ∙ ap (λ (z : Tally). tally (z.parts - n) z.sent z.received) a) in
    f ∙ ap (λ (z : Tally). tally (z.parts + k) z.sent (z.received ++ received)) xv
    ∙ ap (λ p. tally p (numbers_below many) received) (omega (arith, few, e))

weigh-one : (xs : List ℕ) → weigh (λ _. 1) xs ≡ length xs
weigh-one [] = refl
weigh-one (x ∷ xs) = omega (arith, weigh-one xs)

no_weight : (h : ℕ → ℕ) (xs : List ℕ) → length xs ≡ 0 → weigh h xs ≡ 0
no_weight h [] e = refl
no_weight h (x ∷ xs) e = absurd (omega (arith, e))

one_more : (n m : ℕ) → times m (numbers_below (suc n)) ≡ times m (numbers_below n) + (one_at m n + 0)
one_more n m = weigh-append (one_at m) (numbers_below n) (n ∷ [])

not_it : (n m : ℕ) → n ≢ m → one_at m n ≡ 0
not_it n m other = rw (ne_eqb n m other) refl

times-beyond : (n m : ℕ) → n ≤ m → times m (numbers_below n) ≡ 0
times-beyond zero m le = refl
times-beyond (suc n) m le =
    let other : one_at m n ≡ 0 = not_it n m (λ e. absurd (omega (arith, e, le))) in
    omega (arith, other, one_more n m, times-beyond n m (omega (arith, le)))

times-last : (n : ℕ) → times n (numbers_below (suc n)) ≡ 1
times-last n =
    let it : one_at n n ≡ 1 = rw (eq-eqb n n refl) refl in
    let none : n ≤ n = omega arith in
    omega (arith, one_more n n, it, times-beyond n n none)

times-below : (n m : ℕ) → m < n → times m (numbers_below n) ≡ 1
times-below zero m lt = absurd (omega (arith, lt))
times-below (suc n) m lt =
    ⊎_elim (λ (same : (eqb n m ≡ true) × (n ≡ m)). subst (λ k. times k (numbers_below (suc n)) ≡ 1) same.1 (times-last n))
    (λ (other : (eqb n m ≡ false) × (n ≢ m)).
    omega (arith, one_more n m, not_it n m other.1, times-below n m (below other.1)))
    (eqb_tells n m)
  where
    below : (n ≢ m) → m < n
    below other = omega (arith, lt, other)

pub received_once : (n : ℕ) (v : Tally) (received left : List ℕ) → v ≡ tally PARTS (numbers_below n) received →
    n ≡ length received
    → ((h : ℕ → ℕ) → weigh h v.sent ≡ weigh h v.received + weigh h left) → ReceivedOnce n v
received_once n v received left is many balance = record {
  parts = ap (λ (z : Tally). z.parts) is;
  sent = ap (λ (z : Tally). z.sent) is;
  once = λ m lt. sym (alike (one_at m)) ∙ times-below n m lt;
  no_other = λ m le. sym (alike (one_at m)) ∙ times-beyond n m le;
}
  where
    sent_is : (h : ℕ → ℕ) → weigh h v.sent ≡ weigh h (numbers_below n)
    sent_is h = ap (λ (z : Tally). weigh h z.sent) is

    none : length left ≡ 0
    none = omega (
      arith,
      balance (λ _. 1),
      sent_is (λ _. 1),
      weigh-one (numbers_below n),
      weigh-one v.received,
      weigh-one left,
      many,
      length-numbers n,
      ap (λ (z : Tally). length z.received) is,
    )

    alike : (h : ℕ → ℕ) → weigh h (numbers_below n) ≡ weigh h v.received
    alike h = omega (arith, sent_is h, balance h, no_weight h left none)

pub all_gathered : (starts starts' : List Record) (end : Option Record) (v v' u : Tally) (workers asked sessions calls : ℕ)
    (left : List ℕ) → starts ≡ starts'
    → (j : HaveWorked starts end v v' workers sessions calls) → v' ≡ tally PARTS (numbers_below asked) j.received →
    sessions ≡ asked
    → ((h : ℕ → ℕ) → weigh h v'.sent ≡ weigh h v'.received + weigh h left) → u ≡ v' →
    HasGathered starts' end u asked sessions calls
all_gathered starts starts' end v v' u workers asked sessions calls left e j is all balance same = record {
  added = j.added;
  each = j.each ∙ ap (λ (l : List Record). length l) e;
  count = j.count;
  end_is = j.end_is ∙ ap (λ l. gather_onto None (followed l j.added)) e;
  all = all;
  received = subst (ReceivedOnce asked) (sym same) (received_once asked v' j.received left is (omega (arith, all, j.number))
      balance);
}
