-- Proof: if the calls on a key require the key to change back more often than other calls can change it, no order
-- explains the calls.
use Rattle.std.proofs.Common.{◌≡◌, ◌≢◌, ℕ, zero, suc, ◌+◌, ◌<◌, ◌≤◌, ◌⊎◌, List, [], ◌∷◌, Bool, true, false, inl, inr, refl, sym, ap, ◌∙◌, arith, subst, length}
use Rattle.std.proofs.Common.{◌-◌, drop, get_or, map, take}
use Rattle.std.proofs.lemmas.Grind.{common_steps}
use Rattle.std.specs.Prelude.{◌==◌, not, nat_le, if◌then◌else◌, Option, Some, None, IfSome, IsSomeAnd, All, AllPairs, filter}
use Rattle.std.specs.List.{AllByRecursion}
use Rattle.std.proofs.lemmas.Bool.{cases_Bool, both_ways, true≢false}
use Rattle.std.proofs.lemmas.Bool.Decides.{nat_tests}
use Rattle.std.proofs.lemmas.List.{get_or_default, length-map}
use Rattle.std.proofs.lemmas.List.Elements.{All-map, recursion_from_All}
use Rattle.std.proofs.lemmas.List.Kept.{AllPairs-cons}
use Rattle.lset_words.specs.declared.Key.{Key}
use Rattle.lset_words.specs.declared.Reply.{Reply}
use Rattle.lset_words.specs.declared.effect.Presence.{Presence}
use Rattle.lset_words.specs.declared.effect.Presence.TheVariants.{Present, Absent}
use Rattle.lset_words.specs.declared.history.CallRecord.{CallRecord}
use Rattle.lset_words.specs.declared.history.Placed.{Placed}
use Rattle.lset_words.specs.Effects.{is_there}
use Rattle.lset_words.specs.Words.{key_of}
use Rattle.lset_words.specs.History.{IsHistory, no_call}
use Rattle.lset_words.specs.SequentialSet.{has_key, opening_set}
use Rattle.lset_words.proofs.Numbers.{below_or_not, equal_test}
use Rattle.lset_history.specs.History.{HistoryValue, latest_moment}
use Rattle.lset_history.specs.Faults.{set_left_by}
use Rattle.lset_history.proofs.Lists.{Pairs, pairs_imply, pairs_map, pairs_std}
use Rattle.lset_history.proofs.Pairs.{pairs_head, pairs_tail}
use Rattle.lset_judge.specs.Rule.{same, take_out}
use Rattle.lset_judge.specs.Events.{Kind, changes, sees, nothing, event_at}
use Rattle.lset_judge.specs.Rest.{alone, has_ended, key_if}
use Rattle.lset_judge.specs.Verdict.{IsUnexplained}
use Rattle.lset_judge.specs.Clash.{other, leaves_if, needs_if, IsOf, records, HaveNone}
use Rattle.lset_judge.specs.Count.{also, OpensSo, LeftOtherwise, BeginsIn, EndsIn, NeedTurn, begins_by, ends_from, turns_in, turning_in, turns_of, IsCount, IsCountOf}
use Rattle.lset_judge.specs.Stream.{record_of}
use Rattle.lset_judge.specs.declared.stream.StreamCall.{StreamCall}
use Rattle.lset_judge.specs.declared.count.Count.{Count}
use Rattle.lset_judge.proofs.EventLemmas.{kind, until, told, opens_so}
use Rattle.lset_judge.proofs.ClashOfKey.{Leaves, left_end, need_end, turned_so}
use Rattle.lset_judge.proofs.PlacedCalls.{below_test}
use Rattle.lset_judge.proofs.TimelineOfKey.{In, one_of, NoTwice, has_head, has_split, has_tail, left_in, others_stay, gone, no_twice_left}
use Rattle.lset_judge.proofs.TimelineOfKey.{Act, act, suits, becomes, TakeTurns, Apart, IsAct}
use Rattle.lset_judge.proofs.TimelineFromOrder.{does, begins_told, stands, untils_differ, ready}

-- ---- Lemmas about removing a number from a list

length_out : (e : ℕ) (xs : List ℕ) → has_key e xs ≡ true → length xs ≡ suc (length (take_out e xs))
length_out e [] h = absurd (true≢false (sym h))
length_out e (x ∷ xs) h = elim (cases_Bool (x == e)) [
  | inl t ↦ rw t refl
  | inr f ↦ (let rest : has_key e xs ≡ true = rw f at h in let r = length_out e xs rest in rw f (ap suc r))
]

shorter_out : (e : ℕ) (xs : List ℕ) → length (take_out e xs) ≤ length xs
shorter_out e [] = omega arith
shorter_out e (x ∷ xs) = elim (cases_Bool (x == e)) [
  | inl t ↦ rw t (omega arith)
  | inr f ↦ (let r = shorter_out e xs in rw f (omega (arith, r)))
]

same_out : (e : ℕ) (xs : List ℕ) → has_key e xs ≡ false → take_out e xs ≡ xs
same_out e [] h = refl
same_out e (x ∷ xs) h = elim (cases_Bool (x == e)) [
  | inl t ↦ absurd (true≢false (rw t at h))
  | inr f ↦ (let rest : has_key e xs ≡ false = rw f at h in let r = same_out e xs rest in rw f (ap (λ ys. x ∷ ys) r))
]

empty_or_not : (xs : List ℕ) → (xs ≡ []) ⊎ ((u : ℕ) × (has_key u xs ≡ true))
empty_or_not [] = inl refl
empty_or_not (x ∷ xs) = inr (x, has_head x xs)

-- ---- Lemmas about the acts (effects of calls on the key) in a count

abbrev Needs : Bool → Kind → Type 0
Needs b k = (s : Bool) → suits s k → s ≡ not b

abbrev against : Bool → Bool → ℕ
against b s = if same b s then 0 else 1

against_most : (b s : Bool) → against b s ≤ 1
against_most true true = omega arith
against_most true false = omega arith
against_most false true = omega arith
against_most false false = omega arith

against_not : (b s : Bool) → s ≡ not b → against b s ≡ 1
against_not true true e = absurd (true≢false e)
against_not true false e = refl
against_not false true e = refl
against_not false false e = absurd (true≢false (sym e))

against_so : (b s : Bool) → s ≡ b → against b s ≡ 0
against_so true true e = refl
against_so true false e = absurd (true≢false (sym e))
against_so false true e = absurd (true≢false e)
against_so false false e = refl

turns_or_not : (b s : Bool) (k : Kind) → suits s k → (k ≡ changes (not b)) ⊎ (against b (becomes s k) ≤ against b s)
turns_or_not true s (changes true) h = inr (let a = against_so true true refl in omega (arith, a))
turns_or_not true s (changes false) h = inl refl
turns_or_not false s (changes true) h = inl refl
turns_or_not false s (changes false) h = inr (let a = against_so false false refl in omega (arith, a))
turns_or_not b s (sees w) h = inr (omega arith)
turns_or_not b s nothing h = inr (omega arith)

-- `Earlier` holds if an act other than t, with its end in `us`, starts before t ends. `Later` holds if an act other
-- than a, with its end in `us`, ends after a starts. (An act is the effect of a call. `us` contains the ends of the
-- counted acts.) If `o` is None, the key's opening state counts as an act, and `Earlier` always holds. If `c` is None,
-- the key's final state counts as an act, and `Later` always holds.
abbrev Earlier : Option ℕ → List ℕ → List Act → Act → Type 0
Earlier o us ys t = ((a : Act) × In a ys × (has_key a.until us ≡ true) × (a.until ≢ t.until) × (a.begun < t.until)) ⊎ (o ≡ None)

abbrev Later : Option ℕ → List ℕ → List Act → Act → Type 0
Later c us ys a = ((t : Act) × In t ys × (has_key t.until us ≡ true) × (a.until ≢ t.until) × (a.begun < t.until)) ⊎ (c ≡ None)

record Due (b left : Bool) (o c : Option ℕ) (us zs : List ℕ) (ys : List Act) : Type 0 where
  once : NoTwice us
  stand : (u : ℕ) → has_key u us ≡ true → (t : Act) × In t ys × (t.until ≡ u)
  closes : c ≡ None → left ≡ not b
  leave : (a : Act) → In a ys → has_key a.until us ≡ true → Later c us ys a → Leaves b a.does
  need : (t : Act) → In t ys → has_key t.until us ≡ true → Earlier o us ys t → Needs b t.does
  back : (a : Act) → In a ys → a.does ≡ changes (not b) → Earlier o us ys a → Later c us ys a → has_key a.until zs ≡ true

module _ (b left : Bool) (c : Option ℕ) where
  due_on : (o p : Option ℕ) (us zs : List ℕ) (a : Act) (ys : List Act) → (p ≡ None → (has_key a.until us ≡ true) ⊎ (o ≡ None))
      → AllByRecursion (Apart a) ys → Due b left o c us zs (a ∷ ys) → Due b left p c (take_out a.until us) (take_out a.until zs) ys
  due_on o p us zs a ys from apart d = record {
    once = no_twice_left a.until us d.once;
    stand = λ u h. let i = d.stand u (left_in u a.until us h) in (i.0, not_it u h i.0 i.1 i.2, i.2);
    closes = d.closes;
    leave = λ x i h l. d.leave x (inr i) (left_in x.until a.until us h) (wider x l);
    need = λ t i h e. d.need t (inr i) (left_in t.until a.until us h) (wider_before t i e);
    back = λ x i k e l. others_stay x.until a.until zs (λ q. (one_of (Apart a) x ys apart i).other (sym q))
        (d.back x (inr i) k (wider_before x i e) (wider x l));
  }
    where
      not_it : (u : ℕ) → has_key u (take_out a.until us) ≡ true → (t : Act) → In t (a ∷ ys) → t.until ≡ u → In t ys
      not_it u h t (inl e) q = absurd (both_ways _ (gone a.until us d.once)
          (subst (λ v. has_key v (take_out a.until us) ≡ true) (sym q ∙ sym (ap (λ (x : Act). x.until) e)) h))
      not_it u h t (inr i) q = i

      wider : (x : Act) → Later c (take_out a.until us) ys x → Later c us (a ∷ ys) x
      wider x (inl l) = inl (l.0, inr l.1, left_in l.0.until a.until us l.2, l.3, l.4)
      wider x (inr e) = inr e

      wider_before : (x : Act) → In x ys → Earlier p (take_out a.until us) ys x → Earlier o us (a ∷ ys) x
      wider_before x i (inl l) = inl (l.0, inr l.1, left_in l.0.until a.until us l.2, l.3, l.4)
      wider_before x i (inr e) = let r = one_of (Apart a) x ys apart i in elim (from e) [
        | inl h ↦ inl (a, inl refl, h, r.other, r.in_time)
        | inr q ↦ inr q
      ]

  later_or_last : (p : Option ℕ) (us vs : List ℕ) (a : Act) (ys : List Act) → AllByRecursion (Apart a) ys → Due b left p c (take_out a.until us) vs ys
      → Later c us (a ∷ ys) a ⊎ ((take_out a.until us ≡ []) × (also c ≡ 0))
  later_or_last p us vs a ys apart d = by c refl
    where
      by : (o : Option ℕ) → c ≡ o → Later c us (a ∷ ys) a ⊎ ((take_out a.until us ≡ []) × (also c ≡ 0))
      by None e = inl (inr e)
      by (Some m) e = elim (empty_or_not (take_out a.until us)) [
        | inl n ↦ inr (n, ap also e)
        | inr u ↦ (let i = d.stand u.0 u.1 in let r = one_of (Apart a) i.0 ys apart i.1 in
            inl (inl (i.0, inr i.1, left_in i.0.until a.until us (subst (λ v. has_key v (take_out a.until us) ≡ true) (sym i.2) u.1), r.other, r.in_time)))
      ]

  count_on : (s : Bool) (o : Option ℕ) (us zs : List ℕ) (ys : List Act) → o ≡ None → TakeTurns left s ys → Pairs Apart ys → Due b left o c us zs ys
      → length us + also c ≤ length zs + against b s
  count_on s o (u ∷ us) zs [] none turns pairs d = absurd (d.stand u (has_head u us)).1
  count_on s o [] zs [] none turns pairs d = by c refl
    where
      by : (q : Option ℕ) → c ≡ q → length {A = ℕ} [] + also q ≤ length zs + against b s
      by None e = let a = against_not b s (turns ∙ d.closes e) in omega (arith, a)
      by (Some m) e = omega arith
  count_on s o us zs (a ∷ ys) none turns pairs d =
      let us1 : List ℕ = take_out a.until us in
      let zs1 : List ℕ = take_out a.until zs in
      let s1 : Bool = becomes s a.does in
      let d1 = due_on o o us zs a ys (λ e. inr e) pairs.0 d in
      let ih : length us1 + also c ≤ length zs1 + against b s1 = count_on s1 o us1 zs1 ys none turns.1 pairs.1 d1 in
      let short : length zs1 ≤ length zs = shorter_out a.until zs in
      elim (later_or_last o us zs1 a ys pairs.0 d1) [
        | inl l ↦ elim (cases_Bool (has_key a.until us)) [
          | inl h ↦ (let n = against_not b s (d.need a (inl refl) h (inr none) s turns.0) in
              let m = against_so b s1 (d.leave a (inl refl) h l s turns.0) in
              let one = length_out a.until us h in omega (arith, n, m, one, ih, short))
          | inr f ↦ (let e : length us1 ≡ length us = ap length (same_out a.until us f) in elim (turns_or_not b s a.does turns.0) [
            | inl k ↦ (let one = length_out a.until zs (d.back a (inl refl) k (inr none) l) in
                let most = against_most b s1 in omega (arith, e, one, most, ih))
            | inr k ↦ omega (arith, e, k, ih, short)
          ])
        ]
        | inr n ↦ (let none_left : length us1 ≡ 0 = ap length n.0 in let z : also c ≡ 0 = n.1 in elim (cases_Bool (has_key a.until us)) [
          | inl h ↦ (let m = against_not b s (d.need a (inl refl) h (inr none) s turns.0) in
              let one = length_out a.until us h in omega (arith, none_left, z, m, one))
          | inr f ↦ (let e : length us1 ≡ length us = ap length (same_out a.until us f) in omega (arith, none_left, z, e))
        ])
      ]

  -- Lemma: `us` (the ends of the counted acts) has at most one item more than `zs` (the ends of the changes back),
  -- because the key must change back between any two counted acts. (An act is the effect of a call. The key's final
  -- state counts as an act if c is None.)
  count_from : (s : Bool) (o : Option ℕ) (us zs : List ℕ) (ys : List Act) → TakeTurns left s ys → Pairs Apart ys → Due b left o c us zs ys
      → length us + also c ≤ suc (length zs)
  count_from s o (u ∷ us) zs [] turns pairs d = absurd (d.stand u (has_head u us)).1
  count_from s o [] zs [] turns pairs d = by c
    where
      by : (q : Option ℕ) → length {A = ℕ} [] + also q ≤ suc (length zs)
      by None = omega arith
      by (Some m) = omega arith
  count_from s o us zs (a ∷ ys) turns pairs d =
      let us1 : List ℕ = take_out a.until us in
      let zs1 : List ℕ = take_out a.until zs in
      let s1 : Bool = becomes s a.does in
      let short : length zs1 ≤ length zs = shorter_out a.until zs in
      elim (cases_Bool (has_key a.until us)) [
        | inl h ↦ (let d1 = due_on o None us zs a ys (λ e. inl h) pairs.0 d in
            let one = length_out a.until us h in
            let on : length us1 + also c ≤ length zs1 + against b s1 = count_on s1 None us1 zs1 ys refl turns.1 pairs.1 d1 in
            elim (later_or_last None us zs1 a ys pairs.0 d1) [
              | inl l ↦ (let m = against_so b s1 (d.leave a (inl refl) h l s turns.0) in omega (arith, one, on, m, short))
              | inr n ↦ (let none_left : length us1 ≡ 0 = ap length n.0 in let z : also c ≡ 0 = n.1 in omega (arith, one, none_left, z))
            ])
        | inr f ↦ (let e : length us1 ≡ length us = ap length (same_out a.until us f) in
            let ih = count_from s1 (Some 0) us1 zs1 ys turns.1 pairs.1 (due_on o (Some 0) us zs a ys (λ e. absurd cc) pairs.0 d) in
            omega (arith, e, ih, short))
      ]

-- ---- Lemmas about lists

pairs_from : {X : Type 0} (R : X → X → Type 0) (xs : List X) → AllPairs R xs → Pairs R xs
pairs_from R [] h = tt
pairs_from R (x ∷ xs) h = (recursion_from_All (R x) xs (pairs_head R x xs h), pairs_from R xs (pairs_tail R x xs h))

two_of : {X : Type 0} (R : X → X → Type 0) (x y : X) (xs : List X) → In x xs → In y xs → Pairs R xs → (x ≡ y) ⊎ (R x y ⊎ R y x)
two_of R x y [] i j p = absurd i
two_of R x y (z ∷ zs) (inl e) (inl f) p = inl (sym e ∙ f)
two_of R x y (z ∷ zs) (inl e) (inr j) p = inr (inl (subst (λ w. R w y) e (one_of (R z) y zs p.0 j)))
two_of R x y (z ∷ zs) (inr i) (inl f) p = inr (inr (subst (λ w. R w x) f (one_of (R z) x zs p.0 i)))
two_of R x y (z ∷ zs) (inr i) (inr j) p = two_of R x y zs i j p.1

same_act : (a t : Act) (ys : List Act) → In a ys → In t ys → Pairs Apart ys → a.until ≡ t.until → a ≡ t
same_act a t ys i j pairs q = elim (two_of Apart a t ys i j pairs) [
  | inl e ↦ e
  | inr (inl r) ↦ absurd (r.other q)
  | inr (inr r) ↦ absurd (r.other (sym q))
]

in_at : (xs : List CallRecord) (n : ℕ) (d : CallRecord) → n < length xs → In (get_or xs n d) xs
in_at [] n d l = absurd (omega arith)
in_at (x ∷ xs) zero d l = inl refl
in_at (x ∷ xs) (suc n) d l = inr (in_at xs n d (omega arith))

in_filter : (p : CallRecord → Bool) (x : CallRecord) (xs : List CallRecord) → In x xs → p x ≡ true → In x (filter p xs)
in_filter p x [] i h = absurd i
in_filter p x (y ∷ ys) (inl e) h = let t : p y ≡ true = ap p e ∙ h in rw t (inl e)
in_filter p x (y ∷ ys) (inr i) h = let r = in_filter p x ys i h in elim (cases_Bool (p y)) [ inl t ↦ rw t (inr r) | inr f ↦ rw f r ]

module _ (f : CallRecord → ℕ) where
  has_mapped : (x : CallRecord) (xs : List CallRecord) → In x xs → has_key (f x) (map f xs) ≡ true
  has_mapped x [] i = absurd i
  has_mapped x (y ∷ ys) (inl e) = rw (equal_test (f y) (f x) (ap f e)) refl
  has_mapped x (y ∷ ys) (inr i) = has_tail (f x) (f y) (map f ys) (has_mapped x ys i)

  from_mapped : (u : ℕ) (xs : List CallRecord) → has_key u (map f xs) ≡ true → (x : CallRecord) × In x xs × (f x ≡ u)
  from_mapped u [] h = absurd (true≢false (sym h))
  from_mapped u (y ∷ ys) h = elim (has_split u (f y) (map f ys) h) [
    | inl e ↦ (y, inl refl, e)
    | inr r ↦ (let i = from_mapped u ys r in (i.0, inr i.1, i.2))
  ]

  no_twice_mapped : (xs : List CallRecord) → Pairs (λ x y. f x ≢ f y) xs → NoTwice (map f xs)
  no_twice_mapped [] p = tt
  no_twice_mapped (x ∷ xs) p = (
    elim (cases_Bool (has_key (f x) (map f xs))) [
      | inl t ↦ (let i = from_mapped (f x) xs t in absurd (one_of (λ y. f x ≢ f y) i.0 xs p.0 i.1 (sym i.2)))
      | inr n ↦ n
    ],
    no_twice_mapped xs p.1,
  )

-- ---- Lemmas about the calls in a count (so many calls on a key that no order can contain all of them)

until_is : (last : ℕ) (x : CallRecord) (e : ℕ × Reply) → x.ended ≡ Some e → until last x ≡ e.0
until_is last x e is = rw is refl

ended_by_then : (m : ℕ) (o : Option (ℕ × Reply)) → has_ended m o ≡ true → (e : ℕ × Reply) × (o ≡ Some e) × (e.0 ≤ m)
ended_by_then m None h = absurd (true≢false (sym h))
ended_by_then m (Some e) h = (e, refl, grind (arith, nat_tests))

not_over : (last m : ℕ) (x : CallRecord) (o : Option (ℕ × Reply)) → x.ended ≡ o → m < until last x → not (has_ended m o) ≡ true
not_over last m x None e l = refl
not_over last m x (Some d) e l =
    let at : until last x ≡ d.0 = rw e refl in let low : m < d.0 = omega (arith, at, l) in let f : nat_le d.0 m ≡ false = grind (arith, nat_tests) in rw f refl

end_of : (w : Presence) (o : Option ℕ) (x : CallRecord) → EndsIn w o x → (e : ℕ × Reply) × (x.ended ≡ Some e)
end_of w None x h = let d = left_end x.call x.ended w h in (d.0, d.1)
end_of w (Some m) x h = let d = ended_by_then m x.ended h in (d.0, d.1)

not_so : (b s : Bool) → (s ≡ b → ⊥) → s ≡ not b
not_so true true n = absurd (n refl)
not_so true false n = refl
not_so false true n = refl
not_so false false n = absurd (n refl)

needs_not : (x : CallRecord) (p : Presence) → needs_if x.call x.ended ≡ Some (other p) → Needs (is_there p) (kind x)
needs_not x p h s t = not_so (is_there p) s (λ e. (need_end x.call x.ended p h).2 (subst (λ b. suits b (kind x)) e t))

other_not : (p : Presence) → is_there (other p) ≡ not (is_there p)
other_not Present = refl
other_not Absent = refl

-- ---- Lemmas about the acts (effects of calls on the key) in an order of the calls

module _ (threads : ℕ) (calls : List CallRecord) (history : IsHistory threads calls) (last : ℕ) (upto : latest_moment calls ≤ last) (k : ℕ)
    (there : Presence) (left : Option Presence) (finally : Bool) (leaves : IfSome left (λ (l : Presence). finally ≡ is_there l))
    (ys : List Act) (turns : TakeTurns finally (is_there there) ys) (pairs : Pairs Apart ys)
    (acts : AllByRecursion (IsAct (λ m. event_at last k calls m) last) ys)
    (stand : (n : ℕ) (e : ℕ × Reply) → n < length calls → (get_or calls n no_call).ended ≡ Some e → (key_of (get_or calls n no_call).call).0 ≡ k
    → In (act (get_or calls n no_call).begun e.0 (kind (get_or calls n no_call))) ys)
    (was : Presence) (since til : Option ℕ) (counted : List CallRecord) (c : IsCountOf calls k there left was since til counted) where
  abbrev b : Bool
  b = is_there was

  abbrev us : List ℕ
  us = map (until last) counted

  abbrev zs : List ℕ
  zs = map (until last) (turning_in k (other was) since til calls)

  known : AllByRecursion (IsOf calls k) counted
  known = recursion_from_All (IsOf calls k) counted c.known

  need_turns : Pairs (NeedTurn was) counted
  need_turns = pairs_from (NeedTurn was) counted c.turns

  begins_in : (x : CallRecord) → In x counted → BeginsIn was since x
  begins_in x i = one_of (BeginsIn was since) x counted (recursion_from_All (BeginsIn was since) counted c.begin) i

  ends_in : (x : CallRecord) → In x counted → EndsIn was til x
  ends_in x i = one_of (EndsIn was til) x counted (recursion_from_All (EndsIn was til) counted c.«end») i

  numbered : (x : CallRecord) (is : IsOf calls k x) → get_or calls is.known.0 no_call ≡ x
  numbered x is = get_or_default calls is.known.0 no_call x is.known.1 ∙ is.known.2

  apart : (x y : CallRecord) → IsOf calls k x → IsOf calls k y → NeedTurn was x y → until last x ≢ until last y
  apart x y p r n q = untils_differ threads calls history last upto p.known.0 r.known.0 p.known.1 r.known.1
      (λ e. let s : x ≡ y = sym (numbered x p) ∙ ap (λ i. get_or calls i no_call) e ∙ numbered y r in
      let t : x.begun ≡ y.begun = ap (λ (z : CallRecord). z.begun) s in let l = n.later in omega (arith, t, l))
      (ap (until last) (numbered x p) ∙ q ∙ sym (ap (until last) (numbered y r)))

  -- Holds if the act a (the effect of a call on the key) belongs to a counted call x: a and x have the same start, end
  -- and effect.
  record IsDue (a : Act) : Type 0 where
    x : CallRecord
    counts : In x counted
    begun : x.begun ≡ a.begun
    ends : until last x ≡ a.until
    does : kind x ≡ a.does

  act_of : (x : CallRecord) → In x counted → (a : Act) × In a ys × (x.begun ≡ a.begun) × (until last x ≡ a.until) × (kind x ≡ a.does)
  act_of x i =
      let is = one_of (IsOf calls k) x counted known i in
      let e = end_of was til x (ends_in x i) in
      let at = numbered x is in
      let a : Act = act x.begun e.0.0 (kind x) in
      let s : In a ys = subst (λ (z : CallRecord). z.ended ≡ Some e.0 → (key_of z.call).0 ≡ k → In (act z.begun e.0.0 (kind z)) ys) at
      (stand is.known.0 e.0 is.known.1) e.1 is.own in
      (a, s, refl, until_is last x e.0 e.1, refl)

  due_is : (a : Act) → In a ys → has_key a.until us ≡ true → IsDue a
  due_is a i h =
      let f = from_mapped (until last) a.until counted h in
      let s = act_of f.0 f.1 in
      let same = same_act s.0 a ys s.1 i pairs (sym s.3 ∙ f.2) in record {
        x = f.0;
        counts = f.1;
        begun = s.2 ∙ ap (λ (z : Act). z.begun) same;
        ends = f.2;
        does = s.4 ∙ ap (λ (z : Act). z.does) same;
      }

  between : (a t : Act) (p : IsDue a) (r : IsDue t) → a.until ≢ t.until → a.begun < t.until
      → (leaves_if p.x.call p.x.ended ≡ Some was) × (needs_if r.x.call r.x.ended ≡ Some (other was))
  between a t p r n l = elim (two_of (NeedTurn was) p.x r.x counted p.counts r.counts need_turns) [
    | inl e ↦ absurd (n (sym p.ends ∙ ap (until last) e ∙ r.ends))
    | inr (inl q) ↦ (q.leaves, q.needs)
    | inr (inr q) ↦ elim q.either [
      | inl early ↦ (let e = end_of was til r.x (ends_in r.x r.counts) in
          let low : e.0.0 < p.x.begun = subst (λ o. IsSomeAnd o (λ (f : ℕ × Reply). f.0 < p.x.begun)) e.1 early in
          let at = until_is last r.x e.0 e.1 in
          let at_end = r.ends in let at_begin = p.begun in absurd (omega (arith, low, at, at_end, at_begin, l)))
      | inr both ↦ both
    ]
  ]

  overlaps : (a : Act) → In a ys → a.does ≡ changes (not b) → Earlier since us ys a → Later til us ys a → has_key a.until zs ≡ true
  overlaps a i d e l =
      let t = (one_of (IsAct (λ m. event_at last k calls m) last) a ys acts i).told (not b) d in
      let g = begins_told threads calls history last upto k (event_at last k calls a.begun) a.begun (not b) a.until t (told last k a.begun calls) in
      let x : CallRecord = get_or calls g.0.number no_call in
      let test : turns_in k (other was) since til x ≡ true = rw (
        equal_test (key_of x.call).0 k g.0.own,
        turned_so was (kind x) g.1,
        begins_before x g.0.begun til refl,
        ends_after x g.2 since refl,
      ) refl in
      subst (λ u. has_key u zs ≡ true) g.2
      (has_mapped (until last) x (turning_in k (other was) since til calls)
      (in_filter (turns_in k (other was) since til) x calls (in_at calls g.0.number no_call g.0.known) test))
    where
      begins_before : (x : CallRecord) → x.begun ≡ a.begun → (o : Option ℕ) → til ≡ o → begins_by x.begun o ≡ true
      begins_before x at None is = refl
      begins_before x at (Some m) is = elim l [
        | inl t ↦ (let r = due_is t.0 t.1 t.2 in
            let f = ended_by_then m r.x.ended (subst (λ o. EndsIn was o r.x) is (ends_in r.x r.counts)) in
            let end_at = until_is last r.x f.0 f.1 in let low = f.2 in let at_end = r.ends in let early = t.4 in
            below_test x.begun m (omega (arith, at, end_at, low, at_end, early)))
        | inr n ↦ absurd (let q : None ≡ Some m = sym n ∙ is in cc)
      ]

      ends_after : (x : CallRecord) → until last x ≡ a.until → (o : Option ℕ) → since ≡ o → ends_from o x.ended ≡ true
      ends_after x at None is = refl
      ends_after x at (Some m) is = elim e [
        | inl t ↦ (let r = due_is t.0 t.1 t.2 in
            let low : m ≤ r.x.begun = subst (λ o. BeginsIn was o r.x) is (begins_in r.x r.counts) in let at_begin = r.begun in let early = t.4 in
            not_over last m x x.ended refl (omega (arith, at, low, at_begin, early)))
        | inr n ↦ absurd (let q : None ≡ Some m = sym n ∙ is in cc)
      ]

  due : Due b finally since til us zs ys
  due = record {
    once = no_twice_mapped (until last) counted (pairs_imply (IsOf calls k) (NeedTurn was) (λ x y. until last x ≢ until last y) apart counted known need_turns);
    stand = λ u h. let f = from_mapped (until last) u counted h in let s = act_of f.0 f.1 in (s.0, s.1, sym s.3 ∙ f.2);
    closes = λ e. let o : left ≡ Some (other was) = subst (λ o. LeftOtherwise left was o) e c.closes in
        subst (λ q. IfSome q (λ (l : Presence). finally ≡ is_there l)) o leaves ∙ other_not was;
    leave = λ a i h l. let p = due_is a i h in subst (Leaves b) p.does ((left_end p.x.call p.x.ended was (elim l [
      | inl t ↦ (between a t.0 p (due_is t.0 t.1 t.2) t.3 t.4).0
      | inr e ↦ subst (λ o. EndsIn was o p.x) e (ends_in p.x p.counts)
    ])).2);
    need = λ t i h e. let r = due_is t i h in subst (Needs b) r.does (needs_not r.x was (elim e [
      | inl a ↦ (between a.0 t (due_is a.0 a.1 a.2) r a.3 a.4).1
      | inr n ↦ subst (λ o. BeginsIn was o r.x) n (begins_in r.x r.counts)
    ]));
    back = overlaps;
  }

  counted_out : ⊥
  counted_out = by since refl
    where
      long : length us ≡ length counted
      long = length-map counted (until last)

      short : length zs ≡ length (turning_in k (other was) since til calls)
      short = length-map (turning_in k (other was) since til calls) (until last)

      by : (o : Option ℕ) → since ≡ o → ⊥
      by None e =
          let on = count_on b finally til (is_there there) since us zs ys e turns pairs due in
          let so = against_so b (is_there there) (ap is_there (subst (λ o. OpensSo there was o) e c.opens)) in
          let f = c.fewer in let one : also since ≡ 1 = ap also e in let m = long in let s = short in omega (arith, on, so, f, one, m, s)
      by (Some n) e =
          let from = count_from b finally til (is_there there) since us zs ys turns pairs due in
          let f = c.fewer in let zero_more : also since ≡ 0 = ap also e in let m = long in let s = short in omega (arith, from, f, zero_more, m, s)

pub count_refutes : (h : HistoryValue) (keys : List ℕ) (k : ℕ) (there : Presence) (left : Option Presence) (was : Presence) (since til : Option ℕ)
    (counted : List CallRecord) → IsHistory h.opening.threads h.calls → has_key k h.opening.keys ≡ is_there there
    → IfSome left (λ (l : Presence). has_key k keys ≡ is_there l) → IsCountOf h.calls k there left was since til counted → IsUnexplained h keys
count_refutes h keys k there left was since til counted history opens leaves c order ex =
    let last : ℕ = latest_moment h.calls in
    let upto : latest_moment h.calls ≤ last = omega arith in
    let l : has_key k (set_left_by (opening_set h.opening) h.calls order).keys ≡ has_key k keys = ap (has_key k) (sym ex.keys_left) in
    let r = ready h.opening.threads h.calls history last upto k h.opening.quota (opening_set h.opening) order ex.linearizes (has_key k keys) l in
    let acts : List Act = map (λ (p : Placed). act (get_or h.calls p.call no_call).begun (until last (get_or h.calls p.call no_call)) (does k (get_or h.calls p.call no_call).call p.reply)) order in
    counted_out h.opening.threads h.calls history last upto k there left (has_key k keys) leaves acts
    (subst (λ b. TakeTurns (has_key k keys) b acts) opens r.take_turns) r.pairs r.acts
    (stands h.opening.threads h.calls history last upto k h.opening.quota (opening_set h.opening) order ex.linearizes) was since til counted c

-- ---- Lemmas about the tests in the Rust code

pub one_more : {X : Type 0} (P : X → Type 0) (xs : List X) (n : ℕ) (e : X) → ((i : ℕ) (d : X) → i < n → P (get_or xs i d)) → n < length xs
    → P (get_or xs n e) → (i : ℕ) (d : X) → i < n + 1 → P (get_or xs i d)
one_more P xs n e before long here i d l = elim (below_or_not i n) [
  | inl low ↦ before i d low
  | inr high ↦ (let at : i ≡ n = omega arith in rw (at, get_or_default xs n d e long) here)
]

rest_is : {X : Type 0} (x : X) (xs : List X) → take (length (x ∷ xs) - 1) xs ≡ xs
rest_is x xs = grind (arith, common_steps)

pub pairs_of_parts : {X : Type 0} (R : X → X → Type 0) (xs : List X) (d : X) → 1 ≤ length xs → All (R (get_or xs 0 d)) (take (length xs - 1) (drop 1 xs))
    → AllPairs R (take (length xs - 1) (drop 1 xs)) → AllPairs R xs
pairs_of_parts R [] d l a p = absurd (omega arith)
pairs_of_parts R (x ∷ xs) d l a p = AllPairs-cons R x xs (subst (All (R x)) (rest_is x xs) a) (subst (AllPairs R) (rest_is x xs) p)

pub pairs_as_records : (R : CallRecord → CallRecord → Type 0) (xs : List StreamCall) → AllPairs (λ (x y : StreamCall). R (record_of x) (record_of y)) xs
    → AllPairs R (records xs)
pairs_as_records R xs p = pairs_std R (records xs) (pairs_map record_of R xs (pairs_from (λ (x y : StreamCall). R (record_of x) (record_of y)) xs p))

pub filter_as_records : (p : CallRecord → Bool) (xs : List StreamCall) → records (filter (λ (x : StreamCall). p (record_of x)) xs) ≡ filter p (records xs)
filter_as_records p [] = refl
filter_as_records p (x ∷ xs) = let r = filter_as_records p xs in elim (cases_Bool (p (record_of x))) [
  | inl t ↦ rw t (ap (λ ys. record_of x ∷ ys) r)
  | inr f ↦ rw f r
]

pub is_count_if : (calls : List StreamCall) (there : Presence) (left : Option Presence) (c : Count) (counted : List StreamCall) → counted ≡ c.calls.items
    → c.backs.items ≡ filter (λ (x : StreamCall). turns_in c.key.0 (other c.was) c.since c.until (record_of x)) calls
    → All (λ (x : StreamCall). IsOf (records calls) c.key.0 (record_of x)) counted
    → All (λ (x : StreamCall). BeginsIn c.was c.since (record_of x)) counted
    → All (λ (x : StreamCall). EndsIn c.was c.until (record_of x)) counted
    → OpensSo there c.was c.since → LeftOtherwise left c.was c.until
    → AllPairs (λ (x y : StreamCall). NeedTurn c.was (record_of x) (record_of y)) counted
    → length c.backs.items < turns_of (length counted) c.since c.until → IsCount (records calls) there left c
is_count_if calls there left c counted listed backs known begin until opens closes turns fewer =
    let same : records c.backs.items ≡ turning_in c.key.0 (other c.was) c.since c.until (records calls) =
    ap records backs ∙ filter_as_records (turns_in c.key.0 (other c.was) c.since c.until) calls in
    let many : length (turning_in c.key.0 (other c.was) c.since c.until (records calls)) ≡ length c.backs.items =
    ap length (sym same) ∙ length-map c.backs.items record_of in
    let long : length (records counted) ≡ length counted = length-map counted record_of in record {
      count = subst (λ xs. IsCountOf (records calls) c.key.0 there left c.was c.since c.until (records xs)) listed (record {
        known = All-map (IsOf (records calls) c.key.0) record_of counted known;
        begin = All-map (BeginsIn c.was c.since) record_of counted begin;
        «end» = All-map (EndsIn c.was c.until) record_of counted until;
        opens = opens;
        closes = closes;
        turns = pairs_as_records (NeedTurn c.was) counted turns;
        fewer = omega (arith, many, long, fewer);
      });
      backs = same;
    }

pub count_has_none : (threads key : ℕ) (there : Presence) (left : Option Presence) (was : Presence) (since til : Option ℕ) (counted calls : List CallRecord)
    → IsHistory threads calls → IsCountOf calls key there left was since til counted → HaveNone threads key there left calls
count_has_none threads key there left was since til counted calls history c quota keys leaves =
    count_refutes (alone threads quota (is_there there) key calls) keys key there left was since til counted history (opens_so (is_there there) key)
    (left_as left leaves) c
  where
    left_as : (o : Option Presence) → IfSome o (λ (l : Presence). keys ≡ key_if (is_there l) key) → IfSome o (λ (l : Presence). has_key key keys ≡ is_there l)
    left_as None e = tt
    left_as (Some l) e = ap (has_key key) e ∙ opens_so (is_there l) key

pub none_counted : (calls : List StreamCall) (key : Key) (there : Presence) (left : Option Presence) (c : Count) → c.key ≡ key
    → IsCount (records calls) there left c → (threads : ℕ) → IsHistory threads (records calls) → HaveNone threads key.0 there left (records calls)
none_counted calls key there left c own is threads history = subst (λ (k : Key). HaveNone threads k.0 there left (records calls)) own
    (count_has_none threads c.key.0 there left c.was c.since c.until (records c.calls.items) (records calls) history is.count)
