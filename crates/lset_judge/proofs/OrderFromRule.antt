-- Proof: if each key passes the judge's test, some order explains the calls. The proof builds the order call by call.
use Rattle.std.proofs.Common.{◌≡◌, ◌≢◌, ℕ, zero, suc, ◌<◌, ◌≤◌, ◌⊎◌, List, [], ◌∷◌, ◌++◌, Bool, true, false, inl, inr, refl, sym, ap, ◌∙◌, arith}
use Rattle.std.proofs.Common.{subst, length, get_or, map}
use Rattle.std.specs.Prelude.{◌==◌, not, nat_lt, Option, Some, None, is_some, All, AllPairs, Contains, IfSome, IsSomeAnd}
use Rattle.std.proofs.lemmas.Bool.{cases_Bool, both_ways, true≢false, false_from_ne_true, true_from_ne_false}
use Rattle.std.proofs.lemmas.List.{map_push}
use Rattle.std.proofs.lemmas.List.Elements.{All-push}
use Rattle.std.proofs.lemmas.List.Quantifiers.{all_pairs_push}
use Rattle.lset_words.specs.declared.Reply.{Reply}
use Rattle.lset_words.specs.declared.Reply.TheVariants.{True}
use Rattle.lset_words.specs.declared.history.CallRecord.{CallRecord}
use Rattle.lset_words.specs.declared.history.Placed.{Placed}
use Rattle.lset_words.specs.Words.{key_of}
use Rattle.lset_words.specs.SequentialSet.{SetState, has_key, reply_to, after_call, IsLegal, set_left, count_of}
use Rattle.lset_words.specs.History.{IsHistory, call_numbered, no_call, answered, Precedes, Linearizes}
use Rattle.lset_words.proofs.Numbers.{same_number, equal_test, below_or_not, same_or_not}
use Rattle.lset_history.specs.History.{latest_moment}
use Rattle.lset_judge.specs.Rule.{Event, begins, ends, looks, leaves, idle, State, same, changes_to, options, not_before, fits, entering, enters, put_in, take_out, turned_by, settled, nearest, turned_if}
use Rattle.lset_judge.specs.Rule.{found, entered, stepped, state_after, may_leave, open_changes, opened}
use Rattle.lset_judge.specs.Events.{Kind, changes, sees, nothing, kind_of, kind_if, event_at, begin_event, end_event}
use Rattle.lset_judge.specs.Verdict.{is_plain}
use Rattle.lset_judge.proofs.EventLemmas.{kind, until, Begins, told, begins_at, ends_there, end_below, none_or_some}
use Rattle.lset_judge.proofs.RuleLeads.{nearest_stands, at, at_once, later, no_state, settled_none, some_or_none}
use Rattle.lset_judge.proofs.TimelineFromOrder.{does_own, other_stays, untils_differ, begins_told, is_call}
use Rattle.lset_judge.proofs.TimelineOfKey.{becomes, NoTwice, left_in, others_stay, gone, no_twice_left, has_head, has_tail, has_split, has_put, no_twice_put, until_of}
use Rattle.lset_judge.proofs.PlacedCalls.{legal_push, left_push, IsPlaced, placed_or_not, placed_at, placed_still}
use Rattle.lset_judge.proofs.PlacedCalls.{placed_new, placed_split, change_replies, look_replies, open_sees_not, same_flips}
use Rattle.lset_judge.proofs.PlacedCalls.{same_is, kinds_apart, late_ones, begun_when_placed, plain_kind, not_both_or, below_test}

module _ (threads : ℕ) (calls : List CallRecord) (history : IsHistory threads calls) (last : ℕ) (upto : latest_moment calls ≤ last) (quota : ℕ) (start : SetState)
    (plain : (n : ℕ) (e : ℕ × Reply) → n < length calls → (call_numbered calls n).ended ≡ Some e → is_plain (call_numbered calls n).call e.1 ≡ true)
    (room : (order : List Placed) → All (λ (p : Placed). p.call < length calls) order
    → AllPairs (λ (p r : Placed). p.call ≢ r.call) order
    → All (λ (p : Placed). IfSome (call_numbered calls p.call).ended (λ (e : ℕ × Reply). e.1 ≡ p.reply)) order
    → (n : ℕ) → n < length calls → (IsPlaced n order → ⊥) → kind (call_numbered calls n) ≡ changes true
    → count_of (set_left start (map (answered calls) order)) (call_numbered calls n).thread < quota) where
  abbrev x_ : ℕ → CallRecord
  x_ n = get_or calls n no_call

  abbrev key : ℕ → ℕ
  key n = (key_of (x_ n).call).0

  abbrev put : ℕ → Reply → Placed
  put n r = record { call = n; reply = r }

  abbrev set : List Placed → SetState
  set o = set_left start (map (answered calls) o)

  pub record Built (m : ℕ) (o : List Placed) : Type 0 where
    pub known : All (λ (p : Placed). p.call < length calls) o
    pub once : AllPairs (λ (p r : Placed). p.call ≢ r.call) o
    pub legal : IsLegal quota start (map (answered calls) o)
    pub in_time : AllPairs (λ (p r : Placed). Precedes (call_numbered calls r.call) (call_numbered calls p.call) → ⊥) o
    pub begun : All (λ (p : Placed). (x_ p.call).begun ≤ m) o
    pub replies : All (λ (p : Placed). IfSome (x_ p.call).ended (λ (e : ℕ × Reply). e.1 ≡ p.reply)) o
    pub ended : (n : ℕ) (e : ℕ × Reply) → n < length calls → (x_ n).ended ≡ Some e → e.0 ≤ m → IsPlaced n o

  -- ---- Lemmas about appending a call to the order that the proof builds
  pub place : (m : ℕ) (o : List Placed) (n : ℕ) (r : Reply) → Built m o → n < length calls → (x_ n).begun ≤ m → (IsPlaced n o → ⊥)
      → reply_to quota (set o) (x_ n).thread (x_ n).call ≡ r → IfSome (x_ n).ended (λ (e : ℕ × Reply). e.1 ≡ r)
      → Built m (o ++ put n r ∷ [])
  place m o n r b low begun new replies ended = record {
    known = All-push (λ (p : Placed). p.call < length calls) o (put n r) b.known low;
    once = all_pairs_push (λ (p r : Placed). p.call ≢ r.call) o (put n r) b.once (λ k d l e. new (placed_at n k d o l e));
    legal = subst (IsLegal quota start) (sym (map_push (answered calls) o (put n r)))
        (legal_push quota start (map (answered calls) o) (answered calls (put n r)) b.legal replies);
    in_time = all_pairs_push (λ (p r : Placed). Precedes (call_numbered calls r.call) (call_numbered calls p.call) → ⊥) o (put n r) b.in_time
        (λ k d l before. elim (none_or_some (x_ n).ended) [
          | inl s ↦ none_precedes (x_ n).ended (x_ (get_or o k d).call).begun s before
          | inr s ↦ (let early = some_precedes (x_ n).ended (x_ (get_or o k d).call).begun s.0 s.1 before in
              let low' = b.begun k d l in new (b.ended n s.0 low s.1 (omega (arith, early, low'))))
        ]);
    begun = All-push (λ (p : Placed). (x_ p.call).begun ≤ m) o (put n r) b.begun begun;
    replies = All-push (λ (p : Placed). IfSome (x_ p.call).ended (λ (e : ℕ × Reply). e.1 ≡ p.reply)) o (put n r) b.replies ended;
    ended = λ i e l s q. placed_still i o (put n r) (b.ended i e l s q);
  }
    where
      none_precedes : (o : Option (ℕ × Reply)) (y : ℕ) → o ≡ None → IsSomeAnd o (λ (e : ℕ × Reply). e.0 < y) → ⊥
      none_precedes None y s h = h
      none_precedes (Some e) y s h = cc

      some_precedes : (o : Option (ℕ × Reply)) (y : ℕ) (e : ℕ × Reply) → o ≡ Some e → IsSomeAnd o (λ (e : ℕ × Reply). e.0 < y) → e.0 < y
      some_precedes o y e s h = subst (λ q. IsSomeAnd q (λ (f : ℕ × Reply). f.0 < y)) s h

  set_put : (o : List Placed) (n : ℕ) (r : Reply) → set (o ++ put n r ∷ []) ≡ after_call (set o) (x_ n).thread (x_ n).call r
  set_put o n r = ap (set_left start) (map_push (answered calls) o (put n r)) ∙ left_push start (map (answered calls) o) (answered calls (put n r))

  -- ---- The invariant that relates a key's state to the order built so far
  pub record OpenList (w : Bool) (k m : ℕ) (xs : List ℕ) (o : List Placed) : Type 0 where
    pub open_call : (u : ℕ) → has_key u xs ≡ true → (n : ℕ) × (n < length calls) × (key n ≡ k) × (kind (x_ n) ≡ changes w)
        × (until last (x_ n) ≡ u) × ((x_ n).begun ≤ m) × (IsPlaced n o → ⊥)
    pub all : (n : ℕ) → n < length calls → key n ≡ k → kind (x_ n) ≡ changes w → (x_ n).begun ≤ m → (IsPlaced n o → ⊥)
        → has_key (until last (x_ n)) xs ≡ true
    pub once : NoTwice xs

  pub record Link (k m : ℕ) (s : State) (o : List Placed) : Type 0 where
    pub there : has_key k (set o).keys ≡ s.there
    pub lists : (w : Bool) → OpenList w k m (changes_to w s) o
    pub looks : (n : ℕ) (w : Bool) → n < length calls → key n ≡ k → kind (x_ n) ≡ sees w → (x_ n).begun ≤ m → (IsPlaced n o → ⊥)
        → (same w s.there ≡ true) ⊎ (s.turned < (x_ n).begun)
    pub now : s.turned ≤ m

  abbrev Swept : ℕ → ℕ → ℕ → State → List Placed → Type 0
  Swept b k m s o = (n : ℕ) (w : Bool) → n < b → n < length calls → key n ≡ k → kind (x_ n) ≡ sees w → (x_ n).begun ≤ m
      → (IsPlaced n o → ⊥) → same w s.there ≡ false

  abbrev Others : ℕ → ℕ → List Placed → List Placed → Type 0
  Others k m o p = (j : ℕ) → j ≢ k → (t : State) → Link j m t o → Link j m t p

  list_put : (w : Bool) (k m : ℕ) (xs : List ℕ) (o : List Placed) (n : ℕ) (r : Reply) → (key n ≡ k → kind (x_ n) ≡ changes w → ⊥)
      → OpenList w k m xs o → OpenList w k m xs (o ++ put n r ∷ [])
  list_put w k m xs o n r other l = record {
    open_call = λ u h. let c = l.open_call u h in (
      c.0,
      c.1,
      c.2,
      c.3,
      c.4,
      c.5,
      λ q. elim (placed_split c.0 o (put n r) q) [
        | inl p ↦ c.6 p
        | inr e ↦ other (ap key e ∙ c.2) (ap (λ i. kind (x_ i)) e ∙ c.3)
      ],
    );
    all = λ i low own is begun new. l.all i low own is begun (λ q. new (placed_still i o (put n r) q));
    once = l.once;
  }

  link_other : (k m : ℕ) (s : State) (o : List Placed) (n : ℕ) (r : Reply) → key n ≢ k → Link k m s o → Link k m s (o ++ put n r ∷ [])
  link_other k m s o n r ne l = record {
    there = ap (λ (q : SetState). has_key k q.keys) (set_put o n r) ∙ other_stays k (x_ n).thread (set o) (x_ n).call r ne ∙ l.there;
    lists = λ w. list_put w k m (changes_to w s) o n r (λ e _. ne e) (l.lists w);
    looks = λ i w low own is begun new. l.looks i w low own is begun (λ q. new (placed_still i o (put n r) q));
    now = l.now;
  }

  -- ---- Lemmas about appending a read to the order
  pub record Moved (k m : ℕ) (s : State) (o : List Placed) : Type 0 where
    pub order : List Placed
    pub built : Built m order
    pub link : Link k m s order
    pub others : Others k m o order
    pub grows : (i : ℕ) → IsPlaced i o → IsPlaced i order

  look_put : (k m : ℕ) (s : State) (o : List Placed) (n : ℕ) (w : Bool) → Built m o → Link k m s o → n < length calls → key n ≡ k
      → kind (x_ n) ≡ sees w → (x_ n).begun ≤ m → (IsPlaced n o → ⊥) → same w s.there ≡ true
      → (q : Moved k m s o) × IsPlaced n q.order × ((i : ℕ) → IsPlaced i o → IsPlaced i q.order)
  look_put k m s o n w b l low own is begun new fits = elim (none_or_some (x_ n).ended) [
    | inl e ↦ absurd (open_sees_not (x_ n).call w (subst (λ q. kind_if (x_ n).call q ≡ sees w) e is))
    | inr e ↦ (let r : Reply = e.0.1 in
        let d : kind_of (x_ n).call r ≡ sees w = subst (λ q. kind_if (x_ n).call q ≡ sees w) e.1 is in
        let h : has_key (key n) (set o).keys ≡ w = subst (λ j. has_key j (set o).keys ≡ w) (sym own) (l.there ∙ same_is w s.there fits) in
        let a = look_replies quota (x_ n).thread (set o) (x_ n).call r w (plain n e.0 low e.1) d h in
        let one = does_own quota (x_ n).thread (set o) (x_ n).call r a in
        let stays : has_key (key n) (after_call (set o) (x_ n).thread (x_ n).call r).keys ≡ has_key (key n) (set o).keys =
        one.1 ∙ ap (becomes (has_key (key n) (set o).keys)) d in
        let other : (v : Bool) → key n ≡ k → kind (x_ n) ≡ changes v → ⊥ = λ v _ f. kinds_apart v w (sym f ∙ is) in (
          record {
            order = o ++ put n r ∷ [];
            built = place m o n r b low begun new a (subst (λ q. IfSome q (λ (f : ℕ × Reply). f.1 ≡ r)) (sym e.1) refl);
            link = record {
              there = ap (λ (q : SetState). has_key k q.keys) (set_put o n r)
                  ∙ subst (λ j. has_key j (after_call (set o) (x_ n).thread (x_ n).call r).keys ≡ has_key j (set o).keys) own stays ∙ l.there;
              lists = λ v. list_put v k m (changes_to v s) o n r (other v) (l.lists v);
              looks = λ i v low own is begun new. l.looks i v low own is begun (λ q. new (placed_still i o (put n r) q));
              now = l.now;
            };
            others = λ j ne t t_link. link_other j m t o n r (λ q. ne (sym q ∙ own)) t_link;
            grows = λ i q. placed_still i o (put n r) q;
          },
          placed_new o (put n r),
          λ i q. placed_still i o (put n r) q,
        ))
  ]

  -- ---- Lemmas about appending all reads of a key's current state to the order
  sweepable : (k m n : ℕ) (s : State) (o : List Placed)
      → ((w : Bool) × (key n ≡ k) × (kind (x_ n) ≡ sees w) × ((x_ n).begun ≤ m) × (IsPlaced n o → ⊥) × (same w s.there ≡ true))
      ⊎ ((w : Bool) → key n ≡ k → kind (x_ n) ≡ sees w → (x_ n).begun ≤ m → (IsPlaced n o → ⊥) → same w s.there ≡ false)
  sweepable k m n s o = elim (placed_or_not n o) [
    | inl p ↦ inr (λ w a b c new. absurd (new p))
    | inr new ↦ elim (same_or_not (key n) k) [
      | inr ne ↦ inr (λ w a b c q. absurd (ne a))
      | inl own ↦ elim (below_or_not m (x_ n).begun) [
        | inl late ↦ inr (λ w a b c q. absurd (omega (arith, late, c)))
        | inr begun ↦ by own begun new (kind (x_ n)) refl
      ]
    ]
  ]
    where
      by : key n ≡ k → (x_ n).begun ≤ m → (IsPlaced n o → ⊥) → (d : Kind) → kind (x_ n) ≡ d
          → ((w : Bool) × (key n ≡ k) × (kind (x_ n) ≡ sees w) × ((x_ n).begun ≤ m) × (IsPlaced n o → ⊥) × (same w s.there ≡ true))
          ⊎ ((w : Bool) → key n ≡ k → kind (x_ n) ≡ sees w → (x_ n).begun ≤ m → (IsPlaced n o → ⊥) → same w s.there ≡ false)
      by own begun new (changes v) e = inr (λ w a b c q. absurd (kinds_apart v w (sym e ∙ b)))
      by own begun new nothing e = inr (λ w a b c q. absurd (let f : nothing ≡ sees w = sym e ∙ b in cc))
      by own begun new (sees v) e = elim (cases_Bool (same v s.there)) [
        | inl t ↦ inl (v, own, e, begun, new, t)
        | inr f ↦ inr (λ w a b c q. let g : sees v ≡ sees w = sym e ∙ b in let h : v ≡ w = cc in subst (λ y. same y s.there ≡ false) h f)
      ]

  pub sweep : (b k m : ℕ) (s : State) (o : List Placed) → b ≤ length calls → Built m o → Link k m s o
      → (q : Moved k m s o) × Swept b k m s q.order
  sweep zero k m s o low built l = (record { order = o; built = built; link = l; others = λ j ne t h. h; grows = λ i q. q }, λ n w a. absurd (omega (arith, a)))
  sweep (suc b) k m s o low built l =
      let first = sweep b k m s o (omega (arith, low)) built l in
      elim (sweepable k m b s first.0.order) [
        | inl y ↦ (let one = look_put k m s first.0.order b y.0 first.0.built first.0.link (omega (arith, low)) y.1 y.2 y.3 y.4 y.5 in (
          record {
            order = one.0.order;
            built = one.0.built;
            link = one.0.link;
            others = λ j ne t h. one.0.others j ne t (first.0.others j ne t h);
            grows = λ i q. one.0.grows i (first.0.grows i q);
          },
          λ n w a known own is begun new. elim (same_or_not n b) [
            | inl e ↦ absurd (new (subst (λ i. IsPlaced i one.0.order) (sym e) one.1))
            | inr ne ↦ first.1 n w (omega (arith, a, ne)) known own is begun (λ q. new (one.2 n q))
          ],
        ))
        | inr none ↦ (
          first.0,
          λ n w a known own is begun new. elim (same_or_not n b) [
            | inl e ↦ none w (ap key (sym e) ∙ own) (ap (λ i. kind (x_ i)) (sym e) ∙ is)
                (subst (λ i. (x_ i).begun ≤ m) e begun) (λ q. new (subst (λ i. IsPlaced i first.0.order) (sym e) q))
            | inr ne ↦ first.1 n w (omega (arith, a, ne)) known own is begun new
          ],
        )
      ]

  -- ---- Lemmas about appending a change to the order
  list_taken : (w : Bool) (k m u : ℕ) (xs : List ℕ) (o : List Placed) (n : ℕ) (r : Reply) → n < length calls → until last (x_ n) ≡ u
      → OpenList w k m xs o → OpenList w k m (take_out u xs) (o ++ put n r ∷ [])
  list_taken w k m u xs o n r low at_end l = record {
    open_call = λ y h. let c = l.open_call y (left_in y u xs h) in (
      c.0,
      c.1,
      c.2,
      c.3,
      c.4,
      c.5,
      λ q. elim (placed_split c.0 o (put n r) q) [
        | inl p ↦ c.6 p
        | inr e ↦ (let same_end : u ≡ y = sym at_end ∙ ap (λ i. until last (x_ i)) e ∙ c.4 in
            both_ways (has_key y (take_out u xs)) (subst (λ z. has_key z (take_out u xs) ≡ false) same_end (gone u xs l.once)) h)
      ],
    );
    all = λ i known own is begun new.
        others_stay (until last (x_ i)) u xs
        (λ e. elim (same_or_not i n) [
          | inl q ↦ new (subst (λ z. IsPlaced z (o ++ put n r ∷ [])) (sym q) (placed_new o (put n r)))
          | inr q ↦ untils_differ threads calls history last upto i n known low q (e ∙ sym at_end)
        ])
        (l.all i known own is begun (λ q. new (placed_still i o (put n r) q)));
    once = no_twice_left u xs l.once;
  }

  change_put : (k m : ℕ) (o : List Placed) (n : ℕ) (w : Bool) → Built m o → n < length calls → key n ≡ k → kind (x_ n) ≡ changes w
      → (x_ n).begun ≤ m → (IsPlaced n o → ⊥) → has_key k (set o).keys ≡ not w
      → Built m (o ++ put n True ∷ []) × (has_key k (set (o ++ put n True ∷ [])).keys ≡ w)
  change_put k m o n w b low own is begun new there =
      let h : has_key (key n) (set o).keys ≡ not w = subst (λ j. has_key j (set o).keys ≡ not w) (sym own) there in
      let a = change_replies quota (x_ n).thread (set o) (x_ n).call (x_ n).ended w is h
      (λ e. room o b.known b.once b.replies n low new (is ∙ ap changes e)) in
      let one = does_own quota (x_ n).thread (set o) (x_ n).call True a.0 in
      let now : has_key (key n) (after_call (set o) (x_ n).thread (x_ n).call True).keys ≡ w =
      one.1 ∙ ap (becomes (has_key (key n) (set o).keys)) a.1 in (
        place m o n True b low begun new a.0 a.2,
        ap (λ (q : SetState). has_key k q.keys) (set_put o n True)
            ∙ subst (λ j. has_key j (after_call (set o) (x_ n).thread (x_ n).call True).keys ≡ w) own now,
      )

  turn : (k m : ℕ) (b : Bool) (t : ℕ) (ps ks : List ℕ) (o : List Placed) (u : ℕ) → Built m o → Link k m (at b t ps ks) o
      → Swept (length calls) k m (at b t ps ks) o → has_key u (options (at b t ps ks)) ≡ true → Moved k m (turned_by m u (at b t ps ks)) o
  turn k m b t ps ks o u built l swept h =
      let c = (l.lists (not b)).open_call u h in
      let one = change_put k m o c.0 (not b) built c.1 c.2 c.3 c.5 c.6 (l.there ∙ twice b) in record {
        order = o ++ put c.0 True ∷ [];
        built = one.0;
        link = record {
          there = one.1;
          lists = λ v. lists b v c.0 c.1 c.3 c.4 l;
          looks = λ n w known own is begun new.
              inl (same_flips w b (swept n w known known own is begun (λ q. new (placed_still n o (put c.0 True) q))));
          now = omega arith;
        };
        others = λ j ne y y_link. link_other j m y o c.0 True (λ q. ne (sym q ∙ c.2)) y_link;
        grows = λ i q. placed_still i o (put c.0 True) q;
      }
    where
      twice : (b : Bool) → b ≡ not (not b)
      twice true = refl
      twice false = refl

      lists : (b v : Bool) (n : ℕ) → n < length calls → kind (x_ n) ≡ changes (not b) → until last (x_ n) ≡ u → Link k m (at b t ps ks) o
          → OpenList v k m (changes_to v (turned_by m u (at b t ps ks))) (o ++ put n True ∷ [])
      lists true true n low is at_end l =
          list_put true k m ps o n True (λ _ f. let g : changes false ≡ changes true = sym is ∙ f in cc) (l.lists true)
      lists true false n low is at_end l = list_taken false k m u ks o n True low at_end (l.lists false)
      lists false true n low is at_end l = list_taken true k m u ps o n True low at_end (l.lists true)
      lists false false n low is at_end l =
          list_put false k m ks o n True (λ _ f. let g : changes true ≡ changes false = sym is ∙ f in cc) (l.lists false)

  pub record Settled (k m : ℕ) (v : Event) (t : State) (o : List Placed) : Type 0 where
    pub moved : Moved k m t o
    pub finds : fits (suc m) v t ≡ true

  settled_now : (k m : ℕ) (v : Event) (g t : State) (o : List Placed) → g ≡ t → fits (suc m) v g ≡ true → Built m o → Link k m g o
      → Settled k m v t o
  settled_now k m v g t o e f b l = record {
    moved = record { order = o; built = b; link = subst (λ s. Link k m s o) e l; others = λ j ne y h. h; grows = λ i q. q };
    finds = subst (λ s. fits (suc m) v s ≡ true) e f;
  }

  moved_on : (k m : ℕ) (g t : State) (o : List Placed) (q : Moved k m g o) → Moved k m t q.order → Moved k m t o
  moved_on k m g t o q r = record {
    order = r.order;
    built = r.built;
    link = r.link;
    others = λ j ne y h. r.others j ne y (q.others j ne y h);
    grows = λ i p. r.grows i (q.grows i p);
  }

  abbrev state_or : State → Option State → State
  state_or d None = d
  state_or d (Some s) = s

  none_at_zero : (m : ℕ) (v : Event) (g : State) → fits (suc m) v g ≡ false → settled 0 m v (Some g) ≡ None
  none_at_zero m v g f = rw f refl

  -- Lemma: if one change of key k takes effect in the judge's test, the order can be extended, first by all reads that
  -- saw the key's current state, then by the change.
  turn_now : (k m : ℕ) (g t : State) (o : List Placed) → turned_if m g (options g) ≡ Some t → Built m o → Link k m g o → Moved k m t o
  turn_now k m g t o is built l = by (options g) refl is
    where
      by : (us : List ℕ) → options g ≡ us → turned_if m g us ≡ Some t → Moved k m t o
      by [] e is = no_state t is (Moved k m t o)
      by (u ∷ us) e is =
          let s = sweep (length calls) k m g o (omega arith) built l in
          let there : has_key (nearest u us) (options g) ≡ true = ap (has_key (nearest u us)) e ∙ nearest_stands u us in
          let one = turn k m g.there g.turned g.puts g.takes s.0.order (nearest u us) s.0.built s.0.link s.1 there in
          let same : turned_by m (nearest u us) g ≡ t = ap (state_or t) is in
          subst (λ q. Moved k m q o) same (moved_on k m g (turned_by m (nearest u us) g) o s.0 one)

  pub settle : (n k m : ℕ) (v : Event) (g t : State) (o : List Placed) → settled n m v (Some g) ≡ Some t → Built m o → Link k m g o → Settled k m v t o
  settle zero k m v g t o e built l = elim (cases_Bool (fits (suc m) v g)) [
    | inl f ↦ settled_now k m v g t o (ap (state_or t) (sym (at_once 0 m v g f) ∙ e)) f built l
    | inr f ↦ no_state t (sym (none_at_zero m v g f) ∙ e) (Settled k m v t o)
  ]
  settle (suc n) k m v g t o e built l = elim (cases_Bool (fits (suc m) v g)) [
    | inl f ↦ settled_now k m v g t o (ap (state_or t) (sym (at_once (suc n) m v g f) ∙ e)) f built l
    | inr f ↦ elim (some_or_none (turned_if m g (options g))) [
      | inl none ↦ no_state t (sym (settled_none n m v) ∙ sym (ap (settled n m v) none) ∙ sym (later n m v g f) ∙ e) (Settled k m v t o)
      | inr next ↦ (let one = turn_now k m g next.0 o next.1 built l in
          let rest = settle n k m v next.0 t one.order (sym (ap (settled n m v) next.1) ∙ sym (later n m v g f) ∙ e) one.built one.link in
          record { moved = moved_on k m next.0 t o one rest.moved; finds = rest.finds })
    ]
  ]

  -- ---- All keys at moment m: key k is in the state `was k`, and its event at moment m + 1 is `v k`
  module _ (m : ℕ) (v : ℕ → Event) (was : ℕ → State) (live : (k : ℕ) → is_some (stepped m (v k) (Some (was k))) ≡ true) where
    abbrev Lives : ℕ → State → Type 0
    Lives k s = found m (v k) s ≡ found m (v k) (was k)

    pub record Calm (k : ℕ) (o : List Placed) (s : State) : Type 0 where
      pub finds : fits (suc m) (v k) s ≡ true
      pub swept : Swept (length calls) k m s o

    abbrev Each : ℕ → List Placed → Type 0
    Each b o = (k : ℕ) → (s : State) × Link k m s o × Lives k s × ((n : ℕ) → n < b → key n ≡ k → Calm k o s)

    found_there : (k : ℕ) (s : State) → Lives k s → (t : State) × (found m (v k) s ≡ Some t)
    found_there k s lives = elim (some_or_none (found m (v k) (was k))) [
      | inl fails ↦ absurd (true≢false (sym (live k) ∙ ap (λ o. is_some (entered (v k) o)) fails))
      | inr is ↦ (is.0, lives ∙ is.1)
    ]

    finds_itself : (k : ℕ) (s : State) → fits (suc m) (v k) s ≡ true → found m (v k) s ≡ Some s
    finds_itself k s f = at_once (open_changes s) m (v k) s f

    each_key : (b : ℕ) (o : List Placed) → b ≤ length calls → Built m o → Each 0 o → (p : List Placed) × Built m p × Each b p
    each_key zero o low built each = (o, built, each)
    each_key (suc b) o low built each =
        let first = each_key b o (omega (arith, low)) built each in
        let k : ℕ = key b in
        let mine = first.2 k in
        let s : State = mine.0 in
        let t = found_there k s mine.2 in
        let one = settle (open_changes s) k m (v k) s t.0 first.0 t.1 first.1 mine.1 in
        let two = sweep (length calls) k m t.0 one.moved.order (omega arith) one.moved.built one.moved.link in
        let calm : Calm k two.0.order t.0 = record { finds = one.finds; swept = two.1 } in (
          two.0.order,
          two.0.built,
          λ j. elim (same_or_not j k) [
            | inl e ↦ subst (λ i. (s : State) × Link i m s two.0.order × Lives i s × ((n : ℕ) → n < suc b → key n ≡ i → Calm i two.0.order s))
                (sym e) (t.0, two.0.link, finds_itself k t.0 one.finds ∙ sym t.1 ∙ mine.2, λ n low own. calm)
            | inr ne ↦ (let its = first.2 j in (
              its.0,
              two.0.others j ne its.0 (one.moved.others j ne its.0 its.1),
              its.2,
              λ n low' own. elim (same_or_not n b) [
                | inl e ↦ absurd {A = Calm j two.0.order its.0} (ne (sym own ∙ ap key e))
                | inr d ↦ (let c = its.3 n (omega (arith, low', d)) own in record {
                  finds = c.finds;
                  swept = λ i w a known mine is begun new. c.swept i w a known mine is begun
                      (λ q. new (two.0.grows i (one.moved.grows i q)));
                })
              ],
            ))
          ],
        )

    calm_at_all : (k : ℕ) (o : List Placed) (s : State) → Link k m s o → Lives k s → ((n : ℕ) → n < length calls → key n ≡ k → Calm k o s)
        → fits (suc m) (v k) s ≡ true
    calm_at_all k o s l lives calm = true_from_ne_false (fits (suc m) (v k) s) (λ f. by (options s) refl f)
      where
        stuck : (n : ℕ) (t : State) → fits (suc m) (v k) s ≡ false → turned_if m s (options s) ≡ None → settled n m (v k) (Some s) ≡ Some t → ⊥
        stuck zero t f no_turn e = no_state t (sym (none_at_zero m (v k) s f) ∙ e) ⊥
        stuck (suc n) t f no_turn e =
            no_state t (sym (settled_none n m (v k)) ∙ sym (ap (settled n m (v k)) no_turn) ∙ sym (later n m (v k) s f) ∙ e) ⊥

        by : (us : List ℕ) → options s ≡ us → fits (suc m) (v k) s ≡ false → ⊥
        by [] e f = let t = found_there k s lives in stuck (open_changes s) t.0 f (ap (turned_if m s) e) t.1
        by (u ∷ us) e f =
            let c = (l.lists (not s.there)).open_call u (ap (has_key u) e ∙ has_head u us) in both_ways _ f (calm c.0 c.1 c.2).finds

    pub record Met (o : List Placed) : Type 0 where
      pub order : List Placed
      pub built : Built m order
      pub each : (k : ℕ) → (s : State) × Link k m s order × (fits (suc m) (v k) s ≡ true) × (found m (v k) (was k) ≡ Some s)
          × ((n : ℕ) → n < length calls → key n ≡ k → Calm k order s)

    pub meet : (o : List Placed) → Built m o → ((k : ℕ) → Link k m (was k) o) → Met o
    meet o built each =
        let all = each_key (length calls) o (omega arith) built (λ k. (was k, each k, refl, λ n low own. absurd (omega (arith, low)))) in
        record {
          order = all.0;
          built = all.1;
          each = λ k.
              let a = all.2 k in let f = calm_at_all k all.0 a.0 a.1 a.2 a.3 in
              (a.0, a.1, f, sym a.2 ∙ finds_itself k a.0 f, a.3);
        }

  -- ---- Lemmas about a single event
  abbrev ev : ℕ → ℕ → Event
  ev k m = event_at last k calls m

  begins_here : (k m n : ℕ) → n < length calls → key n ≡ k → (x_ n).begun ≡ m → ev k m ≡ begin_event (kind (x_ n)) (until last (x_ n))
  begins_here k m n low own b =
      subst (λ j. ev k j ≡ begin_event (kind (x_ n)) (until last (x_ n))) b (begins_at last k n calls low history.pairs own)

  change_here : (k m n : ℕ) (w : Bool) → n < length calls → key n ≡ k → kind (x_ n) ≡ changes w → (x_ n).begun ≡ m
      → ev k m ≡ begins w (until last (x_ n))
  change_here k m n w low own is b = begins_here k m n low own b ∙ ap (λ d. begin_event d (until last (x_ n))) is

  list_later : (w : Bool) (k m : ℕ) (xs : List ℕ) (o : List Placed) → ((u : ℕ) → ev k (suc m) ≡ begins w u → ⊥)
      → OpenList w k m xs o → OpenList w k (suc m) xs o
  list_later w k m xs o never l = record {
    open_call = λ u h. let c = l.open_call u h in let a = c.5 in (c.0, c.1, c.2, c.3, c.4, omega (arith, a), c.6);
    all = λ n low own is begun new. elim (below_or_not (x_ n).begun (suc m)) [
      | inl early ↦ l.all n low own is (omega (arith, early)) new
      | inr late ↦ absurd (never (until last (x_ n)) (change_here k (suc m) n w low own is (omega (arith, late, begun))))
    ];
    once = l.once;
  }

  list_begun : (w : Bool) (k m u : ℕ) (xs : List ℕ) (o : List Placed) → ev k (suc m) ≡ begins w u → Built m o
      → OpenList w k m xs o → OpenList w k (suc m) (put_in u xs) o
  list_begun w k m u xs o e built l = record {
    open_call = λ y h. elim (has_split y u xs (sym (has_put y u xs) ∙ h)) [
      | inl q ↦ (b.0.number, b.0.known, b.0.own, b.1, b.2 ∙ q, begun_now, unplaced)
      | inr r ↦ (let c = l.open_call y r in let a = c.5 in (c.0, c.1, c.2, c.3, c.4, omega (arith, a), c.6))
    ];
    all = λ n low own is begun new. has_put (until last (x_ n)) u xs ∙ elim (below_or_not (x_ n).begun (suc m)) [
      | inl early ↦ has_tail (until last (x_ n)) u xs (l.all n low own is (omega (arith, early)) new)
      | inr late ↦ (let here = change_here k (suc m) n w low own is (omega (arith, late, begun)) in
          let same_end : u ≡ until last (x_ n) = ap until_of (sym e ∙ here) in
          rw (equal_test u (until last (x_ n)) same_end) refl)
    ];
    once = no_twice_put u xs (
      false_from_ne_true (has_key u xs) (λ h. let c = l.open_call u h in elim (same_or_not c.0 b.0.number) [
        | inl q ↦ (let low = c.5 in let here = b.0.begun in let also : (x_ c.0).begun ≡ (x_ b.0.number).begun = ap (λ i. (x_ i).begun) q in
            omega (arith, low, here, also))
        | inr q ↦ untils_differ threads calls history last upto c.0 b.0.number c.1 b.0.known q (c.4 ∙ sym b.2)
      ]),
      l.once,
    );
  }
    where
      b : (q : Begins last k (suc m) calls (ev k (suc m))) × (kind (x_ q.number) ≡ changes w) × (until last (x_ q.number) ≡ u)
      b = begins_told threads calls history last upto k (ev k (suc m)) (suc m) w u e (told last k (suc m) calls)

      begun_now : (x_ b.0.number).begun ≤ suc m
      begun_now = let here = b.0.begun in omega (arith, here)

      unplaced : IsPlaced b.0.number o → ⊥
      unplaced p =
          let early = (begun_when_placed (λ (q : Placed). (x_ q.call).begun ≤ m) b.0.number o built.begun p).1 in
          let here = b.0.begun in omega (arith, early, here)

  looks_later : (k m : ℕ) (s : State) (o : List Placed) → Link k m s o
      → (n : ℕ) (w : Bool) → n < length calls → key n ≡ k → kind (x_ n) ≡ sees w → (x_ n).begun ≤ suc m → (IsPlaced n o → ⊥)
      → (same w s.there ≡ true) ⊎ (s.turned < (x_ n).begun)
  looks_later k m s o l n w low own is begun new = elim (below_or_not (x_ n).begun (suc m)) [
    | inl early ↦ l.looks n w low own is (omega (arith, early)) new
    | inr late ↦ (let t = l.now in inr (omega (arith, late, t)))
  ]

  list_past : (w : Bool) (k m : ℕ) (v : Event) (xs : List ℕ) (o : List Placed) → ev k (suc m) ≡ v → Built m o → OpenList w k m xs o
      → OpenList w k (suc m) (entering w v xs) o
  list_past true k m (begins true u) xs o e built l = list_begun true k m u xs o e built l
  list_past false k m (begins false u) xs o e built l = list_begun false k m u xs o e built l
  list_past true k m (begins false u) xs o e built l = list_later true k m xs o (λ y f. let g : begins false u ≡ begins true y = sym e ∙ f in cc) l
  list_past false k m (begins true u) xs o e built l = list_later false k m xs o (λ y f. let g : begins true u ≡ begins false y = sym e ∙ f in cc) l
  list_past w k m (ends x) xs o e built l = list_later w k m xs o (λ y f. let g : ends x ≡ begins w y = sym e ∙ f in cc) l
  list_past w k m (looks x i) xs o e built l = list_later w k m xs o (λ y f. let g : looks x i ≡ begins w y = sym e ∙ f in cc) l
  list_past w k m (leaves x) xs o e built l = list_later w k m xs o (λ y f. let g : leaves x ≡ begins w y = sym e ∙ f in cc) l
  list_past w k m idle xs o e built l = list_later w k m xs o (λ y f. let g : idle ≡ begins w y = sym e ∙ f in cc) l

  link_past : (k m : ℕ) (v : Event) (s : State) (o : List Placed) → ev k (suc m) ≡ v → Built m o → Link k m s o
      → Link k (suc m) (enters v s) o
  link_past k m v s o e built l =
      let t = l.now in record { there = l.there; lists = λ w. lists w; looks = looks_later k m s o l; now = omega (arith, t) }
    where
      lists : (w : Bool) → OpenList w k (suc m) (changes_to w (enters v s)) o
      lists true = list_past true k m v s.puts o e built (l.lists true)
      lists false = list_past false k m v s.takes o e built (l.lists false)

  ended_placed : (k m : ℕ) (s : State) (o : List Placed) → Link k m s o → fits (suc m) (ev k (suc m)) s ≡ true
      → Swept (length calls) k m s o → (n : ℕ) (e : ℕ × Reply) → n < length calls → key n ≡ k → (x_ n).ended ≡ Some e → e.0 ≡ suc m
      → (IsPlaced n o → ⊥) → ⊥
  ended_placed k m s o l finds swept n e low own ended at new = by (kind (x_ n)) refl
    where
      begun_before : (x_ n).begun < e.0
      begun_before = subst (λ q. IfSome q (λ (f : ℕ × Reply). (x_ n).begun < f.0)) ended (is_call threads calls history last upto n low).ends_later

      begun_low : (x_ n).begun ≤ m
      begun_low = let a = begun_before in omega (arith, a, at)

      event_is : ev k (suc m) ≡ end_event (kind (x_ n)) (x_ n).begun
      event_is = subst (λ j. ev k j ≡ end_event (kind (x_ n)) (x_ n).begun) at
          (ends_there last k n calls e low history.pairs own ended begun_before)

      until_is : until last (x_ n) ≡ suc m
      until_is = let a : until last (x_ n) ≡ e.0 = rw ended refl in a ∙ at

      finds_it : (d : Kind) → kind (x_ n) ≡ d → fits (suc m) (end_event d (x_ n).begun) s ≡ true
      finds_it d is = subst (λ q. fits (suc m) q s ≡ true) (event_is ∙ ap (λ q. end_event q (x_ n).begun) is) finds

      due : (xs : List ℕ) → has_key (until last (x_ n)) xs ≡ true → (not_before (suc (suc m)) xs == length xs) ≡ true → ⊥
      due xs h f =
          let a = late_ones (until last (x_ n)) (suc (suc m)) xs h (let u = until_is in omega (arith, u)) in
          let b = same_number _ _ f in omega (arith, a, b)

      by : (d : Kind) → kind (x_ n) ≡ d → ⊥
      by (changes w) is = due (changes_to w s) ((l.lists w).all n low own is begun_low new) (finds_it (changes w) is)
      by (sees w) is =
          let f = swept n w low low own is begun_low new in
          elim (l.looks n w low own is begun_low new) [
            | inl t ↦ both_ways _ f t
            | inr t ↦ not_both_or (same w s.there) (nat_lt s.turned (x_ n).begun) f (below_test s.turned (x_ n).begun t) (finds_it (sees w) is)
          ]
      by nothing is = plain_kind (x_ n).call e.1 (plain n e low ended) (subst (λ q. kind_if (x_ n).call q ≡ nothing) ended is)

  -- ---- Proof for all moments, by induction
  built_past : (m : ℕ) (o : List Placed) → Built m o
      → ((n : ℕ) (e : ℕ × Reply) → n < length calls → (x_ n).ended ≡ Some e → e.0 ≡ suc m → IsPlaced n o) → Built (suc m) o
  built_past m o b new = record {
    known = b.known;
    once = b.once;
    legal = b.legal;
    in_time = b.in_time;
    begun = λ i d l. let a = b.begun i d l in omega (arith, a);
    replies = b.replies;
    ended = λ n e low s q. elim (below_or_not e.0 (suc m)) [
      | inl early ↦ b.ended n e low s (omega (arith, early))
      | inr late ↦ new n e low s (omega (arith, late, q))
    ];
  }

  module _ (left : ℕ → Bool) where
    abbrev after : ℕ → ℕ → Option State
    after k m = state_after (ev k) (has_key k start.keys) m

    first_link : (k : ℕ) → Link k 0 (opened (has_key k start.keys)) []
    first_link k = record {
      there = refl;
      lists = none;
      looks = λ n w low own is begun new. let c = (is_call threads calls history last upto n low).counted in absurd (omega (arith, c, begun));
      now = omega arith;
    }
      where
        empty : (w : Bool) → OpenList w k 0 [] []
        empty w = record {
          open_call = λ u h. absurd (true≢false (sym h));
          all = λ n low own is begun new. let c = (is_call threads calls history last upto n low).counted in absurd (omega (arith, c, begun));
          once = tt;
        }

        none : (w : Bool) → OpenList w k 0 (changes_to w (opened (has_key k start.keys))) []
        none true = empty true
        none false = empty false

    first_built : Built 0 []
    first_built = record {
      known = λ i d l. absurd (omega (arith, l));
      once = λ i j d a b. absurd (omega (arith, b));
      legal = tt;
      in_time = λ i j d a b. absurd (omega (arith, b));
      begun = λ i d l. absurd (omega (arith, l));
      replies = λ i d l. absurd (omega (arith, l));
      ended = λ n e low s q.
          let c = (is_call threads calls history last upto n low).counted in
          let a = subst (λ z. IfSome z (λ (f : ℕ × Reply). (x_ n).begun < f.0)) s (is_call threads calls history last upto n low).ends_later in
          absurd (omega (arith, a, q));
    }

    was_some : (m : ℕ) (v : Event) (o : Option State) → is_some (stepped m v o) ≡ true → is_some o ≡ true
    was_some m v None e = e
    was_some m v (Some s) e = refl

    pub run : (m : ℕ) → m ≤ last → ((k : ℕ) → is_some (after k m) ≡ true)
        → (o : List Placed) × Built m o × ((k : ℕ) → (s : State) × Link k m s o × (after k m ≡ Some s))
    run zero low each = ([], first_built, λ k. (opened (has_key k start.keys), first_link k, refl))
    run (suc m) low each =
        let v : ℕ → Event = λ k. ev k (suc m) in
        let first = run m (omega (arith, low)) (λ k. was_some m (v k) (after k m) (each k)) in
        let was : ℕ → State = λ k. (first.2 k).0 in
        let live : (k : ℕ) → is_some (stepped m (v k) (Some (was k))) ≡ true = λ k. sym (ap (λ o. is_some (stepped m (v k) o)) (first.2 k).2) ∙ each k in
        let all = meet m v was live first.0 first.1 (λ k. (first.2 k).1) in
        let next : Built (suc m) all.order = built_past m all.order all.built (λ i f low s at. elim (placed_or_not i all.order) [
          | inl p ↦ p
          | inr new ↦ (let a = all.each (key i) in
              absurd (ended_placed (key i) m a.0 all.order a.1 a.2 (a.4 i low refl).swept i f low refl s at new))
        ]) in (
          all.order,
          next,
          λ k. let a = all.each k in
              (enters (v k) a.0, link_past k m (v k) a.0 all.order refl all.built a.1, ap (stepped m (v k)) (first.2 k).2 ∙ ap (entered (v k)) a.3),
        )

    pub order_found : ((k : ℕ) → may_leave (ev k) (has_key k start.keys) (left k) last ≡ true)
        → (p : List Placed) × Built last p × ((k : ℕ) → has_key k (set p).keys ≡ left k)
    order_found each =
        let first = run last (omega arith) (λ k. was_some last (leaves (left k)) (after k last) (each k)) in
        let was : ℕ → State = λ k. (first.2 k).0 in
        let live : (k : ℕ) → is_some (stepped last (leaves (left k)) (Some (was k))) ≡ true =
        λ k. sym (ap (λ o. is_some (stepped last (leaves (left k)) o)) (first.2 k).2) ∙ each k in
        let all = meet last (λ k. leaves (left k)) was live first.0 first.1 (λ k. (first.2 k).1) in
        (all.order, all.built, λ k. let a = all.each k in a.1.there ∙ same_is (left k) a.0.there a.2)

  -- ---- An order that contains each completed call linearizes the history
  contains_placed : (n : ℕ) (r : Reply) (ps : List Placed) → All (λ (p : Placed). p.call ≡ n → p.reply ≡ r) ps → IsPlaced n ps
      → Contains ps (put n r)
  contains_placed n r [] h i = absurd i
  contains_placed n r (p ∷ ps) h (inl e) =
      (0, omega arith, ap (λ c. record { call = c; reply = p.reply }) e ∙ ap (put n) (h 0 p (omega arith) e))
  contains_placed n r (p ∷ ps) h (inr i) =
      let rest = contains_placed n r ps (λ k d l. h (suc k) d (omega arith)) i in let l = rest.1 in (suc rest.0, omega (arith, l), rest.2)

  pub contains_ended : (m : ℕ) (o : List Placed) → Built m o → (n : ℕ) (e : ℕ × Reply) → n < length calls → (x_ n).ended ≡ Some e → e.0 ≤ m
      → Contains o (put n e.1)
  contains_ended m o b n e low s early = contains_placed n e.1 o
      (λ i d l q. sym (subst (λ z. IfSome z (λ (f : ℕ × Reply). f.1 ≡ (get_or o i d).reply)) (ap (λ j. (x_ j).ended) q ∙ s) (b.replies i d l)))
      (b.ended n e low s early)

  pub linearizes : (o : List Placed) → Built last o → Linearizes quota start calls o
  linearizes o b = record {
    known = b.known;
    once = b.once;
    ended = λ n e r low s. contains_ended last o b n (e, r) low s (let a = end_below calls n no_call (e, r) low s in omega (arith, a, upto));
    legal = b.legal;
    in_time = b.in_time;
  }
