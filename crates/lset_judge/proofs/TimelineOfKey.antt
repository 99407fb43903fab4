-- Proof: an order of the acts of a key (the effects of its calls) determines a correct timeline of the key (a choice of
-- when each change takes effect).
use Rattle.std.proofs.Common.{◌≡◌, ◌≢◌, ℕ, zero, suc, ◌<◌, ◌≤◌, ◌⊎◌, List, [], ◌∷◌, Bool, true, false, inl, inr, refl, sym, ap, ◌∙◌, arith}
use Rattle.std.proofs.Common.{subst, length}
use Rattle.std.specs.Prelude.{◌==◌, ◌||◌, not, nat_lt, Some, is_some}
use Rattle.std.specs.List.{AllByRecursion}
use Rattle.std.proofs.lemmas.Bool.{cases_Bool, both_ways, false_from_ne_true, true≢false, or_right}
use Rattle.std.proofs.lemmas.Bool.Decides.{nat_tests}
use Rattle.lset_words.specs.SequentialSet.{has_key}
use Rattle.lset_words.proofs.Numbers.{same_number, equal_test, below_or_not}
use Rattle.lset_history.proofs.Lists.{Pairs}
use Rattle.lset_judge.specs.Rule.{Event, begins, ends, looks, leaves, idle, State, same, changes_to, options, not_before, fits, entering, enters, entered}
use Rattle.lset_judge.specs.Rule.{put_in, take_out, turned_by, open_changes, opened, stepped, state_after, may_leave}
use Rattle.lset_judge.specs.Events.{Kind, changes, sees, nothing}
use Rattle.lset_judge.proofs.RuleLeads.{counts_one, at, Leads, leads_at_first, leads_past, settles, timeline_turns}

-- ---- Lemmas about lists

abbrev pub In : {A : Type 0} → A → List A → Type 0
In a [] = ⊥
In a (x ∷ xs) = (x ≡ a) ⊎ In a xs

pub one_of : {A : Type 0} (P : A → Type 0) (a : A) (xs : List A) → AllByRecursion P xs → In a xs → P a
one_of P a [] h i = absurd i
one_of P a (x ∷ xs) h (inl e) = subst P e h.0
one_of P a (x ∷ xs) h (inr i) = one_of P a xs h.1 i

abbrev pub NoTwice : List ℕ → Type 0
NoTwice [] = Unit {0}
NoTwice (x ∷ xs) = (has_key x xs ≡ false) × NoTwice xs

pub has_head : (u : ℕ) (xs : List ℕ) → has_key u (u ∷ xs) ≡ true
has_head u xs = rw (equal_test u u refl) refl

pub has_tail : (u x : ℕ) (xs : List ℕ) → has_key u xs ≡ true → has_key u (x ∷ xs) ≡ true
has_tail u x xs h = elim (cases_Bool (x == u)) [ inl e ↦ rw e refl | inr e ↦ rw e h ]

pub has_split : (u x : ℕ) (xs : List ℕ) → has_key u (x ∷ xs) ≡ true → (x ≡ u) ⊎ (has_key u xs ≡ true)
has_split u x xs h = elim (cases_Bool (x == u)) [ inl e ↦ inl (same_number x u e) | inr e ↦ inr (rw e at h) ]

-- ---- Lemmas about inserting a moment into a list or removing it
pub has_put : (u e : ℕ) (xs : List ℕ) → has_key u (put_in e xs) ≡ has_key u (e ∷ xs)
has_put u e [] = refl
has_put u e (x ∷ xs) = elim (cases_Bool (nat_lt e x)) [
  | inl t ↦ rw t refl
  | inr f ↦ rw f (ap (λ b. (x == u) || b) (has_put u e xs) ∙ in_turn (x == u) (e == u) (has_key u xs))
]
  where
    in_turn : (a b c : Bool) → (a || (b || c)) ≡ (b || (a || c))
    in_turn true true c = refl
    in_turn true false c = refl
    in_turn false b c = refl

pub no_twice_put : (u : ℕ) (xs : List ℕ) → NoTwice (u ∷ xs) → NoTwice (put_in u xs)
no_twice_put u [] h = h
no_twice_put u (x ∷ xs) h = elim (cases_Bool (nat_lt u x)) [
  | inl t ↦ rw t h
  | inr f ↦ rw f (elim (cases_Bool (has_key x (put_in u xs))) [
    | inr n ↦ (n, no_twice_put u xs (elim (cases_Bool (has_key u xs)) [ inl i ↦ absurd (both_ways _ h.0 (has_tail u x xs i)) | inr n ↦ n ], h.1.1))
    | inl i ↦ absurd (elim (has_split x u xs (sym (has_put x u xs) ∙ i)) [
      | inl s ↦ both_ways (has_key u (x ∷ xs)) h.0 (subst (λ y. has_key u (y ∷ xs) ≡ true) s (has_head u xs))
      | inr r ↦ both_ways _ h.1.0 r
    ])
  ])
]

pub left_in : (u e : ℕ) (xs : List ℕ) → has_key u (take_out e xs) ≡ true → has_key u xs ≡ true
left_in u e [] h = h
left_in u e (x ∷ xs) h = elim (cases_Bool (x == e)) [
  | inl t ↦ has_tail u x xs (rw t at h)
  | inr f ↦ elim (has_split u x (take_out e xs) (rw f at h)) [
    | inl s ↦ rw (equal_test x u s) refl
    | inr r ↦ has_tail u x xs (left_in u e xs r)
  ]
]

pub others_stay : (u e : ℕ) (xs : List ℕ) → u ≢ e → has_key u xs ≡ true → has_key u (take_out e xs) ≡ true
others_stay u e [] n h = h
others_stay u e (x ∷ xs) n h = elim (cases_Bool (x == e)) [
  | inl t ↦ (let s = same_number x e t in elim (has_split u x xs h) [
    | inl r ↦ absurd (n (sym r ∙ s))
    | inr r ↦ rw t r
  ])
  | inr f ↦ rw f (elim (has_split u x xs h) [
    | inl s ↦ rw (equal_test x u s) refl
    | inr r ↦ has_tail u x (take_out e xs) (others_stay u e xs n r)
  ])
]

not_in : (u e : ℕ) (xs : List ℕ) → has_key u xs ≡ false → has_key u (take_out e xs) ≡ false
not_in u e xs f = false_from_ne_true (has_key u (take_out e xs)) (λ t. both_ways _ f (left_in u e xs t))

pub gone : (e : ℕ) (xs : List ℕ) → NoTwice xs → has_key e (take_out e xs) ≡ false
gone e [] h = refl
gone e (x ∷ xs) h = elim (cases_Bool (x == e)) [
  | inl t ↦ rw t (subst (λ y. has_key y xs ≡ false) (same_number x e t) h.0)
  | inr f ↦ rw f (rw f (gone e xs h.1))
]

pub no_twice_left : (e : ℕ) (xs : List ℕ) → NoTwice xs → NoTwice (take_out e xs)
no_twice_left e [] h = tt
no_twice_left e (x ∷ xs) h = elim (cases_Bool (x == e)) [
  | inl t ↦ rw t h.1
  | inr f ↦ rw f (not_in x e xs h.0, no_twice_left e xs h.1)
]

all_late : (d : ℕ) (xs : List ℕ) → ((u : ℕ) → has_key u xs ≡ true → d ≤ u) → not_before d xs ≡ length xs
all_late d [] h = refl
all_late d (x ∷ xs) h =
    let o = counts_one d x (h x (has_head x xs)) in
    let rest = all_late d xs (λ u i. h u (has_tail u x xs i)) in
    omega (arith, o, rest)

-- ---- The acts (effects of calls) on one key, in an order

pub record Act : Type 0 where
  pub begun : ℕ
  pub until : ℕ
  pub does : Kind

abbrev pub suits : Bool → Kind → Type 0
suits b (changes w) = b ≡ not w
suits b (sees w) = b ≡ w
suits b nothing = Unit {0}

abbrev pub becomes : Bool → Kind → Bool
becomes b (changes w) = w
becomes b (sees w) = b
becomes b nothing = b

abbrev pub TakeTurns : Bool → Bool → List Act → Type 0
TakeTurns left b [] = b ≡ left
TakeTurns left b (a ∷ ys) = suits b a.does × TakeTurns left (becomes b a.does) ys

-- Holds if the act p (the effect of a call) can precede the act r in an order: r ends after p starts, and p and r end
-- at different moments.
pub record Apart (p r : Act) : Type 0 where
  pub in_time : p.begun < r.until
  pub other : p.until ≢ r.until

pub record IsAct (ev : ℕ → Event) (last : ℕ) (a : Act) : Type 0 where
  pub counted : 0 < a.begun
  pub inside : a.begun ≤ last
  pub ends_later : a.begun < a.until
  pub told : (w : Bool) → a.does ≡ changes w → ev a.begun ≡ begins w a.until

-- Holds if changes that start at different moments also end at different moments, and no event of the key is `leaves`,
-- the event for the final state.
pub record AreEvents (ev : ℕ → Event) : Type 0 where
  pub once : (i j : ℕ) (v w : Bool) (u : ℕ) → ev i ≡ begins v u → ev j ≡ begins w u → i ≡ j
  pub not_left : (i : ℕ) (w : Bool) → ev i ≡ leaves w → ⊥

abbrev pub act : ℕ → ℕ → Kind → Act
act i u k = record { begun = i; until = u; does = k }

abbrev pub until_of : Event → ℕ
until_of (begins w u) = u
until_of (ends w) = 0
until_of (looks w i) = 0
until_of (leaves w) = 0
until_of idle = 0

changes_apart : (w v : Bool) → changes w ≡ changes v → w ≡ v
changes_apart w v e = cc

pub same_self : (w b : Bool) → b ≡ w → same w b ≡ true
same_self true b e = e
same_self false b e = rw e refl

module _ (ev : ℕ → Event) (last : ℕ) (left : Bool) (are : AreEvents ev) where
  -- Holds if xs and ys agree on the pending changes to the state w after moment m. xs contains the moments when these
  -- changes end; ys contains the acts (effects of calls) that have not taken effect yet.
  pub record Lists (w : Bool) (m : ℕ) (xs : List ℕ) (ys : List Act) : Type 0 where
    pub from_event : (u : ℕ) → has_key u xs ≡ true → (i : ℕ) × (i ≤ m) × (ev i ≡ begins w u)
    pub needed : (u : ℕ) → has_key u xs ≡ true → u ≤ last → (i : ℕ) × In (act i u (changes w)) ys
    pub holds : (a : Act) → In a ys → a.does ≡ changes w → a.begun ≤ m → has_key a.until xs ≡ true
    pub once : NoTwice xs

  pub record Ready (m : ℕ) (s : State) (ys : List Act) : Type 0 where
    pub take_turns : TakeTurns left s.there ys
    pub acts : AllByRecursion (IsAct ev last) ys
    pub pairs : Pairs Apart ys
    pub lists : (w : Bool) → Lists w m (changes_to w s) ys
    pub begins_to_come : (i : ℕ) (w : Bool) (u : ℕ) → ev i ≡ begins w u → m < i → u ≤ last → In (act i u (changes w)) ys
    pub looks_to_come : (j : ℕ) (w : Bool) (i : ℕ) → ev j ≡ looks w i → m < j → j ≤ last
        → In (act i j (sees w)) ys ⊎ ((i ≤ m) × ((s.there ≡ w) ⊎ (i ≤ s.turned)))

  -- ---- Lemmas about the moment when the next act (effect of a call) takes effect
  not_first : (p a : Act) (ys : List Act) → In a (p ∷ ys) → (p ≡ a → ⊥) → In a ys
  not_first p a ys (inl e) n = absurd (n e)
  not_first p a ys (inr i) n = i

  lists_kept : (w : Bool) (m : ℕ) (xs : List ℕ) (p : Act) (ys : List Act) → (p.does ≡ changes w → ⊥) → Lists w m xs (p ∷ ys)
      → Lists w m xs ys
  lists_kept w m xs p ys n l = record {
    from_event = l.from_event;
    needed = λ u h low. let i = l.needed u h low in
        (i.0, not_first p (act i.0 u (changes w)) ys i.1 (λ e. n (ap (λ (a : Act). a.does) e)));
    holds = λ a i d b. l.holds a (inr i) d b;
    once = l.once;
  }

  lists_taken : (w : Bool) (m : ℕ) (xs : List ℕ) (p : Act) (ys : List Act) → AllByRecursion (Apart p) ys → Lists w m xs (p ∷ ys)
      → Lists w m (take_out p.until xs) ys
  lists_taken w m xs p ys apart l = record {
    from_event = λ u h. l.from_event u (left_in u p.until xs h);
    needed = λ u h low. let i = l.needed u (left_in u p.until xs h) low in (
      i.0,
      not_first p (act i.0 u (changes w)) ys i.1 (λ e.
          let same : p.until ≡ u = ap (λ (a : Act). a.until) e in
          both_ways (has_key u (take_out p.until xs)) (subst (λ y. has_key y (take_out p.until xs) ≡ false) same (gone p.until xs l.once)) h),
    );
    holds = λ a i d b. others_stay a.until p.until xs (λ e. (one_of (Apart p) a ys apart i).other (sym e)) (l.holds a (inr i) d b);
    once = no_twice_left p.until xs l.once;
  }

  begins_kept : (m : ℕ) (p : Act) (ys : List Act) → p.begun ≤ m
      → ((i : ℕ) (w : Bool) (u : ℕ) → ev i ≡ begins w u → m < i → u ≤ last → In (act i u (changes w)) (p ∷ ys))
      → (i : ℕ) (w : Bool) (u : ℕ) → ev i ≡ begins w u → m < i → u ≤ last → In (act i u (changes w)) ys
  begins_kept m p ys begun h i w u e late low =
      not_first p (act i u (changes w)) ys (h i w u e late low)
      (λ q. let same : p.begun ≡ i = ap (λ (a : Act). a.begun) q in omega (arith, same, begun, late))

  done_seen : (m : ℕ) (s : State) (p : Act) (ys : List Act) → p.begun ≤ m → ((w : Bool) → p.does ≡ changes w → ⊥)
      → Ready m s (p ∷ ys) → Ready m s ys
  done_seen m s p ys begun n r = record {
    take_turns = goes p.does n r.take_turns.0 r.take_turns.1;
    acts = r.acts.1;
    pairs = r.pairs.1;
    lists = λ w. lists_kept w m (changes_to w s) p ys (n w) (r.lists w);
    begins_to_come = begins_kept m p ys begun r.begins_to_come;
    looks_to_come = λ j w i e late low. elim (r.looks_to_come j w i e late low) [
      | inl (inl q) ↦ inr (
        subst (λ b. b ≤ m) (ap (λ (a : Act). a.begun) q) begun,
        inl (subst (suits s.there) (ap (λ (a : Act). a.does) q) r.take_turns.0),
      )
      | inl (inr q) ↦ inl q
      | inr q ↦ inr q
    ];
  }
    where
      goes : (k : Kind) → ((w : Bool) → k ≡ changes w → ⊥) → suits s.there k → TakeTurns left (becomes s.there k) ys
          → TakeTurns left s.there ys
      goes (changes w) n t h = absurd (n w refl)
      goes k n t h = h

  looks_kept : (m : ℕ) (s : State) (b : Bool) (p : Act) (ys : List Act) (v : Bool) → p.does ≡ changes v
      → Ready m s (p ∷ ys) → (j : ℕ) (w : Bool) (i : ℕ) → ev j ≡ looks w i → m < j → j ≤ last
      → In (act i j (sees w)) ys ⊎ ((i ≤ m) × ((b ≡ w) ⊎ (i ≤ m)))
  looks_kept m s b p ys v d r j w i e late low = elim (r.looks_to_come j w i e late low) [
    | inl q ↦ inl (not_first p (act i j (sees w)) ys q (λ e. let f : changes v ≡ sees w = sym d ∙ ap (λ (a : Act). a.does) e in cc))
    | inr q ↦ inr (q.0, inr q.0)
  ]

  turned : (m : ℕ) (b : Bool) (t : ℕ) (ps ks : List ℕ) (p : Act) (ys : List Act) (w : Bool) → p.begun ≤ m → p.does ≡ changes w
      → Ready m (at b t ps ks) (p ∷ ys) → (has_key p.until (options (at b t ps ks)) ≡ true) × Ready m (turned_by m p.until (at b t ps ks)) ys
  turned m b t ps ks p ys w begun d r = (
    (r.lists (not b)).holds p (inl refl) to begun,
    record {
      take_turns = subst (λ k. TakeTurns left (becomes b k) ys) to r.take_turns.1;
      acts = r.acts.1;
      pairs = r.pairs.1;
      lists = λ v. lists b v to r;
      begins_to_come = begins_kept m p ys begun r.begins_to_come;
      looks_to_come = looks_kept m (at b t ps ks) (not b) p ys w d r;
    },
  )
    where
      other : (b w : Bool) → b ≡ not w → changes w ≡ changes (not b)
      other b true e = rw e refl
      other b false e = rw e refl

      to : p.does ≡ changes (not b)
      to = d ∙ other b w (subst (suits b) d r.take_turns.0)

      lists : (b v : Bool) → p.does ≡ changes (not b) → Ready m (at b t ps ks) (p ∷ ys) → Lists v m (changes_to v (turned_by m p.until (at b t ps ks))) ys
      lists true true to r = lists_kept true m ps p ys (λ e. true≢false (changes_apart true false (sym e ∙ to))) (r.lists true)
      lists true false to r = lists_taken false m ks p ys r.pairs.0 (r.lists false)
      lists false true to r = lists_taken true m ps p ys r.pairs.0 (r.lists true)
      lists false false to r = lists_kept false m ks p ys (λ e. true≢false (changes_apart true false (sym to ∙ e))) (r.lists false)

  -- ---- Lemmas about an event before the start of the next act (effect of a call)
  abbrev Waits : ℕ → List Act → Type 0
  Waits m [] = Unit {0}
  Waits m (p ∷ ys) = m < p.begun

  none_early : (m : ℕ) (a : Act) (ys : List Act) → Waits m ys → AllByRecursion (IsAct ev last) ys → Pairs Apart ys → In a ys
      → suc m < a.until
  none_early m a [] w acts pairs i = absurd i
  none_early m a (p ∷ ys) w acts pairs (inl e) = let l = acts.0.ends_later in subst (λ (x : Act). suc m < x.until) e (omega (arith, l, w))
  none_early m a (p ∷ ys) w acts pairs (inr i) = let l = (one_of (Apart p) a ys pairs.0 i).in_time in omega (arith, l, w)

  lists_later : (w : Bool) (m : ℕ) (xs : List ℕ) (ys : List Act) → ((u : ℕ) → ev (suc m) ≡ begins w u → ⊥)
      → AllByRecursion (IsAct ev last) ys → Lists w m xs ys → Lists w (suc m) xs ys
  lists_later w m xs ys n acts l = record {
    from_event = λ u h. let i = l.from_event u h in let low = i.1 in (i.0, omega (arith, low), i.2);
    needed = l.needed;
    holds = λ a i d b. elim (below_or_not a.begun (suc m)) [
      | inl low ↦ l.holds a i d (omega (arith, low))
      | inr high ↦ (let same : a.begun ≡ suc m = omega (arith, high, b) in
          absurd (n a.until (subst (λ j. ev j ≡ begins w a.until) same ((one_of (IsAct ev last) a ys acts i).told w d))))
    ];
    once = l.once;
  }

  lists_begun : (w : Bool) (m u : ℕ) (xs : List ℕ) (ys : List Act) → ev (suc m) ≡ begins w u
      → AllByRecursion (IsAct ev last) ys → (u ≤ last → In (act (suc m) u (changes w)) ys) → Lists w m xs ys → Lists w (suc m) (put_in u xs) ys
  lists_begun w m u xs ys e acts comes l = record {
    from_event = λ y h. elim (has_split y u xs (sym (has_put y u xs) ∙ h)) [
      | inl s ↦ (suc m, omega arith, subst (λ z. ev (suc m) ≡ begins w z) s e)
      | inr h' ↦ (let i = l.from_event y h' in let low = i.1 in (i.0, omega (arith, low), i.2))
    ];
    needed = λ y h low. elim (has_split y u xs (sym (has_put y u xs) ∙ h)) [
      | inl s ↦ (suc m, subst (λ z. In (act (suc m) z (changes w)) ys) s (comes (omega (arith, s, low))))
      | inr h' ↦ l.needed y h' low
    ];
    holds = λ a i d b. has_put a.until u xs ∙ elim (below_or_not a.begun (suc m)) [
      | inl low ↦ has_tail a.until u xs (l.holds a i d (omega (arith, low)))
      | inr high ↦ (let same : a.begun ≡ suc m = omega (arith, high, b) in
          let told : ev (suc m) ≡ begins w a.until =
          subst (λ j. ev j ≡ begins w a.until) same ((one_of (IsAct ev last) a ys acts i).told w d) in
          let is : u ≡ a.until = ap until_of (sym e ∙ told) in
          rw (equal_test u a.until is) refl)
    ];
    once = no_twice_put u xs (new, l.once);
  }
    where
      new : has_key u xs ≡ false
      new = false_from_ne_true (has_key u xs) (λ h.
          let i = l.from_event u h in let same : i.0 ≡ suc m = are.once i.0 (suc m) w w u i.2 e in let low = i.1 in omega (arith, same, low))

  looks_later : (m : ℕ) (s : State) (ys : List Act) → Ready m s ys
      → (j : ℕ) (w : Bool) (i : ℕ) → ev j ≡ looks w i → suc m < j → j ≤ last
      → In (act i j (sees w)) ys ⊎ ((i ≤ suc m) × ((s.there ≡ w) ⊎ (i ≤ s.turned)))
  looks_later m s ys r j w i e late low = elim (r.looks_to_come j w i e (omega (arith, late)) low) [
    | inl q ↦ inl q
    | inr q ↦ (let a = q.0 in inr (omega (arith, a), q.1))
  ]

  lists_past : (w : Bool) (m : ℕ) (v : Event) (s : State) (xs : List ℕ) (ys : List Act) → ev (suc m) ≡ v → Ready m s ys → Lists w m xs ys
      → Lists w (suc m) (entering w v xs) ys
  lists_past true m (begins true u) s xs ys e r l = lists_begun true m u xs ys e r.acts (λ low. r.begins_to_come (suc m) true u e (omega arith) low) l
  lists_past false m (begins false u) s xs ys e r l = lists_begun false m u xs ys e r.acts (λ low. r.begins_to_come (suc m) false u e (omega arith) low) l
  lists_past true m (begins false u) s xs ys e r l = lists_later true m xs ys (λ y f. let g : begins false u ≡ begins true y = sym e ∙ f in cc) r.acts l
  lists_past false m (begins true u) s xs ys e r l = lists_later false m xs ys (λ y f. let g : begins true u ≡ begins false y = sym e ∙ f in cc) r.acts l
  lists_past w m (ends v) s xs ys e r l = lists_later w m xs ys (λ y f. let g : ends v ≡ begins w y = sym e ∙ f in cc) r.acts l
  lists_past w m (looks v j) s xs ys e r l = lists_later w m xs ys (λ y f. let g : looks v j ≡ begins w y = sym e ∙ f in cc) r.acts l
  lists_past w m (leaves v) s xs ys e r l = absurd (are.not_left (suc m) v e)
  lists_past w m idle s xs ys e r l = lists_later w m xs ys (λ y f. let g : idle ≡ begins w y = sym e ∙ f in cc) r.acts l

  event_past : (m : ℕ) (v : Event) (s : State) (ys : List Act) → ev (suc m) ≡ v → Ready m s ys → Ready (suc m) (enters v s) ys
  event_past m v s ys e r = record {
    take_turns = r.take_turns;
    acts = r.acts;
    pairs = r.pairs;
    lists = λ w. lists w;
    begins_to_come = λ i w y f late low. r.begins_to_come i w y f (omega (arith, late)) low;
    looks_to_come = looks_later m s ys r;
  }
    where
      lists : (w : Bool) → Lists w (suc m) (changes_to w (enters v s)) ys
      lists true = lists_past true m v s s.puts ys e r (r.lists true)
      lists false = lists_past false m v s s.takes ys e r (r.lists false)

  none_due : (w : Bool) (m : ℕ) (xs : List ℕ) (ys : List Act) → suc m ≤ last → Waits m ys → AllByRecursion (IsAct ev last) ys → Pairs Apart ys
      → Lists w m xs ys → not_before (suc (suc m)) xs ≡ length xs
  none_due w m xs ys low waits acts pairs l = all_late (suc (suc m)) xs (λ u h. elim (below_or_not u (suc (suc m))) [
    | inl early ↦ (let i = l.needed u h (omega (arith, early, low)) in
        let late = none_early m (act i.0 u (changes w)) ys waits acts pairs i.1 in absurd (omega (arith, early, late)))
    | inr late ↦ late
  ])

  event_fits : (m : ℕ) (v : Event) (s : State) (ys : List Act) → ev (suc m) ≡ v → suc m ≤ last → Waits m ys → Ready m s ys
      → fits (suc m) v s ≡ true
  event_fits m (leaves w) s ys e low waits r = absurd (are.not_left (suc m) w e)
  event_fits m (ends w) s ys e low waits r = equal_test _ _ (none_due w m (changes_to w s) ys low waits r.acts r.pairs (r.lists w))
  event_fits m (looks w i) s ys e low waits r = elim (r.looks_to_come (suc m) w i e (omega arith) low) [
    | inl q ↦ (let late = none_early m (act i (suc m) (sees w)) ys waits r.acts r.pairs q in absurd (omega (arith, late)))
    | inr q ↦ elim q.1 [
      | inl t ↦ rw (same_self w s.there t) refl
      | inr t ↦ or_right (same w s.there) (not (nat_lt s.turned i)) (is_not s.turned i t)
    ]
  ]
    where
      is_not : (t i : ℕ) → i ≤ t → not (nat_lt t i) ≡ true
      is_not t i l = grind (arith, nat_tests)
  event_fits m v s ys e low waits r = refl

  -- ---- Comparison of the judge's test with a timeline
  place : (m : ℕ) (p : Act) (ys : List Act) (g s : State) → p.begun ≤ m → Leads m g s → Ready m s (p ∷ ys) → (k : Kind) → p.does ≡ k
      → (t : State) × Leads m g t × Ready m t ys
  place m p ys g s begun l r (changes w) d =
      let t = turned m s.there s.turned s.puts s.takes p ys w begun d r in
      (turned_by m p.until s, timeline_turns g.there s.there m g.turned s.turned p.until g.puts g.takes s.puts s.takes l t.0, t.1)
  place m p ys g s begun l r (sees w) d = (s, l, done_seen m s p ys begun (λ v e. let f : sees w ≡ changes v = sym d ∙ e in cc) r)
  place m p ys g s begun l r nothing d = (s, l, done_seen m s p ys begun (λ v e. let f : nothing ≡ changes v = sym d ∙ e in cc) r)

  record Placed (m : ℕ) (g : State) : Type 0 where
    pub state : State
    pub acts : List Act
    pub leads : Leads m g state
    pub ready : Ready m state acts
    pub waits : Waits m acts

  place_now : (m : ℕ) (g : State) (ys : List Act) (s : State) → Leads m g s → Ready m s ys → Placed m g
  place_now m g [] s l r = record { state = s; acts = []; leads = l; ready = r; waits = tt }
  place_now m g (p ∷ ys) s l r = elim (below_or_not m p.begun) [
    | inl late ↦ record { state = s; acts = p ∷ ys; leads = l; ready = r; waits = late }
    | inr begun ↦ (let one = place m p ys g s begun l r p.does refl in place_now m g ys one.0 one.1 one.2)
  ]

  module _ (b : Bool) (first : List Act) (ready : Ready 0 (opened b) first) where
    goes_on : (m : ℕ) → m ≤ last → (g s : State) × (ys : List Act) × (state_after ev b m ≡ Some g) × Leads m g s × Ready m s ys
    goes_on zero low = (opened b, opened b, first, refl, leads_at_first b, ready)
    goes_on (suc m) low =
        let was = goes_on m (omega (arith, low)) in let v : Event = ev (suc m) in
        let now = place_now m was.0 was.2 was.1 was.4 was.5 in
        let t = settles (open_changes was.0) m v was.0 now.state now.leads (event_fits m v now.state now.acts refl low now.waits now.ready) (omega arith) in (
          enters v t.state,
          enters v now.state,
          now.acts,
          ap (stepped m v) was.3 ∙ ap (entered v) t.is,
          leads_past m v t.state now.state t.leads,
          event_past m v now.state now.acts refl now.ready,
        )

    none_left : (s : State) (ys : List Act) → Ready last s ys → Waits last ys → s.there ≡ left
    none_left s [] r w = r.take_turns
    none_left s (p ∷ ys) r w = absurd (let low = r.acts.0.inside in omega (arith, low, w))

    -- Lemma: if a key has a correct timeline (a choice of when each change takes effect), the key passes the judge's
    -- test.
    pub succeeds : may_leave ev b left last ≡ true
    succeeds =
        let was = goes_on last (omega arith) in let now = place_now last was.0 was.2 was.1 was.4 was.5 in
        let t = settles (open_changes was.0) last (leaves left) was.0 now.state now.leads
        (same_self left now.state.there (none_left now.state now.acts now.ready now.waits)) (omega arith) in
        ap is_some (ap (stepped last (leaves left)) was.3 ∙ ap (entered (leaves left)) t.is)
