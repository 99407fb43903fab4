-- Proof: the predicate `Fits` agrees with the sequential set. `Fits` holds for a call and a reply if and only if the
-- set returns the reply and the call does not change the set.
use Rattle.std.proofs.Common.{◌≡◌, ℕ, ◌+◌, ◌<◌, ◌≤◌, ◌⊎◌, inl, inr, List, [], ◌∷◌, sym, refl, ap, ◌∙◌, arith, true, false, subst}
use Rattle.std.specs.Prelude.{Contains, nat_lt, ◌==◌}
use Rattle.std.proofs.lemmas.Bool.{cases_Bool}
use Rattle.std.proofs.lemmas.Bool.Decides.{nat_tests}
use Rattle.lset_words.specs.declared.Key.{Key}
use Rattle.lset_words.specs.declared.Reply.{Reply}
use Rattle.lset_words.specs.declared.Reply.TheVariants.{At, Nothing, True, False, Full}
use Rattle.lset_words.specs.SequentialSet.{ceiling_in, SetState, has_key, with_key, without_key, count_of, reply_to, after_call}
use Rattle.lset_words.proofs.Numbers.{lower_number, not_lower_number, same_or_not}
use Rattle.lset_words.proofs.IncreasingLists.{contains-cons, contains-head, contains-tail, contains-nil, IncreasesFrom, increases_from_increasing, increasing_from_increases}
use Rattle.lset_words.specs.declared.Call.{Call}
use Rattle.lset_words.specs.declared.Call.TheVariants as call
use Rattle.lset_words.specs.declared.Reply.TheVariants as reply
use Rattle.lset_words.specs.Account.{Content, Fits}
use Rattle.lset_history.specs.Laws.{IncreasesFor}
use Rattle.lset_history.proofs.Keys.{has_true, has_from, has_false, has_none, with_keeps, without_from, member_or_not}

-- Holds if `x` is the smallest key in `xs` at or above `k`.
abbrev pub IsCeilingIn : ℕ → List ℕ → ℕ → Type 0
IsCeilingIn k xs x = (k ≤ x) × Contains xs x × ((j : ℕ) → k ≤ j → j < x → Contains xs j → ⊥)

no_lower : (lo y : ℕ) (xs : List ℕ) → IncreasesFrom lo xs → Contains xs y → lo ≤ y
no_lower lo y [] r c = absurd (contains-nil y c)
no_lower lo y (x ∷ xs) r c = elim (contains-cons x y xs c) [
  | inl e ↦ (let a : lo ≤ x = r.0 in omega arith)
  | inr d ↦ (let a : lo ≤ x = r.0 in let b : x + 1 ≤ y = no_lower (x + 1) y xs r.1 d in omega arith)
]

key_is : (a b : Key) → At a ≡ At b → a ≡ b
key_is a b e = cc

pub ceiling_found : (k lo : ℕ) (x : Key) (xs : List ℕ) → IncreasesFrom lo xs → IsCeilingIn k xs x.0 → ceiling_in k xs ≡ At x
ceiling_found k lo x [] r c = absurd (contains-nil x.0 c.1)
ceiling_found k lo x (y ∷ ys) r c = elim (cases_Bool (nat_lt y k)) [
  | inl f ↦ rw f (elim (contains-cons y x.0 ys c.1) [
    | inl e ↦ absurd (let l : y < k = lower_number y k f in let a : k ≤ x.0 = c.0 in omega arith)
    | inr d ↦ ceiling_found k (y + 1) x ys r.1 (c.0, d, λ j a b m. c.2 j a b (contains-tail y j ys m))
  ])
  | inr f ↦ rw f (elim (contains-cons y x.0 ys c.1) [
    | inl e ↦ ap (λ z. At (record { 0 = z })) e
    | inr d ↦ absurd (let l : y + 1 ≤ x.0 = no_lower (y + 1) x.0 ys r.1 d in
        c.2 y (not_lower_number y k f) (omega arith) (contains-head y y ys refl))
  ])
]

pub found_ceiling : (k lo : ℕ) (x : Key) (xs : List ℕ) → IncreasesFrom lo xs → ceiling_in k xs ≡ At x → IsCeilingIn k xs x.0
found_ceiling k lo x [] r e = absurd (cc)
found_ceiling k lo x (y ∷ ys) r e = elim (cases_Bool (nat_lt y k)) [
  | inl f ↦
      (let l : y < k = lower_number y k f in
      let c : IsCeilingIn k ys x.0 = found_ceiling k (y + 1) x ys r.1 (rw f at e) in (
        c.0,
        contains-tail y x.0 ys c.1,
        λ j a b m. elim (contains-cons y j ys m) [ inl g ↦ absurd (omega arith) | inr d ↦ c.2 j a b d ],
      ))
  | inr f ↦
      (let l : k ≤ y = not_lower_number y k f in
      let is : y ≡ x.0 = ap (λ (z : Key). z.0) (key_is (record { 0 = y }) x (rw f at e)) in (
        omega arith,
        contains-head y x.0 ys is,
        λ j a b m. elim (contains-cons y j ys m) [
          | inl g ↦ omega arith
          | inr d ↦ (let h : y + 1 ≤ j = no_lower (y + 1) j ys r.1 d in omega arith)
        ],
      ))
]

pub ceiling_none : (k : ℕ) (xs : List ℕ) → ((j : ℕ) → k ≤ j → Contains xs j → ⊥) → ceiling_in k xs ≡ Nothing
ceiling_none k [] h = refl
ceiling_none k (y ∷ ys) h = elim (cases_Bool (nat_lt y k)) [
  | inl f ↦ rw f (ceiling_none k ys (λ j a m. h j a (contains-tail y j ys m)))
  | inr f ↦ absurd (h y (not_lower_number y k f) (contains-head y y ys refl))
]

pub none_ceiling : (k : ℕ) (xs : List ℕ) → ceiling_in k xs ≡ Nothing → (j : ℕ) → k ≤ j → Contains xs j → ⊥
none_ceiling k [] e j a m = contains-nil j m
none_ceiling k (y ∷ ys) e j a m = elim (cases_Bool (nat_lt y k)) [
  | inl f ↦ elim (contains-cons y j ys m) [
    | inl g ↦ (let l : y < k = lower_number y k f in omega arith)
    | inr d ↦ none_ceiling k ys (rw f at e) j a d
  ]
  | inr f ↦ (let g : At (record { 0 = y }) ≡ Nothing = rw f at e in absurd (cc))
]

pub ceiling_cases : (k : ℕ) (xs : List ℕ) → (ceiling_in k xs ≡ Nothing) ⊎ ((x : Key) × (ceiling_in k xs ≡ At x))
ceiling_cases k [] = inl refl
ceiling_cases k (y ∷ ys) = elim (cases_Bool (nat_lt y k)) [
  | inl f ↦ rw f (ceiling_cases k ys)
  | inr f ↦ rw f (inr (record { 0 = y }, refl))
]

pub ceiling_not : {A : Type 0} (k : ℕ) (xs : List ℕ) (r : Reply) → ceiling_in k xs ≡ r → ((x : Key) → At x ≡ r → ⊥) →
    (Nothing ≡ r → ⊥) → A
ceiling_not k xs r e f g = elim (ceiling_cases k xs) [
  | inl h ↦ absurd (g (sym h ∙ e))
  | inr h ↦ absurd (f h.0 (sym h.1 ∙ e))
]

abbrev key_told : Reply → ℕ
key_told (reply.At x) = x.0
key_told reply = 0

-- Holds if the predicate `content` holds for exactly the keys in the list `keys`.
abbrev pub SameKeys : Content → List ℕ → Type 0
SameKeys content keys = (j : ℕ) → (content j → Contains keys j) × (Contains keys j → content j)

pub increases_for : (call : Call) (keys : List ℕ) → IncreasesFrom 0 keys → IncreasesFor call keys
increases_for (call.Ceiling k) keys r = increasing_from_increases 0 keys r
increases_for call keys r = tt

-- Holds if the sequential set returns `reply` and the call does not change the set.
abbrev pub Replies : ℕ → SetState → ℕ → Call → Reply → Type 0
Replies quota s thread call reply = (reply_to quota s thread call ≡ reply) × (after_call s thread call reply ≡ s)

module _ (quota : ℕ) (content : Content) (s : SetState) (same : SameKeys content s.keys) where
  member : (k : ℕ) → content k → has_key k s.keys ≡ true
  member k h = has_true k s.keys ((same k).0 h)

  no_member : (k : ℕ) → (content k → ⊥) → has_key k s.keys ≡ false
  no_member k h = has_false k s.keys (λ c. h ((same k).1 c))

  is_member : (k : ℕ) → has_key k s.keys ≡ true → content k
  is_member k e = (same k).1 (has_from k s.keys e)

  is_none : (k : ℕ) → has_key k s.keys ≡ false → content k → ⊥
  is_none k e h = has_none k s.keys e ((same k).0 h)

  pub replies_from_fits : (thread count : ℕ) (call : Call) (reply : Reply) → IncreasesFor call s.keys → count_of s thread ≡ count
      → Fits quota content count call reply → Replies quota s thread call reply
  replies_from_fits t n (call.Add k) False increasing e f = let a : has_key k.0 s.keys ≡ true = member k.0 f in (rw a refl, refl)
  replies_from_fits t n (call.Add k) Full increasing e f =
      let a : has_key k.0 s.keys ≡ false = no_member k.0 f.0 in
      let m : n ≡ quota = f.1 in
      let b : (count_of s t == quota) ≡ true = grind (arith, nat_tests) in
      (rw (a, b) refl, refl)
  replies_from_fits t n (call.Remove k) False increasing e f =
      let a : has_key k.0 s.keys ≡ false = no_member k.0 f in
      (rw a refl, refl)
  replies_from_fits t n (call.Contains k) True increasing e f = let a : has_key k.0 s.keys ≡ true = member k.0 f in (rw a refl, refl)
  replies_from_fits t n (call.Contains k) False increasing e f =
      let a : has_key k.0 s.keys ≡ false = no_member k.0 f in
      (rw a refl, refl)
  replies_from_fits t n (call.Ceiling k) (reply.At x) increasing e f = (
    ceiling_found k.0 0 x s.keys (increases_from_increasing s.keys increasing) (
      f.0,
      (same x.0).0 f.1,
      λ j lo hi m. f.2 j lo hi ((same j).1 m),
    ),
    refl,
  )
  replies_from_fits t n (call.Ceiling k) reply.Nothing increasing e f = (
    ceiling_none k.0 s.keys (λ j lo m. f j lo ((same j).1 m)),
    refl,
  )
  replies_from_fits t n call reply increasing e f = absurd f

  pub fits_from_replies : (thread count : ℕ) (call : Call) (reply : Reply) → IncreasesFor call s.keys → count_of s thread ≡ count
      → Replies quota s thread call reply → Fits quota content count call reply
  fits_from_replies t n (call.Add k) y increasing e f = elim (cases_Bool (has_key k.0 s.keys)) [
    | inl a ↦ subst (Fits quota content n (call.Add k)) (let g : False ≡ y = rw a at f.0 in g) (is_member k.0 a)
    | inr a ↦ elim (cases_Bool (count_of s t == quota)) [
      | inl b ↦ subst (Fits quota content n (call.Add k)) (let g : Full ≡ y = rw (a, b) at f.0 in g)
          (is_none k.0 a, (let g : count_of s t ≡ quota = grind (arith, nat_tests) in sym e ∙ g))
      | inr b ↦
          let g : True ≡ y = rw (a, b) at f.0 in
          let h : with_key k.0 s.keys ≡ s.keys =
          ap (λ (z : SetState). z.keys) (subst (Replies quota s t (call.Add k)) (sym g) f).1 in
          absurd (has_none k.0 s.keys a (subst (λ z. Contains z k.0) h (with_keeps k.0 k.0 s.keys (inl refl))))
    ]
  ]
  fits_from_replies t n (call.Remove k) y increasing e f = elim (cases_Bool (has_key k.0 s.keys)) [
    | inl a ↦
        let g : True ≡ y = rw a at f.0 in
        let h : without_key k.0 s.keys ≡ s.keys =
        ap (λ (z : SetState). z.keys) (subst (Replies quota s t (call.Remove k)) (sym g) f).1 in
        absurd ((without_from k.0 k.0 s.keys (subst (λ z. Contains z k.0) (sym h) (has_from k.0 s.keys a))).1 refl)
    | inr a ↦ subst (Fits quota content n (call.Remove k)) (let g : False ≡ y = rw a at f.0 in g) (is_none k.0 a)
  ]
  fits_from_replies t n (call.Contains k) y increasing e f = elim (cases_Bool (has_key k.0 s.keys)) [
    | inl a ↦ subst (Fits quota content n (call.Contains k)) (let g : True ≡ y = rw a at f.0 in g) (is_member k.0 a)
    | inr a ↦ subst (Fits quota content n (call.Contains k)) (let g : False ≡ y = rw a at f.0 in g) (is_none k.0 a)
  ]
  fits_from_replies t n (call.Ceiling k) (reply.At x) increasing e f =
      let c = found_ceiling k.0 0 x s.keys (increases_from_increasing s.keys increasing) f.0 in
      (c.0, (same x.0).1 c.1, λ j lo hi m. c.2 j lo hi ((same j).0 m))
  fits_from_replies t n (call.Ceiling k) reply.Nothing increasing e f = λ j lo m. none_ceiling k.0 s.keys f.0 j lo ((same j).0 m)
  fits_from_replies t n (call.Ceiling k) y increasing e f = ceiling_not k.0 s.keys y f.0 (λ x g. cc) (λ g. cc)

  -- Lemmas: it is decidable whether a key is in the set, because the set's keys are known as a list. Therefore it is
  -- also decidable whether a reply is correct.
  present : (k : ℕ) → content k ⊎ (content k → ⊥)
  present k = elim (member_or_not k s.keys) [ inl c ↦ inl ((same k).1 c) | inr c ↦ inr (λ h. c ((same k).0 h)) ]

  absent : (k : ℕ) → (content k → ⊥) ⊎ ((content k → ⊥) → ⊥)
  absent k = elim (present k) [ inl h ↦ inr (λ n. n h) | inr h ↦ inl h ]

  pub fits_or_not : IncreasesFrom 0 s.keys → (count : ℕ) (call : Call) (reply : Reply) → Fits quota content count call reply
      ⊎ (Fits quota content count call reply → ⊥)
  fits_or_not increasing n (call.Add k) False = present k.0
  fits_or_not increasing n (call.Add k) Full = elim (present k.0) [
    | inl h ↦ inr (λ f. f.0 h)
    | inr h ↦ elim (same_or_not n quota) [ inl e ↦ inl (h, e) | inr e ↦ inr (λ f. e f.1) ]
  ]
  fits_or_not increasing n (call.Remove k) False = absent k.0
  fits_or_not increasing n (call.Contains k) True = present k.0
  fits_or_not increasing n (call.Contains k) False = absent k.0
  fits_or_not increasing n (call.Ceiling k) (reply.At x) = elim (ceiling_cases k.0 s.keys) [
    | inl e ↦ inr (λ f. let g : reply.Nothing ≡ reply.At x = sym e
        ∙ (replies_from_fits 0 (count_of s 0) (call.Ceiling k) (reply.At x) (increasing_from_increases 0 s.keys increasing) refl f).0 in
        absurd (cc))
    | inr p ↦ elim (same_or_not p.0.0 x.0) [
      | inl y ↦ inl (fits_from_replies 0 (count_of s 0) (call.Ceiling k) (reply.At x) (increasing_from_increases 0 s.keys increasing) refl
          (p.1 ∙ ap (λ z. reply.At (record { 0 = z })) y, refl))
      | inr y ↦ inr (λ f. y (ap key_told (sym p.1
          ∙ (replies_from_fits 0 (count_of s 0) (call.Ceiling k) (reply.At x) (increasing_from_increases 0 s.keys increasing) refl f).0)))
    ]
  ]
  fits_or_not increasing n (call.Ceiling k) reply.Nothing = elim (ceiling_cases k.0 s.keys) [
    | inl e ↦ inl (fits_from_replies 0 (count_of s 0) (call.Ceiling k) reply.Nothing (increasing_from_increases 0 s.keys increasing) refl
        (e, refl))
    | inr p ↦ inr (λ f. let g : reply.At p.0 ≡ reply.Nothing = sym p.1
        ∙ (replies_from_fits 0 (count_of s 0) (call.Ceiling k) reply.Nothing (increasing_from_increases 0 s.keys increasing) refl f).0 in
        absurd (cc))
  ]
  fits_or_not increasing n call reply = inr (λ f. f)
