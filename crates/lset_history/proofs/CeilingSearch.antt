-- Lemmas about a search: at which moment is a key first the smallest present key at or above a given key? The search
-- examines one recorded change after another, and finally the keys present after the last change.
use Rattle.std.proofs.Common.{rules, ◌≡◌, ◌≢◌, ℕ, ◌+◌, ◌<◌, ◌≤◌, inl, inr, Bool, true, false, not, List, [], ◌∷◌, sym, refl}
use Rattle.std.proofs.Common.{subst, ap, ◌∙◌, arith}
use Rattle.std.specs.Prelude.{Option, Some, None, All, IsTrue, ◌==◌, nat_lt, if◌then◌else◌}
use Rattle.std.proofs.lemmas.Bool.{both_ways}
use Rattle.std.proofs.lemmas.List.Elements.{All-tail, All-nil, All-cons, All-weaker}
use Rattle.lset_words.proofs.Numbers.{below_or_not, same_or_not, equal_test, unequal_test, if_below, if_not_below}
use Rattle.lset_words.specs.Account.{IsCeiling}
use Rattle.lset_history.specs.Changes.{IsFirst, is_present, is_present_now, state_at}
use Rattle.lset_history.specs.Raising.{IsNextNote, is_against, IsCandidateUpTo, IsCandidate, IsBelow, IsSomeThere, CameAfter}
use Rattle.lset_history.specs.Raising.{IsNextPresent}
use Rattle.lset_history.proofs.ChangeLaws.{present_past}

abbrev pub CeilingAt : (ℕ → List ℕ) → ℕ → Option ℕ → ℕ → Type 0
CeilingAt changes key found m = IsCeiling (λ j. is_present changes j m ≡ true) key found

-- Holds if no moment in `ms` is after `a` and at or before `b`. If `ms` contains all moments when a key changes, the
-- key does not change after `a` up to `b`.
abbrev IsQuiet : List ℕ → ℕ → ℕ → Type 0
IsQuiet ms a b = All (λ m. a < m → m ≤ b → ⊥) ms

quiet_upto : (x : ℕ) (ms : List ℕ) (a b : ℕ) → x ≤ b → IsQuiet (x ∷ ms) a b → x ≤ a
quiet_upto x ms a b u q = search rules

quiet_state : (present : Bool) (ms : List ℕ) (a b : ℕ) → a ≤ b → IsQuiet ms a b → state_at present ms b ≡ state_at present ms a
quiet_state present [] a b l q = refl
quiet_state present (x ∷ ms) a b l q = elim (below_or_not b x) [
  | inl u ↦ if_below b x u present (state_at (not present) ms b)
      ∙ sym (if_below a x (omega arith) present (state_at (not present) ms a))
  | inr u ↦ if_not_below b x u present (state_at (not present) ms b)
      ∙ quiet_state (not present) ms a b l (All-tail (λ m. a < m → m ≤ b → ⊥) x ms q)
      ∙ sym (if_not_below a x (quiet_upto x ms a b u q) present (state_at (not present) ms a))
]

module _ (changes : ℕ → List ℕ) (key : ℕ) (found : Option ℕ) where
  against_same : (o : Option ℕ) (j m n : ℕ) → is_present changes j n ≡ is_present changes j m →
      is_against changes key o j n ≡ is_against changes key o j m
  against_same None j m n e = ap (λ b. if nat_lt j key then false else b) e
  against_same (Some x) j m n e =
      ap (λ b. if nat_lt j key then false else if nat_lt x j then false else if x == j then not b else b) e

  quiet_against : (j a b : ℕ) → a ≤ b → IsQuiet (changes j) a b → is_against changes key found j b ≡ is_against changes key found
      j a
  quiet_against j a b l q = against_same found j a b (quiet_state false (changes j) a b l q)

  -- ---- Lemmas about the search from one recorded change to the next

  module _ (last : ℕ) (note : ℕ × ℕ) (next : IsNextNote changes last (Some note)) where
    before_note : (j m : ℕ) → last ≤ m → m < note.0 → is_against changes key found j m ≡ is_against changes key found j last
    before_note j m l u = quiet_against j last m l (All-weaker (λ c. last < c → c ≤ note.0 → (c ≡ note.0) × (j ≡ note.1))
        (λ c. last < c → c ≤ m → ⊥) (λ c h a b. let e : c ≡ note.0 = (h a (omega arith)).0 in omega arith) (changes j) (next.1 j))

    at_note : (j : ℕ) → j ≢ note.1 → is_against changes key found j note.0 ≡ is_against changes key found j last
    at_note j d = quiet_against j last note.0 (let l : last < note.0 = next.0 in omega arith)
        (All-weaker (λ c. last < c → c ≤ note.0 → (c ≡ note.0) × (j ≡ note.1))
        (λ c. last < c → c ≤ note.0 → ⊥) (λ c h a b. d (h a b).1) (changes j) (next.1 j))

    module _ (from moment : ℕ) (s : IsCandidateUpTo changes key found from moment last) (up : moment ≤ last) where
      stays_at_last : (j : ℕ) → is_against changes key found j moment ≡ true → is_against changes key found j last ≡ true
      stays_at_last j h = s.stays j last h up (omega arith)

      stays_before : (j m : ℕ) → is_against changes key found j moment ≡ true → moment ≤ m → m < note.0 →
          is_against changes key found j m ≡ true
      stays_before j m h l u = elim (below_or_not last m) [
        | inl a ↦ before_note j m (omega arith) u ∙ stays_at_last j h
        | inr b ↦ s.stays j m h l b
      ]

      pub candidate_raised : is_against changes key found note.1 moment ≡ true →
          IsCandidateUpTo changes key found from note.0 note.0
      candidate_raised h =
          let low : from ≤ moment = s.low in
          let later : last < note.0 = next.0 in
          record {
            low = omega arith;
            before = λ m a b. elim (below_or_not m moment) [
              | inl l ↦ s.before m a l
              | inr g ↦ (
                note.1,
                stays_before note.1 m h g b,
              )
            ];
            stays = λ j m against l u. subst (λ z. is_against changes key found j z ≡ true) (let e : note.0 ≡ m = omega arith in
                e) against;
          }

      pub candidate_kept : is_against changes key found note.1 moment ≡ false →
          IsCandidateUpTo changes key found from moment note.0
      candidate_kept n = record {
        low = s.low;
        before = s.before;
        stays = λ j m h l u. elim (below_or_not m note.0) [
          | inl a ↦ stays_before j m h l a
          | inr b ↦ subst (λ z. is_against changes key found j z ≡ true) (let e : note.0 ≡ m = omega arith in e)
              (at_note j (λ e. both_ways (is_against changes key found j moment)
              (subst (λ z. is_against changes key found z moment ≡ false) (sym e) n) h) ∙ stays_at_last j h)
        ];
      }

  pub candidate_begins : (from : ℕ) → IsCandidateUpTo changes key found from from from
  candidate_begins from = record {
    low = omega arith;
    before = λ m a b. absurd (omega arith);
    stays = λ j m against l u. subst (λ z. is_against changes key found j z ≡ true) (let e : from ≡ m = omega arith in e) against;
  }

  pub candidate_ends : (from moment last : ℕ) → IsCandidateUpTo changes key found from moment last → moment ≤ last
      → IsNextNote changes last None → IsCandidate changes key found from moment
  candidate_ends from moment last s up none = λ to l. record {
    low = s.low;
    before = s.before;
    stays = λ j m h a b. elim (below_or_not last m) [
      | inl u ↦ quiet_against j last m (omega arith)
          (All-weaker (λ c. c ≤ last) (λ c. last < c → c ≤ m → ⊥) (λ c x y z. omega arith)
          (changes j) (none j)) ∙ s.stays j last h up (omega arith)
      | inr u ↦ s.stays j m h a u
    ];
  }

-- ---- Lemmas about the search after the last change

-- Lemma: a key from `key` to just below `o` refutes the claim that `o` is the smallest present key at or above `key` if
-- and only if it is present.
against_below : (changes : ℕ → List ℕ) (key : ℕ) (o : Option ℕ) (j m : ℕ) → key ≤ j → IsBelow j o
    → is_against changes key o j m ≡ is_present changes j m
against_below changes key None j m l u = if_not_below j key l false (is_present changes j m)
against_below changes key (Some x) j m l u = rw (
  if_not_below j key l,
  if_not_below x j (omega arith),
  unequal_test x j (λ e. omega arith),
) refl

against_itself : (changes : ℕ → List ℕ) (key x m : ℕ) → key ≤ x →
    is_against changes key (Some x) x m ≡ not (is_present changes x m)
against_itself changes key x m l = rw (if_not_below x key l, if_not_below x x (omega arith), equal_test x x refl) refl

against_is_not : (changes : ℕ → List ℕ) (key : ℕ) (o : Option ℕ) (j m : ℕ) → is_against changes key o j m ≡ true →
    CeilingAt changes key o m → ⊥
against_is_not changes key None j m e h = search rules
against_is_not changes key (Some x) j m e h = search rules

upto : (ms : List ℕ) → (last : ℕ) × All (λ m. m ≤ last) ms
upto [] = (0, All-nil (λ m. m ≤ 0))
upto (x ∷ ms) = (
  x + (upto ms).0,
  All-cons (λ m. m ≤ x + (upto ms).0) x ms (omega arith)
      (All-weaker (λ m. m ≤ (upto ms).0) (λ m. m ≤ x + (upto ms).0) (λ m l. omega arith) ms (upto ms).1),
)

module _ (changes : ℕ → List ℕ) (key : ℕ) (found : Option ℕ) (from moment : ℕ) (s : IsCandidate changes key found from moment) where
  stays_now : (j : ℕ) → key ≤ j → IsBelow j found → is_present changes j moment ≡ true → is_present_now changes j ≡ true
  stays_now j l u e =
      let late = moment + (upto (changes j)).0 in
      sym (present_past changes j late (All-weaker (λ m. m ≤ (upto (changes j)).0) (λ m. m ≤ moment + (upto (changes j)).0)
      (λ m a. omega arith) (changes j) (upto (changes j)).1))
      ∙ sym (against_below changes key found j late l u)
      ∙ (s late (omega arith)).stays j late (against_below changes key found j moment l u ∙ e) (omega arith) (omega arith)

  absent_at_candidate : CameAfter changes key found moment → (j : ℕ) → key ≤ j → IsBelow j found →
      is_present changes j moment ≡ true → ⊥
  absent_at_candidate came j l u e = both_ways (is_present changes j moment) (came j l u (stays_now j l u e)) e

  against_from_then : (to j : ℕ) → is_against changes key found j moment ≡ true →
      IsFirst (CeilingAt changes key found) from to None
  against_from_then to j e = λ m a b h. elim (below_or_not m moment) [
    | inl l ↦ (let k = (s moment (omega arith)).before m a l in against_is_not changes key found k.0 m k.1 h)
    | inr g ↦ against_is_not changes key found j m ((s m g).stays j m e g (omega arith)) h
  ]

  -- ---- Lemmas about the results of the search
  pub past_the_end : (to : ℕ) → to < moment → IsFirst (CeilingAt changes key found) from to None
  past_the_end to l = λ m a b h. let k = (s moment (omega arith)).before m a (omega arith) in
      against_is_not changes key found k.0 m k.1 h

  pub some_there : (to : ℕ) → IsSomeThere changes key found moment → IsFirst (CeilingAt changes key found) from to None
  some_there to k = against_from_then to k.0 (against_below changes key found k.0 moment k.1 k.2 ∙ k.3)

  candidate_is_first : (to : ℕ) → moment ≤ to → CeilingAt changes key found moment →
      IsFirst (CeilingAt changes key found) from to (Some moment)
  candidate_is_first to l h = (
    (s moment (omega arith)).low,
    l,
    h,
    λ m a b c. (let k = (s moment (omega arith)).before m a b in against_is_not changes key found k.0 m k.1 c),
  )

  pub none_is_smallest : (to : ℕ) → found ≡ None → moment ≤ to → CameAfter changes key found moment
      → IsFirst (CeilingAt changes key found) from to (Some moment)
  none_is_smallest to e l came = candidate_is_first to l (subst (λ o. CeilingAt changes key o moment) (sym e)
      (λ j a p. absent_at_candidate came j a (subst (IsBelow j) (sym e) tt) p))

  pub it_is_smallest : (to x : ℕ) → found ≡ Some x → key ≤ x → is_present changes x moment ≡ true → moment ≤ to →
      CameAfter changes key found moment → IsFirst (CeilingAt changes key found) from to (Some moment)
  it_is_smallest to x e low there l came = candidate_is_first to l (subst (λ o. CeilingAt changes key o moment) (sym e)
      (low, there, λ j a b p. absent_at_candidate came j a (subst (IsBelow j) (sym e) b) p))

  pub it_is_absent : (to x : ℕ) → found ≡ Some x → is_present changes x moment ≡ false →
      IsFirst (CeilingAt changes key found) from to None
  it_is_absent to x e absent = elim (below_or_not x key) [
    | inl l ↦ subst (λ o. IsFirst (CeilingAt changes key o) from to None) (sym e) (λ m a b h. let g : key ≤ x = h.0 in
        omega arith)
    | inr g ↦ against_from_then to x (subst (λ o. is_against changes key o x moment ≡ true) (sym e)
        (against_itself changes key x moment g ∙ ap not absent))
  ]

  pub it_is_too_low : (to x : ℕ) → found ≡ Some x → x < key → IsFirst (CeilingAt changes key found) from to None
  it_is_too_low to x e l = subst (λ o. IsFirst (CeilingAt changes key o) from to None) (sym e) (λ m a b h. let g : key ≤ x = h.0
      in omega arith)

-- ---- Lemmas about the keys present after the last change

abbrev pub IsFrom : ℕ → Option ℕ → Type 0
IsFrom key None = Unit {0}
IsFrom key (Some k) = key ≤ k

-- Holds if each key that is at least `key` and below both `next` and `end` was absent at `moment`, or is absent after
-- the last change of the set. If `next` or `end` is `None`, it is no bound.
abbrev pub CameUpTo : (ℕ → List ℕ) → ℕ → Option ℕ → Option ℕ → ℕ → Type 0
CameUpTo changes key next end moment =
    (j : ℕ) → key ≤ j → IsBelow j next → IsBelow j end → is_present_now changes j ≡ true → is_present changes j moment ≡ false

pub after_is_from : (changes : ℕ → List ℕ) (key k : ℕ) (o : Option ℕ) → key ≤ k → IsNextPresent changes k o → IsFrom key o
after_is_from changes key k None l a = tt
after_is_from changes key k (Some n) l a = let b : k < n = a.0 in omega arith

not_now_between : (changes : ℕ → List ℕ) (k j : ℕ) (o : Option ℕ) → IsNextPresent changes k o → k < j → IsBelow j o →
    is_present_now changes j ≡ false
not_now_between changes k j None a l u = a j l
not_now_between changes k j (Some n) a l u = a.1 j l u

pub one_more_came : (changes : ℕ → List ℕ) (key k : ℕ) (end next : Option ℕ) (moment : ℕ) → IsNextPresent changes k next
    → is_present changes k moment ≡ false → CameUpTo changes key (Some k) end moment → CameUpTo changes key next end moment
one_more_came changes key k end next moment after absent came = λ j l u e now. elim (below_or_not j k) [
  | inl b ↦ came j l b e now
  | inr g ↦ elim (same_or_not j k) [
    | inl s ↦ subst (λ z. is_present changes z moment ≡ false) (sym s) absent
    | inr d ↦ absurd (both_ways (is_present_now changes j) (not_now_between changes k j next after (omega arith) u) now)
  ]
]

pub below_unless : (k : ℕ) (end : Option ℕ) (b : Bool) → b ≡ false → ((IsBelow k end → ⊥) → IsTrue b) → IsBelow k end
below_unless k None b e f = tt
below_unless k (Some x) b e f = search rules
