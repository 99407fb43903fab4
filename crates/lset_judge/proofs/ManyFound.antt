-- Proofs about how a pending call is found by its thread, or by the moment when it ends. The calls are in a hash table,
-- indexed by the moments when the calls end.
use Rattle.std.proofs.Common.{◌≡◌, ◌≢◌, ℕ, ◌<◌, ◌≤◌, Bool, true, false, List, [], ◌∷◌, refl, sym, ap, ◌∙◌, arith, subst, inl, inr, length, get_or, map, cond}
use Rattle.std.specs.Prelude.{◌==◌, nat_lt, if◌then◌else◌, All, Contains, Option, Some, None, IfSome, MatchOption, is_some, not}
use Rattle.std.specs.Bool.{nat_eq}
use Rattle.std.specs.Cmp.{nat_eq_equiv}
use Rattle.std.specs.HashMap.{HashMap, get, IsUnique}
use Rattle.std.specs.List.{AllByRecursion}
use Rattle.std.specs.List.Sorted.{IsPermutation}
use Rattle.std.specs.Map.{lookup, remove_entry, set_value}
use Rattle.std.proofs.lemmas.Bool.{cases_Bool, true≢false}
use Rattle.std.proofs.lemmas.List.{length-map, get_or-map}
use Rattle.std.proofs.lemmas.List.Elements.{All-from_recursion, recursion_from_All, All-map, All-cons, All-contains, All-tail}
use Rattle.std.proofs.lemmas.List.Sorted.{IsPermutation-refl, IsPermutation-cons, IsPermutation-trans, IsPermutation-map, IsPermutation-middle, All-permutation}
use Rattle.std.proofs.lemmas.Option.{slice_get-get_or}
use Rattle.std.proofs.lemmas.Map.Entries.{hash_map_get_place}
use Rattle.std.proofs.lemmas.Map.Views.{Contains-from_lookup}
use Rattle.lset_words.specs.declared.Reply.{Reply}
use Rattle.lset_words.proofs.Numbers.{equal_test, unequal_test, same_number, other_number}
use Rattle.lset_judge.specs.declared.stream.StreamCall.{StreamCall}
use Rattle.lset_judge.specs.declared.stream.Pending.{Pending}
use Rattle.lset_judge.specs.Rule.{put_in}
use Rattle.lset_judge.specs.Pending.{pending_at, end_or, IsNext}
use Rattle.lset_judge.proofs.StreamSteps.{first_or_later, later_too}

abbrev Entries : Type 0
Entries = List (ℕ × StreamCall)

first_of_all : (x : ℕ) (xs : List ℕ) → Contains (x ∷ xs) x
first_of_all x xs = (0, omega arith, refl)

map_back : {X Y : Type 0} (P : X → Type 0) (f : Y → X) (ys : List Y) → All P (map f ys) → All (λ y. P (f y)) ys
map_back P f ys all i d low = subst P (get_or-map f ys i d (f d) low) (all i (f d) (let l = length-map ys f in omega (arith, l, low)))

-- ---- Lemmas about searching the table for a call that ends at a moment

abbrev pub found : ℕ → Entries → Bool
found b es = is_some (lookup (nat_eq b) es)

none_found : (b : ℕ) (es : Entries) → found b es ≡ false → AllByRecursion (λ (e : ℕ × StreamCall). e.0 ≢ b) es
none_found b [] e = tt
none_found b (x ∷ es) e = elim (cases_Bool (nat_eq b x.0)) [
  | inl t ↦ absurd (true≢false (rw t at e))
  | inr f ↦ (λ (q : x.0 ≡ b). other_number b x.0 f (sym q), none_found b es (rw f at e))
]

some_found : (b : ℕ) (es : Entries) → found b es ≡ true → AllByRecursion (λ (e : ℕ × StreamCall). e.0 ≢ b) es → ⊥
some_found b [] e a = true≢false (sym e)
some_found b (x ∷ es) e a = elim (cases_Bool (nat_eq b x.0)) [
  | inl t ↦ a.0 (sym (same_number b x.0 t))
  | inr f ↦ some_found b es (rw f at e) a.1
]

none_at : (b : ℕ) (es : Entries) → found b es ≡ false → All (λ (e : ℕ × StreamCall). e.0 ≢ b) es
none_at b es e = All-from_recursion (λ (e : ℕ × StreamCall). e.0 ≢ b) es (none_found b es e)

some_ends : (b : ℕ) (es : Entries) → found b es ≡ true → All (λ (p : Pending). p.end ≢ b) (map pending_at es) → ⊥
some_ends b es e a = some_found b es e (recursion_from_All (λ (e : ℕ × StreamCall). e.0 ≢ b) es (map_back (λ (p : Pending). p.end ≢ b) pending_at es a))

pub none_before : (b : ℕ) (ends : List ℕ) (es : Entries) → All (λ (e : ℕ × StreamCall). Contains ends e.0) es → All (λ (x : ℕ). b < x) ends
    → All (λ (p : Pending). p.end ≢ b) (map pending_at es)
none_before b ends es held later = All-map (λ (p : Pending). p.end ≢ b) pending_at es (λ i d low e.
    let l : b < (get_or es i d).0 = All-contains (λ (x : ℕ). b < x) ends (get_or es i d).0 later (held i d low) in omega (arith, e, l))

pub look_told : (b : ℕ) (es : Entries) (r : Bool) → r ≡ found b es
    → (not r ≡ true → All (λ (p : Pending). p.end ≢ b) (map pending_at es)) × (All (λ (p : Pending). p.end ≢ b) (map pending_at es) → not r ≡ true)
look_told b es true is = (λ t. absurd (true≢false (sym t)), λ all. absurd (some_ends b es (sym is) all))
look_told b es false is = (λ t. All-map (λ (p : Pending). p.end ≢ b) pending_at es (none_at b es (sym is)), λ all. refl)

-- ---- Lemmas about calls that do not end when another call starts or ends

abbrev Apart : ℕ → Option (ℕ × Reply) → Pending → Type 0
Apart begun ended p = (p.end ≢ begun) × IfSome ended (λ (e : ℕ × Reply). p.end ≢ e.0)

apart_by : (begun : ℕ) (ended : Option (ℕ × Reply)) (p : Pending) → p.end ≢ begun → p.end ≢ end_or begun ended → Apart begun ended p
apart_by begun None p a b = (a, tt)
apart_by begun (Some e) p a b = (a, b)

apart_end : (begun : ℕ) (ended : Option (ℕ × Reply)) (p : Pending) → Apart begun ended p → p.end ≢ end_or begun ended
apart_end begun None p a = a.0
apart_end begun (Some e) p a = a.1

pub apart_told : (begun end : ℕ) (ended : Option (ℕ × Reply)) (ps : List Pending) (r : Bool) → end ≡ end_or begun ended
    → All (λ (p : Pending). p.end ≢ begun) ps → (r ≡ true → All (λ (p : Pending). p.end ≢ end) ps) × (All (λ (p : Pending). p.end ≢ end) ps → r ≡ true)
    → (r ≡ true → All (Apart begun ended) ps) × (All (Apart begun ended) ps → r ≡ true)
apart_told begun end ended ps r is none told = (
  λ t i d low. apart_by begun ended (get_or ps i d) (none i d low) (subst (λ (m : ℕ). (get_or ps i d).end ≢ m) is (told.0 t i d low)),
  λ all. told.1 (λ i d low. subst (λ (m : ℕ). (get_or ps i d).end ≢ m) (sym is) (apart_end begun ended (get_or ps i d) (all i d low))),
)

-- ---- Lemmas about a thread that has no pending call at a moment

abbrev Free : ℕ → ℕ → Pending → Type 0
Free thread begun p = p.call.thread ≡ thread → p.end ≤ begun

module _ (last : ℕ → ℕ) (thread begun : ℕ) (es : Entries) (known : All (λ (e : ℕ × StreamCall). last e.1.thread ≡ e.0) es) where
  free_by : ((i : ℕ) (d : ℕ × StreamCall) → i < length es → (get_or es i d).1.thread ≡ thread → last thread ≡ (get_or es i d).0
      → (get_or es i d).0 ≤ begun) → All (Free thread begun) (map pending_at es)
  free_by h = All-map (Free thread begun) pending_at es (λ i d low own. h i d low own (ap last (sym own) ∙ known i d low))

  pub free_early : last thread ≤ begun → All (Free thread begun) (map pending_at es)
  free_early low = free_by (λ i d inside own is. omega (arith, is, low))

  pub free_over : found (last thread) es ≡ false → All (Free thread begun) (map pending_at es)
  free_over none = free_by (λ i d inside own is. absurd (none_at (last thread) es none i d inside (sym is)))

  free_other : (other : StreamCall) → ((i : ℕ) (d : ℕ × StreamCall) → i < length es → (get_or es i d).0 ≡ last thread → (get_or es i d).1 ≡ other)
      → other.thread ≢ thread → All (Free thread begun) (map pending_at es)
  free_other other only ne = free_by (λ i d inside own is.
      absurd (ne (ap (λ (x : StreamCall). x.thread) (sym (only i d inside (sym is))) ∙ own)))

not_free : (thread begun end : ℕ) (other : StreamCall) (es : Entries) → Contains es (end, other) → other.thread ≡ thread → begun < end
    → All (Free thread begun) (map pending_at es) → ⊥
not_free thread begun end other es has own later free =
    let l : end ≤ begun = All-contains (λ (e : ℕ × StreamCall). e.1.thread ≡ thread → e.0 ≤ begun) es (end, other)
    (map_back (Free thread begun) pending_at es free) has own in omega (arith, l, later)

module _ {S : Type 0} (last : ℕ → ℕ) (thread begun : ℕ) (m : HashMap ℕ StreamCall S)
    (known : All (λ (e : ℕ × StreamCall). last e.1.thread ≡ e.0) m.entries) (unique : IsUnique nat_eq m)
    (end : ℕ) (other : StreamCall) (at : last thread ≡ end) (is : get nat_eq m end ≡ Some other) (later : begun < end) where
  only_at : (i : ℕ) (d : ℕ × StreamCall) → i < length m.entries → (get_or m.entries i d).0 ≡ end → (get_or m.entries i d).1 ≡ other
  only_at i d low e =
      let here = hash_map_get_place nat_eq_equiv m i (get_or m.entries i d).0 (get_or m.entries i d).1 unique (slice_get-get_or m.entries i d low) in
      let there : get nat_eq m end ≡ Some (get_or m.entries i d).1 = ap (get nat_eq m) (sym e) ∙ here in
      cc (is, there)

  pub free_told : (b : Bool) → b ≡ (other.thread == thread)
      → (not b ≡ true → All (Free thread begun) (map pending_at m.entries)) × (All (Free thread begun) (map pending_at m.entries) → not b ≡ true)
  free_told true e = (
    λ t. absurd (true≢false (sym t)),
    λ all. absurd (not_free thread begun end other m.entries (Contains-from_lookup (λ x y t. same_number x y t) end other m.entries is)
        (same_number other.thread thread (sym e)) later all),
  )
  free_told false e = (
    λ t. free_other last thread begun m.entries known other (λ i d low e. only_at i d low (e ∙ at)) (other_number other.thread thread (sym e)),
    λ all. refl,
  )

-- ---- Lemmas about removing a call that ends

pub held_without : (end : ℕ) (ends rest : List ℕ) (es : Entries) → ends ≡ end ∷ rest → found end es ≡ false
    → All (λ (e : ℕ × StreamCall). Contains ends e.0) es → All (λ (e : ℕ × StreamCall). Contains rest e.0) es
held_without end ends rest es is none held i d low =
    elim (first_or_later end rest (get_or es i d).0 (subst (λ (xs : List ℕ). Contains xs (get_or es i d).0) is (held i d low))) [
      | inl e ↦ absurd (none_at end es none i d low e)
      | inr c ↦ c
    ]

same_pair : (x : ℕ × StreamCall) (end : ℕ) (call : StreamCall) → end ≡ x.0 → x.1 ≡ call → x ≡ (end, call)
same_pair x end call e is = subst (λ (k : ℕ). x ≡ (k, call)) (sym e) (subst (λ (c : StreamCall). x ≡ (x.0, c)) is refl)

taken_out : (end : ℕ) (call : StreamCall) (es : Entries) → lookup (nat_eq end) es ≡ Some call
    → IsPermutation es ((end, call) ∷ remove_entry (nat_eq end) es)
taken_out end call [] e = absurd (cc)
taken_out end call (x ∷ es) e = elim (cases_Bool (nat_eq end x.0)) [
  | inl t ↦ (let own : Some x.1 ≡ Some call = rw t at e in
      let same = same_pair x end call (same_number end x.0 t) (let v : x.1 ≡ call = cc in v) in
      rw t (subst (λ (y : ℕ × StreamCall). IsPermutation (x ∷ es) (y ∷ es)) same (IsPermutation-refl (x ∷ es))))
  | inr f ↦ rw f (IsPermutation-trans (x ∷ es) (x ∷ (end, call) ∷ remove_entry (nat_eq end) es) ((end, call) ∷ x ∷ remove_entry (nat_eq end) es)
      (IsPermutation-cons x es ((end, call) ∷ remove_entry (nat_eq end) es) (taken_out end call es (rw f at e)))
      (IsPermutation-middle (x ∷ []) (end, call) (remove_entry (nat_eq end) es)))
]

pub removed : (end : ℕ) (call : StreamCall) (es now : Entries) → lookup (nat_eq end) es ≡ Some call → IsPermutation (remove_entry (nat_eq end) es) now
    → IsPermutation es ((end, call) ∷ now)
removed end call es now is p = IsPermutation-trans es ((end, call) ∷ remove_entry (nat_eq end) es) ((end, call) ∷ now) (taken_out end call es is)
    (IsPermutation-cons (end, call) (remove_entry (nat_eq end) es) now p)

pub held_after : (end : ℕ) (call : StreamCall) (ends : List ℕ) (es now : Entries) → IsPermutation es ((end, call) ∷ now)
    → All (λ (e : ℕ × StreamCall). Contains ends e.0) es → All (λ (e : ℕ × StreamCall). Contains ends e.0) now
held_after end call ends es now p held = All-tail (λ (e : ℕ × StreamCall). Contains ends e.0) (end, call) now
    (All-permutation (λ (e : ℕ × StreamCall). Contains ends e.0) es ((end, call) ∷ now) p held)

pub each_end : (P : ℕ → Type 0) (ends : List ℕ) (es : Entries) → All (λ (e : ℕ × StreamCall). Contains ends e.0) es → All P ends
    → All (λ (e : ℕ × StreamCall). P e.0) es
each_end P ends es held all i d low = All-contains P ends (get_or es i d).0 all (held i d low)

abbrev Popped : Entries → ℕ → Entries → Option Pending → Type 0
Popped old moment new r = MatchOption r ((new ≡ old) × All (λ (e : ℕ × StreamCall). moment ≤ e.0) old)
    (λ (p : Pending). (p.end < moment) × IsPermutation old ((p.end, p.call) ∷ new) × All (λ (e : ℕ × StreamCall). p.end ≤ e.0) old)

pub next_told : (moment : ℕ) (old new : Entries) (r : Option Pending) → Popped old moment new r
    → MatchOption r ((map pending_at new ≡ map pending_at old) × All (λ (p : Pending). moment ≤ p.end) (map pending_at old))
    (λ (p : Pending). IsNext moment (map pending_at old) p (map pending_at new))
next_told moment old new None is = (ap (map pending_at) is.0, All-map (λ (p : Pending). moment ≤ p.end) pending_at old is.1)
next_told moment old new (Some p) is = record {
  early = is.0;
  is = IsPermutation-map pending_at old ((p.end, p.call) ∷ new) is.1;
  smallest = All-map (λ (q : Pending). p.end ≤ q.end) pending_at old is.2;
}

pub known_after : (P : ℕ × StreamCall → Type 0) (moment : ℕ) (old new : Entries) (r : Option Pending) → Popped old moment new r → All P old → All P new
known_after P moment old new None is all = subst (All P) (sym is.0) all
known_after P moment old new (Some p) is all = All-tail P (p.end, p.call) new (All-permutation P old ((p.end, p.call) ∷ new) is.1 all)

-- ---- Lemmas about inserting a call

abbrev Puts : Entries → Entries → ℕ → StreamCall → Option StreamCall → Type 0
Puts old now end call before = MatchOption before (IsPermutation ((end, call) ∷ old) now) (λ (c : StreamCall). now ≡ set_value (nat_eq end) old call)

put_over : (P : ℕ × StreamCall → Type 0) (end : ℕ) (call : StreamCall) (es : Entries) → P (end, call) → AllByRecursion P es
    → AllByRecursion P (set_value (nat_eq end) es call)
put_over P end call [] own all = tt
put_over P end call (x ∷ es) own all = elim (cases_Bool (nat_eq end x.0)) [
  | inl t ↦ rw t (subst (λ (k : ℕ). P (k, call)) (same_number end x.0 t) own, all.1)
  | inr f ↦ rw f (all.0, put_over P end call es own all.1)
]

pub each_with : (P : ℕ × StreamCall → Type 0) (old now : Entries) (end : ℕ) (call : StreamCall) (before : Option StreamCall) → Puts old now end call before
    → P (end, call) → All P old → All P now
each_with P old now end call None is own all = All-permutation P ((end, call) ∷ old) now is (All-cons P (end, call) old own all)
each_with P old now end call (Some c) is own all = subst (All P) (sym is)
    (All-from_recursion P (set_value (nat_eq end) old call) (put_over P end call old own (recursion_from_All P old all)))

in_put : (e : ℕ) (xs : List ℕ) → Contains (put_in e xs) e
in_put e [] = first_of_all e []
in_put e (x ∷ xs) = elim (cases_Bool (nat_lt e x)) [
  | inl t ↦ rw t (first_of_all e (x ∷ xs))
  | inr f ↦ rw f (later_too x (put_in e xs) e (in_put e xs))
]

in_put_too : (e y : ℕ) (xs : List ℕ) → Contains xs y → Contains (put_in e xs) y
in_put_too e y [] c = absurd (let low = c.1 in omega (arith, low))
in_put_too e y (x ∷ xs) c = elim (cases_Bool (nat_lt e x)) [
  | inl t ↦ rw t (later_too e (x ∷ xs) y c)
  | inr f ↦ rw f (elim (first_or_later x xs y c) [
    | inl is ↦ subst (Contains (x ∷ put_in e xs)) (sym is) (first_of_all x (put_in e xs))
    | inr d ↦ later_too x (put_in e xs) y (in_put_too e y xs d)
  ])
]

pub held_own : (end : ℕ) (old new : List ℕ) → new ≡ put_in end old → Contains new end
held_own end old new is = subst (λ (xs : List ℕ). Contains xs end) (sym is) (in_put end old)

pub held_more : (end : ℕ) (old new : List ℕ) (es : Entries) → new ≡ put_in end old → All (λ (e : ℕ × StreamCall). Contains old e.0) es
    → All (λ (e : ℕ × StreamCall). Contains new e.0) es
held_more end old new es is held i d low = subst (λ (xs : List ℕ). Contains xs (get_or es i d).0) (sym is) (in_put_too end (get_or es i d).0 old (held i d low))

pub many_with : (old now : Entries) (p : Pending) (before : Option StreamCall) → before ≡ lookup (nat_eq p.end) old → Puts old now p.end p.call before
    → All (λ (q : Pending). q.end ≢ p.end) (map pending_at old) → IsPermutation (p ∷ map pending_at old) (map pending_at now)
many_with old now p None e is apart = IsPermutation-map pending_at ((p.end, p.call) ∷ old) now is
many_with old now p (Some c) e is apart = absurd (some_ends p.end old (sym (ap is_some e)) apart)

module _ (es : Entries) (last more : ℕ → ℕ) (p : Pending)
    (free : All (λ (q : Pending). q.call.thread ≢ p.call.thread) (map pending_at es))
    (known : All (λ (e : ℕ × StreamCall). last e.1.thread ≡ e.0) es)
    (up : (t : ℕ) → more t ≡ (if p.call.thread == t then p.end else last t)) where
  pub known_still : All (λ (e : ℕ × StreamCall). more e.1.thread ≡ e.0) es
  known_still i d low =
      let t = (get_or es i d).1.thread in
      let ne = map_back (λ (q : Pending). q.call.thread ≢ p.call.thread) pending_at es free i d low in
      up t ∙ ap (λ (b : Bool). cond b p.end (last t)) (unequal_test p.call.thread t (λ e. ne (sym e))) ∙ known i d low

  pub known_own : more p.call.thread ≡ p.end
  known_own = up p.call.thread ∙ ap (λ (b : Bool). cond b p.end (last p.call.thread)) (equal_test p.call.thread p.call.thread refl)

pub known_same : (es : Entries) (last more : ℕ → ℕ) → ((t : ℕ) → more t ≡ last t) → All (λ (e : ℕ × StreamCall). last e.1.thread ≡ e.0) es
    → All (λ (e : ℕ × StreamCall). more e.1.thread ≡ e.0) es
known_same es last more same known i d low = same (get_or es i d).1.thread ∙ known i d low
