-- Lemmas about how recording a new change affects the recorded changes of all keys.
use Rattle.std.proofs.lemmas.Grind.{common_steps}
use Rattle.std.proofs.Common.{◌≡◌, ◌≢◌, ℕ, ◌<◌, ◌^◌, ◌≤◌, inl, inr, Bool, true, false, List, [], ◌∷◌, ◌++◌, get_or, map, sym}
use Rattle.std.proofs.Common.{refl, subst, ap, ◌∙◌, arith, append_assoc}
use Rattle.std.specs.Prelude.{All, Contains, IsTrue, not, ◌==◌, Option, Some, None, Vec, if◌then◌else◌}
use Rattle.std.specs.declared.alloc.Global.{Global}
use Rattle.std.specs.Ordering.{nat_cmp, is_eq}
use Rattle.std.specs.Option.{option_map}
use Rattle.std.specs.Map.{lookup, set_value}
use Rattle.std.specs.BTreeMap.{BTreeMap, get, is_at, UpdatesBy}
use Rattle.std.specs.BTreeSet as set
use Rattle.std.specs.BTreeSet.{BTreeSet, contains, Updates}
use Rattle.std.specs.List.Sorted.{IsStrictlyIncreasing}
use Rattle.std.proofs.lemmas.Map.Made.{lookup-map_values}
use Rattle.std.proofs.lemmas.List.Elements.{All-get_or, All-from_get_or, All-push, All-nil, All-cons, All-contains}
use mathlib.Core.Bool.{cond}
use Rattle.lset_words.proofs.Numbers.{same_number, same_or_not, unequal_test, if_other}
use Rattle.lset_words.specs.SequentialSet.{has_key}
use Rattle.lset_history.specs.Changes.{ChangesValue, changes_in, moments_in, noted_of, opened_moments, moments_of, state_after}
use Rattle.lset_history.specs.Changes.{is_present_now, with_change, IsLaterThanAll, Increase, IsBounded, IsListed, AreKept}
use Rattle.lset_history.proofs.KeySets.{same_test}
use Rattle.lset_history.proofs.Keys.{has_false}
use Rattle.lset_history.proofs.ChangeLaws.{noted_now}

abbrev pub Kept : Type 0
Kept = BTreeMap ℕ (Vec ℕ Global)

abbrev pub items_in : Option (Vec ℕ Global) → List ℕ
items_in None = []
items_in (Some v) = v.items

items_mapped : (o : Option (Vec ℕ Global)) → moments_in (option_map (λ (v : Vec ℕ Global). v.items) o) ≡ items_in o
items_mapped None = refl
items_mapped (Some v) = refl

pub noted_in : (keys : List ℕ) (m : Kept) (k : ℕ) → noted_of (changes_in keys m) k ≡ items_in (get nat_cmp m k)
noted_in keys m k = ap moments_in (lookup-map_values (λ (v : Vec ℕ Global). v.items) (is_at (nat_cmp k)) m.entries)
    ∙ items_mapped (get nat_cmp m k)

noted_items : (m n : Kept) (key at : ℕ) (w : Vec ℕ Global) → UpdatesBy nat_cmp (nat_cmp key) m n (Some w)
    → w.items ≡ items_in (get nat_cmp m key) ++ at ∷ [] → (k : ℕ) → items_in (get nat_cmp n k)
    ≡ (if k == key then items_in (get nat_cmp m k) ++ at ∷ [] else items_in (get nat_cmp m k))
noted_items m n key at w up is k = ap items_in (up.0 k) ∙ by_test (k == key) refl
  where
    by_test : (b : Bool) → (k == key) ≡ b → items_in (cond (is_eq (nat_cmp key k)) (Some w) (get nat_cmp m k))
        ≡ (if b then items_in (get nat_cmp m k) ++ at ∷ [] else items_in (get nat_cmp m k))
    by_test true e = ap (λ z. items_in (cond z (Some w) (get nat_cmp m k))) (sym (same_test key k) ∙ e) ∙ is
        ∙ ap (λ z. items_in (get nat_cmp m z) ++ at ∷ []) (sym (same_number k key e))
    by_test false e = ap (λ z. items_in (cond z (Some w) (get nat_cmp m k))) (sym (same_test key k) ∙ e)

pub noted_map : (m n : Kept) (key at : ℕ) (w : Vec ℕ Global) → UpdatesBy nat_cmp (nat_cmp key) m n (Some w)
    → w.items ≡ items_in (get nat_cmp m key) ++ at ∷ []
    → (keys : List ℕ) (k : ℕ) → moments_of (changes_in keys n) k ≡ with_change (moments_of (changes_in keys m)) key at k
noted_map m n key at w up is keys k =
    ap (λ z. opened_moments keys k ++ z) (noted_in keys n k ∙ noted_items m n key at w up is k) ∙ by_test (k == key)
  where
    before : opened_moments keys k ++ items_in (get nat_cmp m k) ≡ moments_of (changes_in keys m) k
    before = ap (λ z. opened_moments keys k ++ z) (sym (noted_in keys m k))

    by_test : (b : Bool) → opened_moments keys k ++ (if b then items_in (get nat_cmp m k) ++ at ∷ [] else items_in (get nat_cmp m k))
        ≡ (if b then moments_of (changes_in keys m) k ++ at ∷ [] else moments_of (changes_in keys m) k)
    by_test true =
        let regrouped : opened_moments keys k ++ (items_in (get nat_cmp m k) ++ at ∷ [])
        ≡ (opened_moments keys k ++ items_in (get nat_cmp m k)) ++ at ∷ [] = simp append_assoc in
        regrouped ∙ ap (λ z. z ++ at ∷ []) before
    by_test false = before

increases_more : (ms : List ℕ) (at : ℕ) → IsStrictlyIncreasing ms → All (λ m. m < at) ms → IsStrictlyIncreasing (ms ++ at ∷ [])
increases_more ms at increase later k below = grind (arith, common_steps)

pub increase_noted : (c d : ChangesValue) (key at : ℕ) → Increase c → IsLaterThanAll (moments_of c) at
    → ((k : ℕ) → moments_of d k ≡ with_change (moments_of c) key at k) → Increase d
increase_noted c d key at increase later is k = subst (λ z. IsStrictlyIncreasing z) (sym (is k)) (by_test (k == key))
  where
    by_test : (b : Bool) → IsStrictlyIncreasing (if b then moments_of c k ++ at ∷ [] else moments_of c k)
    by_test true = increases_more (moments_of c k) at (increase k) (later.1 k)
    by_test false = increase k

bounded_noted : (c d : ChangesValue) (key at : ℕ) → key < 2 ^ 32 → IsBounded (moments_of c)
    → ((k : ℕ) → moments_of d k ≡ with_change (moments_of c) key at k) → IsBounded (moments_of d)
bounded_noted c d key at low bounded is k high =
    is k ∙ if_other k key (λ e. omega arith) (moments_of c k ++ at ∷ []) (moments_of c k) ∙ bounded k high

all_both : (P Q R : ℕ → Type 0) → ((m : ℕ) → P m → Q m → R m) → (ms : List ℕ) → All P ms → All Q ms → All R ms
all_both P Q R f ms p q = All-from_get_or R ms 0 (λ i l. f (get_or ms i 0) (All-get_or P ms i 0 l p) (All-get_or Q ms i 0 l q))

-- Lemmas about recording a change of key `key` at moment `at`: `c` contains the earlier changes, and `d` contains the
-- earlier changes and the new change.
module _ (c d : ChangesValue) (key at : ℕ) (noted : (k : ℕ) → moments_of d k ≡ with_change (moments_of c) key at k) where
  listed_noted : (keys_at : BTreeMap ℕ ℕ) → (0 < at → get nat_cmp keys_at at ≡ Some key)
      → ((k : ℕ) → All (IsListed keys_at k) (moments_of c k)) → (k : ℕ) → All (IsListed keys_at k) (moments_of d k)
  listed_noted keys_at is listed k = subst (λ ms. All (IsListed keys_at k) ms) (sym (noted k)) (by_test (k == key) refl)
    where
      by_test : (b : Bool) → (k == key) ≡ b → All (IsListed keys_at k) (if b then moments_of c k ++ at ∷ [] else moments_of c k)
      by_test true e = All-push (IsListed keys_at k) (moments_of c k) at (listed k) (λ some. is some
          ∙ ap Some (sym (same_number k key e)))
      by_test false e = listed k

  present_noted : (present : Bool) (old new : BTreeSet ℕ) → present ≡ not (is_present_now (moments_of c) key)
      → ((k : ℕ) → k ≢ key → IsTrue (contains nat_cmp old k) → IsTrue (contains nat_cmp new k))
      → (present ≡ true → IsTrue (contains nat_cmp new key))
      → ((k : ℕ) → is_present_now (moments_of c) k ≡ true → IsTrue (contains nat_cmp old k))
      → (k : ℕ) → is_present_now (moments_of d) k ≡ true → IsTrue (contains nat_cmp new k)
  present_noted present old new turn others own has k now = elim (same_or_not k key) [
    | inl e ↦ subst (λ z. IsTrue (contains nat_cmp new z)) (sym e) (own (sym (noted_now c d key 0 at noted present turn)
        ∙ subst (λ z. is_present_now (moments_of d) z ≡ true) e now))
    | inr n ↦ others k n (has k (ap (λ ms. state_after false ms) (sym (noted k
        ∙ if_other k key n (moments_of c k ++ at ∷ []) (moments_of c k))) ∙ now))
  ]

module _ (c : ChangesValue) (key at : ℕ) (later : IsLaterThanAll (moments_of c) at) where
  listed_beside : (old new : BTreeMap ℕ ℕ) → UpdatesBy nat_cmp (nat_cmp at) old new (Some key)
      → ((k : ℕ) → All (IsListed old k) (moments_of c k)) → (k : ℕ) → All (IsListed new k) (moments_of c k)
  listed_beside old new up listed k = all_both (λ m. m < at) (IsListed old k) (IsListed new k)
      (λ m l e some. up.2 m (sym (same_test at m) ∙ unequal_test m at (λ s. omega arith)) ∙ e some) (moments_of c k) (later.1 k)
      (listed k)

  pub kept_beside : (old new : BTreeMap ℕ ℕ) (now : BTreeSet ℕ) → UpdatesBy nat_cmp (nat_cmp at) old new (Some key)
      → AreKept c old now → AreKept c new now
  kept_beside old new now up kept = assumption (listed_beside old new up kept.listed)

  pub kept_noted : (d : ChangesValue) → d.opening ≡ c.opening → (noted : (k : ℕ) → moments_of d k ≡ with_change (moments_of c) key at k)
      (keys_at : BTreeMap ℕ ℕ) (present : Bool) (old new : BTreeSet ℕ) → key < 2 ^ 32 → AreKept c keys_at old
      → get nat_cmp keys_at at ≡ Some key → present ≡ not (is_present_now (moments_of c) key)
      → ((k : ℕ) → k ≢ key → IsTrue (contains nat_cmp old k) → IsTrue (contains nat_cmp new k))
      → (present ≡ true → IsTrue (contains nat_cmp new key)) → AreKept d keys_at new
  kept_noted d same noted keys_at present old new low kept is turn others own = record {
    opening = subst IsStrictlyIncreasing (sym same) kept.opening;
    increase = increase_noted c d key at kept.increase later noted;
    bounded = bounded_noted c d key at low kept.bounded noted;
    listed = listed_noted c d key at noted keys_at (λ some. is) kept.listed;
    present = present_noted c d key at noted present old new turn others own kept.present;
  }

pub kept_listed : (c : ChangesValue) (old new : BTreeMap ℕ ℕ) (now : BTreeSet ℕ) → new.entries ≡ old.entries → AreKept c old now →
    AreKept c new now
kept_listed c old new now e kept =
    let listed : (k : ℕ) → All (IsListed new k) (moments_of c k) =
    subst (λ es. (k : ℕ) → All (λ m. 0 < m → lookup (is_at (nat_cmp m)) es ≡ Some k) (moments_of c k)) (sym e) kept.listed in
    assumption listed

pub kept_present : (c : ChangesValue) (keys_at : BTreeMap ℕ ℕ) (old new : BTreeSet ℕ)
    → ((k : ℕ) → IsTrue (contains nat_cmp old k) → IsTrue (contains nat_cmp new k)) → AreKept c keys_at old →
    AreKept c keys_at new
kept_present c keys_at old new more kept =
    let present : (k : ℕ) → is_present_now (moments_of c) k ≡ true → IsTrue (contains nat_cmp new k) =
    λ k now. more k (kept.present k now) in
    assumption present

-- ---- Lemmas about the keys of a tree after an insertion or a removal
pub has_after : (key : ℕ) (old new : BTreeSet ℕ) → Updates nat_cmp old new key true → (k : ℕ) → IsTrue (contains nat_cmp old k)
    → IsTrue (contains nat_cmp new k)
has_after key old new up k has = elim (same_or_not k key) [
  | inl e ↦ subst (λ z. IsTrue (contains nat_cmp new z)) (sym e) up.1
  | inr n ↦ up.2 k (sym (same_test key k) ∙ unequal_test k key n) ∙ has
]

pub others_after : (key : ℕ) (old new : BTreeSet ℕ) → set.UpdatesBy nat_cmp (nat_cmp key) old new false → (k : ℕ) → k ≢ key
    → IsTrue (contains nat_cmp old k) → IsTrue (contains nat_cmp new k)
others_after key old new up k n has = up.2 k (sym (same_test key k) ∙ unequal_test k key n) ∙ has

opened_then : (P : List ℕ → Type 0) → P [] → P (0 ∷ []) → (b : Bool) → P ((if b then 0 ∷ [] else []) ++ [])
opened_then P none one true = one
opened_then P none one false = none

present_opened : (b : Bool) → state_after false ((if b then 0 ∷ [] else []) ++ []) ≡ true → b ≡ true
present_opened true e = refl
present_opened false e = e

pub kept_opened : (keys : List ℕ) (keys_at : BTreeMap ℕ ℕ) (now : BTreeSet ℕ) → IsStrictlyIncreasing keys
    → All (λ k. k < 2 ^ 32) keys → ((k : ℕ) → has_key k keys ≡ true → IsTrue (contains nat_cmp now k))
    → AreKept (record { opening = keys; entries = [] }) keys_at now
kept_opened keys keys_at now increasing small has = record {
  opening = increasing;
  increase = λ k. opened_then (λ ms. IsStrictlyIncreasing ms) (λ i l. absurd (omega arith)) (λ i l. absurd (omega arith)) (has_key k keys);
  bounded = λ k high. ap (λ b. (if b then 0 ∷ [] else []) ++ []) (has_false k keys (λ c. absurd (too_high k high c)));
  listed = λ k. opened_then (λ ms. All (IsListed keys_at k) ms) (All-nil (IsListed keys_at k))
      (All-cons (IsListed keys_at k) 0 [] (λ some. absurd (omega (arith, some))) (All-nil (IsListed keys_at k))) (has_key k keys);
  present = λ k now_there. has k (present_opened (has_key k keys) now_there);
}
  where
    too_high : (k : ℕ) → 2 ^ 32 ≤ k → Contains keys k → ⊥
    too_high k high c = let low : k < 2 ^ 32 = All-contains (λ x. x < 2 ^ 32) keys k small c in omega (arith, high, low)

-- Converts the entries of a map from keys to vectors into entries from keys to lists.
abbrev pub shown : List (ℕ × Vec ℕ Global) → List (ℕ × List ℕ)
shown es = map (λ (e : ℕ × Vec ℕ Global). (e.0, e.1.items)) es

some_same : (a b : Vec ℕ Global) → Some a ≡ Some b → a ≡ b
some_same a b e = cc

same_by : (b : Bool) (x : ℕ × Vec ℕ Global) (es rest : List (ℕ × Vec ℕ Global)) (v w : Vec ℕ Global) (o : Option (Vec ℕ Global))
    → cond b (Some x.1) o ≡ Some v → w.items ≡ v.items → (o ≡ Some v → shown rest ≡ shown es)
    → shown (cond b ((x.0, w) ∷ es) (x ∷ rest)) ≡ shown (x ∷ es)
same_by true x es rest v w o e f g =
    ap (λ z. (x.0, z) ∷ shown es) (f ∙ ap (λ (z : Vec ℕ Global). z.items) (sym (some_same x.1 v e)))
same_by false x es rest v w o e f g = ap (λ z. (x.0, x.1.items) ∷ z) (g e)

pub same_items : (test : ℕ → Bool) (es : List (ℕ × Vec ℕ Global)) (v w : Vec ℕ Global) → lookup test es ≡ Some v →
    w.items ≡ v.items → shown (set_value test es w) ≡ shown es
same_items test [] v w e f = refl
same_items test (x ∷ es) v w e f =
    same_by (test x.0) x es (set_value test es w) v w (lookup test es) e f (λ g. same_items test es v w g f)
