-- Lemmas about the tree in which the code stores the keys of the sequential set: the tree contains the same keys as the
-- set.
use Rattle.std.proofs.Common.{◌≡◌, ℕ, ◌<◌, ◌==◌, ◌||◌, false, List, [], ◌∷◌, refl, sym, ap, ◌∙◌, inl, inr, subst}
use Rattle.std.proofs.Common.{arith}
use Rattle.std.specs.List.{list_any, AllByRecursion}
use Rattle.std.specs.List.Sorted.{IsStrictlySortedBy}
use Rattle.std.specs.declared.cmp.Ordering.TheVariants.{Less, Equal, Greater}
use Rattle.std.specs.Ordering.{nat_cmp, is_eq}
use Rattle.std.specs.BTreeMap.{is_at}
use Rattle.std.specs.BTreeSet.{insert_key}
use Rattle.std.specs.Set.{remove_key}
use Rattle.std.specs.Cmp.{nat_cmp_is}
use Rattle.std.proofs.lemmas.Map.Keys.{sorted_head, sorted_tail}
use Rattle.std.proofs.lemmas.Bool.{cases_order, ne_eqb, eq-eqb, lt-ltb, le-ltb, or_parts, or_from, false≢true, cond-true}
use Rattle.std.proofs.lemmas.Bool.{cond-false, cases_Bool, eqb-true}
use Rattle.lset_words.specs.SequentialSet.{has_key, with_key, without_key}

less : (k x : ℕ) → k < x → nat_cmp k x ≡ Less
less k x h = sym (nat_cmp_is k x Less h)

equal : (k x : ℕ) → k ≡ x → nat_cmp k x ≡ Equal
equal k x h = sym (nat_cmp_is k x Equal h)

pub greater : (k x : ℕ) → x < k → nat_cmp k x ≡ Greater
greater k x h = sym (nat_cmp_is k x Greater h)

pub same_test : (k x : ℕ) → (x == k) ≡ is_eq (nat_cmp k x)
same_test k x = elim (cases_order k x) [
  | inl e ↦ eq-eqb x k (sym e) ∙ sym (ap is_eq (equal k x e))
  | inr (inl b) ↦ ne_eqb x k (λ e. omega arith) ∙ sym (ap is_eq (less k x b))
  | inr (inr a) ↦ ne_eqb x k (λ e. omega arith) ∙ sym (ap is_eq (greater k x a))
]

pub has_key_tree : (k : ℕ) (keys : List ℕ) → has_key k keys ≡ list_any (is_at (nat_cmp k)) keys
has_key_tree k [] = refl
has_key_tree k (x ∷ xs) = ap (λ b. b || has_key k xs) (same_test k x) ∙ ap (λ b. is_eq (nat_cmp k x) || b) (has_key_tree k xs)

pub with_key_tree : (k : ℕ) (keys : List ℕ) → has_key k keys ≡ false → with_key k keys ≡ insert_key nat_cmp keys k
with_key_tree k [] h = refl
with_key_tree k (x ∷ xs) h = let parts = or_parts (x == k) (has_key k xs) h in elim (cases_order k x) [
  | inl e ↦ absurd (false≢true (sym parts.0 ∙ eq-eqb x k (sym e)))
  | inr (inl b) ↦ rw (less k x b, lt-ltb k x b) refl
  | inr (inr a) ↦ rw (greater k x a, le-ltb k x (omega arith)) (ap (λ ys. x ∷ ys) (with_key_tree k xs parts.1))
]

all_absent : (k : ℕ) (keys : List ℕ) → AllByRecursion (λ y. nat_cmp k y ≡ Less) keys → has_key k keys ≡ false
all_absent k [] h = refl
all_absent k (x ∷ xs) h = or_from _ _ (same_test k x ∙ ap is_eq h.0) (all_absent k xs h.1)

pub without_absent : (k : ℕ) (keys : List ℕ) → has_key k keys ≡ false → without_key k keys ≡ keys
without_absent k [] h = refl
without_absent k (x ∷ xs) h =
    let parts = or_parts (x == k) (has_key k xs) h in
    cond-false (x == k) (without_key k xs) (x ∷ without_key k xs) parts.0 ∙ ap (λ ys. x ∷ ys) (without_absent k xs parts.1)

pub without_key_tree : (k : ℕ) (keys : List ℕ) → IsStrictlySortedBy nat_cmp keys
    → without_key k keys ≡ remove_key (is_at (nat_cmp k)) keys
without_key_tree k [] h = refl
without_key_tree k (x ∷ xs) h =
    let rest = without_key_tree k xs (sorted_tail nat_cmp x xs h) in
    elim (cases_Bool (x == k)) [
      | inl e ↦
          let same : x ≡ k = eqb-true x k e in
          let gone : without_key k xs ≡ xs = without_absent k xs (subst (λ z. has_key z xs ≡ false) same (all_absent x xs (sorted_head nat_cmp x xs h))) in
          cond-true (x == k) _ _ e ∙ gone ∙ sym (cond-true (is_eq (nat_cmp k x)) xs _ (sym (same_test k x) ∙ e))
      | inr n ↦
          cond-false (x == k) _ _ n ∙ ap (λ ys. x ∷ ys) rest
          ∙ sym (cond-false (is_eq (nat_cmp k x)) _ _ (sym (same_test k x) ∙ n))
    ]
