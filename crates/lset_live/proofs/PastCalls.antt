-- Lemmas about which threads made the calls in a record. The record belongs to a seat (per-thread handle), and includes
-- the records that were merged into it.
use Rattle.std.proofs.Common.{◌≡◌, ◌≢◌, inl, inr, ⊎_elim, ℕ, ◌<◌, ◌==◌, Bool, true, false, cond, [], ◌∷◌, ◌++◌}
use Rattle.std.proofs.Common.{refl, sym, ap, ◌∙◌, subst, append-nil}
use Rattle.std.specs.List.{AllByRecursion}
use Rattle.lset_words.proofs.Numbers.{equal_test, unequal_test}
use Rattle.lset_history.proofs.Lists.{all-append}
use Rattle.lset_rule.specs.declared.view.OwnCall.{OwnCall}
use Rattle.lset_rule.specs.declared.view.Past.{Past, Fresh, Called', Gathered'}
use Rattle.lset_rule.specs.Pasts.{root, GatheredBefore, Before, Apart, IsIn, calls_of}
use Rattle.lset_rule.proofs.RecordsOfRuns.{HasGathered, root_in, none_in}
use Rattle.lset_rule.proofs.RecordsOfRuns as dated

pub gathered_in : (u : ℕ) (r : Past) → HasGathered u r → IsIn u r
gathered_in u (Fresh t) h = absurd h
gathered_in u (Called' p r c) h = gathered_in u r h
gathered_in u (Gathered' p r q g) h = ⊎_elim (λ a. inl (gathered_in u r a)) (λ b. inr b) h

pub gathered_other : (u : ℕ) (r : Past) → Apart r → HasGathered u r → u ≢ root r
gathered_other u (Fresh t) a h = absurd h
gathered_other u (Called' p r c) a h = gathered_other u r a h
gathered_other u (Gathered' p r q g) a h =
    ⊎_elim (λ x. gathered_other u r a.0 x) (λ x. λ e. a.2 u (subst (λ z. IsIn z r) (sym e) (root_in r)) x) h

pub own_last : (u : ℕ) (r : Past) (c : OwnCall) → u ≢ root r → calls_of u r ++ cond (u == root r) (c ∷ []) [] ≡ calls_of u r
own_last u r c ne = ap (λ b. calls_of u r ++ cond b (c ∷ []) []) (unequal_test u (root r) ne) ∙ append-nil (calls_of u r)

pub own_is : (r : Past) → Apart r → calls_of (root r) r ≡ dated.own_calls r
own_is (Fresh t) a = refl
own_is (Called' p r c) a = ap (λ b. calls_of (root r) r ++ cond b (c ∷ []) []) (equal_test (root r) (root r) refl)
    ∙ ap (λ l. l ++ c ∷ []) (own_is r a)
own_is (Gathered' p r q g) a = ap (λ l. calls_of (root r) r ++ l) (none_in (root r) g (λ x. a.2 (root r) (root_in r) x))
    ∙ (append-nil (calls_of (root r) r) ∙ own_is r a.0)

abbrev pub EndsBefore : ℕ → OwnCall → Type 0
EndsBefore n d = d.ended < n

before_all : (n v : ℕ) (g : Past) → Before n g → AllByRecursion (EndsBefore n) (calls_of v g)
before_all n v (Fresh t) b = tt
before_all n v (Called' p r c) b = all-append (EndsBefore n) (calls_of v r) (cond (v == root r) (c ∷ []) [])
    (before_all n v r b.0) (by_test (v == root r))
  where
    by_test : (z : Bool) → AllByRecursion (EndsBefore n) (cond z (c ∷ []) [])
    by_test true = (b.1, tt)
    by_test false = tt
before_all n v (Gathered' p r q g) b = all-append (EndsBefore n) (calls_of v r) (calls_of v g) (before_all n v r b.0)
    (before_all n v g b.1)

pub gathered_before : (n v : ℕ) (r : Past) → Apart r → HasGathered v r → GatheredBefore n r →
    AllByRecursion (EndsBefore n) (calls_of v r)
gathered_before n v (Fresh t) a h b = absurd h
gathered_before n v (Called' p r c) a h b = subst (AllByRecursion (EndsBefore n)) (sym (own_last v r c (gathered_other v r a h)))
    (gathered_before n v r a h b)
gathered_before n v (Gathered' p r q g) a h b = ⊎_elim
    (λ (x : HasGathered v r). all-append (EndsBefore n) (calls_of v r) (calls_of v g) (gathered_before n v r a.0 x b.0)
    (before_all n v g b.1))
    (λ (x : IsIn v g). subst (λ l. AllByRecursion (EndsBefore n) (l ++ calls_of v g)) (sym (none_in v r (λ y. a.2 v y x)))
    (before_all n v g b.1)) h
