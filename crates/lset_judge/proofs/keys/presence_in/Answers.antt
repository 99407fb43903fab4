use Rattle.std.proofs.Common.{◌≡◌, ℕ, ◌<◌, ◌≤◌, List, inl, inr, sym, ◌∙◌, ap, arith, length, get_or}
use Rattle.std.specs.Prelude.{Result, Ok, Err, is_ok, MatchResult}
use Rattle.std.specs.List.Sorted.{IsStrictlyIncreasing, IsBinarySearchResult}
use Rattle.std.specs.Ordering.{nat_cmp}
use Rattle.std.proofs.lemmas.List.{get_or_default}
use Rattle.std.proofs.lemmas.List.Sorted.{searched}
use Rattle.lset_words.specs.Effects.{presence}
use Rattle.lset_words.specs.SequentialSet.{has_key}
use Rattle.lset_words.proofs.Numbers.{below_or_not}
use Rattle.lset_history.proofs.MomentSearch.{below_increases}
use Rattle.lset_history.proofs.Keys.{has_true, has_false}
use Rattle.lset_judge.proofs.keys.presence_in.Goals as goal

among : (keys : List ℕ) (k : ℕ) (r : Result ℕ ℕ) → IsStrictlyIncreasing keys → IsBinarySearchResult (λ y. nat_cmp y k) keys r
    → is_ok r ≡ has_key k keys
among keys k r up found = by r (searched keys k r found (below_increases keys up))
  where
    by : (r : Result ℕ ℕ) → MatchResult r (λ i. (i < length keys) × (get_or keys i 0 ≡ k))
        (λ i. (i ≤ length keys) × ((j : ℕ) → j < i → get_or keys j 0 < k) × ((j : ℕ) → i ≤ j → j < length keys → k < get_or keys j 0))
        → is_ok r ≡ has_key k keys
    by (Ok i) h = sym (has_true k keys (i, h.0, get_or_default keys i k 0 h.0 ∙ h.1))
    by (Err i) h = sym (has_false k keys (λ c.
        let same : get_or keys c.0 0 ≡ k = get_or_default keys c.0 0 k c.1 ∙ c.2 in
        elim (below_or_not c.0 i) [
          | inl low ↦ (let a = h.1 c.0 low in omega (arith, a, same))
          | inr high ↦ (let a = h.2 c.0 high c.1 in omega (arith, a, same))
        ]))

pub returns-in-Ok : goal.returns-in-Ok
returns-in-Ok c = sym (ap (λ r. presence (is_ok r)) c.in-Ok.is)
    ∙ ap presence (among c.args.keys.now c.args.key c.binary_search.result c.requires c.binary_search.ensures.position)

pub returns-in-Err : goal.returns-in-Err
returns-in-Err c = sym (ap (λ r. presence (is_ok r)) c.in-Err.is)
    ∙ ap presence (among c.args.keys.now c.args.key c.binary_search.result c.requires c.binary_search.ensures.position)
