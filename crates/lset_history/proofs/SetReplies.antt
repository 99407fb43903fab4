-- Proof: the replies of the sequential set equal the replies that the code computes from its tree of keys and its
-- counters.
use Rattle.std.proofs.Common.{rules, ◌≡◌, ℕ, ◌≤◌, ◌<◌, ◌≢◌, ◌==◌, ◌+◌, Bool, true, false, cond, List, [], ◌∷◌, get_or, refl, sym}
use Rattle.std.proofs.Common.{ap, inl, inr, ◌∙◌, arith}
use Rattle.std.specs.Prelude.{filter}
use Rattle.std.specs.BTreeMap.Range.{range_contains}
use Rattle.std.specs.declared.ops.Bound.TheVariants.{Included, Unbounded}
use Rattle.std.specs.declared.cmp.Ordering.TheVariants.{Less, Equal, Greater}
use Rattle.std.specs.Cmp.{nat_cmp_is}
use Rattle.lset_words.proofs.Numbers.{below_or_not}
use Rattle.lset_words.specs.declared.Reply.{Reply}
use Rattle.std.specs.List.{list_any}
use Rattle.std.specs.List.Sorted.{IsStrictlyIncreasing, IsStrictlySortedBy}
use Rattle.std.specs.Ordering.{nat_cmp}
use Rattle.std.specs.BTreeMap.{is_at}
use Rattle.std.specs.BTreeSet.{insert_key}
use Rattle.std.specs.Set.{remove_key}
use Rattle.std.proofs.Math.ListN.{set}
use Rattle.std.proofs.lemmas.List.{length-set}
use Rattle.std.proofs.lemmas.List.Elements.{All-set}
use Rattle.std.proofs.lemmas.Map.Keys.{sorted_from_strictly_increasing, IsStrictlyIncreasing-from_sorted}
use Rattle.std.proofs.lemmas.Bool.{cond-true, cond-false, eq-eqb, ne_eqb, lt-ltb, le-ltb, cases_order}
use Rattle.lset_words.specs.declared.Key.{Key}
use Rattle.lset_words.specs.declared.Call.TheVariants.{Add, Remove, Contains, Ceiling}
use Rattle.lset_words.specs.declared.Reply.TheVariants.{True, False, Full, At, Nothing}
use Rattle.lset_words.specs.SequentialSet.{SetState, has_key, ceiling_in}
use Rattle.lset_history.specs.Oracle.{OracleValue, set_of, Answers, PutsIn, KeepsCounts}
use Rattle.lset_history.proofs.KeySets.{has_key_tree, with_key_tree, without_key_tree, without_absent}

abbrev in_tree : ℕ → List ℕ → Bool
in_tree k keys = list_any (is_at (nat_cmp k)) keys

pub add_present : (o : OracleValue) (t : ℕ) (k : Key) → in_tree k.0 o.state.keys ≡ true → Answers o o t (Add k) False
add_present o t k h = record {
  reply_is = sym (cond-true (has_key k.0 o.state.keys) False _ (has_key_tree k.0 o.state.keys ∙ h));
  state_is = refl;
}

pub add_full : (o : OracleValue) (t : ℕ) (k : Key) (count : ℕ) → count ≡ get_or o.state.counts t 0
    → in_tree k.0 o.state.keys ≡ false → count ≡ o.quota → Answers o o t (Add k) Full
add_full o t k count read h full = record {
  reply_is = sym (cond-false (has_key k.0 o.state.keys) False _ (has_key_tree k.0 o.state.keys ∙ h)
      ∙ cond-true (get_or o.state.counts t 0 == o.quota) Full True (eq-eqb _ _ (sym read ∙ full)));
  state_is = refl;
}

pub add_new : (quota : ℕ) (s : SetState) (t : ℕ) (k : Key) (count : ℕ) → count ≡ get_or s.counts t 0
    → in_tree k.0 s.keys ≡ false → count ≢ quota → Answers (set_of quota s.keys s.counts)
    (set_of quota (insert_key nat_cmp s.keys k.0) (set s.counts t (count + 1)))
    t (Add k) True
add_new quota s t k count read h room =
    let absent = has_key_tree k.0 s.keys ∙ h in
    record {
      reply_is = sym (cond-false (has_key k.0 s.keys) False _ absent
          ∙ cond-false (get_or s.counts t 0 == quota) Full True (ne_eqb _ _ (λ e. room (read ∙ e))));
      state_is = rw (length-set s.counts t (count + 1), ← with_key_tree k.0 s.keys absent, read) refl;
    }

pub puts_in : (quota : ℕ) (s : SetState) (t : ℕ) (k : Key) (count : ℕ) → count ≡ get_or s.counts t 0
    → in_tree k.0 s.keys ≡ false → count ≢ quota → PutsIn (set_of quota s.keys s.counts) t (Add k)
puts_in quota s t k count read h room = sym (add_new quota s t k count read h room).reply_is

pub removed : (quota : ℕ) (s : SetState) (t : ℕ) (k : Key) (found : Bool) → found ≡ in_tree k.0 s.keys
    → IsStrictlyIncreasing s.keys → Answers (set_of quota s.keys s.counts)
    (set_of quota (remove_key (is_at (nat_cmp k.0)) s.keys) s.counts)
    t (Remove k) (cond found True False)
removed quota s t k true e increasing = record {
  reply_is = sym (cond-true (has_key k.0 s.keys) True False (has_key_tree k.0 s.keys ∙ sym e));
  state_is = rw (← without_key_tree k.0 s.keys (sorted_from_strictly_increasing s.keys increasing)) refl;
}
removed quota s t k false e increasing = record {
  reply_is = sym (cond-false (has_key k.0 s.keys) True False (has_key_tree k.0 s.keys ∙ sym e));
  state_is = rw (
    ← without_key_tree k.0 s.keys (sorted_from_strictly_increasing s.keys increasing),
    without_absent k.0 s.keys
        (has_key_tree k.0 s.keys ∙ sym e),
  ) refl;
}

pub contained : (o : OracleValue) (t : ℕ) (k : Key) (found : Bool) → found ≡ in_tree k.0 o.state.keys
    → Answers o o t (Contains k) (cond found True False)
contained o t k true e = record {
  reply_is = sym (cond-true (has_key k.0 o.state.keys) True False (has_key_tree k.0 o.state.keys ∙ sym e));
  state_is = refl;
}
contained o t k false e = record {
  reply_is = sym (cond-false (has_key k.0 o.state.keys) True False (has_key_tree k.0 o.state.keys ∙ sym e));
  state_is = refl;
}

-- Returns the keys that are at least `k`. The first key in the result is the ceiling of `k` (the smallest key at or
-- above `k`).
abbrev from_on : ℕ → List ℕ → List ℕ
from_on k keys = filter (range_contains nat_cmp (Included k) Unbounded) keys

abbrev first_reply : List ℕ → Reply
first_reply [] = Nothing
first_reply (x ∷ xs) = At (record { 0 = x })

at_or_above : (k x : ℕ) → k ≤ x → range_contains nat_cmp (Included k) Unbounded x ≡ true
at_or_above k x h = elim (cases_order k x) [
  | inl e ↦ rw (sym (nat_cmp_is k x Equal e)) refl
  | inr n ↦ elim n [ inl l ↦ rw (sym (nat_cmp_is k x Less l)) refl | inr l ↦ absurd (omega arith) ]
]

not_above : (k x : ℕ) → x < k → range_contains nat_cmp (Included k) Unbounded x ≡ false
not_above k x h = rw (sym (nat_cmp_is k x Greater h)) refl

ceiling_range : (k : ℕ) (keys : List ℕ) → ceiling_in k keys ≡ first_reply (from_on k keys)
ceiling_range k [] = refl
ceiling_range k (x ∷ xs) = elim (below_or_not x k) [
  | inl l ↦ rw (lt-ltb x k l, not_above k x l) (ceiling_range k xs)
  | inr g ↦ rw (le-ltb x k g, at_or_above k x g) refl
]

pub ceiling_first : (o : OracleValue) (t : ℕ) (k : Key) (x : ℕ) (rest found : List ℕ) → found ≡ from_on k.0 o.state.keys
    → found ≡ x ∷ rest → Answers o o t (Ceiling k) (At (record { 0 = x }))
ceiling_first o t k x rest found is first = record {
  reply_is = sym (ceiling_range k.0 o.state.keys ∙ ap first_reply (sym is ∙ first));
  state_is = refl;
}

pub ceiling_nowhere : (o : OracleValue) (t : ℕ) (k : Key) (found : List ℕ) → found ≡ from_on k.0 o.state.keys
    → found ≡ [] → Answers o o t (Ceiling k) Nothing
ceiling_nowhere o t k found is none = record {
  reply_is = sym (ceiling_range k.0 o.state.keys ∙ ap first_reply (sym is ∙ none));
  state_is = refl;
}

pub keeps_add : (quota : ℕ) (s : SetState) (t count : ℕ) (keys : List ℕ) → KeepsCounts quota s
    → IsStrictlySortedBy nat_cmp keys → count ≤ quota → count ≢ quota
    → KeepsCounts quota (record { keys = keys; counts = set s.counts t (count + 1) })
keeps_add quota s t count keys kept sorted low room = search (rules, IsStrictlyIncreasing-from_sorted, All-set)
