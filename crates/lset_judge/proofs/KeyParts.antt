-- Proof of locality: the judge's test of a key has the same result on the part of the history to which the key belongs
-- as on the whole history. Therefore some order explains the history if and only if some order explains each part.
use Rattle.std.proofs.Common.{◌≡◌, ℕ, true, false, List, sym, ap, ◌∙◌, ◌<◌, ◌≤◌, Bool, refl, arith, inl, inr}
use Rattle.std.specs.Prelude.{◌==◌, ◌&&◌, cond, not, IfSome}
use Rattle.std.specs.List.Sorted.{IsStrictlyIncreasing}
use Rattle.std.proofs.lemmas.Bool.{both_ways}
use Rattle.std.proofs.lemmas.List.Elements.{recursion_from_All, filter_passes, All-filter}
use Rattle.std.proofs.lemmas.Map.Views.{any-filter_same}
use Rattle.std.proofs.lemmas.List.Filters.{sum_by-filter_both}
use Rattle.std.proofs.lemmas.List.Kept.{AllPairs-filter, IsStrictlyIncreasing-filter}
use Rattle.lset_words.specs.declared.history.CallRecord.{CallRecord}
use Rattle.lset_words.specs.SequentialSet.{has_key}
use Rattle.lset_words.specs.Words.{key_of}
use Rattle.lset_words.proofs.Numbers.{same_number, equal_test, unequal_test, same_or_not}
use Rattle.lset_words.specs.declared.Reply.{Reply}
use Rattle.lset_words.specs.History.{IsCall, Follows, IsHistory}
use Rattle.lset_history.specs.History.{HistoryValue, latest_moment}
use Rattle.lset_judge.specs.Rule.{idle, Event, may_leave}
use Rattle.lset_judge.specs.Events.{event_at, rule_explains, RulePasses}
use Rattle.lset_judge.specs.Locality.{calls_in, keys_in, part_of}
use Rattle.lset_judge.proofs.EventLemmas.{IsSilent, event_filter, event_none, latest_filter}
use Rattle.lset_judge.proofs.KeyStates.{any_key}
use Rattle.lset_judge.specs.Verdict.{IsExplained, IsJudged, is_plain, may_add, adds_of}
use Rattle.lset_judge.proofs.StatesAfter.{left_alike, idle_key}
use Rattle.lset_judge.proofs.RuleDecides.{explained}
use Rattle.lset_judge.proofs.TimelineFromOrder.{rule_refutes}

-- ---- Lemmas about the events of a key in its part

keys_by : (part : ℕ → ℕ) (i k : ℕ) (b : Bool) → ((j : ℕ) → (j == k) ≡ true → (part j == i) ≡ b) → (xs : List ℕ)
    → has_key k (keys_in part i xs) ≡ (b && has_key k xs)
keys_by part i k b same xs = any_key k (keys_in part i xs) ∙ any-filter_same (λ j. j == k) (λ j. part j == i) b same xs
    ∙ ap (λ c. b && c) (sym (any_key k xs))

module _ (part : ℕ → ℕ) (i k : ℕ) (of_part : part k ≡ i) where
  goes_there : (j : ℕ) → (j == k) ≡ true → (part j == i) ≡ true
  goes_there j t = equal_test (part j) i (ap part (same_number j k t) ∙ of_part)

  pub event_in_part : (last m : ℕ) (xs : List CallRecord) → event_at last k (calls_in part i xs) m ≡ event_at last k xs m
  event_in_part last m xs = event_filter last k m (λ (x : CallRecord). part (key_of x.call).0 == i) xs
      (recursion_from_All (λ (x : CallRecord). (part (key_of x.call).0 == i) ≡ false → IsSilent k m x) xs
      (λ n d low f t. absurd (both_ways _ f (goes_there _ t))))

  pub key_in_part : (xs : List ℕ) → has_key k (keys_in part i xs) ≡ has_key k xs
  key_in_part xs = keys_by part i k true goes_there xs

-- ---- Lemmas about a key that does not belong to part i
module _ (part : ℕ → ℕ) (i k : ℕ) (of_other : part k ≡ i → ⊥) where
  goes_elsewhere : (j : ℕ) → (j == k) ≡ true → (part j == i) ≡ false
  goes_elsewhere j t = unequal_test (part j) i (λ e. of_other (sym (ap part (same_number j k t)) ∙ e))

  pub no_event : (last m : ℕ) (xs : List CallRecord) → event_at last k (calls_in part i xs) m ≡ idle
  no_event last m xs = event_none last k m (calls_in part i xs) (recursion_from_All (IsSilent k m) (calls_in part i xs)
      (λ n d low t. absurd (both_ways _ (goes_elsewhere _ t) (filter_passes (λ (x : CallRecord). part (key_of x.call).0 == i) xs n d low))))

  pub no_key : (xs : List ℕ) → has_key k (keys_in part i xs) ≡ false
  no_key xs = keys_by part i k false goes_elsewhere xs

module _ (h : HistoryValue) (keys : List ℕ) (part : ℕ → ℕ) (i : ℕ) (told : IsHistory h.opening.threads h.calls) where
  abbrev own : List CallRecord
  own = calls_in part i h.calls

  -- ---- Proof that a part of a history is a history

  pub part_told : IsHistory h.opening.threads own
  part_told = record {
    each = All-filter (λ (x : CallRecord). part (key_of x.call).0 == i) (IsCall h.opening.threads) h.calls told.each;
    pairs = AllPairs-filter Follows (λ (x : CallRecord). part (key_of x.call).0 == i) h.calls told.pairs;
  }

  pub part_judged : IsJudged h → IsJudged (part_of part i h)
  part_judged j = record {
    plain = All-filter (λ (x : CallRecord). part (key_of x.call).0 == i)
        (λ (x : CallRecord). IfSome x.ended (λ (e : ℕ × Reply). is_plain x.call e.1 ≡ true)) h.calls j.plain;
    room = λ t.
        let more : adds_of t h.calls ≤ h.opening.quota = j.room t in
        let both = sum_by-filter_both (λ (x : CallRecord). part (key_of x.call).0 == i)
        (λ (x : CallRecord). not (part (key_of x.call).0 == i)) (λ x. refl)
        (λ (x : CallRecord). cond (may_add x.call x.ended && x.thread == t) 1 0) h.calls in
        let less : adds_of t own ≤ adds_of t h.calls = omega (arith, both) in
        omega arith;
  }

  -- ---- Lemmas about a key that belongs to part i

  pub key_alike : (last k : ℕ) → part k ≡ i → rule_explains last h keys k ≡ rule_explains last (part_of part i h) (keys_in part i keys) k
  key_alike last k of_part =
      let ev : ℕ → Event = event_at last k own in
      left_alike (event_at last k h.calls) ev (has_key k h.opening.keys) (has_key k keys) last (λ m low. sym (event_in_part part i k of_part last m h.calls))
      ∙ ap (λ (b : Bool). may_leave ev b (has_key k keys) last) (sym (key_in_part part i k of_part h.opening.keys))
      ∙ ap (λ (b : Bool). may_leave ev (has_key k (keys_in part i h.opening.keys)) b last) (sym (key_in_part part i k of_part keys))

  no_key_passes : (last k : ℕ) → (part k ≡ i → ⊥) → rule_explains last (part_of part i h) (keys_in part i keys) k ≡ true
  no_key_passes last k other =
      ap (λ (b : Bool). may_leave (event_at last k own) b (has_key k (keys_in part i keys)) last) (no_key part i k other h.opening.keys)
      ∙ ap (λ (b : Bool). may_leave (event_at last k own) false b last) (no_key part i k other keys)
      ∙ idle_key (event_at last k own) false false last (λ m l. no_event part i k other last m h.calls)

  pub part_passes : (last : ℕ) → RulePasses last h keys → RulePasses last (part_of part i h) (keys_in part i keys)
  part_passes last all k = elim (same_or_not (part k) i) [
    | inl e ↦ sym (key_alike last k e) ∙ all k
    | inr n ↦ no_key_passes last k n
  ]

pub apart : (h : HistoryValue) (keys : List ℕ) (part : ℕ → ℕ) (parts : ℕ)
    → IsHistory h.opening.threads h.calls → IsStrictlyIncreasing h.opening.keys → IsStrictlyIncreasing keys → IsJudged h
    → ((key : ℕ) → part key < parts)
    → (IsExplained h keys → (i : ℕ) → i < parts → IsExplained (part_of part i h) (keys_in part i keys))
    × (((i : ℕ) → i < parts → IsExplained (part_of part i h) (keys_in part i keys)) → IsExplained h keys)
apart h keys part parts told opens left judged known =
    let last : ℕ = latest_moment h.calls in (
      (λ E i l. explained last (part_of part i h) (keys_in part i keys) (latest_filter (λ (x : CallRecord). part (key_of x.call).0 == i) h.calls) (part_told h keys part i told)
          (IsStrictlyIncreasing-filter (λ (k : ℕ). part k == i) h.opening.keys opens) (part_judged h keys part i told judged)
          (IsStrictlyIncreasing-filter (λ (k : ℕ). part k == i) keys left)
          (part_passes h keys part i told last (rule_refutes last h keys E.0 (omega arith) told E.1))),
      (λ each. explained last h keys (omega arith) told opens judged left (λ k.
          let E = each (part k) (known k) in
          key_alike h keys part (part k) told last k refl
          ∙ rule_refutes last (part_of part (part k) h) (keys_in part (part k) keys) E.0 (latest_filter (λ (x : CallRecord). part (key_of x.call).0 == part k) h.calls)
          (part_told h keys part (part k) told) E.1 k)),
    )

pub any_quota : (h : HistoryValue) (keys : List ℕ) (quota : ℕ)
    → IsHistory h.opening.threads h.calls → IsStrictlyIncreasing h.opening.keys → IsStrictlyIncreasing keys → IsJudged h
    → IsExplained (record {
      opening = record { threads = h.opening.threads; quota = quota; keys = h.opening.keys };
      calls = h.calls;
    }) keys
    → IsExplained h keys
any_quota h keys quota told opens left judged E =
    let other : HistoryValue = record {
      opening = record { threads = h.opening.threads; quota = quota; keys = h.opening.keys };
      calls = h.calls;
    } in
    explained (latest_moment h.calls) h keys (omega arith) told opens judged left
    (rule_refutes (latest_moment h.calls) other keys E.0 (omega arith) told E.1)
