-- Proof: if the changes of a run are made on the sequential set, the set has the run's keys and numbers of successful
-- adds at each moment.
use Rattle.std.proofs.Common.{rules, ◌≡◌, ◌≢◌, ℕ, zero, suc, ◌+◌, ◌<◌, ◌≤◌, true, false, inl, inr, List, length, sym, refl, subst}
use Rattle.std.proofs.Common.{◌∙◌, arith}
use Rattle.std.specs.Prelude.{Contains, Option, Some, None, slice_index, slice_set}
use Rattle.std.proofs.lemmas.List.{length-set, length-replicate, get_or-replicate}
use Rattle.lset_words.specs.SequentialSet.{SetState, opening_set, with_key, without_key}
use Rattle.lset_words.specs.Log.{Log, Entry, Change}
use Rattle.lset_words.specs.Log.Entry.{began, stepped}
use Rattle.lset_words.specs.Account.{Content, Contents, Counts, Same, Changes, Enters, Account}
use Rattle.lset_words.proofs.Numbers.{same_or_not}
use Rattle.lset_words.proofs.IncreasingLists.{IncreasesFrom, increases_from_increasing}
use Rattle.lset_history.proofs.Keys.{with_keeps, with_from, without_keeps, without_from, with_increases, without_increases}
use Rattle.lset_history.proofs.SetFitting.{SameKeys}
use Rattle.lset_words.specs.Words.{Opening}

-- Returns the keys of the set after a change.
abbrev pub keys_after : Option Change → List ℕ → List ℕ
keys_after None keys = keys
keys_after (Some (k, true)) keys = with_key k.0 keys
keys_after (Some (k, false)) keys = without_key k.0 keys

abbrev pub counts_after : ℕ → Option Change → List ℕ → List ℕ
counts_after thread None counts = counts
counts_after thread (Some (k, true)) counts = slice_set counts thread (slice_index counts thread + 1)
counts_after thread (Some (k, false)) counts = counts

-- Returns the state of the sequential set after an entry of the log. The start of a call, or a step without a change,
-- does not change the set.
abbrev pub set_after : Entry → SetState → SetState
set_after (began t call) s = s
set_after (stepped t change reply) s = record { keys = keys_after change s.keys; counts = counts_after t change s.counts }

-- Returns the state of the sequential set after the changes of the first k events.
abbrev pub set_at : Opening → Log → ℕ → SetState
set_at op log zero = opening_set op
set_at op log (suc k) = set_after (log k) (set_at op log k)

-- Holds if the sequential set in state `s` has exactly the keys in `content` and the numbers of successful adds in
-- `counts`.
pub record Shows (threads : ℕ) (content : Content) (counts : ℕ → ℕ) (s : SetState) : Type 0 where
  pub keys : SameKeys content s.keys
  pub increasing : IncreasesFrom 0 s.keys
  pub long : length s.counts ≡ threads
  pub numbers : (t : ℕ) → t < threads → slice_index s.counts t ≡ counts t

same_keys : (before after : Content) (keys : List ℕ) → Same before after → SameKeys before keys → SameKeys after keys
same_keys before after keys s h = λ j. ((λ a. (h j).0 ((s j).1 a)), (λ c. (s j).0 ((h j).1 c)))

keys_on : (change : Option Change) (before after : Content) (keys : List ℕ) → Changes change before after → SameKeys before keys
    → SameKeys after (keys_after change keys)
keys_on None before after keys c h = same_keys before after keys c h
keys_on (Some (k, true)) before after keys c h = λ j. (there j, back j)
  where
    there : (j : ℕ) → after j → Contains (with_key k.0 keys) j
    there j a = elim (same_or_not j k.0) [
      | inl e ↦ with_keeps k.0 j keys (inl e)
      | inr n ↦ with_keeps k.0 j keys (inr ((h j).0 ((c.2 j n).1 a)))
    ]

    back : (j : ℕ) → Contains (with_key k.0 keys) j → after j
    back j m = elim (same_or_not j k.0) [
      | inl e ↦ subst after (sym e) c.1
      | inr n ↦ elim (with_from k.0 j keys m) [ inl e ↦ absurd (n e) | inr i ↦ (c.2 j n).0 ((h j).1 i) ]
    ]
keys_on (Some (k, false)) before after keys c h = λ j. (there j, back j)
  where
    there : (j : ℕ) → after j → Contains (without_key k.0 keys) j
    there j a = elim (same_or_not j k.0) [
      | inl e ↦ absurd (c.1 (subst after e a))
      | inr n ↦ without_keeps k.0 j keys n ((h j).0 ((c.2 j n).1 a))
    ]

    back : (j : ℕ) → Contains (without_key k.0 keys) j → after j
    back j m = let i : Contains keys j × (j ≢ k.0) = without_from k.0 j keys m in (c.2 j i.1).0 ((h j).1 i.0)

increases_on : (change : Option Change) (before after : Content) (keys : List ℕ) → Changes change before after → SameKeys before keys
    → IncreasesFrom 0 keys → IncreasesFrom 0 (keys_after change keys)
increases_on None before after keys c h r = r
increases_on (Some (k, true)) before after keys c h r = with_increases k.0 0 keys r (omega arith) (λ i. c.0 ((h k.0).1 i))
increases_on (Some (k, false)) before after keys c h r = without_increases k.0 0 keys r

long_on : (t : ℕ) (change : Option Change) (counts : List ℕ) → length (counts_after t change counts) ≡ length counts
long_on t (Some (k, true)) counts = length-set counts t (slice_index counts t + 1)
long_on t change counts = refl

shows_on : (threads quota : ℕ) (log : Log) (contents : Contents) (counts : Counts) (k : ℕ) (e : Entry) (s : SetState)
    → Enters threads quota log contents counts k e → Shows threads (contents k) (counts k) s
    → Shows threads (contents (suc k)) (counts (suc k)) (set_after e s)
shows_on threads quota log contents counts k (began t call) s h w = record {
  keys = same_keys (contents k) (contents (suc k)) s.keys h.content w.keys;
  increasing = w.increasing;
  long = w.long;
  numbers = λ u l. w.numbers u l ∙ sym (h.same_counts u l);
}
shows_on threads quota log contents counts k (stepped t change reply) s h w = record {
  keys = keys_on change (contents k) (contents (suc k)) s.keys h.content w.keys;
  increasing = increases_on change (contents k) (contents (suc k)) s.keys h.content w.keys w.increasing;
  long = long_on t change s.counts ∙ w.long;
  numbers = numbers;
}
  where
    numbers : (u : ℕ) → u < threads → slice_index (counts_after t change s.counts) u ≡ counts (suc k) u
    numbers u l = search rules

pub shows_at : (op : Opening) (last : ℕ) (log : Log) (contents : Contents) (counts : Counts)
    → Account op last log contents counts → (k : ℕ) → k ≤ last → Shows op.threads (contents k) (counts k) (set_at op log k)
shows_at op last log contents counts a zero l = record {
  keys = a.opens;
  increasing = increases_from_increasing op.keys a.increasing;
  long = length-replicate op.threads 0;
  numbers = λ t m. get_or-replicate op.threads t 0 0 m ∙ sym (a.none_yet t m);
}
shows_at op last log contents counts a (suc k) l =
    shows_on op.threads op.quota log contents counts k (log k) (set_at op log k) (a.enters k (omega arith))
    (shows_at op last log contents counts a k (omega arith))
