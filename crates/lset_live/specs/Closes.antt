-- The shared words (memory cells) of a closed set, and the keys that they contain.
use Rattle.std.specs.Prelude.{◌≡◌, ℕ, ◌+◌, ◌*◌, ◌<◌, ◌≤◌, List, length}
use Rattle.lset_words.specs.declared.TheConstants.{MOST_WORDS}
use Rattle.lset_words.specs.Words.{lock_index, tail_word, word_count, Opening, sizes, Sizes}
use Rattle.lset_steps.specs.declared.Event.{Event}
use Rattle.lset_steps.specs.Chain.{view, IsOrdered}
use Rattle.lset_steps.specs.Worlds.{IsContent}
use Rattle.lset_steps.specs.Steps.{Table}
use Rattle.lset_steps.specs.Laws.{Lawful}
use Rattle.lset_rule.specs.Runs.{end_of, IsRunOf}

-- The final contents of the words (memory cells) of a closed set, and the sizes of the set: its number of threads, its
-- quota (successful adds per thread), and its number of keys at the start.
pub record LastWords : Type 0 where
  pub sizes : Sizes
  pub words : List ℕ

-- Holds if some run of some list ends with the words (memory cells) in `c`.
pub record IsLast (c : LastWords) : Type 0 where
  pub opening : Opening
  pub of_sizes : sizes opening ≡ c.sizes
  pub machine : Table
  pub law : Lawful machine
  pub events : List Event
  pub run : IsRunOf machine opening events
  pub words : c.words ≡ (end_of machine opening events).words

-- Holds if `keys` are the keys of the unmarked nodes that can be reached from the head in the memory `c`, in increasing
-- order (see [Content]).
abbrev pub HasKeys : LastWords → List ℕ → Type 0
HasKeys c keys = IsContent (view c.sizes c.words (λ t. 0)) keys

-- Returns the maximum number of keys in a set: the number of opening keys (the keys at the start), plus the number of
-- keys that all threads together can add.
abbrev pub most_keys : Sizes → ℕ
most_keys s = s.threads * s.quota + s.opening

-- Facts about the words (memory cells) of a closed set, used by the proof of `Closed::keys`.
pub record HasLaws (c : LastWords) : Type 0 where
  pub few : length c.words ≤ MOST_WORDS
  pub count : length c.words ≡ word_count c.sizes
  pub used : ℕ → ℕ
  pub ordered : IsOrdered (view c.sizes c.words used)
  pub head_key : (view c.sizes c.words used).key 0 ≡ 0
  pub tail_key : (view c.sizes c.words used).key 1 ≡ tail_word
  pub inside : (i : ℕ) → (view c.sizes c.words used).published i → lock_index i < length c.words
