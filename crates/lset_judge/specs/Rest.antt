-- The calls on a single key: which calls can change the key, and the history that consists of the calls on the key.
use Rattle.std.specs.Prelude.{ℕ, nat_le, if◌then◌else◌, Bool, false, List, [], ◌∷◌}
use Rattle.std.specs.Prelude.{Option, Some, None}
use Rattle.lset_words.specs.declared.Reply.{Reply}
use Rattle.lset_words.specs.declared.history.CallRecord.{CallRecord}
use Rattle.lset_words.specs.declared.effect.Presence.{Presence}
use Rattle.lset_words.specs.Effects.{is_there}
use Rattle.lset_history.specs.History.{HistoryValue}
use Rattle.lset_judge.specs.Events.{Kind, changes, sees, nothing}
use Rattle.lset_judge.specs.Rule.{same}

-- Returns whether a call of the given kind changed its key to the state `there`, or is pending and can still do so.
abbrev pub turns_to : Presence → Kind → Bool
turns_to there (changes w) = same w (is_there there)
turns_to there (sees w) = false
turns_to there nothing = false

abbrev pub has_ended : ℕ → Option (ℕ × Reply) → Bool
has_ended moment None = false
has_ended moment (Some e) = nat_le e.0 moment

-- Returns the list with only the key `key` if `there` is true, else the empty list.
abbrev pub key_if : Bool → ℕ → List ℕ
key_if there key = if there then key ∷ [] else []

-- Returns the history that consists of `calls`, which are calls on `key`. The set opens with the key if `there` is
-- true.
abbrev pub alone : ℕ → ℕ → Bool → ℕ → List CallRecord → HistoryValue
alone threads quota there key calls = record {
  opening = record { threads = threads; quota = quota; keys = key_if there key };
  calls = calls;
}
