-- The final states that are possible for a key.
use Rattle.std.specs.Prelude.{ℕ, ◌||◌, Bool, true, false, List, [], ◌∷◌}
use Rattle.lset_judge.specs.Rule.{State, same, options}

abbrev pub has_any : List ℕ → Bool
has_any [] = false
has_any (x ∷ xs) = true

-- Returns whether `there` can be the key's final state: the key is in the state `there` now, or a pending change can
-- change the key to the state `there`.
abbrev pub may_be_left : Bool → State → Bool
may_be_left there s = same there s.there || has_any (options s)
