-- Definitions for contracts of writers: whether a text was written completely, or only a prefix of it.
use Rattle.std.specs.Prelude.{◌≡◌, ℕ, Bool, MatchBool, List, ◌∷◌, ◌++◌, Option}
use Rattle.std.specs.Io.KnownBytes.{Appends}
use Rattle.lset_session.specs.declared.devices.Device.{Device}

abbrev pub inner_of : {T : Type 0} → Device T → T
inner_of d = d.inner

abbrev pub is_failed : {T : Type 0} → Device T → Bool
is_failed d = d.failed

-- Holds if only a proper prefix of `text` was written.
abbrev pub CutShort : Option (List ℕ) → Option (List ℕ) → List ℕ → Type 0
CutShort old new text = (front : List ℕ) × (b : ℕ) × (cut : List ℕ) × (text ≡ front ++ b ∷ cut) × Appends old new front

-- Holds if `whole` is true and the whole text was written, or `whole` is false and only a proper prefix of the text was
-- written.
abbrev pub Writes : Bool → Option (List ℕ) → Option (List ℕ) → List ℕ → Type 0
Writes whole old new text = MatchBool whole (Appends old new text) (CutShort old new text)
