-- The lines `opening K` that follow the header in a file of version 2. They list the opening keys (the keys that the
-- set contains at the start).
use Rattle.std.specs.Prelude.{◌≡◌, ℕ, ◌-◌, nat_lt, Bool, true, List, [], length, map, codes, Option, Some, None, slice_get}
use Rattle.lset_text.specs.declared.words.Version.{Version}
use Rattle.lset_text.specs.declared.words.Version.TheVariants.{One, Two}
use Rattle.lset_text.specs.Numbers.{max_number}
use Rattle.lset_text.specs.Forms.{Form}
use Rattle.lset_text.specs.Headers.{number_line, number_form}

abbrev pub opening_line : ℕ → List ℕ
opening_line key = number_line (codes "opening") key

abbrev pub opening_lines : List ℕ → List (List ℕ)
opening_lines keys = map opening_line keys

-- The form of a line `opening K`.
abbrev pub opening_form : Form
opening_form = number_form (codes "opening") 0 max_number

-- Holds if a file of the given version can list `keys` as opening keys (the keys that the set contains at the start). A
-- file of version 1 lists no keys.
abbrev pub HasOpening : Version → List ℕ → Type 0
HasOpening One keys = keys ≡ []
HasOpening Two keys = Unit {0}

abbrev pub above_last : Option ℕ → ℕ → Bool
above_last None key = true
above_last (Some last) key = nat_lt last key

-- Returns whether `key` is above the last key in `keys`. Returns true if `keys` is empty.
abbrev pub is_above : List ℕ → ℕ → Bool
is_above keys key = above_last (slice_get keys (length keys - 1)) key
