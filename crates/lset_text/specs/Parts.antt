-- Texts as lists of lines, and lines as lists of fields.
use Rattle.std.specs.Prelude.{◌≡◌, ℕ, ◌==◌, ◌&&◌, nat_le, Bool, true, false, List, [], ◌∷◌, ◌++◌, All}
use Rattle.std.specs.List.{slice_split, flat_map, join_with_byte}

-- Splits a text at each occurrence of `byte`. If `byte` is the newline, the parts are the complete lines and, as the
-- last part, the text after the last newline.
abbrev pub cut_at : ℕ → List ℕ → List (List ℕ)
cut_at byte text = slice_split (λ b. b == byte) text

-- Joins fields into a line, separated by single spaces.
abbrev pub line_of : List (List ℕ) → List ℕ
line_of pieces = join_with_byte 32 pieces

-- Appends a newline to a line.
abbrev pub ended : List ℕ → List ℕ
ended line = line ++ 10 ∷ []

-- Joins lines into a text, with a newline after each line.
abbrev pub text_of : List (List ℕ) → List ℕ
text_of lines = flat_map ended lines

-- Holds if `byte` does not occur in the text.
abbrev pub Lacks : ℕ → List ℕ → Type 0
Lacks byte text = All (λ b. b == byte ≡ false) text

-- Returns whether each byte is at least `low`. Letters, digits and dashes are at least 45; the space and the newline
-- are not.
abbrev pub all_from : ℕ → List ℕ → Bool
all_from low [] = true
all_from low (b ∷ bs) = nat_le low b && all_from low bs
