-- The kinds of lines in a file, such as `begin` or `go`. A kind of line has a form (the list of the line's fields), and
-- a function that computes the content of the line from the values of the fields.
use Rattle.std.specs.Prelude.{ℕ, List, [], ◌∷◌, Result, Ok, Err, if◌then◌else◌}
use Rattle.lset_text.specs.declared.words.Version.{Version}
use Rattle.lset_text.specs.declared.causes.Cause.{Cause}
use Rattle.lset_text.specs.declared.causes.Cause.TheVariants.{Number}
use Rattle.lset_text.specs.Parts.{cut_at}
use Rattle.lset_text.specs.Forms.{Form, Told, have_form, all_told}
use Rattle.lset_text.specs.Results.{or_fail}

abbrev pub LineKind : Type 0 → Type 0
LineKind X = (f : Form) × (Told f → X)

-- Returns the kind of line that accepts the same lines as `k`. The content of a line is `f x` if it is `x` for `k`.
abbrev pub kind_as : {X Y : Type 0} → (X → Y) → LineKind X → LineKind Y
kind_as f k = (k.0, λ t. f (k.1 t))

abbrev pub made : {X Y : Type 0} → (X → Y) → Result X Cause → Result Y Cause
made f (Ok x) = Ok (f x)
made f (Err e) = Err e

-- Reads a line that was split into fields, according to the first kind of line whose form (list of fields) matches.
-- Returns the content of the line. Returns the error `none` if no form matches, and `Number` if a form matches but a
-- number in the line is malformed or out of range.
abbrev pub first_of : {X : Type 0} → Version → Cause → List (LineKind X) → List (List ℕ) → Result X Cause
first_of v none [] pieces = Err none
first_of v none (k ∷ ks) pieces =
    if have_form v k.0 pieces then made k.1 (or_fail Number (all_told v k.0 pieces)) else first_of v none ks pieces

abbrev pub line_in : {X : Type 0} → Version → Cause → List (LineKind X) → List ℕ → Result X Cause
line_in v none kinds line = first_of v none kinds (cut_at 32 line)
