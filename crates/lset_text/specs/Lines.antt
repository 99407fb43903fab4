-- How a text is read line by line. Each line changes the state of the reader, or is refused. The error contains the
-- number of the refused line.
use Rattle.std.specs.Prelude.{◌≡◌, ℕ, ◌+◌, ◌<◌, ◌≤◌, ◌==◌, List, [], ◌∷◌, ◌++◌, length, Result, Ok, Err, if◌then◌else◌}
use Rattle.lset_text.specs.declared.causes.Cause.{Cause}
use Rattle.lset_text.specs.declared.causes.Cause.TheVariants.{NotEnded}
use Rattle.lset_text.specs.declared.causes.LineFault.{LineFault}
use Rattle.lset_text.specs.Causes.{fault}
use Rattle.lset_text.specs.Parts.{cut_at}
use Rattle.lset_text.specs.Results.{◌>>=◌, map_fault}

-- A grammar for the lines of a text. `step` returns the state after a line, or the cause of the error if the line is
-- refused. `ends` returns the final state if the text can end in the given state, and the cause of the error otherwise.
pub record Grammar (S : Type 0) : Type 0 where
  pub step : S → List ℕ → Result S Cause
  pub ends : S → Result S Cause

-- Reads a text that was split at its newlines, starting in the state `s`. `line` is the number of the first line. The
-- last part is the text after the last newline, and must be empty.
unfoldable pub lines_from : {S : Type 0} → Grammar S → ℕ → S → List (List ℕ) → Result S LineFault
lines_from g line s [] = map_fault (fault line) (g.ends s)
lines_from g line s (rest ∷ []) = map_fault (fault line) (if length rest == 0 then g.ends s else Err NotEnded)
lines_from g line s (x ∷ y ∷ more) = do
  next ← map_fault (fault line) (g.step s x)
  lines_from g (line + 1) next (y ∷ more)

-- Holds if reading the lines `xs` changes state `s` to state `t`.
abbrev pub Leads : {S : Type 0} → Grammar S → S → List (List ℕ) → S → Type 0
Leads g s [] t = s ≡ t
Leads {S = S} g s (x ∷ xs) t = (next : S) × (g.step s x ≡ Ok next) × Leads g next xs t

-- Holds if the result is a value, or an error in a line after line number `line`.
abbrev pub IsFaultlessTo : {X : Type 0} → ℕ → Result X LineFault → Type 0
IsFaultlessTo line (Ok x) = Unit {0}
IsFaultlessTo line (Err e) = line < e.line

-- Holds if `line` is the number of a complete line, and the result is a value or an error in a later line. `first` is
-- the number of the first line. The last item of `parts` is the text after the last newline.
abbrev pub IsGoodLine : {X : Type 0} → ℕ → List (List ℕ) → Result X LineFault → ℕ → Type 0
IsGoodLine first parts read line = (first ≤ line) × (line + 1 < first + length parts) × IsFaultlessTo line read

-- The invariant of a loop that reads a text line by line: reading `rest` from line `line` and the state `s` has the
-- same result as reading the whole text from its beginning.
pub record Stands {S : Type 0} (g : Grammar S) (first : ℕ) (text : List ℕ) (read : Result S LineFault) (line : ℕ) (s : S)
    (rest : List ℕ) : Type 0 where
  pub so_far : lines_from g line s (cut_at 10 rest) ≡ read
  -- The lines that have already been read.
  pub above : List (List ℕ)
  pub parts : cut_at 10 text ≡ above ++ cut_at 10 rest
  pub number : line ≡ first + length above
  pub left : line + length rest ≤ first + length text
