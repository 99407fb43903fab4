-- How the result of a command is written to the buffer of a caller in a foreign language.
use Rattle.std.specs.Prelude.{◌≡◌, ◌≢◌, ℕ, ◌≤◌, ◌<◌, ◌⊎◌, List, ◌++◌, length, drop, Ok, Err}
use Rattle.std.specs.Str.Lossy.{utf8_lossy}
use Rattle.lset_text.specs.Parts.{cut_at}
use Rattle.tool_base.specs.declared.trouble.Trouble.TheVariants.{CannotRead, Memory}
use Rattle.tool_base.specs.Tools.{Made}
use Rattle.tool_base.specs.Trouble as trouble

-- Returns the text that the program prints for a result: the answer's text, or the line about the error.
abbrev pub text_of : Made → List ℕ
text_of (Ok answer) = answer.text
text_of (Err t) = trouble.trouble_text t

-- Returns the program's exit status for a result.
abbrev pub status_of : Made → ℕ
status_of (Ok answer) = answer.status
status_of (Err t) = trouble.status_of t

-- Holds if the text was copied to the start of the buffer and the rest of the buffer is unchanged. If the text does not
-- fit, holds if the whole buffer is unchanged.
abbrev pub Handed : List ℕ → List ℕ → List ℕ → Type 0
Handed text old new =
    ((length text ≤ length old) × (new ≡ text ++ drop (length text) old)) ⊎ ((length old < length text) × (new ≡ old))

-- Holds if the caller receives the result: the text if it fits into the buffer, the status, and the length of the text.
pub record IsHanded (made : Made) (old new : List ℕ) (status count : ℕ) : Type 0 where
  pub text : Handed (text_of made) old new
  pub status_is : status ≡ status_of made
  pub count_is : count ≡ length (text_of made)

-- Holds if the result `made` of a command is correct for a text. The command reads no file, so the error is never
-- `CannotRead`.
abbrev pub OfText : (List ℕ → Made → Type 0) → List ℕ → Made → Type 0
OfText Makes text made = Makes text made × (made ≢ Err CannotRead)

-- Returns the arguments in `bytes`, where zero bytes separate the arguments. Invalid UTF-8 is replaced by U+FFFD.
abbrev pub words_in : List ℕ → List (List ℕ)
words_in bytes = cut_at 0 (utf8_lossy bytes)

-- Holds if the result `made` of a command is correct for the command's arguments, or if `made` is `Memory` because
-- storing the arguments failed.
abbrev pub OfWords : (List (List ℕ) → Made → Type 0) → List ℕ → Made → Type 0
OfWords Makes bytes made = (made ≡ Err Memory) ⊎ Makes (words_in bytes) made

-- Holds if the caller receives the text, the status and the text length of some result that satisfies `IsMade`.
abbrev pub Hands : (Made → Type 0) → List ℕ → List ℕ → ℕ → ℕ → Type 0
Hands IsMade old new status count = (made : Made) × IsMade made × IsHanded made old new status count
