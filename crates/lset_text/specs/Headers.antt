-- The header of a file, which consists of the first four lines: title, kind of list, number of threads, and quota (the
-- number of successful adds that each thread can make).
use Rattle.std.specs.Prelude.{◌≡◌, ℕ, ◌==◌, List, [], ◌∷◌, ◌++◌, length, codes, Option, Some, None, Result, Ok, Err}
use Rattle.std.specs.Prelude.{if◌then◌else◌, option_map}
use Rattle.std.specs.Fmt.{decimal}
use Rattle.std.specs.Str.{bytes_eq}
use Rattle.lset_words.specs.declared.TheConstants.{MOST_THREADS, MOST_QUOTA}
use Rattle.lset_words.specs.declared.Kind.{Kind}
use Rattle.lset_words.specs.Words.{IsWithin}
use Rattle.lset_text.specs.declared.words.Version.{Version}
use Rattle.lset_text.specs.declared.words.Version.TheVariants.{One, Two}
use Rattle.lset_text.specs.declared.headers.Header.{Header}
use Rattle.lset_text.specs.declared.causes.Cause.{Cause}
use Rattle.lset_text.specs.declared.causes.Cause.TheVariants as wrong
use Rattle.lset_text.specs.declared.causes.LineFault.{LineFault}
use Rattle.lset_text.specs.Causes.{fault}
use Rattle.lset_text.specs.Parts.{cut_at, line_of, text_of, Lacks}
use Rattle.lset_text.specs.Forms.{Form, told_in}
use Rattle.lset_text.specs.Forms as piece
use Rattle.lset_text.specs.Spellings.{kind_text}
use Rattle.lset_text.specs.Results.{◌>>=◌, or_fail}

-- ---- Writing a header

abbrev pub kind_line : Kind → List ℕ
kind_line k = line_of (codes "list" ∷ kind_text k ∷ [])

-- Returns a line that consists of a word, a space, and a decimal number.
abbrev pub number_line : List ℕ → ℕ → List ℕ
number_line word n = line_of (word ∷ decimal n ∷ [])

abbrev pub header_lines : List ℕ → Header → List (List ℕ)
header_lines title h =
    title ∷ kind_line h.kind ∷ number_line (codes "threads") h.threads ∷ number_line (codes "quota") h.quota ∷ []

-- Holds if the header has 1 to 64 threads, and a quota (the number of successful adds that each thread can make) from 0
-- to 16,384.
abbrev pub IsHeader : Header → Type 0
IsHeader h = IsWithin (record { threads = h.threads; quota = h.quota; opening = 0 })

-- ---- The version of a text (`title` is the title of version 2)

abbrev pub version_in : List ℕ → List (List ℕ) → Version
version_in title [] = One
version_in title (first ∷ more) = if bytes_eq first title then Two else One

-- ---- Reading a header

abbrev pub title_in : List ℕ → List ℕ → Option (List ℕ)
title_in title line = if bytes_eq line title then Some title else None

abbrev pub kind_form : Form
kind_form = piece.word (codes "list") ∷ piece.kind ∷ []

-- Returns the kind of list if the line consists of `list`, a space, and the name of a kind. Otherwise returns `None`.
abbrev pub kind_in : List ℕ → Option Kind
kind_in line = option_map (λ t. t.1.0) (told_in Two kind_form (cut_at 32 line))

abbrev pub number_form : List ℕ → ℕ → ℕ → Form
number_form word low high = piece.word word ∷ piece.number low high ∷ []

-- Returns the number if the line consists of `word`, a space, and a number from `low` to `high`. Otherwise returns
-- `None`.
abbrev pub number_after : List ℕ → ℕ → ℕ → List ℕ → Option ℕ
number_after word low high line = option_map (λ t. t.1.0) (told_in Two (number_form word low high) (cut_at 32 line))

-- Splits off the next header line, which has the number `line`, and returns it with the remaining parts. The last part
-- is the text after the last newline. If only an empty last part remains, the line is missing, and the error is
-- `cause`. If only a last part with bytes remains, the error is `NotEnded`.
abbrev pub line_due : ℕ → Cause → List (List ℕ) → Result (List ℕ × List (List ℕ)) LineFault
line_due line cause [] = Err (fault line cause)
line_due line cause (rest ∷ []) = Err (fault line (if length rest == 0 then cause else wrong.NotEnded))
line_due line cause (x ∷ y ∷ more) = Ok (x, y ∷ more)

-- Reads a value from the next header line with `read`. Returns the value and the parts after the header line.
unfoldable pub told_by_line : {A : Type 0} → ℕ → Cause → (List ℕ → Option A) → List (List ℕ)
    → Result (A × List (List ℕ)) LineFault
told_by_line line cause read parts = do
  due ← line_due line cause parts
  told ← or_fail (fault line cause) (read due.0)
  Ok (told, due.1)

abbrev pub title_told : List ℕ → List (List ℕ) → Result (List ℕ × List (List ℕ)) LineFault
title_told title = told_by_line 1 wrong.Header (title_in title)

abbrev pub kind_told : List (List ℕ) → Result (Kind × List (List ℕ)) LineFault
kind_told = told_by_line 2 wrong.Kind kind_in

abbrev pub threads_told : List (List ℕ) → Result (ℕ × List (List ℕ)) LineFault
threads_told = told_by_line 3 wrong.Threads (number_after (codes "threads") 1 MOST_THREADS)

abbrev pub quota_told : List (List ℕ) → Result (ℕ × List (List ℕ)) LineFault
quota_told = told_by_line 4 wrong.Quota (number_after (codes "quota") 0 MOST_QUOTA)

-- Reads a header from the parts of a text. Returns the header and the parts after the header.
unfoldable pub header_of : List ℕ → List (List ℕ) → Result (Header × List (List ℕ)) LineFault
header_of title parts = do
  first ← title_told title parts
  kind ← kind_told first.1
  threads ← threads_told kind.1
  quota ← quota_told threads.1
  Ok (record { kind = kind.0; threads = threads.0; quota = quota.0 }, quota.1)

-- Lemma: reading the text of a header yields the header, whatever text follows.
abbrev pub HeadersReadBack : Type 0
HeadersReadBack = (title : List ℕ) (h : Header) (rest : List ℕ) → Lacks 10 title → IsHeader h
    → header_of title (cut_at 10 (text_of (header_lines title h) ++ rest)) ≡ Ok (h, cut_at 10 rest)
