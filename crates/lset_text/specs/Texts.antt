-- Definitions for whole files. A file consists of a header and lines after it.
use Rattle.std.specs.Prelude.{ℕ, ◌+◌, List, Result}
use Rattle.lset_text.specs.declared.words.Version.{Version}
use Rattle.lset_text.specs.declared.words.Version.TheVariants.{Two}
use Rattle.lset_text.specs.declared.headers.Header.{Header}
use Rattle.lset_text.specs.declared.causes.LineFault.{LineFault}
use Rattle.lset_text.specs.Headers.{header_of, version_in}
use Rattle.lset_text.specs.Lines.{Grammar, lines_from}
use Rattle.lset_text.specs.Results.{◌>>=◌}

-- The grammar of a file: the title, the state after the header, and the grammar of the lines that follow the header.
pub record TextGrammar (S : Type 0) : Type 0 where
  pub title : List ℕ
  pub start : Header → S
  pub lines : Grammar S

-- The number of the last header line. `first_line` is the number of the line after the header.
abbrev pub last_of_header : ℕ
last_of_header = 4

abbrev pub first_line : ℕ
first_line = last_of_header + 1

-- Reads a whole file from its parts: first the header, then the lines after the header.
unfoldable pub text_from : {S : Type 0} → TextGrammar S → List (List ℕ) → Result S LineFault
text_from g parts = do
  head ← header_of g.title parts
  lines_from g.lines first_line (g.start head.0) head.1

-- Reads a file of either version. The first line determines the version.
abbrev pub versioned_from : {S : Type 0} → (Version → TextGrammar S) → List (List ℕ) → Result S LineFault
versioned_from g parts = text_from (g (version_in (g Two).title parts)) parts
