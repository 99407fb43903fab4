-- [Report text]: the text of a report. Each report has exactly one text in its version of the format.
use Rattle.std.specs.Prelude.{ℕ, ◌+◌, List, [], ◌∷◌, ◌++◌, map, codes, Option, Some, None}
use Rattle.std.specs.Fmt.{decimal}
use Rattle.std.specs.List.{AllByRecursion}
use Rattle.lset_words.specs.declared.Reply.{Reply}
use Rattle.lset_words.specs.declared.history.CallRecord.{CallRecord}
use Rattle.lset_words.specs.declared.history.Placed.{Placed}
use Rattle.lset_words.specs.Words.{key_of}
use Rattle.lset_text.specs.declared.headers.Header.{Header}
use Rattle.lset_text.specs.Parts.{line_of, text_of}
use Rattle.lset_text.specs.Spellings.{call_text, reply_text, HasCall, HasReply}
use Rattle.lset_text.specs.declared.words.Version.{Version}
use Rattle.lset_text.specs.declared.words.Version.TheVariants.{One, Two}
use Rattle.lset_text.specs.Headers.{header_lines}
use Rattle.lset_text.specs.Openings.{opening_lines, HasOpening}
use Rattle.lset_report.specs.Report.{ReportValue}

abbrev pub title : Version → List ℕ
title One = codes "listset-report 1"
title Two = codes "listset-report 2"

abbrev pub header_in : ReportValue → Header
header_in r = record { kind = r.kind; threads = r.history.opening.threads; quota = r.history.opening.quota }

-- Returns the text for the end of a call: the moment (a position in the history) and the reply, or `open` if the call
-- is pending.
abbrev pub end_pieces : Option (ℕ × Reply) → List (List ℕ)
end_pieces (Some end) = decimal end.0 ∷ reply_text end.1 ∷ []
end_pieces None = codes "open" ∷ []

abbrev pub call_line : ℕ → CallRecord → List ℕ
call_line number x = line_of (codes "call" ∷ decimal number ∷ decimal x.thread ∷ call_text x.call ∷ decimal ((key_of x.call).0)
    ∷ decimal x.begun ∷ end_pieces x.ended)

-- Returns the lines of the calls, ordered by call number.
abbrev pub call_lines : ℕ → List CallRecord → List (List ℕ)
call_lines number [] = []
call_lines number (x ∷ xs) = call_line number x ∷ call_lines (number + 1) xs

abbrev pub place_line : Placed → List ℕ
place_line p = line_of (codes "place" ∷ decimal p.call ∷ reply_text p.reply ∷ [])

abbrev pub key_line : ℕ → List ℕ
key_line k = line_of (codes "key" ∷ decimal k ∷ [])

abbrev pub last_line : List ℕ
last_line = codes "end"

abbrev pub report_lines : ReportValue → List (List ℕ)
report_lines r = header_lines (title r.version) (header_in r) ++ opening_lines r.history.opening.keys
    ++ call_lines 0 r.history.calls
    ++ map place_line r.order ++ map key_line r.keys ++ last_line ∷ []

abbrev pub report_text : ReportValue → List ℕ
report_text r = text_of (report_lines r)

-- ---- Reports that can be written in a version of the format

-- Holds if the call is pending, or the format version has a word for the call's reply.
abbrev pub HasEnd : Version → Option (ℕ × Reply) → Type 0
HasEnd version None = Unit {0}
HasEnd version (Some end) = HasReply version end.1

abbrev pub HasWordsIn : Version → List CallRecord → List Placed → Type 0
HasWordsIn One calls order = AllByRecursion (λ (x : CallRecord). HasCall One x.call × HasEnd One x.ended) calls
    × AllByRecursion (λ (p : Placed). HasReply One p.reply) order
HasWordsIn Two calls order = Unit {0}

-- Holds if everything in the report can be written in the report's version of the format. Version 1 has no words for
-- opening keys (the keys at the start), for `ceiling`, or for the replies of `ceiling`. Every report can be written in
-- version 2.
pub record HasWordsOfVersion (r : ReportValue) : Type 0 where
  pub opening : HasOpening r.version r.history.opening.keys
  pub words : HasWordsIn r.version r.history.calls r.order
