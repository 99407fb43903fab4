-- Lemmas about the loop that reads a report line by line.
use Rattle.std.proofs.Common.{◌≡◌, ℕ, ◌+◌, ◌<◌, ◌≤◌, ◌⊎◌, inl, inr, true, ltb, eqb, List, [], ◌∷◌, ◌++◌, length, get_or, Result}
use Rattle.std.proofs.Common.{Ok, Err, refl, sym, ap, subst, ◌∙◌, ◌≢◌, arith}
use Rattle.std.proofs.lemmas.Bool.{ltb-true, lt-ltb, eqb-true, eq-eqb, and_parts}
use Rattle.std.proofs.lemmas.List.{get_or-append-add}
use Rattle.lset_words.specs.declared.TheConstants.{MOST_OPENING}
use Rattle.lset_text.specs.declared.words.Version.{Version}
use Rattle.lset_text.specs.declared.words.Version.TheVariants.{One}
use Rattle.lset_text.specs.declared.headers.Header.{Header}
use Rattle.lset_text.specs.declared.causes.Cause.{Cause}
use Rattle.lset_text.specs.declared.causes.Cause.TheVariants as wrong
use Rattle.lset_text.specs.declared.causes.LineFault.{LineFault}
use Rattle.lset_text.specs.Causes.{fault}
use Rattle.lset_text.specs.Parts.{cut_at}
use Rattle.lset_text.specs.Headers.{header_of, header_lines}
use Rattle.lset_text.specs.Kinds.{line_in, made}
use Rattle.lset_text.specs.Lines.{lines_from, IsFaultlessTo, IsGoodLine, Stands}
use Rattle.lset_text.specs.Openings.{is_above}
use Rattle.lset_text.specs.Results.{◌>>=◌}
use Rattle.lset_text.specs.Texts.{last_of_header, first_line, text_from}
use Rattle.lset_text.proofs.ReadingLaws.{bind_ok, ok_is, kept_if, kept_twice}
use Rattle.lset_text.proofs.HeaderLaws.{header_ok}
use Rattle.lset_text.proofs.LineLaws.{stops, is_good, line_at}
use Rattle.lset_text.proofs.TextLaws.{text_refused, text_after, header_good, good_in_text}
use Rattle.lset_report.specs.declared.report.TheConstants.{MOST_CALLS, MOST_PLACES}
use Rattle.lset_report.specs.declared.reading.Reader.{Reader}
use Rattle.lset_report.specs.declared.reading.report_lines.Line.{Line}
use Rattle.lset_report.specs.declared.reading.report_lines.Line.TheVariants.{Opening, Call, Place, Key, End}
use Rattle.lset_report.specs.declared.reading.report_lines.Section.{Section}
use Rattle.lset_report.specs.declared.reading.report_lines.Section.TheVariants as section
use Rattle.lset_report.specs.Report.{ReportValue}
use Rattle.lset_report.specs.Texts.{title, last_line}
use Rattle.lset_report.specs.ReportReading.{kinds, may_follow, most_keys, is_next, judged, line_after, SoFar, with_told, step}
use Rattle.lset_report.specs.ReportReading.{grammar, text, no_lines, nothing_told, version_told, reading, RunsOut}
use Rattle.lset_report.specs.ReportReader.{so_far, state, IsFull}

-- ---- Lemmas about the checks that each line must pass

-- Holds if a line can follow the lines of the report `r`: the line's section is not full, an opening key (a key at the
-- start) is greater than the previous one, and a call can follow the previous calls.
abbrev pub IsGood : ReportValue → Line → Type 0
IsGood r (Opening k) = (length r.history.opening.keys < MOST_OPENING) × (is_above r.history.opening.keys k ≡ true)
IsGood r (Call number x) =
    (length r.history.calls < MOST_CALLS) × (number ≡ length r.history.calls)
    × (may_follow r.history.opening.threads r.history.calls x ≡ true)
IsGood r (Place p) = length r.order < MOST_PLACES
IsGood r (Key k) = length r.keys < most_keys r.version
IsGood r End = Unit {0}

pub judged_ok : (r : ReportValue) (l k : Line) → judged r l ≡ Ok k → (l ≡ k) × IsGood r l
judged_ok r (Opening n) k e =
    let keys = r.history.opening.keys in
    let kept = kept_twice (ltb (length keys) MOST_OPENING) (is_above keys n) wrong.TooMany wrong.Opening (Opening n) k e in
    (kept.2, (ltb-true _ _ kept.0, kept.1))
judged_ok r (Call number x) k e =
    let calls = r.history.calls in
    let kept = kept_twice (ltb (length calls) MOST_CALLS) (is_next r number x) wrong.TooMany wrong.History (Call number x) k e in
    let parts = and_parts (eqb number (length calls)) _ kept.1 in
    (kept.2, (ltb-true _ _ kept.0, eqb-true _ _ parts.0, parts.1))
judged_ok r (Place p) k e =
    let kept = kept_if (ltb (length r.order) MOST_PLACES) wrong.TooMany (Place p) k e in (kept.1, ltb-true _ _ kept.0)
judged_ok r (Key n) k e =
    let kept = kept_if (ltb (length r.keys) (most_keys r.version)) wrong.TooMany (Key n) k e in (kept.1, ltb-true _ _ kept.0)
judged_ok r End k e = (cc, tt)

pub judged_good : (r : ReportValue) (l : Line) → IsGood r l → judged r l ≡ Ok l
judged_good r (Opening k) h = rw (lt-ltb (length r.history.opening.keys) MOST_OPENING h.0, h.1) refl
judged_good r (Call n x) h =
    rw (lt-ltb (length r.history.calls) MOST_CALLS h.0, eq-eqb n (length r.history.calls) h.1, h.2) refl
judged_good r (Place p) h = rw (lt-ltb (length r.order) MOST_PLACES h) refl
judged_good r (Key k) h = rw (lt-ltb (length r.keys) (most_keys r.version) h) refl
judged_good r End h = refl

pub line_read : (s : Section) (r : ReportValue) (x : List ℕ) (l : Line) → line_after s r x ≡ Ok l
    → (line_in r.version wrong.Line (kinds r.version s) x ≡ Ok l) × IsGood r l
line_read s r x l e =
    let told = bind_ok (line_in r.version wrong.Line (kinds r.version s) x) (judged r) l e in
    let good = judged_ok r told.0 l told.2 in
    subst (λ (k : Line). (line_in r.version wrong.Line (kinds r.version s) x ≡ Ok k) × IsGood r k) good.0 (told.1, good.1)

-- ---- Lemmas about lines that can cause a failed allocation

end_is : (v : Version) (s : Section) (l : Line) → line_in v wrong.Line (kinds v s) last_line ≡ Ok l → End ≡ l
end_is One section.Opening l e = ok_is End l e
end_is v section.Done l e = absurd cc
end_is v s l e = ok_is End l e

-- Returns the result of reading all remaining lines of a text.
abbrev pub AllOf : List ℕ → SoFar → Result SoFar LineFault
AllOf rest s = lines_from grammar first_line s (cut_at 10 rest)

pub stops_at : (all : List ℕ) (start s : SoFar) (line : ℕ) (rest x after : List ℕ) (e : LineFault)
    → cut_at 10 rest ≡ x ∷ cut_at 10 after → ((cause : Cause) × (step s x ≡ Err cause) × (e ≡ fault line cause))
    ⊎ ((l : Line) × (line_after s.section s.report x ≡ Ok l) × (l ≢ End) × (e ≡ fault line wrong.Memory))
    → Stands grammar first_line all (AllOf all start) line s rest
    → (AllOf all start ≡ Err e) ⊎ IsFull (cut_at 10 all) (AllOf all start) e
stops_at all start s line rest x after e parts (inl bad) stands =
    inl (stops grammar first_line all (AllOf all start) line s bad.0 rest x after parts bad.1 stands
    ∙ ap (λ (f : LineFault). Err f) (sym bad.2))
stops_at all start s line rest x after e parts (inr full) stands =
    let read = (line_read s.section s.report x full.0 full.1).0 in
    let here = line_at grammar first_line all (AllOf all start) line s rest x after parts stands in
    let good = is_good grammar first_line all (AllOf all start) line s (with_told s full.0) rest x after
    parts (ap (made (with_told s)) full.1) stands in
    inr (
      length stands.above,
      full.3 ∙ ap (λ n. fault n wrong.Memory) stands.number,
      subst (IsGoodLine first_line (cut_at 10 all) (AllOf all start)) stands.number good,
      grind (arith, end_is),
    )

-- ---- Lemmas about the whole text, including the header

abbrev pub report_told : SoFar → Result ReportValue LineFault
report_told s = Ok s.report

abbrev told_by : Result SoFar LineFault → Result ReportValue LineFault
told_by read = read >>= report_told

module _ (bytes : List ℕ) (v : Version) (version_is : v ≡ version_told (cut_at 10 bytes)) where
  in_version : reading bytes ≡ told_by (text_from (text v) (cut_at 10 bytes))
  in_version = ap (λ (u : Version). told_by (text_from (text u) (cut_at 10 bytes))) (sym version_is)

  pub header_fault : (e : LineFault) → header_of (title v) (cut_at 10 bytes) ≡ Err e → reading bytes ≡ Err e
  header_fault e is = in_version ∙ ap told_by (text_refused (text v) (cut_at 10 bytes) e is)

  still_good : (line : ℕ) (read : Result SoFar LineFault) → IsFaultlessTo line read → IsFaultlessTo line (told_by read)
  still_good line (Ok s) good = tt
  still_good line (Err e) good = good

  runs_out : (index : ℕ) → last_of_header ≤ 1 + index
      → IsGoodLine 1 (cut_at 10 bytes) (text_from (text v) (cut_at 10 bytes)) (1 + index)
      → get_or (cut_at 10 bytes) index [] ≢ last_line → RunsOut 1 (cut_at 10 bytes) (reading bytes) (fault (1 + index) wrong.Memory)
  runs_out index low good asks = record {
    cause = refl;
    after_header = low;
    index = index;
    line_is = refl;
    whole = omega (arith, good.1);
    asks = asks;
    good = rw in_version (still_good (1 + index) (text_from (text v) (cut_at 10 bytes)) good.2);
  }

  module _ (rest : List ℕ) (h : Header) (head : header_of (title v) (cut_at 10 bytes) ≡ Ok (h, cut_at 10 rest)) where
    parts_are : cut_at 10 bytes ≡ header_lines (title v) h ++ cut_at 10 rest
    parts_are = (header_ok (title v) (cut_at 10 bytes) (h, cut_at 10 rest) head).0

    pub runs_out_after_header : RunsOut 1 (cut_at 10 bytes) (reading bytes) (fault last_of_header wrong.Memory)
    runs_out_after_header =
        let here = ap (λ (ps : List (List ℕ)). get_or ps 3 []) parts_are in
        runs_out 3 (omega arith) (header_good (text v) bytes rest h head)
        (λ is_end. (let same = sym here ∙ is_end in cc))

    pub report_is : (s : Reader) → s.section ≡ section.Opening → so_far s ≡ no_lines v h
        → reading bytes ≡ told_by (AllOf rest (state s))
    report_is s section_is so_far_is =
        let start : state s ≡ nothing_told v h = rw (section_is, so_far_is) refl in
        in_version ∙ ap told_by (text_after (text v) (cut_at 10 bytes) (cut_at 10 rest) h head)
        ∙ ap (λ (t : SoFar). told_by (AllOf rest t)) (sym start)

    pub whole_text : (s : Reader) (e : LineFault) → s.section ≡ section.Opening → so_far s ≡ no_lines v h
        → (AllOf rest (state s) ≡ Err e) ⊎ IsFull (cut_at 10 rest) (AllOf rest (state s)) e
        → (reading bytes ≡ Err e) ⊎ RunsOut 1 (cut_at 10 bytes) (reading bytes) e
    whole_text s e section_is so_far_is (inl bad) = inl (report_is s section_is so_far_is ∙ ap told_by bad)
    whole_text s e section_is so_far_is (inr full) =
        let start : state s ≡ nothing_told v h = rw (section_is, so_far_is) refl in
        let here = ap (λ (ps : List (List ℕ)). get_or ps (last_of_header + full.0) []) parts_are
        ∙ get_or-append-add (header_lines (title v) h) (cut_at 10 rest) full.0 [] in
        let good = good_in_text (text v) bytes rest h (first_line + full.0) head
        (subst (λ (t : SoFar). IsGoodLine first_line (cut_at 10 rest) (AllOf rest t) (first_line + full.0)) start full.2) in
        let number : first_line + full.0 ≡ 1 + (last_of_header + full.0) = omega arith in
        let out = runs_out (last_of_header + full.0) (omega arith)
        (subst (IsGoodLine 1 (cut_at 10 bytes) (text_from (text v) (cut_at 10 bytes))) number good)
        (λ is_end. full.3 (sym here ∙ is_end)) in
        inr (subst (RunsOut 1 (cut_at 10 bytes) (reading bytes)) (ap (λ n. fault n wrong.Memory) (sym number) ∙ sym full.1) out)
