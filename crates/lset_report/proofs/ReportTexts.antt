-- Proof: reading inverts writing. Bytes that can be read as a report are the text of that report, and reading the text
-- of a report yields that report.
use Rattle.std.proofs.Common.{◌≡◌, ℕ, ◌+◌, ◌<◌, ◌≤◌, ◌^◌, inl, inr, false, cond, List, [], ◌∷◌, ◌++◌, map, length, Option, Some}
use Rattle.std.proofs.Common.{None, Result, Ok, Err, refl, sym, ap, subst, ◌∙◌, arith, append_assoc, length-append}
use Rattle.std.specs.Prelude.{IfOk, MatchResult}
use Rattle.std.specs.List.{AllByRecursion}
use Rattle.std.proofs.lemmas.Option.{IfSome_then}
use Rattle.std.proofs.lemmas.Grind.{flat_map-append}
use Rattle.std.proofs.lemmas.List.{append-nil, map_push}
use Rattle.lset_words.specs.declared.Reply.{Reply}
use Rattle.lset_words.specs.declared.history.CallRecord.{CallRecord}
use Rattle.lset_words.specs.declared.history.Placed.{Placed}
use Rattle.lset_words.specs.History.{IsHistory}
use Rattle.lset_history.proofs.CallByCall.{empty_history, may_follow_at}
use Rattle.lset_words.specs.Words.{Opens}
use Rattle.lset_words.proofs.Bounds.{opens_empty}
use Rattle.lset_history.proofs.Lists.{all_imply}
use Rattle.lset_text.specs.declared.headers.Header.{Header}
use Rattle.lset_text.specs.declared.words.Version.{Version}
use Rattle.lset_text.specs.declared.words.Version.TheVariants.{One, Two}
use Rattle.lset_text.specs.Parts.{cut_at, ended, text_of, Lacks}
use Rattle.lset_text.specs.Headers.{IsHeader, header_lines}
use Rattle.lset_text.specs.Kinds.{line_in}
use Rattle.lset_text.specs.Lines.{Leads}
use Rattle.lset_text.specs.Openings.{opening_line, opening_lines, HasOpening}
use Rattle.lset_text.specs.Spellings.{HasCall, HasReply}
use Rattle.lset_text.specs.Texts.{text_from}
use Rattle.lset_text.proofs.PartLaws.{Lacks-from_test}
use Rattle.lset_text.proofs.ReadingLaws.{bind_ok, ok_is, kept_if}
use Rattle.lset_text.proofs.OpeningLaws.{is_header, has_none, opens_more}
use Rattle.lset_text.proofs.KindLaws.{made_ok, line_found, line_found_lacks, line_made}
use Rattle.lset_text.proofs.LineLaws.{leads_on, items_lead}
use Rattle.lset_text.proofs.SectionLaws.{middle, shorter, push_last, push_before, later_pushed, section_leads, openings_lead}
use Rattle.lset_text.proofs.TextLaws.{all_both, text_found, text_again, version_again}
use Rattle.lset_report.specs.declared.reading.report_lines.Line.{Line}
use Rattle.lset_report.specs.declared.reading.report_lines.Line.TheVariants as told
use Rattle.lset_report.specs.declared.reading.report_lines.Section.{Section}
use Rattle.lset_report.specs.declared.reading.report_lines.Section.TheVariants as section
use Rattle.lset_report.specs.declared.report.Report.{Report}
use Rattle.lset_report.specs.declared.report.TheConstants.{MOST_CALLS, MOST_PLACES}
use Rattle.lset_text.specs.declared.causes.Cause.TheVariants as wrong
use Rattle.lset_text.specs.declared.causes.LineFault.{LineFault}
use Rattle.lset_report.specs.Report.{ReportValue, view}
use Rattle.lset_report.specs.Texts.{title, header_in, call_line, call_lines, place_line, key_line, last_line, report_lines}
use Rattle.lset_report.specs.Texts.{report_text, HasEnd, HasWordsIn, HasWordsOfVersion}
use Rattle.lset_report.specs.ReportReading.{IsEnd, IsCall, IsPlace, IsReport, most_keys, kinds, line_after, section_after}
use Rattle.lset_report.specs.ReportReading.{with_line, SoFar, with_told, step, ends, is_done, grammar, no_lines, nothing_told}
use Rattle.lset_report.specs.ReportReading.{text, version_told, reading, Gives}
use Rattle.lset_report.proofs.ReportHistories.{history_more, may_again}
use Rattle.lset_report.proofs.ReportLines.{pieces_of, line_text, IsLine, Reaches, IsNext, kinds_known, IsTold, reached}
use Rattle.lset_report.proofs.ReportLines.{opening_told, call_told_so, place_told, key_told, end_told_so, call_comes, place_comes}
use Rattle.lset_report.proofs.ReportLines.{key_comes}
use Rattle.lset_report.proofs.ReportLoops.{IsGood, judged_good, line_read, report_told}

calls_pushed : (n : ℕ) (xs : List CallRecord) (x : CallRecord)
    → call_lines n (xs ++ x ∷ []) ≡ call_lines n xs ++ call_line (n + length xs) x ∷ []
calls_pushed n [] x = ap (λ m. call_line m x ∷ []) (omega arith)
calls_pushed n (y ∷ ys) x =
    let same : n + 1 + length ys ≡ n + length (y ∷ ys) = omega arith in
    ap (λ (ls : List (List ℕ)). call_line n y ∷ ls)
    (calls_pushed (n + 1) ys x ∙ ap (λ m. call_lines (n + 1) ys ++ call_line m x ∷ []) same)

-- ---- Lemmas about the lines of the report read so far

abbrev header : ReportValue → List (List ℕ)
header r = header_lines (title r.version) (header_in r)

abbrev to_calls : ReportValue → List (List ℕ)
to_calls r = header r ++ opening_lines r.history.opening.keys

abbrev to_order : ReportValue → List (List ℕ)
to_order r = to_calls r ++ call_lines 0 r.history.calls

abbrev to_keys : ReportValue → List (List ℕ)
to_keys r = to_order r ++ map place_line r.order

abbrev to_end : ReportValue → List (List ℕ)
to_end r = to_keys r ++ map key_line r.keys

abbrev lines_at : SoFar → List (List ℕ)
lines_at s = cond (is_done s.section) (to_end s.report ++ last_line ∷ []) (to_end s.report)

one_opening : (f : List (List ℕ)) (os ks : List ℕ) (cs : List CallRecord) (ps : List Placed) (k : ℕ) → cs ≡ [] → ps ≡ [] → ks ≡ []
    → f ++ opening_lines (os ++ k ∷ []) ++ call_lines 0 cs ++ map place_line ps ++ map key_line ks
    ≡ f ++ opening_lines os ++ call_lines 0 cs ++ map place_line ps ++ map key_line ks ++ opening_line k ∷ []
one_opening f os ks cs ps k c p n = rw (c, p, n, map_push opening_line os k) (simp (append-nil, append_assoc))

one_call : (f : List (List ℕ)) (cs : List CallRecord) (ps : List Placed) (ks : List ℕ) (x : CallRecord) → ps ≡ [] → ks ≡ []
    → f ++ call_lines 0 (cs ++ x ∷ []) ++ map place_line ps ++ map key_line ks
    ≡ f ++ call_lines 0 cs ++ map place_line ps ++ map key_line ks ++ call_line (0 + length cs) x ∷ []
one_call f cs ps ks x p n = rw (p, n, calls_pushed 0 cs x) (simp (append-nil, append_assoc))

more_lines : (r : ReportValue) (l : Line) → Reaches (section_after l) r → IsGood r l
    → lines_at (record { section = section_after l; report = with_line r l }) ≡ to_end r ++ line_text l ∷ []
more_lines r (told.Opening k) next good =
    one_opening (header r) r.history.opening.keys r.keys r.history.calls r.order k next.0 next.1 next.2
more_lines r (told.Call n x) next good =
    let number : 0 + length r.history.calls ≡ n = omega (arith, good.1) in
    one_call (to_calls r) r.history.calls r.order r.keys x next.0 next.1 ∙ ap (λ m. to_end r ++ call_line m x ∷ []) number
more_lines r (told.Place p) next good = push_before (to_order r) (map key_line r.keys) place_line r.order p (ap (map key_line) next)
more_lines r (told.Key k) next good = push_last (to_keys r) key_line r.keys k
more_lines r told.End next good = refl

-- ---- Lemmas about the limits of an accepted report

is_report : (r : ReportValue) → Opens r.history.opening → HasOpening r.version r.history.opening.keys
    → IsHistory r.history.opening.threads r.history.calls
    → (AllByRecursion (IsCall r.version) r.history.calls) × (length r.history.calls ≤ MOST_CALLS)
    → (AllByRecursion (IsPlace r.version) r.order) × (length r.order ≤ MOST_PLACES)
    → (AllByRecursion (λ k. k < 2 ^ 32) r.keys) × (length r.keys ≤ most_keys r.version) → IsReport r
is_report r opens opening history calls places keys = record {
  opens = opens;
  opening = opening;
  history = history;
  calls = calls.0;
  places = places.0;
  keys = keys.0;
  few_calls = calls.1;
  few_places = places.1;
  few_keys = keys.1;
}

report_more : (r : ReportValue) (l : Line) → IsReport r → IsLine r.version l → IsGood r l → IsReport (with_line r l)
report_more r (told.Opening k) is line good =
    let has = subst (λ (v : Version). HasOpening v (r.history.opening.keys ++ k ∷ [])) (sym line.1) tt in
    is_report (with_line r (told.Opening k)) (opens_more r.history.opening k is.opens line.0 good.0 good.1) has is.history
    (is.calls, is.few_calls) (is.places, is.few_places) (is.keys, is.few_keys)
report_more r (told.Call n x) is line good =
    let calls = all_both (IsCall r.version) r.history.calls (x ∷ []) is.calls (line.4, tt) in
    is_report (with_line r (told.Call n x)) is.opens is.opening
    (history_more r.history.opening.threads r.history.calls x is.history good.2)
    (calls, omega (arith, length-append r.history.calls (x ∷ []), good.0)) (is.places, is.few_places) (is.keys, is.few_keys)
report_more r (told.Place p) is line good =
    let places = all_both (IsPlace r.version) r.order (p ∷ []) is.places (line, tt) in
    is_report (with_line r (told.Place p)) is.opens is.opening is.history (is.calls, is.few_calls)
    (places, omega (arith, length-append r.order (p ∷ []), good)) (is.keys, is.few_keys)
report_more r (told.Key k) is line good =
    let keys = all_both (λ j. j < 2 ^ 32) r.keys (k ∷ []) is.keys (line, tt) in
    is_report (with_line r (told.Key k)) is.opens is.opening is.history (is.calls, is.few_calls) (is.places, is.few_places)
    (keys, omega (arith, length-append r.keys (k ∷ []), good))
report_more r told.End is line good = is

reaches_more : (r : ReportValue) (l : Line) → Reaches (section_after l) r → Reaches (section_after l) (with_line r l)
reaches_more r (told.Key k) next = tt
reaches_more r told.End next = tt
reaches_more r l next = next

-- ---- Lemmas about reading one line

may_come : (v : Version) (s : Section) (x : List ℕ) (l : Line) → line_in v wrong.Line (kinds v s) x ≡ Ok l → is_done s ≡ false
may_come v section.Done x l is = absurd cc
may_come v s x l is = refl

abbrev IsSoFar : SoFar → Type 0
IsSoFar s = IsReport s.report × Reaches s.section s.report

one_line : (s t : SoFar) (x : List ℕ) → IsSoFar s → step s x ≡ Ok t
    → IsSoFar t × (lines_at t ≡ lines_at s ++ x ∷ []) × Lacks 10 x
one_line s t x holds is =
    let r = s.report in
    let l = made_ok (with_told s) (line_after s.section r x) t is in
    let read = line_read s.section r x l.0 l.1 in
    let known = kinds_known r.version s.section r holds.1 in
    let found = line_found r.version wrong.Line pieces_of (IsNext r.version r) (kinds r.version s.section) x l.0 known read.0 in
    let before : to_end r ≡ lines_at s = rw (may_come r.version s.section x l.0 read.0) refl in
    let lines = more_lines r l.0 found.1.1 read.1 ∙ ap (λ (ls : List (List ℕ)). ls ++ line_text l.0 ∷ []) before
    ∙ ap (λ (y : List ℕ). lines_at s ++ y ∷ []) (sym found.0) in
    subst (λ (u : SoFar). IsSoFar u × (lines_at u ≡ lines_at s ++ x ∷ []) × Lacks 10 x) l.2 (
      (report_more r l.0 holds.0 found.1.0 read.1, reaches_more r l.0 found.1.1),
      lines,
      line_found_lacks r.version wrong.Line pieces_of (IsNext r.version r) (kinds r.version s.section) x l.0 known read.0,
    )

same_end : (s t : SoFar) → ends s ≡ Ok t → s ≡ t
same_end s t is = (kept_if (is_done s.section) _ s t is).1

empty_report : (v : Version) (h : Header) → IsHeader h → IsReport (no_lines v h)
empty_report v h is = record {
  opens = opens_empty h.threads h.quota is;
  opening = has_none v;
  history = empty_history h.threads;
  calls = tt;
  places = tt;
  keys = tt;
  few_calls = omega arith;
  few_places = omega arith;
  few_keys = omega arith;
}

starts : (v : Version) (h : Header) → IsHeader h
    → IsSoFar (nothing_told v h) × (lines_at (nothing_told v h) ≡ header_lines (title v) h)
starts v h is = ((empty_report v h is, (refl, refl, refl)), refl)

pub is_found : (bytes : List ℕ) (r : ReportValue) → reading bytes ≡ Ok r → IsReport r × (bytes ≡ report_text r)
is_found bytes r is =
    let v = version_told (cut_at 10 bytes) in
    let last = bind_ok (text_from (text v) (cut_at 10 bytes)) report_told r is in
    let found = text_found (text v) IsSoFar lines_at (starts v) (λ s t x h e. let m = one_line s t x h e in (m.0, m.1)) same_end
    bytes last.0 last.1 in
    let done = (kept_if (is_done last.0.section) _ last.0 last.0 found.1).0 in
    rw (← ok_is last.0.report r last.2) (found.2.0, found.0 ∙ rw done refl)

-- ---- Lemmas about reading a written text

none_reached : (s : Section) (v : Version) (h : Header) → Reaches s (no_lines v h)
none_reached section.Opening v h = (refl, refl, refl)
none_reached section.Calls v h = (refl, refl)
none_reached section.Order v h = refl
none_reached s v h = tt

step_again : (s : SoFar) (l : Line) → IsTold s.report.version (kinds s.report.version s.section) l → IsGood s.report l
    → step s (line_text l) ≡ Ok (with_told s l)
step_again s l is good =
    let v = s.report.version in
    let r = no_lines v (header_in s.report) in
    let known = kinds_known v s.section r (none_reached s.section v (header_in s.report)) in
    rw (line_made v wrong.Line pieces_of (IsNext v r) (kinds v s.section) l known is, judged_good s.report l good) refl

-- ---- Lemmas about reading the lines of each section

abbrev at : Version → Header → List ℕ → List CallRecord → List Placed → List ℕ → SoFar
at v h os cs ps ks = record {
  section = reached cs ps ks;
  report = record {
    version = v;
    kind = h.kind;
    history = record { opening = record { threads = h.threads; quota = h.quota; keys = os }; calls = cs };
    order = ps;
    keys = ks;
  };
}

opening_step : (v : Version) (h : Header) (front : List ℕ) (k : ℕ) → v ≡ Two → k < 2 ^ 32
    → IsGood (at v h front [] [] []).report (told.Opening k)
    → step (at v h front [] [] []) (opening_line k) ≡ Ok (at v h (front ++ k ∷ []) [] [] [])
opening_step v h front k two low good =
    step_again (at v h front [] [] []) (told.Opening k)
    (subst (λ (w : Version). IsTold w (kinds w section.Opening) (told.Opening k)) (sym two) (opening_told k low)) good

calls_lead : (v : Version) (h : Header) (os : List ℕ) (cs : List CallRecord) → h.threads ≤ 64 → length cs ≤ MOST_CALLS
    → IsHistory h.threads cs → AllByRecursion (IsCall v) cs
    → Leads grammar (at v h os [] [] []) (call_lines 0 cs) (at v h os cs [] [])
calls_lead v h os cs few long history are =
    items_lead grammar (λ (xs : List CallRecord). at v h os xs [] []) call_lines call_line (λ n. refl) (λ n x xs. refl) [] cs
    (λ front more x is.
    let low : length front < MOST_CALLS = omega (arith, shorter front more cs x is, long) in
    let call = middle (IsCall v) front more cs x is are in
    let may = may_follow_at h.threads front more x (subst (IsHistory h.threads) (sym is) history) in
    let line : IsLine v (told.Call (length front) x) =
    (omega (arith, low), omega (arith, may.call.of_a_thread, few), may.call.counted, IfSome_then x.ended may.call.ends_later (λ e after. omega (arith, after)), call) in
    step_again (at v h os front [] []) (told.Call (length front) x) (call_comes v front (told.Call (length front) x) refl
    (call_told_so v (length front) x.thread x.begun x.call x.ended line))
    (low, refl, may_again h.threads front x may)
    ∙ ap (λ (s : Section). Ok (record { section = s; report = (at v h os (front ++ x ∷ []) [] []).report }))
    (later_pushed front x section.Opening section.Calls))

places_lead : (v : Version) (h : Header) (os : List ℕ) (cs : List CallRecord) (ps : List Placed) → length ps ≤ MOST_PLACES
    → AllByRecursion (IsPlace v) ps → Leads grammar (at v h os cs [] []) (map place_line ps) (at v h os cs ps [])
places_lead v h os cs ps few are =
    section_leads grammar (λ (xs : List Placed). at v h os cs xs []) place_line (IsPlace v) MOST_PLACES ps few are
    (λ front more p is room place.
    step_again (at v h os cs front []) (told.Place p) (place_comes v cs front (told.Place p) (refl, refl, refl) (place_told v p place)) room
    ∙ ap (λ (s : Section). Ok (record { section = s; report = (at v h os cs (front ++ p ∷ []) []).report }))
    (later_pushed front p (reached cs [] []) section.Order))

keys_lead : (v : Version) (h : Header) (os : List ℕ) (cs : List CallRecord) (ps : List Placed) (ks : List ℕ)
    → length ks ≤ most_keys v → AllByRecursion (λ k. k < 2 ^ 32) ks
    → Leads grammar (at v h os cs ps []) (map key_line ks) (at v h os cs ps ks)
keys_lead v h os cs ps ks few are =
    section_leads grammar (at v h os cs ps) key_line (λ k. k < 2 ^ 32) (most_keys v) ks few are (λ front more k is room low.
    step_again (at v h os cs ps front) (told.Key k) (key_comes v cs ps front (told.Key k) (refl, refl, refl) refl (key_told v k low)) room
    ∙ ap (λ (s : Section). Ok (record { section = s; report = (at v h os cs ps (front ++ k ∷ [])).report }))
    (later_pushed front k (reached cs ps []) section.Keys))

-- ---- Lemmas about reading the whole text

-- Returns the lines between the header and the last line, `end`.
abbrev body : ReportValue → List (List ℕ)
body r = opening_lines r.history.opening.keys
    ++ (call_lines 0 r.history.calls ++ (map place_line r.order ++ (map key_line r.keys ++ last_line ∷ [])))

abbrev all_told : ReportValue → SoFar
all_told r = record { section = section.Done; report = r }

body_leads : (r : ReportValue) → IsReport r → Leads grammar (nothing_told r.version (header_in r)) (body r) (all_told r)
body_leads r is =
    let v = r.version in
    let h = header_in r in
    let os = r.history.opening.keys in
    let cs = r.history.calls in
    let ps = r.order in
    let ks = r.keys in
    let opened = openings_lead grammar (λ (xs : List ℕ). at v h xs [] [] []) v r.history.opening is.opens is.opening
    (λ front k two room low above. opening_step v h front k two low (room, above)) in
    let end = step_again (at v h os cs ps ks) told.End (key_comes v cs ps ks told.End (refl, refl, refl) refl (end_told_so v)) tt in
    let keys = leads_on grammar (at v h os cs ps []) (at v h os cs ps ks) (all_told r) (map key_line ks) (last_line ∷ [])
    (keys_lead v h os cs ps ks is.few_keys is.keys) (all_told r, end, refl) in
    let places = leads_on grammar (at v h os cs [] []) (at v h os cs ps []) (all_told r) (map place_line ps)
    (map key_line ks ++ last_line ∷ []) (places_lead v h os cs ps is.few_places is.places) keys in
    let calls = leads_on grammar (at v h os [] [] []) (at v h os cs [] []) (all_told r) (call_lines 0 cs)
    (map place_line ps ++ (map key_line ks ++ last_line ∷ []))
    (calls_lead v h os cs is.opens.within.few is.few_calls is.history is.calls) places in
    leads_on grammar (at v h [] [] [] []) (at v h os [] [] []) (all_told r) (opening_lines os)
    (call_lines 0 cs ++ (map place_line ps ++ (map key_line ks ++ last_line ∷ [])))
    opened calls

title_lacks : (v : Version) → Lacks 10 (title v)
title_lacks One = Lacks-from_test 10 (title One) refl
title_lacks Two = Lacks-from_test 10 (title Two) refl

pub reads_text : (r : ReportValue) → IsReport r → reading (report_text r) ≡ Ok r
reads_text r is =
    let v = r.version in
    let h = header_in r in
    let head = is_header h r.history.opening.keys is.opens in
    let again = text_again (text v) IsSoFar (λ s t x holds e. let m = one_line s t x holds e in (m.0, m.2)) h (body r) (all_told r)
    (title_lacks v) head (starts v h head).0 (body_leads r is) refl in
    let parts : List (List ℕ) = header_lines (title v) h ++ (body r ++ [] ∷ []) in
    let regrouped : report_lines r ≡ header_lines (title v) h ++ body r = simp append_assoc in grind (
      arith,
      regrouped,
      again.0,
      version_again text refl v h (body r ++ [] ∷ []),
      again.1,
    )

-- ---- Lemmas for two postconditions of `read_report`

pub found_in : (bytes : List ℕ) (r : Result Report LineFault) → Gives view r bytes
    → IfOk r (λ s. IsReport (view s) × (bytes ≡ report_text (view s)))
found_in bytes (Ok s) gives = is_found bytes (view s) gives
found_in bytes (Err e) gives = tt

pub only_in : (bytes : List ℕ) (r : Result Report LineFault) → Gives view r bytes → (q : ReportValue) → IsReport q
    → bytes ≡ report_text q → MatchResult r (λ s. view s ≡ q) (λ e. e.cause ≡ wrong.Memory)
only_in bytes (Ok s) gives q is text = ok_is (view s) q (sym gives ∙ ap reading text ∙ reads_text q is)
only_in bytes (Err e) (inl bad) q is text = absurd (let read : reading bytes ≡ Ok q = ap reading text ∙ reads_text q is in cc)
only_in bytes (Err e) (inr out) q is text = out.cause

-- ---- Lemmas for the precondition of `write_report`

end_words : (v : Version) (o : Option (ℕ × Reply)) → IsEnd v o → HasEnd v o
end_words v None h = tt
end_words v (Some e) h = h.1

words_in : (v : Version) (calls : List CallRecord) (order : List Placed) → AllByRecursion (IsCall v) calls
    → AllByRecursion (IsPlace v) order → HasWordsIn v calls order
words_in One calls order are places = (
  all_imply (IsCall One) (λ (x : CallRecord). HasCall One x.call × HasEnd One x.ended) (λ x h. (h.3, end_words One x.ended h.2)) calls are,
  all_imply (IsPlace One) (λ (p : Placed). HasReply One p.reply) (λ p h. h.1) order places,
)
words_in Two calls order are places = tt

pub has_words : (r : ReportValue) → IsReport r → HasWordsOfVersion r
has_words r is = record { opening = is.opening; words = words_in r.version r.history.calls r.order is.calls is.places }

-- ---- Lemmas about the parts of the text that `write_report` builds

pub texts_of : (a b c d e : List (List ℕ)) (z : List ℕ)
    → text_of (a ++ b ++ c ++ d ++ e ++ z ∷ []) ≡ text_of a ++ text_of b ++ text_of c ++ text_of d ++ text_of e ++ ended z
texts_of a b c d e z = simp (flat_map-append, append-nil)
