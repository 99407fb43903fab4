-- Proof that bytes that are read as a recording are the text of that recording.
use Rattle.std.proofs.Common.{◌≡◌, ℕ, ◌+◌, inl, inr, Bool, true, false, cond, List, [], ◌∷◌, ◌++◌, map, Ok, refl, sym, ap, subst, ◌∙◌}
use Rattle.std.proofs.Common.{append_assoc, append-nil}
use Rattle.std.proofs.lemmas.List.{map_push}
use Rattle.lset_text.specs.Parts.{cut_at, line_of}
use Rattle.lset_text.specs.Openings.{opening_line, opening_lines}
use Rattle.lset_text.proofs.PartLaws.{text_from_lines}
use Rattle.lset_judge.specs.Stream.{record_of}
use Rattle.lset_recording.specs.declared.recording_lines.Line.{Line}
use Rattle.lset_recording.specs.declared.recording_lines.Line.TheVariants as told
use Rattle.lset_recording.specs.declared.recording_lines.Section.{Section}
use Rattle.lset_recording.specs.declared.recording_lines.Section.TheVariants as part
use Rattle.lset_recording.specs.Texts.{Recording, call_line, key_line, end_line, lines, recording_text, title}
use Rattle.lset_recording.specs.Reading.{SoFar, Comes, IsTaken, Reads, Says, ending, first_line, is_done, is_title, nothing_told, section_after, with_line, with_told}
use Rattle.lset_recording.proofs.LineKinds.{line_pieces, line_found_in}

-- ---- Lemmas about the lines read so far

abbrev so_far : Recording → List (List ℕ)
so_far c = title ∷ opening_lines c.opening ++ map call_line c.calls ++ map key_line c.keys

abbrev lines_at : SoFar → List (List ℕ)
lines_at s = cond (is_title s.section) [] (cond (is_done s.section) (lines s.told) (so_far s.told))

-- Holds if the parts of recording `c` that come after the given section are still empty, and `c` is not marked as cut
-- off.
abbrev Reaches : Section → Recording → Type 0
Reaches part.Title c = (c.opening ≡ []) × (c.calls ≡ []) × (c.keys ≡ []) × (c.cut_off ≡ false)
Reaches part.Opening c = (c.calls ≡ []) × (c.keys ≡ []) × (c.cut_off ≡ false)
Reaches part.Calls c = (c.keys ≡ []) × (c.cut_off ≡ false)
Reaches part.Keys c = c.cut_off ≡ false
Reaches part.Done c = Unit {0}

-- Holds if the parts of a recording that must be empty before the given line are empty.
abbrev Finds : Line → Recording → Type 0
Finds told.Title c = Reaches part.Title c
Finds (told.Opening k) c = Reaches part.Opening c
Finds (told.Call x) c = Reaches part.Calls c
Finds (told.Key k) c = Reaches part.Keys c
Finds told.End c = Reaches part.Keys c
Finds told.Cut c = Reaches part.Calls c

behind_keys : (o c k : List (List ℕ)) (y : List ℕ) → c ≡ [] → k ≡ [] → (o ++ y ∷ []) ++ c ++ k ≡ (o ++ c ++ k) ++ y ∷ []
behind_keys o c k y no_c no_k = rw (no_c, no_k) (simp (append-nil, append_assoc))

behind_calls : (o c k : List (List ℕ)) (y : List ℕ) → k ≡ [] → o ++ (c ++ y ∷ []) ++ k ≡ (o ++ c ++ k) ++ y ∷ []
behind_calls o c k y no_k = rw no_k (simp (append-nil, append_assoc))

behind_all : (o c k : List (List ℕ)) (y : List ℕ) → o ++ c ++ (k ++ y ∷ []) ≡ (o ++ c ++ k) ++ y ∷ []
behind_all o c k y = simp append_assoc refl

behind_end : (o c k : List (List ℕ)) (y : List ℕ) → o ++ c ++ k ++ y ∷ [] ≡ (o ++ c ++ k) ++ y ∷ []
behind_end o c k y = simp append_assoc refl

-- Returns the lines of the text before line `l`.
abbrev above : Line → Recording → List (List ℕ)
above told.Title c = []
above l c = so_far c

more_lines : (c : Recording) (l : Line) → Finds l c
    → lines_at (record { section = section_after l; told = with_line c l }) ≡ above l c ++ line_of (line_pieces l) ∷ []
more_lines c told.Title next = rw (next.0, next.1, next.2) refl
more_lines c (told.Opening k) next =
    ap (λ (ls : List (List ℕ)). title ∷ ls ++ map call_line c.calls ++ map key_line c.keys) (map_push opening_line c.opening k)
    ∙ behind_keys (title ∷ opening_lines c.opening) (map call_line c.calls) (map key_line c.keys) (opening_line k)
    (ap (map call_line) next.0) (ap (map key_line) next.1)
more_lines c (told.Call x) next =
    ap (λ (ls : List (List ℕ)). title ∷ opening_lines c.opening ++ ls ++ map key_line c.keys) (map_push call_line c.calls (record_of x))
    ∙ behind_calls (title ∷ opening_lines c.opening) (map call_line c.calls) (map key_line c.keys) (call_line (record_of x))
    (ap (map key_line) next.0)
more_lines c (told.Key k) next =
    ap (λ (ls : List (List ℕ)). title ∷ opening_lines c.opening ++ map call_line c.calls ++ ls) (map_push key_line c.keys k)
    ∙ behind_all (title ∷ opening_lines c.opening) (map call_line c.calls) (map key_line c.keys) (key_line k)
more_lines c told.End next =
    ap (λ (b : Bool). title ∷ opening_lines c.opening ++ map call_line c.calls ++ map key_line c.keys ++ end_line b ∷ []) next
    ∙ behind_end (title ∷ opening_lines c.opening) (map call_line c.calls) (map key_line c.keys) (end_line false)
more_lines c told.Cut next =
    behind_end (title ∷ opening_lines c.opening) (map call_line c.calls) (map key_line c.keys) (end_line true)

reaches_more : (c : Recording) (l : Line) → Finds l c → Reaches (section_after l) (with_line c l)
reaches_more c told.Title next = (next.1, next.2, next.3)
reaches_more c told.End next = tt
reaches_more c told.Cut next = tt
reaches_more c l next = next

finds : (s : Section) (c : Recording) (l : Line) → Comes s l → Reaches s c → Finds l c
finds part.Title c told.Title comes reached = reached
finds part.Opening c (told.Opening k) comes reached = reached
finds part.Opening c (told.Call x) comes reached = (reached.1, reached.2)
finds part.Opening c (told.Key k) comes reached = reached.2
finds part.Opening c told.End comes reached = reached.2
finds part.Opening c told.Cut comes reached = (reached.1, reached.2)
finds part.Calls c (told.Call x) comes reached = reached
finds part.Calls c (told.Key k) comes reached = reached.1
finds part.Calls c told.End comes reached = reached.1
finds part.Calls c told.Cut comes reached = reached
finds part.Keys c (told.Key k) comes reached = reached
finds part.Keys c told.End comes reached = reached
finds s c l comes reached = absurd comes

lines_above : (s : Section) (c : Recording) (l : Line) → Comes s l → above l c ≡ lines_at (record { section = s; told = c })
lines_above part.Title c told.Title comes = refl
lines_above part.Title c l comes = absurd comes
lines_above part.Opening c told.Title comes = absurd comes
lines_above part.Calls c told.Title comes = absurd comes
lines_above part.Keys c told.Title comes = absurd comes
lines_above part.Done c l comes = absurd comes
lines_above s c l comes = refl

one_line : (s t : SoFar) (x : List ℕ) → Reaches s.section s.told → IsTaken s x t → Reaches t.section t.told × (lines_at t ≡ lines_at s ++ x ∷ [])
one_line s t x reached taken =
    let l = taken.0 in
    let found = line_found_in s.section x l taken.1 in
    let next = finds s.section s.told l found.2 reached in
    let now : lines_at (with_told s l) ≡ lines_at s ++ x ∷ [] = more_lines s.told l next
    ∙ ap (λ (ls : List (List ℕ)). ls ++ line_of (line_pieces l) ∷ []) (lines_above s.section s.told l found.2) ∙ ap (λ (y : List ℕ). lines_at s ++ y ∷ []) (sym found.0) in
    subst (λ (u : SoFar). Reaches u.section u.told × (lines_at u ≡ lines_at s ++ x ∷ [])) (sym taken.3) (reaches_more s.told l next, now)

-- ---- Proof for the whole text

at_end : (n : ℕ) (s : SoFar) (rest : List ℕ) (c : Recording) → Ok c ≡ ending n s rest → (rest ≡ []) × (lines_at s ≡ lines c)
at_end n s [] c is = (refl, by s.section s.told is)
  where
    by : (p : Section) (d : Recording) → Ok c ≡ ending n (record { section = p; told = d }) []
        → lines_at (record { section = p; told = d }) ≡ lines c
    by part.Done d same = let told : c ≡ d = cc in ap lines (sym told)
    by p d same = absurd cc
at_end n s (b ∷ bs) c is = absurd cc

found : (n : ℕ) (s : SoFar) (parts : List (List ℕ)) (c : Recording) → Reaches s.section s.told → Reads n s parts (Ok c)
    → lines_at s ++ parts ≡ lines c ++ [] ∷ []
found n s [] c reached reads = absurd reads
found n s (rest ∷ []) c reached reads =
    let last = at_end n s rest c reads in
    ap (λ (r : List ℕ). lines_at s ++ r ∷ []) last.0 ∙ ap (λ (ls : List (List ℕ)). ls ++ [] ∷ []) last.1
found n s (x ∷ y ∷ more) c reached (inl (t, taken, reads)) =
    let moved = one_line s t x reached taken in
    sym (append_assoc (lines_at s) (x ∷ []) (y ∷ more)) ∙ ap (λ (ls : List (List ℕ)). ls ++ y ∷ more) (sym moved.1)
    ∙ found (n + 1) t (y ∷ more) c moved.0 reads
found n s (x ∷ y ∷ more) c reached (inr (cause, refused, bad)) = absurd cc

pub text_found : (bytes : List ℕ) (c : Recording) → Says bytes (Ok c) → bytes ≡ recording_text c
text_found bytes c says =
    text_from_lines bytes (lines c) (found first_line nothing_told (cut_at 10 bytes) c (refl, refl, refl, refl) says)
