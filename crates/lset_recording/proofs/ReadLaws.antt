-- Proofs: when the reader reads more bytes or a line, its new state is correct, or its error is the error of the text.
use Rattle.std.proofs.Common.{◌≡◌, ◌≢◌, ℕ, zero, suc, ◌+◌, ◌<◌, ◌≤◌, inl, inr, Bool, true, false, eqb, List, [], ◌∷◌, ◌++◌, length, refl, sym, ap, subst, ◌∙◌}
use Rattle.std.proofs.Common.{append_assoc, append-nil, arith, length-append, Result, Ok, Err, cond}
use Rattle.std.specs.Prelude.{◌==◌, IfOk, IfErr, Option, Some, None}
use Rattle.std.specs.List.{AllByRecursion}
use Rattle.std.specs.Str.{bytes_eq}
use Rattle.std.proofs.lemmas.Bool.{lt-ltb}
use Rattle.std.proofs.lemmas.List.Elements.{All-nil, recursion_from_All}
use Rattle.std.proofs.lemmas.List.Sums.{sum_by-append, sum_by-cons}
use Rattle.std.proofs.lemmas.List.Splits.{slice_split_none, slice_split_at}
use Rattle.lset_text.specs.Parts.{cut_at, Lacks}
use Rattle.lset_text.specs.Kinds.{line_in}
use Rattle.lset_text.specs.declared.words.Version.TheVariants.{One}
use Rattle.lset_text.proofs.PartLaws.{some_part, Lacks-append}
use Rattle.lset_text.proofs.WordLaws.{same_bytes}
use Rattle.lset_judge.specs.declared.stream.StreamCall.{StreamCall}
use Rattle.lset_recording.proofs.LineKinds.{line_found_in, line_lacks}
use Rattle.lset_text.specs.declared.causes.Cause.{Cause}
use Rattle.lset_text.specs.declared.causes.Cause.TheVariants as wrong
use Rattle.lset_text.specs.declared.causes.LineFault.{LineFault}
use Rattle.lset_text.specs.Causes.{fault}
use Rattle.lset_recording.specs.declared.recording_lines.Line.{Line}
use Rattle.lset_recording.specs.declared.recording_lines.Line.TheVariants as told
use Rattle.lset_recording.specs.declared.recording_lines.Section.{Section}
use Rattle.lset_recording.specs.declared.recording_lines.Section.TheVariants as part
use Rattle.lset_recording.specs.declared.recording_lines.TheConstants.{LONGEST_LINE}
use Rattle.lset_recording.specs.declared.reader.RecordingReader.{RecordingReader}
use Rattle.lset_recording.specs.declared.recording_judge.RecordingAnswer.{RecordingAnswer}
use Rattle.lset_recording.specs.Texts.{Recording, title}
use Rattle.lset_recording.specs.Reading.{Comes, GoesOn, SoFar, IsTaken, IsRefused, Reads, Says, cause_if_long, cause_of, ending, first_line, kinds, line_behind_title, line_told, takes_calls, with_told}
use Rattle.lset_recording.specs.Kept.{IsAnswered, IsJudging, IsHeld, IsLineOf, IsRead, IsRefusedAt, newlines}

-- ---- Lemmas about a single complete line

line_and : (line more : List ℕ) → Lacks 10 line → cut_at 10 (line ++ 10 ∷ more) ≡ line ∷ cut_at 10 more
line_and line more lacks = slice_split_at (λ b. eqb b 10) line 10 more lacks refl

reads_more : (n : ℕ) (s t : SoFar) (line : List ℕ) (parts : List (List ℕ)) (read : Result Recording LineFault) → 0 < length parts
    → IsTaken s line t → Reads (n + 1) t parts read → Reads n s (line ∷ parts) read
reads_more n s t line [] read some taken rest = absurd (omega arith)
reads_more n s t line (y ∷ ys) read some taken rest = inl (t, taken, rest)

reads_last : (n : ℕ) (s : SoFar) (line : List ℕ) (parts : List (List ℕ)) (cause : Cause) → 0 < length parts
    → IsRefused s line cause → Reads n s (line ∷ parts) (Err (fault n cause))
reads_last n s line [] cause some refused = absurd (omega arith)
reads_last n s line (y ∷ ys) cause some refused = inr (cause, refused, refl)

pub too_long : (s : SoFar) (line : List ℕ) → LONGEST_LINE < length line → IsRefused s line (cause_if_long s.section)
too_long s line many = inl (by s.section)
  where
    behind : (p : Section) → line_behind_title p line ≡ Err wrong.Line
    behind p = ap (λ (b : Bool). cond b (Err wrong.Line) (line_in One wrong.Line (kinds p) line)) (lt-ltb LONGEST_LINE (length line) many)

    untitled : (b : Bool) → bytes_eq line title ≡ b
        → ◌≡◌ {A = Result Line Cause} (cond b (Ok told.Title) (Err wrong.Header)) (Err wrong.Header)
    untitled true same = let long = ap length (same_bytes line title same) in absurd (omega (arith, long, many))
    untitled false same = refl

    by : (p : Section) → line_told p line ≡ Err (cause_if_long p)
    by part.Title = untitled (bytes_eq line title) refl
    by p = behind p

-- ---- Lemmas about counting newlines

newlines_and : (bytes more : List ℕ) → newlines (bytes ++ more) ≡ newlines bytes + newlines more
newlines_and bytes more = sum_by-append (λ (b : ℕ). cond (b == 10) 1 0) bytes more

no_newlines : (bytes : List ℕ) → AllByRecursion (λ b. eqb b 10 ≡ false) bytes → newlines bytes ≡ 0
no_newlines [] lacks = refl
no_newlines (b ∷ bs) lacks =
    let cons = sum_by-cons (λ (x : ℕ). cond (x == 10) 1 0) b bs in
    let here : ◌≡◌ {A = ℕ} (cond (b == 10) 1 0) 0 = rw lacks.0 refl in
    let others = no_newlines bs lacks.1 in
    omega (arith, cons, here, others)

pub line_of_piece : (bytes done line more : List ℕ) (n : ℕ) → n ≡ first_line + newlines (bytes ++ done)
    → IsLineOf bytes (done ++ (line ++ 10 ∷ more)) n
line_of_piece bytes done line more n at =
    let before = newlines_and bytes done in
    let all = newlines_and bytes (done ++ (line ++ 10 ∷ more)) in
    let parts = newlines_and done (line ++ 10 ∷ more) in
    let last = newlines_and line (10 ∷ more) in
    let one : newlines (10 ∷ more) ≡ 1 + newlines more = sum_by-cons (λ (x : ℕ). cond (x == 10) 1 0) 10 more in
    (omega (arith, at, before), omega (arith, at, before, all, parts, last, one))

-- ---- Lemmas about the bytes read so far

-- Holds if the reader has read `bytes`: their complete lines led to the state s, line n is next, and `held` is the part
-- of line n that has been read so far.
pub record StandsAt (bytes held : List ℕ) (n : ℕ) (s : SoFar) : Type 0 where
  pub lacks : Lacks 10 held
  pub goes : (more : List ℕ) (read : Result Recording LineFault) → Reads n s (cut_at 10 (held ++ more)) read → Says (bytes ++ more) read
  pub counted : n ≡ first_line + newlines bytes

pub stands : (bytes : List ℕ) (r : RecordingReader) (is : IsRead bytes r) → StandsAt bytes is.held r.judging.number is.told
stands bytes r is = record { lacks = is.lacks; goes = is.goes; counted = is.counted }

pub read_at : (bytes held : List ℕ) (s : SoFar) (r : RecordingReader) → StandsAt bytes held r.judging.number s → IsJudging s r.judging
    → IsHeld held r.line.items r.is_long → r.failed ≡ None → IsRead bytes r
read_at bytes held s r at judging line sound = record {
  told = s;
  judging = judging;
  held = held;
  lacks = at.lacks;
  line = line;
  goes = at.goes;
  counted = at.counted;
  sound = sound;
}

pub held_more : (bytes held more : List ℕ) (n : ℕ) (s : SoFar) → StandsAt bytes held n s → Lacks 10 more
    → StandsAt (bytes ++ more) (held ++ more) n s
held_more bytes held more n s at lacks = record {
  lacks = Lacks-append 10 held more at.lacks lacks;
  goes = λ rest read h.
      subst (λ (t : List ℕ). Says t read) (sym (append_assoc bytes more rest))
      (at.goes (more ++ rest) read (subst (λ (t : List ℕ). Reads n s (cut_at 10 t) read) (append_assoc held more rest) h));
  counted =
      let and = newlines_and bytes more in
      let none = no_newlines more (recursion_from_All (λ b. eqb b 10 ≡ false) more lacks) in
      let was = at.counted in
      omega (arith, and, none, was);
}

module _ (bytes held : List ℕ) (n : ℕ) (s : SoFar) (at : StandsAt bytes held n s) where
  goes_by : (more : List ℕ) (read : Result Recording LineFault) → Reads n s (held ∷ cut_at 10 more) read
      → Says ((bytes ++ 10 ∷ []) ++ more) read
  goes_by more read h =
      subst (λ (t : List ℕ). Says t read) (sym (append_assoc bytes (10 ∷ []) more))
      (at.goes (10 ∷ more) read (subst (λ (ps : List (List ℕ)). Reads n s ps read) (sym (line_and held more at.lacks)) h))

  line_taken : (t : SoFar) → IsTaken s held t → StandsAt (bytes ++ 10 ∷ []) [] (n + 1) t
  line_taken t taken = record {
    lacks = All-nil (λ b. eqb b 10 ≡ false);
    goes = λ more read h. goes_by more read (reads_more n s t held (cut_at 10 more) read (some_part 10 more) taken h);
    counted =
        let and = newlines_and bytes (10 ∷ []) in
        let one : newlines (10 ∷ []) ≡ 1 = refl in
        let was = at.counted in
        omega (arith, and, one, was);
  }

  pub line_refused : (cause : Cause) → IsRefused s held cause → (more : List ℕ)
      → Says ((bytes ++ 10 ∷ []) ++ more) (Err (fault n cause))
  line_refused cause refused more =
      goes_by more (Err (fault n cause)) (reads_last n s held (cut_at 10 more) cause (some_part 10 more) refused)

  pub line_read : (t : SoFar) (q : RecordingReader) → IsTaken s held t → IsJudging t q.judging → q.judging.number ≡ n + 1
      → q.line.items ≡ [] → q.is_long ≡ false → q.failed ≡ None → IsRead (bytes ++ 10 ∷ []) q
  line_read t q taken judging next none short sound =
      read_at (bytes ++ 10 ∷ []) [] t q (subst (λ (m : ℕ). StandsAt (bytes ++ 10 ∷ []) [] m t) (sym next) (line_taken t taken)) judging
      (subst (IsHeld [] q.line.items) (sym short) (sym none)) sound

  pub at_end : (read : Result Recording LineFault) → read ≡ ending n s held → Says bytes read
  at_end read ends =
      subst (λ (t : List ℕ). Says t read) (append-nil bytes)
      (at.goes [] read
      (subst (λ (ps : List (List ℕ)). Reads n s ps read)
      (sym (ap (cut_at 10) (append-nil held) ∙ slice_split_none (λ b. eqb b 10) held at.lacks)) ends))

pub held_on : (long : Bool) (held kept new more : List ℕ) → IsHeld held kept long → new ≡ kept ++ more → IsHeld (held ++ more) new long
held_on true held kept new more is now = omega (arith, is, length-append held more)
held_on false held kept new more is now = ap (λ (t : List ℕ). t ++ more) is ∙ sym now

pub held_full : (long : Bool) (held kept more : List ℕ) → IsHeld held kept long
    → (length kept + length more ≤ LONGEST_LINE → ⊥) → LONGEST_LINE < length (held ++ more)
held_full true held kept more is full = omega (arith, is, length-append held more)
held_full false held kept more is full = let long = ap length is in omega (arith, long, full, length-append held more)

-- ---- Lemmas about a complete line within a piece of the text

pub nothing_held : (bytes : List ℕ) (r : RecordingReader) (is : IsRead bytes r) → r.is_long ≡ false → r.line.items ≡ [] → [] ≡ is.held
nothing_held bytes r is short none = sym (subst (IsHeld is.held r.line.items) short is.line ∙ none)

pub whole_line : (bytes line : List ℕ) (r : RecordingReader) (is : IsRead bytes r) → Lacks 10 line → r.is_long ≡ false → r.line.items ≡ []
    → StandsAt (bytes ++ line) line r.judging.number is.told
whole_line bytes line r is lacks short none =
    subst (λ (held : List ℕ). StandsAt (bytes ++ line) (held ++ line) r.judging.number is.told) (sym (nothing_held bytes r is short none))
    (held_more bytes is.held line r.judging.number is.told (stands bytes r is) lacks)

-- ---- Lemmas about the line of a completed call within a piece of the text

-- Holds if, in each section of a recording that allows calls, the line is read as the call x.
abbrev pub Tells : List ℕ → StreamCall → Type 0
Tells line x = (p : Section) → takes_calls p ≡ true → line_told p line ≡ Ok (told.Call x)

pub call_read : (bytes line : List ℕ) (r q : RecordingReader) (x : StreamCall) → IsRead bytes r → r.line.items ≡ [] → r.is_long ≡ false
    → takes_calls r.judging.section ≡ true → Tells line x
    → ((s : SoFar) → IsJudging s r.judging → Comes s.section (told.Call x) → GoesOn s.told (told.Call x)
    × IsJudging (with_told s (told.Call x)) q.judging × (q.judging.number ≡ r.judging.number + 1))
    → q.line.items ≡ [] → q.is_long ≡ false → q.failed ≡ None
    → IsRead (bytes ++ line ++ 10 ∷ []) q × (takes_calls q.judging.section ≡ true)
call_read bytes line r q x is none short takes tells put after_none after_short sound =
    let s = is.told in
    let tells_here = tells s.section (subst (λ (p : Section). takes_calls p ≡ true) is.judging.section takes) in
    let lacks = line_lacks line (told.Call x) (tells part.Calls refl) in
    let next = put s is.judging (line_found_in s.section line (told.Call x) tells_here).2 in (
      line_read (bytes ++ line) line r.judging.number s (whole_line bytes line r is lacks short none) (with_told s (told.Call x)) q
          (told.Call x, tells_here, next.0, refl) next.1 next.2 after_none after_short sound,
      subst (λ (p : Section). takes_calls p ≡ true) (sym next.1.section) refl,
    )

pub call_refused : (bytes line : List ℕ) (r : RecordingReader) (x : StreamCall) (cause : Cause) → IsRead bytes r → r.line.items ≡ []
    → r.is_long ≡ false → takes_calls r.judging.section ≡ true → Tells line x
    → (cause ≡ cause_of (told.Call x)) × ((s : SoFar) → IsJudging s r.judging → GoesOn s.told (told.Call x) → ⊥)
    → (more : List ℕ) → Says ((bytes ++ line ++ 10 ∷ []) ++ more) (Err (fault r.judging.number cause))
call_refused bytes line r x cause is none short takes tells put more =
    let s = is.told in
    let tells_here = tells s.section (subst (λ (p : Section). takes_calls p ≡ true) is.judging.section takes) in
    let lacks = line_lacks line (told.Call x) (tells part.Calls refl) in
    line_refused (bytes ++ line) line r.judging.number s (whole_line bytes line r is lacks short none) cause
    (inr (told.Call x, tells_here, put.1 s is.judging, put.0)) more

pub line_of_rest : (bytes done rest : List ℕ) (n : ℕ) → IsLineOf (bytes ++ done) rest n → IsLineOf bytes (done ++ rest) n
line_of_rest bytes done rest n is =
    let before = newlines_and bytes done in
    let all = newlines_and bytes (done ++ rest) in
    let parts = newlines_and done rest in
    let here = newlines_and (bytes ++ done) rest in
    let low = is.0 in
    let high = is.1 in
    (omega (arith, low, before), omega (arith, high, before, all, parts, here))

-- ---- Lemmas about the end of the text

pub above_zero : (n : ℕ) → (n ≡ 0 → ⊥) → 0 < n
above_zero zero other = absurd (other refl)
above_zero (suc n) other = omega arith

pub some_left : (n : ℕ) (s : SoFar) (held : List ℕ) → 0 < length held → Err (fault n wrong.NotEnded) ≡ ending n s held
some_left n s [] some = absurd (omega (arith, some))
some_left n s (b ∷ bs) some = refl

module _ (r : RecordingReader) where
  pub finished : (res : Result RecordingAnswer LineFault) → r.is_long ≡ false → r.line.items ≡ []
      → IfOk res (λ answer. (s : SoFar) → IsJudging s r.judging → (ending r.judging.number s [] ≡ Ok s.told) × IsAnswered s.told answer)
      → IfOk res (λ answer. (bytes : List ℕ) → IsRead bytes r → (c : Recording) × Says bytes (Ok c) × IsAnswered c answer)
  finished (Ok answer) short none said = λ bytes is.
      let s = said is.told is.judging in (
        is.told.told,
        at_end bytes is.held r.judging.number is.told (stands bytes r is) (Ok is.told.told)
            (sym s.0 ∙ ap (ending r.judging.number is.told) (nothing_held bytes r is short none)),
        s.1,
      )
  finished (Err e) short none said = tt

  pub not_finished : (res : Result RecordingAnswer LineFault) → r.is_long ≡ false → r.line.items ≡ []
      → IfErr res (λ e. e.cause ≢ wrong.Memory → (s : SoFar) → IsJudging s r.judging → ending r.judging.number s [] ≡ Err e)
      → IfErr res (λ e. e.cause ≢ wrong.Memory → (bytes : List ℕ) → IsRead bytes r → Says bytes (Err e))
  not_finished (Ok answer) short none said = tt
  not_finished (Err e) short none said = λ other bytes is.
      at_end bytes is.held r.judging.number is.told (stands bytes r is) (Err e)
      (sym (said other is.told is.judging) ∙ ap (ending r.judging.number is.told) (nothing_held bytes r is short none))

  pub line_of_end : (res : Result RecordingAnswer LineFault) → IfErr res (λ e. e.line ≡ r.judging.number)
      → IfErr res (λ e. (bytes : List ℕ) → IsRead bytes r → e.line ≡ first_line + newlines bytes)
  line_of_end (Ok answer) line = tt
  line_of_end (Err e) line = λ bytes is. line ∙ is.counted

-- ---- Lemmas about the lines within a piece of the text

pub refused_on : (bytes done line more : List ℕ) (e : LineFault) → IsRefusedAt (bytes ++ done ++ line ++ 10 ∷ []) e
    → IsRefusedAt (bytes ++ (done ++ (line ++ 10 ∷ more))) e
refused_on bytes done line more e refused other rest =
    subst (λ (t : List ℕ). Says t (Err e)) regrouped (refused other (more ++ rest))
  where
    regrouped : (bytes ++ done ++ line ++ 10 ∷ []) ++ (more ++ rest) ≡ (bytes ++ (done ++ (line ++ 10 ∷ more))) ++ rest
    regrouped = simp append_assoc

-- ---- Lemmas about the reader after an error

pub none_failed : (failed : Option LineFault) (e : LineFault) → failed ≡ None → failed ≡ Some e → ⊥
none_failed failed e none some = cc

pub one_failed : {X : Type 0} (failed : Option LineFault) (e f : LineFault) → failed ≡ Some e → failed ≡ Some f
    → ◌≡◌ {A = Result X LineFault} (Err e) (Err f)
one_failed failed e f one other = cc
