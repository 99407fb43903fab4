-- Proof that, for each kind of line in a recording, the text of the line and the values in the line determine each
-- other.
use Rattle.std.proofs.Common.{◌≡◌, subst, ℕ, ◌<◌, ◌≤◌, ◌^◌, Bool, true, false, Result, length, List, [], ◌∷◌, Option, Some, None, Ok, Err, refl, arith, codes, cond}
use Rattle.std.specs.Prelude.{IfSome, nat_lt}
use Rattle.std.specs.Fmt.{decimal}
use Rattle.std.specs.List.{AllByRecursion}
use Rattle.std.specs.Str.{bytes_eq}
use Rattle.lset_words.specs.declared.Call.{Call}
use Rattle.lset_words.specs.declared.Reply.{Reply}
use Rattle.lset_words.specs.declared.Reply.TheVariants as reply
use Rattle.lset_words.specs.Words.{key_of}
use Rattle.lset_text.specs.declared.words.CallWord.{CallWord}
use Rattle.lset_text.specs.declared.words.CallWord.TheVariants as word
use Rattle.lset_text.specs.declared.words.Version.TheVariants.{One}
use Rattle.lset_text.specs.Parts.{line_of, Lacks}
use Rattle.lset_text.specs.Forms.{Told}
use Rattle.lset_text.specs.Kinds.{LineKind, line_in}
use Rattle.lset_text.specs.Spellings.{call_word_text, word_of, with_key, HasWord}
use Rattle.lset_text.proofs.KindLaws.{Knows, line_found, line_found_lacks}
use Rattle.lset_text.proofs.WordLaws.{same_bytes}
use Rattle.lset_judge.specs.declared.stream.StreamCall.{StreamCall}
use Rattle.lset_judge.specs.declared.stream.TheConstants.{LAST_MOMENT}
use Rattle.lset_judge.specs.Verdict.{is_plain, is_truth}
use Rattle.lset_judge.specs.Stream.{record_of, behind_all}
use Rattle.lset_text.specs.declared.causes.Cause.TheVariants as wrong
use Rattle.lset_recording.specs.declared.recording_lines.Line.{Line}
use Rattle.lset_recording.specs.declared.recording_lines.Line.TheVariants as told
use Rattle.lset_recording.specs.declared.recording_lines.Section.{Section}
use Rattle.lset_recording.specs.declared.recording_lines.Section.TheVariants as section
use Rattle.lset_recording.specs.declared.recording_lines.TheConstants.{LONGEST_LINE}
use Rattle.lset_recording.specs.Texts.{end_pieces, call_pieces, title}
use Rattle.lset_recording.specs.Reading.{kinds, from_calls, opening_kind, open_kind, true_kind, false_kind, key_kind, end_kind, cut_kind}
use Rattle.lset_recording.specs.Reading.{Comes, IsFormed, line_told, line_behind_title}

-- Returns the fields of a line. The argument is the content of the line, for example a call or a key.
abbrev pub line_pieces : Line → List (List ℕ)
line_pieces told.Title = title ∷ []
line_pieces (told.Opening k) = codes "opening" ∷ decimal k ∷ []
line_pieces (told.Call x) = call_pieces (record_of x)
line_pieces (told.Key k) = codes "key" ∷ decimal k ∷ []
line_pieces told.End = codes "end" ∷ []
line_pieces told.Cut = codes "cut" ∷ []

abbrev pub IsMoment : ℕ → Type 0
IsMoment m = (1 ≤ m) × (m ≤ LAST_MOMENT)

-- Holds if the numbers of a call are in range for a recording, the call is not a `ceiling`, and the call, if completed,
-- returned true or false.
pub record IsNumbered (x : StreamCall) : Type 0 where
  pub thread : x.thread < 2 ^ 32
  pub key : (key_of x.call).0 < 2 ^ 32
  pub word : HasWord One (word_of x.call)
  pub begun : IsMoment x.begun
  pub end : IfSome x.ended (λ (e : ℕ × Reply). IsMoment e.0 × (is_plain x.call e.1 ≡ true))

abbrev pub IsLine : Line → Type 0
IsLine told.Title = Unit {0}
IsLine (told.Opening k) = k < 2 ^ 32
IsLine (told.Call x) = IsNumbered x
IsLine (told.Key k) = k < 2 ^ 32
IsLine told.End = Unit {0}
IsLine told.Cut = Unit {0}

-- ---- Lemmas about the values in a line

abbrev call_of : ℕ → Call → ℕ → Option (ℕ × Reply) → StreamCall
call_of n c b e = record { thread = n; call = c; begun = b; ended = e }

numbered : (w : CallWord) (n k b : ℕ) (e : Option (ℕ × Reply)) → n < 2 ^ 32 → k < 2 ^ 32 → HasWord One w → IsMoment b
    → IfSome e (λ (d : ℕ × Reply). IsMoment d.0 × (is_truth d.1 ≡ true))
    → (let x = call_of n (with_key w (record { 0 = k })) b e in
    (codes "call" ∷ decimal n ∷ call_word_text w ∷ decimal k ∷ decimal b ∷ end_pieces e ≡ call_pieces (record_of x)) × IsNumbered x)
numbered word.Ceiling n k b e nl kl has bl el = absurd has
numbered w n k b e nl kl has bl el = (refl, record { thread = nl; key = kl; word = has; begun = bl; end = el })

open_known : Knows One line_pieces IsLine open_kind
open_known = (
  (refl, (omega arith, (tt, (omega arith, (omega arith, (refl, (refl, tt))))))),
  λ t fit. numbered t.1.1.0 t.1.0 t.1.1.1.0 t.1.1.1.1.0 None (omega (arith, fit.1.0.1)) (omega (arith, fit.1.1.1.0.1)) fit.1.1.0
      (fit.1.1.1.1.0.0, fit.1.1.1.1.0.1) tt,
)

true_known : Knows One line_pieces IsLine true_kind
true_known = (
  (refl, (omega arith, (tt, (omega arith, (omega arith, (omega arith, (refl, tt))))))),
  λ t fit. numbered t.1.1.0 t.1.0 t.1.1.1.0 t.1.1.1.1.0 (Some (t.1.1.1.1.1.0, reply.True)) (omega (arith, fit.1.0.1))
      (omega (arith, fit.1.1.1.0.1)) fit.1.1.0 (fit.1.1.1.1.0.0, fit.1.1.1.1.0.1) ((fit.1.1.1.1.1.0.0, fit.1.1.1.1.1.0.1), refl),
)

false_known : Knows One line_pieces IsLine false_kind
false_known = (
  (refl, (omega arith, (tt, (omega arith, (omega arith, (omega arith, (refl, tt))))))),
  λ t fit. numbered t.1.1.0 t.1.0 t.1.1.1.0 t.1.1.1.1.0 (Some (t.1.1.1.1.1.0, reply.False)) (omega (arith, fit.1.0.1))
      (omega (arith, fit.1.1.1.0.1)) fit.1.1.0 (fit.1.1.1.1.0.0, fit.1.1.1.1.0.1) ((fit.1.1.1.1.1.0.0, fit.1.1.1.1.1.0.1), refl),
)

opening_known : Knows One line_pieces IsLine opening_kind
opening_known = ((refl, (omega arith, tt)), λ t fit. (refl, omega (arith, fit.1.0.1)))

key_known : Knows One line_pieces IsLine key_kind
key_known = ((refl, (omega arith, tt)), λ t fit. (refl, omega (arith, fit.1.0.1)))

end_known : Knows One line_pieces IsLine end_kind
end_known = ((refl, tt), λ t fit. (refl, tt))

cut_known : Knows One line_pieces IsLine cut_kind
cut_known = ((refl, tt), λ t fit. (refl, tt))

abbrev pub IsLineIn : Section → Line → Type 0
IsLineIn s l = IsLine l × Comes s l

known_in : (s : Section) (ks : List (LineKind Line)) → AllByRecursion (Knows One line_pieces IsLine) ks
    → AllByRecursion (λ (k : LineKind Line). (t : Told k.0) → Comes s (k.1 t)) ks
    → AllByRecursion (Knows One line_pieces (IsLineIn s)) ks
known_in s [] known come = tt
known_in s (k ∷ ks) known come =
    ((known.0.0, λ t fit. let m = known.0.1 t fit in (m.0, (m.1, come.0 t))), known_in s ks known.1 come.1)

calls_known : AllByRecursion (Knows One line_pieces IsLine) from_calls
calls_known = (open_known, (true_known, (false_known, (cut_known, (key_known, (end_known, tt))))))

pub kinds_known : (s : Section) → AllByRecursion (Knows One line_pieces (IsLineIn s)) (kinds s)
kinds_known section.Opening =
    known_in section.Opening (opening_kind ∷ from_calls) (opening_known, calls_known)
    ((λ t. tt), ((λ t. tt), ((λ t. tt), ((λ t. tt), ((λ t. tt), ((λ t. tt), ((λ t. tt), tt)))))))
kinds_known section.Calls =
    known_in section.Calls from_calls calls_known
    ((λ t. tt), ((λ t. tt), ((λ t. tt), ((λ t. tt), ((λ t. tt), ((λ t. tt), tt))))))
kinds_known section.Keys =
    known_in section.Keys (key_kind ∷ end_kind ∷ []) (key_known, (end_known, tt)) ((λ t. tt), ((λ t. tt), tt))
kinds_known s = tt

-- ---- Lemmas about the content of a line

short_line : {A E : Type 0} (b : Bool) (e : E) (r : Result A E) (x : A) → cond b (Err e) r ≡ Ok x → r ≡ Ok x
short_line true e r x is = absurd cc
short_line false e r x is = is

behind_title : (s : Section) (line : List ℕ) (l : Line) → line_behind_title s line ≡ Ok l
    → (line ≡ line_of (line_pieces l)) × IsLine l × Comes s l
behind_title s line l is =
    let f = line_found One wrong.Line line_pieces (IsLineIn s) (kinds s) line l (kinds_known s)
    (short_line (nat_lt LONGEST_LINE (length line)) wrong.Line (line_in One wrong.Line (kinds s) line) l is) in
    (f.0, f.1.0, f.1.1)

titled : (b : Bool) (line : List ℕ) (l : Line) → bytes_eq line title ≡ b → cond b (Ok told.Title) (Err wrong.Header) ≡ Ok l
    → (line ≡ line_of (line_pieces l)) × IsLine l × Comes section.Title l
titled true line l same is =
    let first : told.Title ≡ l = cc in
    subst (λ (m : Line). (line ≡ line_of (line_pieces m)) × IsLine m × Comes section.Title m) first (same_bytes line title same, tt, tt)
titled false line l same is = absurd cc

pub line_found_in : (s : Section) (line : List ℕ) (l : Line) → line_told s line ≡ Ok l
    → (line ≡ line_of (line_pieces l)) × IsLine l × Comes s l
line_found_in section.Title line l is = titled (bytes_eq line title) line l refl is
line_found_in s line l is = behind_title s line l is

pub line_lacks : (line : List ℕ) (l : Line) → line_told section.Calls line ≡ Ok l → Lacks 10 line
line_lacks line l is =
    line_found_lacks One wrong.Line line_pieces (IsLineIn section.Calls) (kinds section.Calls) line l (kinds_known section.Calls)
    (short_line (nat_lt LONGEST_LINE (length line)) wrong.Line (line_in One wrong.Line (kinds section.Calls) line) l is)

pub is_formed : (l : Line) → IsLine l → IsFormed l
is_formed (told.Opening k) is = is
is_formed (told.Call x) is = (
  is.thread,
  (omega (arith, is.begun.1), before x.ended is.end),
  plain x.ended is.end,
)
  where
    before : (o : Option (ℕ × Reply)) → IfSome o (λ (e : ℕ × Reply). IsMoment e.0 × (is_plain x.call e.1 ≡ true))
        → IfSome o (λ (e : ℕ × Reply). e.0 < behind_all)
    before None h = tt
    before (Some e) h = omega (arith, h.0.1)

    plain : (o : Option (ℕ × Reply)) → IfSome o (λ (e : ℕ × Reply). IsMoment e.0 × (is_plain x.call e.1 ≡ true))
        → IfSome o (λ (e : ℕ × Reply). is_plain x.call e.1 ≡ true)
    plain None h = tt
    plain (Some e) h = h.1
is_formed (told.Key k) is = is
is_formed l is = tt
