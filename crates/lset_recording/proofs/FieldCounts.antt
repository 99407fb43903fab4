-- Proofs about the number of fields in each kind of line. The reader refuses a line with the wrong number of fields.
use Rattle.std.proofs.Common.{◌≡◌, ℕ, ◌<◌, ◌&&◌, Bool, true, false, cond, List, [], ◌∷◌, length, Result, Err, refl, ap, ◌∙◌, arith, codes}
use Rattle.std.specs.Str.{bytes_eq}
use Rattle.std.proofs.lemmas.Bool.{and_right}
use Rattle.lset_text.specs.declared.words.Version.TheVariants.{One}
use Rattle.lset_text.specs.Forms.{Form, have_form}
use Rattle.lset_text.specs.Kinds.{first_of}
use Rattle.lset_text.proofs.WordLaws.{same_bytes}
use Rattle.lset_text.proofs.KindLaws.{first_many}
use Rattle.lset_recording.specs.declared.recording_lines.Section.{Section}
use Rattle.lset_recording.specs.declared.recording_lines.Section.TheVariants as section
use Rattle.lset_text.specs.declared.causes.Cause.TheVariants as wrong
use Rattle.lset_recording.specs.Reading.{call_kinds, kinds, takes_calls, open_kind, true_kind, false_kind}

many_pieces : (s : Section) (a b c : List ℕ) (more : List (List ℕ)) → first_of One wrong.Line (kinds s) (a ∷ b ∷ c ∷ more)
    ≡ cond (takes_calls s) (first_of One wrong.Line call_kinds (a ∷ b ∷ c ∷ more)) (Err wrong.Line)
many_pieces section.Title a b c more = refl
many_pieces s a b c more = refl

call_word : (w : Bool) (a b c : List ℕ) (more : List (List ℕ)) → bytes_eq a (codes "call") ≡ w
    → first_of One wrong.Line call_kinds (a ∷ b ∷ c ∷ more)
    ≡ cond w (first_of One wrong.Line call_kinds (codes "call" ∷ b ∷ c ∷ more)) (Err wrong.Line)
call_word true a b c more is =
    ap (λ (x : List ℕ). first_of One wrong.Line call_kinds (x ∷ b ∷ c ∷ more)) (same_bytes a (codes "call") is)
call_word false a b c more is =
    let ps = b ∷ c ∷ more in
    let other = bytes_eq a (codes "call") in
    rw (
      and_right (have_form One (after_word open_kind.0) ps) other is,
      and_right (have_form One (after_word true_kind.0) ps) other is,
      and_right (have_form One (after_word false_kind.0) ps) other is,
    ) refl
  where
    after_word : Form → Form
    after_word [] = []
    after_word (p ∷ f) = f

guarded : {A E : Type 0} (b w : Bool) (x y : Result A E) (e : E) → x ≡ cond w y (Err e) → cond b x (Err e) ≡ cond (b && w) y (Err e)
guarded true w x y e is = is
guarded false w x y e is = refl

pub call_pieces : (s : Section) (a b : List ℕ) (parts : List (List ℕ)) → 0 < length parts
    → first_of One wrong.Line (kinds s) (a ∷ b ∷ parts) ≡ cond (takes_calls s && bytes_eq a (codes "call"))
    (first_of One wrong.Line call_kinds (codes "call" ∷ b ∷ parts)) (Err wrong.Line)
call_pieces s a b [] some = absurd (omega arith)
call_pieces s a b (c ∷ more) some =
    many_pieces s a b c more
    ∙ guarded (takes_calls s) (bytes_eq a (codes "call")) (first_of One wrong.Line call_kinds (a ∷ b ∷ c ∷ more))
    (first_of One wrong.Line call_kinds (codes "call" ∷ b ∷ c ∷ more)) wrong.Line (call_word (bytes_eq a (codes "call")) a b c more refl)

pub call_many : (a b c d e f g : List ℕ) (more : List (List ℕ)) → 0 < length more
    → first_of One wrong.Line call_kinds (a ∷ b ∷ c ∷ d ∷ e ∷ f ∷ g ∷ more) ≡ Err wrong.Line
call_many a b c d e f g more some =
    first_many One wrong.Line call_kinds (a ∷ b ∷ c ∷ d ∷ e ∷ f ∷ g ∷ more)
    (omega (arith, some), (omega (arith, some), (omega (arith, some), tt)))
