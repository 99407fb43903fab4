-- Lemmas: the number of fields in a line rules out some kinds of lines.
use Rattle.std.proofs.Common.{◌≡◌, ℕ, ◌<◌, ◌⊎◌, inl, inr, List, [], ◌∷◌, length, Err, refl, arith}
use Rattle.lset_text.specs.declared.words.Version.{Version}
use Rattle.lset_text.specs.declared.words.Version.TheVariants.{One, Two}
use Rattle.lset_text.specs.Kinds.{first_of}
use Rattle.lset_report.specs.declared.reading.report_lines.Section.{Section}
use Rattle.lset_report.specs.declared.reading.report_lines.Section.TheVariants as section
use Rattle.lset_text.specs.declared.causes.Cause.TheVariants as wrong
use Rattle.lset_report.specs.ReportReading.{open_kind, ended_kind, from_keys, kinds}

pub one_piece : (v : Version) (s : Section) (a : List ℕ) → (s ≡ section.Done → ⊥)
    → first_of Two wrong.Line from_keys (a ∷ []) ≡ first_of v wrong.Line (kinds v s) (a ∷ [])
one_piece One section.Opening a more = refl
one_piece v section.Done a more = absurd (more refl)
one_piece v s a more = refl

pub two_pieces : (v : Version) (s : Section) (a b : List ℕ) → (s ≡ section.Done → ⊥) → (v ≡ Two → s ≡ section.Opening → ⊥)
    → first_of Two wrong.Line from_keys (a ∷ b ∷ []) ≡ first_of v wrong.Line (kinds v s) (a ∷ b ∷ [])
two_pieces Two section.Opening a b more closed = absurd (closed refl refl)
two_pieces v section.Done a b more closed = absurd (more refl)
two_pieces v s a b more closed = refl

pub no_call : (v : Version) (s : Section) (a b c : List ℕ) (parts : List (List ℕ)) → 0 < length parts → (s ≡ section.Opening → ⊥)
    → (s ≡ section.Calls → ⊥) → Err wrong.Line ≡ first_of v wrong.Line (kinds v s) (a ∷ b ∷ c ∷ parts)
no_call v s a b c [] some opening calls = absurd (omega arith)
no_call v section.Opening a b c (d ∷ more) some opening calls = absurd (opening refl)
no_call v section.Calls a b c (d ∷ more) some opening calls = absurd (calls refl)
no_call v s a b c parts some opening calls = refl

pub is_call : (v : Version) (s : Section) (a b c : List ℕ) (parts : List (List ℕ)) → 0 < length parts
    → (s ≡ section.Opening) ⊎ (s ≡ section.Calls)
    → first_of v wrong.Line (open_kind ∷ ended_kind ∷ []) (a ∷ b ∷ c ∷ parts) ≡ first_of v wrong.Line (kinds v s) (a ∷ b ∷ c ∷ parts)
is_call v s a b c [] some may = absurd (omega arith)
is_call One s a b c (d ∷ more) some (inl opening) = rw opening refl
is_call Two s a b c (d ∷ more) some (inl opening) = rw opening refl
is_call v s a b c (d ∷ more) some (inr calls) = rw calls refl

pub call_many : (v : Version) (w i t a b c d e : List ℕ) (parts : List (List ℕ)) → 0 < length parts
    → Err wrong.Line ≡ first_of v wrong.Line (open_kind ∷ ended_kind ∷ []) (w ∷ i ∷ t ∷ a ∷ b ∷ c ∷ d ∷ e ∷ parts)
call_many v w i t a b c d e [] some = absurd (omega arith)
call_many v w i t a b c d e (f ∷ more) some = refl
