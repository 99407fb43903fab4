-- Forms of lines. A form is a list of fields. Each field has a type of values, a spelling for each value, and a reader.
use Rattle.std.specs.Prelude.{◌≡◌, ℕ, ◌<◌, ◌≤◌, ◌^◌, ◌&&◌, Bool, true, false, List, [], ◌∷◌, Option, Some, None, is_some, if◌then◌else◌}
use Rattle.std.specs.Fmt.{decimal}
use Rattle.std.specs.Str.{bytes_eq}
use Rattle.lset_words.specs.declared.Kind.{Kind}
use Rattle.lset_words.specs.declared.Reply.{Reply}
use Rattle.lset_text.specs.declared.words.CallWord.{CallWord}
use Rattle.lset_text.specs.declared.words.Version.{Version}
use Rattle.lset_text.specs.Parts.{cut_at, line_of, all_from}
use Rattle.lset_text.specs.Numbers.{number_in, max_number}
use Rattle.lset_text.specs.Spellings.{kind_text, kind_of, call_word_text, call_word_in, reply_text, reply_in, is_reply_in}
use Rattle.lset_text.specs.Spellings.{HasWord, HasReply}

-- A field in the form of a line: a fixed word, a number in a range, or the name of a list kind, a call or a reply.
pub data Piece : Type 0 where
  word : List ℕ → Piece
  number : ℕ → ℕ → Piece
  kind : Piece
  call : Piece
  reply : Piece

-- A field with any number from 0 to 4,294,967,295.
abbrev pub any : Piece
any = number 0 max_number

-- A field with a moment (a logical time): a number from 1 to 4,294,967,295.
abbrev pub moment : Piece
moment = number 1 max_number

-- Returns the type of the values that a field can have. A field with a fixed word has one value.
abbrev pub Tells : Piece → Type 0
Tells (word w) = Unit {0}
Tells (number low high) = ℕ
Tells kind = Kind
Tells call = CallWord
Tells reply = Reply

-- Returns the text that spells the value of a field.
abbrev pub spelled : (p : Piece) → Tells p → List ℕ
spelled (word w) t = w
spelled (number low high) n = decimal n
spelled kind k = kind_text k
spelled call w = call_word_text w
spelled reply r = reply_text r

-- Holds if a version of a file format can spell the value of a field.
abbrev pub Fits : Version → (p : Piece) → Tells p → Type 0
Fits v (word w) t = Unit {0}
Fits v (number low high) n = (low ≤ n) × (n ≤ high)
Fits v kind k = Unit {0}
Fits v call w = HasWord v w
Fits v reply r = HasReply v r

-- Returns whether the text `x` matches a field. A fixed word must match exactly, and a name must be known. A field with
-- a number matches any text, since a malformed number is reported as a different error.
abbrev pub has_form : Version → Piece → List ℕ → Bool
has_form v (word w) x = bytes_eq x w
has_form v (number low high) x = true
has_form v kind x = is_some (kind_of x)
has_form v call x = is_some (call_word_in v x)
has_form v reply x = is_reply_in v x

-- Returns the value that the text `x` spells in a field, or `None` if `x` spells no value.
abbrev pub told : Version → (p : Piece) → List ℕ → Option (Tells p)
told v (word w) x = if bytes_eq x w then Some tt else None
told v (number low high) x = number_in low high x
told v kind x = kind_of x
told v call x = call_word_in v x
told v reply x = reply_in v x

-- The form of a line: the list of its fields.
abbrev pub Form : Type 0
Form = List Piece

-- Returns the type of the values of a line with the given form: one value for each field.
abbrev pub Told : Form → Type 0
Told [] = Unit {0}
Told (p ∷ f) = Tells p × Told f

abbrev pub spell : (f : Form) → Told f → List (List ℕ)
spell [] t = []
spell (p ∷ f) t = spelled p t.0 ∷ spell f t.1

-- Returns the line with the form `f` that spells the values `t`.
abbrev pub line_with : (f : Form) → Told f → List ℕ
line_with f t = line_of (spell f t)

abbrev pub AllFit : Version → (f : Form) → Told f → Type 0
AllFit v [] t = Unit {0}
AllFit v (p ∷ f) t = Fits v p t.0 × AllFit v f t.1

-- Returns whether a line matches a form: both have the same number of fields, and each field of the line matches the
-- corresponding field of the form.
abbrev pub have_form : Version → Form → List (List ℕ) → Bool
have_form v [] [] = true
have_form v [] (x ∷ xs) = false
have_form v (p ∷ f) [] = false
have_form v (p ∷ f) (x ∷ xs) = have_form v f xs && has_form v p x

abbrev pub both : {A B : Type 0} → Option A → Option B → Option (A × B)
both None o = None
both (Some a) None = None
both (Some a) (Some b) = Some (a, b)

abbrev pub all_told : Version → (f : Form) → List (List ℕ) → Option (Told f)
all_told v [] xs = Some tt
all_told v (p ∷ f) [] = None
all_told v (p ∷ f) (x ∷ xs) = both (told v p x) (all_told v f xs)

-- Returns the values that a line with the form `f` spells. Returns `None` if the line does not match `f`, or if a field
-- has no value, such as a number out of range.
abbrev pub told_in : Version → (f : Form) → List (List ℕ) → Option (Told f)
told_in v f xs = if have_form v f xs then all_told v f xs else None

-- Holds if the text of the field can be separated from the neighboring fields and read back. A fixed word consists of
-- bytes from 45 up (letters, digits and dashes, but no space and no newline). A number is below 2^64.
abbrev pub IsPiece : Piece → Type 0
IsPiece (word w) = all_from 45 w ≡ true
IsPiece (number low high) = high < 2 ^ 64
IsPiece piece = Unit {0}

abbrev pub ArePieces : Form → Type 0
ArePieces [] = Unit {0}
ArePieces (p ∷ f) = IsPiece p × ArePieces f

abbrev pub IsForm : Form → Type 0
IsForm [] = ⊥
IsForm (p ∷ f) = IsPiece p × ArePieces f

-- Lemma: reading inverts writing for every form of line (a list of fields). Reading a line yields values if and only if
-- the version can spell these values and the line is their spelling.
abbrev pub FormsReadBack : Type 0
FormsReadBack = (v : Version) (f : Form) (line : List ℕ) (t : Told f) → IsForm f
    → (AllFit v f t → told_in v f (cut_at 32 (line_with f t)) ≡ Some t)
    × (told_in v f (cut_at 32 line) ≡ Some t → (line ≡ line_with f t) × AllFit v f t)
