-- Proof: reading inverts writing for every form of line (a list of fields). Reading a line yields values if and only if
-- the line is the spelling of these values.
use Rattle.std.proofs.Common.{◌≡◌, ℕ, ◌<◌, true, false, List, [], ◌∷◌, Option, Some, None, refl, ap, ◌∙◌, arith, codes, length}
use Rattle.std.proofs.lemmas.Bool.{and_parts, and_left}
use Rattle.std.specs.List.{AllByRecursion}
use Rattle.std.specs.Str.{bytes_eq}
use Rattle.std.proofs.lemmas.Slice.Eq.{bytes_eq-Decides}
use Rattle.lset_text.specs.declared.words.CallWord.{CallWord}
use Rattle.lset_text.specs.declared.words.CallWord.TheVariants.{Add, Remove, Contains, Ceiling}
use Rattle.lset_text.specs.declared.words.Version.{Version}
use Rattle.lset_text.specs.Parts.{cut_at, Lacks}
use Rattle.lset_text.specs.Spellings.{call_word_text}
use Rattle.lset_text.specs.Forms.{Piece, word, number, kind, call, reply, Tells, spelled, Fits, has_form, told, Form, Told, spell}
use Rattle.lset_text.specs.Forms.{line_with, AllFit, have_form, both, all_told, told_in, IsPiece, ArePieces, IsForm}
use Rattle.lset_text.proofs.PartLaws.{line_lacks, cut_line, line_from_cut, Lacks-below}
use Rattle.lset_text.proofs.NumberLaws.{number_ok, number_again, decimal_lacks}
use Rattle.lset_text.proofs.WordLaws.{same_bytes, kind_ok, kind_again, kind_lacks, call_in_ok, call_in_again, reply_ok}
use Rattle.lset_text.proofs.WordLaws.{reply_again, reply_lacks}
use Rattle.lset_text.proofs.ReadingLaws.{test_some}

-- ---- Lemmas about a single field

piece_ok : (v : Version) (p : Piece) (x : List ℕ) (t : Tells p) → IsPiece p → told v p x ≡ Some t → (x ≡ spelled p t) × Fits v p t
piece_ok v (word w) x t is e = (same_bytes x w (test_some (bytes_eq x w) (Some tt) t e).0, tt)
piece_ok v (number low high) x n is e = let k = number_ok low high x n is e in (k.0, (k.1, k.2))
piece_ok v kind x k is e = (kind_ok x k e, tt)
piece_ok v call x w is e = let k = call_in_ok v x w e in (k.1, k.0)
piece_ok v reply x r is e = let k = reply_ok v x r e in (k.1, k.0)

bytes_same : (w : List ℕ) → bytes_eq w w ≡ true
bytes_same w = (bytes_eq-Decides w w).1 refl

piece_again : (v : Version) (p : Piece) (t : Tells p) → IsPiece p → Fits v p t
    → (told v p (spelled p t) ≡ Some t) × (has_form v p (spelled p t) ≡ true)
piece_again v (word w) t is fits = (rw (bytes_same w) refl, bytes_same w)
piece_again v (number low high) n is fits = (number_again low high n is fits.0 fits.1, refl)
piece_again v kind k is fits = (kind_again k, rw (kind_again k) refl)
piece_again v call w is fits = let k = call_in_again v w fits in (k, rw k refl)
piece_again v reply r is fits = let k = reply_again v r fits in (k, (reply_ok v (spelled reply r) r k).2)

call_word_lacks : (byte : ℕ) (w : CallWord) → byte < 45 → Lacks byte (call_word_text w)
call_word_lacks byte Add low = Lacks-below 45 byte (codes "add") low refl
call_word_lacks byte Remove low = Lacks-below 45 byte (codes "remove") low refl
call_word_lacks byte Contains low = Lacks-below 45 byte (codes "contains") low refl
call_word_lacks byte Ceiling low = Lacks-below 45 byte (codes "ceiling") low refl

piece_lacks : (v : Version) (byte : ℕ) (p : Piece) (t : Tells p) → byte < 45 → IsPiece p → Fits v p t → Lacks byte (spelled p t)
piece_lacks v byte (word w) t low is fits = Lacks-below 45 byte w low is
piece_lacks v byte (number low high) n small is fits = decimal_lacks byte n (omega (arith, small)) (omega (arith, is, fits.1))
piece_lacks v byte kind k low is fits = kind_lacks byte k low
piece_lacks v byte call w low is fits = call_word_lacks byte w low
piece_lacks v byte reply r low is fits = reply_lacks byte v r fits low

-- ---- Lemmas about all fields of a line

some_is : {A : Type 0} (a b : A) → Some a ≡ Some b → a ≡ b
some_is a b e = cc

both_told : {A B : Type 0} (o : Option A) (p : Option B) (t : A × B) → both o p ≡ Some t → (o ≡ Some t.0) × (p ≡ Some t.1)
both_told {A} {B} None p t e = absurd cc
both_told {A} {B} (Some a) None t e = absurd cc
both_told {A} {B} (Some a) (Some b) t e =
    let same : (a, b) ≡ t = some_is (a, b) t e in
    (ap (λ (x : A × B). Some x.0) same, ap (λ (x : A × B). Some x.1) same)

cons_same : (a b : List ℕ) (xs ys : List (List ℕ)) → a ≡ b → xs ≡ ys → a ∷ xs ≡ b ∷ ys
cons_same a b xs ys e f = cc

pub form_ok : (v : Version) (f : Form) (xs : List (List ℕ)) (t : Told f) → ArePieces f → have_form v f xs ≡ true
    → all_told v f xs ≡ Some t → (xs ≡ spell f t) × AllFit v f t
form_ok v [] [] t are has e = (refl, tt)
form_ok v [] (x ∷ xs) t are has e = absurd cc
form_ok v (p ∷ f) [] t are has e = absurd cc
form_ok v (p ∷ f) (x ∷ xs) t are has e =
    let parts = both_told (told v p x) (all_told v f xs) t e in
    let first = piece_ok v p x t.0 are.0 parts.0 in
    let others = form_ok v f xs t.1 are.1 (and_parts (have_form v f xs) (has_form v p x) has).0 parts.1 in
    (cons_same x (spelled p t.0) xs (spell f t.1) first.0 others.0, (first.1, others.1))

pub form_again : (v : Version) (f : Form) (t : Told f) → ArePieces f → AllFit v f t
    → (all_told v f (spell f t) ≡ Some t) × (have_form v f (spell f t) ≡ true)
form_again v [] t are fit = (refl, refl)
form_again v (p ∷ f) t are fit =
    let first = piece_again v p t.0 are.0 fit.0 in
    let others = form_again v f t.1 are.1 fit.1 in
    (rw (first.0, others.0) refl, rw (others.1, first.1) refl)

form_lacks : (v : Version) (byte : ℕ) (f : Form) (t : Told f) → byte < 45 → ArePieces f → AllFit v f t
    → AllByRecursion (Lacks byte) (spell f t)
form_lacks v byte [] t low are fit = tt
form_lacks v byte (p ∷ f) t low are fit =
    (piece_lacks v byte p t.0 low are.0 fit.0, form_lacks v byte f t.1 low are.1 fit.1)

pub are_pieces : (f : Form) → IsForm f → ArePieces f
are_pieces [] is = tt
are_pieces (p ∷ f) is = is

pub too_many : (v : Version) (f : Form) (xs : List (List ℕ)) → length f < length xs → have_form v f xs ≡ false
too_many v [] [] lt = absurd (omega arith)
too_many v [] (x ∷ xs) lt = refl
too_many v (p ∷ f) [] lt = absurd (omega arith)
too_many v (p ∷ f) (x ∷ xs) lt = and_left (have_form v f xs) (has_form v p x) (too_many v f xs (omega (arith, lt)))

-- ---- Lemmas about a whole line

pub cut_form : (v : Version) (f : Form) (t : Told f) → IsForm f → AllFit v f t → cut_at 32 (line_with f t) ≡ spell f t
cut_form v [] t is fit = absurd is
cut_form v (p ∷ f) t is fit =
    cut_line (spelled p t.0) (spell f t.1) (piece_lacks v 32 p t.0 (omega arith) is.0 fit.0)
    (form_lacks v 32 f t.1 (omega arith) is.1 fit.1)

pub line_ok : (v : Version) (f : Form) (line : List ℕ) (t : Told f) → IsForm f → told_in v f (cut_at 32 line) ≡ Some t
    → (line ≡ line_with f t) × AllFit v f t
line_ok v f line t is e =
    let read = test_some (have_form v f (cut_at 32 line)) (all_told v f (cut_at 32 line)) t e in
    let found = form_ok v f (cut_at 32 line) t (are_pieces f is) read.0 read.1 in
    (line_from_cut line (spell f t) found.0, found.1)

pub line_again : (v : Version) (f : Form) (t : Told f) → IsForm f → AllFit v f t → told_in v f (cut_at 32 (line_with f t)) ≡ Some t
line_again v f t is fit =
    let again = form_again v f t (are_pieces f is) fit in
    ap (told_in v f) (cut_form v f t is fit) ∙ rw (again.1, again.0) refl

pub form_line_lacks : (v : Version) (f : Form) (t : Told f) → IsForm f → AllFit v f t → Lacks 10 (line_with f t)
form_line_lacks v f t is fit = line_lacks (spell f t) (form_lacks v 10 f t (omega arith) (are_pieces f is) fit)
