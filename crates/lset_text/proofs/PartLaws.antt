-- Lemmas about splitting a text into lines, splitting a line into fields, and joining the parts again.
use Rattle.std.proofs.Common.{◌≡◌, ℕ, ◌+◌, ◌-◌, ◌<◌, ◌≤◌, Bool, true, false, cond, eqb, ltb, not, ◌&&◌, List, [], ◌∷◌, ◌++◌}
use Rattle.std.proofs.Common.{length, take, drop, Some, None, refl, sym, ap, ◌∙◌, append_assoc, arith, length-append}
use Rattle.std.specs.Prelude.{position}
use Rattle.std.specs.List.{join_with_byte, position_or_len, AllByRecursion}
use Rattle.std.proofs.lemmas.Bool.{and_parts, eq-eqb, leb-true, ltb-false, ne_eqb, not-true}
use Rattle.std.proofs.lemmas.List.{append-nil, take_rest}
use Rattle.std.proofs.lemmas.List.Elements.{All-append, All-cons, All-nil}
use Rattle.std.proofs.lemmas.List.Quantifiers.{position-Some}
use Rattle.std.proofs.lemmas.List.Splits.{slice_split_none, slice_split_at, slice_split_first, length-slice_split}
use Rattle.std.proofs.lemmas.List.Splits.{join_with_byte-slice_split}
use Rattle.std.proofs.lemmas.List.Sums.{position_or_len_is, fails_before_first}
use Rattle.lset_text.specs.Parts.{cut_at, line_of, text_of, all_from, Lacks}

-- ---- Lemmas about splitting a text once

cond_none : {X : Type 0} (b : Bool) (x : X) → None ≡ cond b (Some x) None → b ≡ false
cond_none true x e = absurd cc
cond_none false x e = refl

pub uncut : (byte : ℕ) (text : List ℕ) → None ≡ position (λ b. eqb b byte) text → cut_at byte text ≡ text ∷ []
uncut byte text e =
    let first = position_or_len (λ b. eqb b byte) text in
    let past = ltb-false _ _ (cond_none (ltb first (length text)) first e) in
    slice_split_none (λ b. eqb b byte) text (λ k d lt. fails_before_first (λ b. eqb b byte) text k d (omega arith))

pub cut_first : (byte : ℕ) (text : List ℕ) (i : ℕ) → Some i ≡ position (λ b. eqb b byte) text
    → cut_at byte text ≡ take i text ∷ cut_at byte (take (length text - (i + 1)) (drop (i + 1) text))
cut_first byte text i e =
    let p : ℕ → Bool = λ b. eqb b byte in
    let found = position-Some p text i 0 (sym e) in
    let at : position_or_len p text ≡ i = position_or_len_is p text i 0 (omega (arith, found.0)) found.2 (λ lt. found.1) in
    rw (slice_split_first p text 0 (omega (arith, at, found.0)), at, take_rest text (i + 1)) refl

pub some_part : (byte : ℕ) (text : List ℕ) → 0 < length (cut_at byte text)
some_part byte text = omega (arith, length-slice_split (λ b. eqb b byte) text)

-- ---- Lemmas about bytes that do not occur in a text

-- Returns whether `byte` is absent from a text. Unlike the proposition `Lacks`, the test can be computed for a given
-- text.
abbrev pub is_free : ℕ → List ℕ → Bool
is_free byte [] = true
is_free byte (b ∷ bs) = not (eqb b byte) && is_free byte bs

pub Lacks-from_test : (byte : ℕ) (text : List ℕ) → is_free byte text ≡ true → Lacks byte text
Lacks-from_test byte [] h = All-nil (λ b. eqb b byte ≡ false)
Lacks-from_test byte (b ∷ bs) h =
    let parts = and_parts _ _ h in
    All-cons (λ b. eqb b byte ≡ false) b bs (not-true _ parts.0) (Lacks-from_test byte bs parts.1)

pub Lacks-below : (low byte : ℕ) (text : List ℕ) → byte < low → all_from low text ≡ true → Lacks byte text
Lacks-below low byte [] lt h = All-nil (λ b. eqb b byte ≡ false)
Lacks-below low byte (b ∷ bs) lt h =
    let parts = and_parts _ _ h in
    let above : low ≤ b = leb-true low b parts.0 in
    let other = ne_eqb b byte (λ e. absurd (omega (arith, above, e))) in
    All-cons (λ b. eqb b byte ≡ false) b bs other (Lacks-below low byte bs lt parts.1)

pub Lacks-append : (byte : ℕ) (xs ys : List ℕ) → Lacks byte xs → Lacks byte ys → Lacks byte (xs ++ ys)
Lacks-append byte xs ys h k = All-append (λ b. eqb b byte ≡ false) xs ys h k

pub Lacks-joined : (byte between : ℕ) (pieces : List (List ℕ)) → (between ≡ byte → ⊥) → AllByRecursion (Lacks byte) pieces
    → Lacks byte (join_with_byte between pieces)
Lacks-joined byte between [] ne h = All-nil (λ b. eqb b byte ≡ false)
Lacks-joined byte between (x ∷ []) ne h = h.0
Lacks-joined byte between (x ∷ y ∷ ys) ne h =
    let others = Lacks-joined byte between (y ∷ ys) ne h.1 in
    let rest = All-cons (λ b. eqb b byte ≡ false) between (join_with_byte between (y ∷ ys)) (ne_eqb between byte ne) others in
    All-append (λ b. eqb b byte ≡ false) x (between ∷ join_with_byte between (y ∷ ys)) h.0 rest

pub line_lacks : (pieces : List (List ℕ)) → AllByRecursion (Lacks 10) pieces → Lacks 10 (line_of pieces)
line_lacks pieces h = Lacks-joined 10 32 pieces (λ bad. absurd (omega (arith, bad))) h

-- ---- Lemmas about splitting a line into fields

pub cut_joined : (byte : ℕ) (x : List ℕ) (xs : List (List ℕ)) → Lacks byte x → AllByRecursion (Lacks byte) xs
    → cut_at byte (join_with_byte byte (x ∷ xs)) ≡ x ∷ xs
cut_joined byte x [] lacks tt = slice_split_none (λ b. eqb b byte) x lacks
cut_joined byte x (y ∷ ys) lacks more =
    let others = cut_joined byte y ys more.0 more.1 in
    let first = slice_split_at (λ b. eqb b byte) x byte (join_with_byte byte (y ∷ ys)) lacks (eq-eqb byte byte refl) in
    first ∙ ap (λ (ps : List (List ℕ)). x ∷ ps) others

pub cut_line : (x : List ℕ) (xs : List (List ℕ)) → Lacks 32 x → AllByRecursion (Lacks 32) xs
    → cut_at 32 (line_of (x ∷ xs)) ≡ x ∷ xs
cut_line x xs lacks more = cut_joined 32 x xs lacks more

pub joined_cut : (byte : ℕ) (text : List ℕ) (parts : List (List ℕ)) → cut_at byte text ≡ parts → text ≡ join_with_byte byte parts
joined_cut byte text parts e = sym (join_with_byte-slice_split byte text) ∙ ap (join_with_byte byte) e

pub line_from_cut : (line : List ℕ) (pieces : List (List ℕ)) → cut_at 32 line ≡ pieces → line ≡ line_of pieces
line_from_cut line pieces e = joined_cut 32 line pieces e

-- ---- Lemmas about splitting a text into lines

pub cut_text : (lines : List (List ℕ)) (rest : List ℕ) → AllByRecursion (Lacks 10) lines
    → cut_at 10 (text_of lines ++ rest) ≡ lines ++ cut_at 10 rest
cut_text [] rest h = refl
cut_text (x ∷ xs) rest h =
    let regrouped : text_of (x ∷ xs) ++ rest ≡ x ++ 10 ∷ (text_of xs ++ rest) = simp append_assoc in
    let first = slice_split_at (λ b. eqb b 10) x 10 (text_of xs ++ rest) h.0 refl in
    ap (cut_at 10) regrouped ∙ first ∙ ap (λ (ps : List (List ℕ)). x ∷ ps) (cut_text xs rest h.1)

join_more : (x : List ℕ) (parts : List (List ℕ)) → 0 < length parts
    → join_with_byte 10 (x ∷ parts) ≡ x ++ 10 ∷ join_with_byte 10 parts
join_more x [] some = absurd (omega arith)
join_more x (y ∷ ys) some = refl

join_text : (lines : List (List ℕ)) (rest : List ℕ) → join_with_byte 10 (lines ++ cut_at 10 rest) ≡ text_of lines ++ rest
join_text [] rest = join_with_byte-slice_split 10 rest
join_text (x ∷ xs) rest =
    let some : 0 < length (xs ++ cut_at 10 rest) = omega (arith, length-append xs (cut_at 10 rest), some_part 10 rest) in
    let others = ap (λ (t : List ℕ). x ++ 10 ∷ t) (join_text xs rest) in
    let regrouped : text_of (x ∷ xs) ++ rest ≡ x ++ 10 ∷ (text_of xs ++ rest) = simp append_assoc in
    join_more x (xs ++ cut_at 10 rest) some ∙ others ∙ sym regrouped

pub text_from_cut : (text : List ℕ) (lines : List (List ℕ)) (rest : List ℕ) → cut_at 10 text ≡ lines ++ cut_at 10 rest
    → text ≡ text_of lines ++ rest
text_from_cut text lines rest e = joined_cut 10 text (lines ++ cut_at 10 rest) e ∙ join_text lines rest

pub text_from_lines : (text : List ℕ) (lines : List (List ℕ)) → cut_at 10 text ≡ lines ++ [] ∷ [] → text ≡ text_of lines
text_from_lines text lines e = text_from_cut text lines [] e ∙ append-nil (text_of lines)

pub cut_lines : (lines : List (List ℕ)) → AllByRecursion (Lacks 10) lines → cut_at 10 (text_of lines) ≡ lines ++ [] ∷ []
cut_lines lines h = ap (cut_at 10) (sym (append-nil (text_of lines))) ∙ cut_text lines [] h
