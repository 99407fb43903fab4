-- Proof: a file and the value read from it determine each other, for every grammar.
use Rattle.std.proofs.Common.{◌≡◌, ℕ, ◌<◌, false, List, [], ◌∷◌, ◌++◌, length, Result, Ok, Err, refl, sym, ap, ◌∙◌, subst}
use Rattle.std.proofs.Common.{append_assoc, arith}
use Rattle.std.specs.Prelude.{IfErr}
use Rattle.std.specs.List.{AllByRecursion}
use Rattle.std.specs.Str.{bytes_eq}
use Rattle.std.proofs.lemmas.Slice.Eq.{bytes_eq-Decides}
use Rattle.lset_text.specs.declared.words.Version.{Version}
use Rattle.lset_text.specs.declared.words.Version.TheVariants.{One, Two}
use Rattle.lset_text.specs.declared.headers.Header.{Header}
use Rattle.lset_text.specs.declared.causes.Cause.TheVariants.{Memory}
use Rattle.lset_text.specs.declared.causes.LineFault.{LineFault}
use Rattle.lset_text.specs.Parts.{cut_at, text_of, Lacks}
use Rattle.lset_text.specs.Headers.{header_of, header_lines, version_in, IsHeader}
use Rattle.lset_text.specs.Lines.{lines_from, Leads, IsFaultlessTo, IsGoodLine}
use Rattle.lset_text.specs.Texts.{TextGrammar, last_of_header, first_line, text_from}
use Rattle.lset_text.proofs.PartLaws.{some_part, text_from_lines, cut_lines}
use Rattle.lset_text.proofs.ReadingLaws.{bind_ok}
use Rattle.lset_text.proofs.HeaderLaws.{header_ok, header_again, header_lacks}
use Rattle.lset_text.proofs.LineLaws.{faultless_from, lines_hold, lines_again, leads_all}

-- ---- Lemmas about the header and the lines after it

pub text_refused : {S : Type 0} (g : TextGrammar S) (parts : List (List ℕ)) (e : LineFault)
    → header_of g.title parts ≡ Err e → text_from g parts ≡ Err e
unfolding text_from
text_refused g parts e is = rw is refl

pub text_after : {S : Type 0} (g : TextGrammar S) (parts rest : List (List ℕ)) (h : Header)
    → header_of g.title parts ≡ Ok (h, rest) → text_from g parts ≡ lines_from g.lines first_line (g.start h) rest
unfolding text_from
text_after g parts rest h is = rw is refl

pub header_good : {S : Type 0} (g : TextGrammar S) (bytes rest : List ℕ) (h : Header) → header_of g.title (cut_at 10 bytes) ≡ Ok (h, cut_at 10 rest)
    → IsGoodLine 1 (cut_at 10 bytes) (text_from g (cut_at 10 bytes)) last_of_header
header_good g bytes rest h is =
    let long = ap length (header_ok g.title (cut_at 10 bytes) (h, cut_at 10 rest) is).0 in (
      omega arith,
      omega (arith, long, some_part 10 rest),
      subst (IsFaultlessTo last_of_header) (sym (text_after g (cut_at 10 bytes) (cut_at 10 rest) h is))
          (faultless_from g.lines last_of_header first_line (g.start h) (cut_at 10 rest) (omega arith)),
    )

pub good_in_text : {S : Type 0} (g : TextGrammar S) (bytes rest : List ℕ) (h : Header) (line : ℕ)
    → header_of g.title (cut_at 10 bytes) ≡ Ok (h, cut_at 10 rest)
    → IsGoodLine first_line (cut_at 10 rest) (lines_from g.lines first_line (g.start h) (cut_at 10 rest)) line
    → IsGoodLine 1 (cut_at 10 bytes) (text_from g (cut_at 10 bytes)) line
good_in_text g bytes rest h line is good =
    let long = ap length (header_ok g.title (cut_at 10 bytes) (h, cut_at 10 rest) is).0 in (
      omega (arith, good.0),
      omega (arith, long, good.1),
      subst (IsFaultlessTo line) (sym (text_after g (cut_at 10 bytes) (cut_at 10 rest) h is)) good.2,
    )

pub good_after : {S X : Type 0} (g : TextGrammar S) (bytes rest : List ℕ) (h : Header)
    (r : Result X LineFault) → header_of g.title (cut_at 10 bytes) ≡ Ok (h, cut_at 10 rest)
    → IfErr r (λ e. e.cause ≡ Memory → IsGoodLine first_line (cut_at 10 rest)
    (lines_from g.lines first_line (g.start h) (cut_at 10 rest)) e.line)
    → IfErr r (λ e. e.cause ≡ Memory → (last_of_header < e.line)
    × IsGoodLine 1 (cut_at 10 bytes) (text_from g (cut_at 10 bytes)) e.line)
good_after g bytes rest h (Ok x) is good = tt
good_after g bytes rest h (Err e) is good = λ m.
    let line = good m in (omega (arith, line.0), good_in_text g bytes rest h e.line is line)

-- ---- Proof that reading inverts writing

pub text_found : {S : Type 0} (g : TextGrammar S) (P : S → Type 0) (text : S → List (List ℕ))
    → ((h : Header) → IsHeader h → P (g.start h) × (text (g.start h) ≡ header_lines g.title h))
    → ((s t : S) (x : List ℕ) → P s → g.lines.step s x ≡ Ok t → P t × (text t ≡ text s ++ x ∷ []))
    → ((s t : S) → g.lines.ends s ≡ Ok t → s ≡ t) → (bytes : List ℕ) (t : S) → text_from g (cut_at 10 bytes) ≡ Ok t
    → (bytes ≡ text_of (text t)) × (g.lines.ends t ≡ Ok t) × P t
unfolding text_from
text_found g P text begins one same bytes t is =
    let parts = cut_at 10 bytes in
    let head = bind_ok (header_of g.title parts)
    (λ head. lines_from g.lines first_line (g.start head.0) head.1) t is in
    let header = header_ok g.title parts head.0 head.1 in
    let start = begins head.0.0 header.1 in
    let found = lines_hold g.lines P text one same first_line (g.start head.0.0) t head.0.1 header.2 start.0 head.2 in
    let all = header.0 ∙ ap (λ (ls : List (List ℕ)). ls ++ head.0.1) (sym start.1) ∙ found.0 in
    (text_from_lines bytes (text t) all, found.1, found.2)

pub all_both : {X : Type 0} (P : X → Type 0) (xs ys : List X) → AllByRecursion P xs → AllByRecursion P ys → AllByRecursion P (xs ++ ys)
all_both P [] ys front back = back
all_both P (x ∷ xs) ys front back = (front.0, all_both P xs ys front.1 back)

some_first : (ls : List (List ℕ)) → (y : List ℕ) × (more : List (List ℕ)) × (ls ++ [] ∷ [] ≡ y ∷ more)
some_first [] = ([], [], refl)
some_first (l ∷ ls) = (l, ls ++ [] ∷ [], refl)

pub text_again : {S : Type 0} (g : TextGrammar S) (P : S → Type 0)
    → ((s t : S) (x : List ℕ) → P s → g.lines.step s x ≡ Ok t → P t × Lacks 10 x)
    → (h : Header) (xs : List (List ℕ)) (t : S) → Lacks 10 g.title → IsHeader h → P (g.start h)
    → Leads g.lines (g.start h) xs t → g.lines.ends t ≡ Ok t
    → (cut_at 10 (text_of (header_lines g.title h ++ xs)) ≡ header_lines g.title h ++ (xs ++ [] ∷ []))
    × (text_from g (header_lines g.title h ++ (xs ++ [] ∷ [])) ≡ Ok t)
text_again g P free h xs t title_free is start leads at_end =
    let lines = header_lines g.title h in
    let all_free = all_both (Lacks 10) lines xs (header_lacks g.title h title_free is)
    (leads_all g.lines P (Lacks 10) free (g.start h) t xs start leads) in
    let some = some_first xs in
    let head : header_of g.title (lines ++ (xs ++ [] ∷ [])) ≡ Ok (h, xs ++ [] ∷ []) =
    rw some.2 (header_again g.title h some.0 some.1 is) in (
      cut_lines (lines ++ xs) all_free ∙ append_assoc lines xs ([] ∷ []),
      text_after g (lines ++ (xs ++ [] ∷ [])) (xs ++ [] ∷ []) h head
          ∙ lines_again g.lines first_line (g.start h) t xs leads at_end,
    )

pub version_again : {S : Type 0} (g : Version → TextGrammar S) → bytes_eq (g One).title (g Two).title ≡ false
    → (v : Version) (h : Header) (rest : List (List ℕ)) → version_in (g Two).title (header_lines (g v).title h ++ rest) ≡ v
version_again g other One h rest = rw other refl
version_again g other Two h rest = let same = (bytes_eq-Decides (g Two).title (g Two).title).1 refl in rw same refl
