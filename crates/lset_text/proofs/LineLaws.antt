-- Lemmas about a loop that reads a text line by line, for every grammar. The record `Stands` is the loop's invariant.
use Rattle.std.proofs.Common.{◌≡◌, ℕ, ◌+◌, ◌<◌, ◌≤◌, ◌⊎◌, inl, inr, Bool, true, false, cond, eqb, List, [], ◌∷◌, ◌++◌, length}
use Rattle.std.proofs.Common.{get_or, Result, Ok, Err, refl, sym, ap, subst, ◌∙◌, append_assoc, length-append, arith}
use Rattle.std.specs.List.{AllByRecursion}
use Rattle.std.proofs.Math.Seq.{get_or-append_seam}
use Rattle.std.proofs.lemmas.Bool.{eqb-true, ne_eqb}
use Rattle.std.proofs.lemmas.List.{append-nil, nil_from_length}
use Rattle.lset_text.specs.declared.causes.Cause.{Cause}
use Rattle.lset_text.specs.declared.causes.Cause.TheVariants.{Memory}
use Rattle.lset_text.specs.declared.causes.LineFault.{LineFault}
use Rattle.lset_text.specs.Causes.{fault, unended}
use Rattle.lset_text.specs.Parts.{cut_at}
use Rattle.lset_text.specs.Results.{◌>>=◌, map_fault}
use Rattle.lset_text.specs.Lines.{Grammar, lines_from, Leads, IsFaultlessTo, IsGoodLine, Stands}
use Rattle.lset_text.proofs.PartLaws.{some_part}
use Rattle.lset_text.proofs.ReadingLaws.{bind_ok, map_fault_ok}

-- ---- Lemmas about reading one complete line

lines_go : {S : Type 0} (g : Grammar S) (line : ℕ) (s t : S) (x : List ℕ) (parts : List (List ℕ)) → 0 < length parts
    → g.step s x ≡ Ok t → lines_from g line s (x ∷ parts) ≡ lines_from g (line + 1) t parts
unfolding lines_from
lines_go g line s t x [] some is = absurd (omega arith)
lines_go g line s t x (y ∷ more) some is = rw is refl

lines_stop : {S : Type 0} (g : Grammar S) (d : Cause) (line : ℕ) (s : S) (x : List ℕ) (parts : List (List ℕ)) → 0 < length parts
    → g.step s x ≡ Err d → lines_from g line s (x ∷ parts) ≡ Err (fault line d)
unfolding lines_from
lines_stop g d line s x [] some is = absurd (omega arith)
lines_stop g d line s x (y ∷ more) some is = rw is refl

-- ---- Lemmas about the line number of an error

pub bind_err : {A B E : Type 0} (r : Result A E) (f : A → Result B E) (d : E) → (r >>= f) ≡ Err d
    → (r ≡ Err d) ⊎ ((x : A) × (r ≡ Ok x) × (f x ≡ Err d))
bind_err (Ok x) f d is = inr (x, refl, is)
bind_err (Err e) f d is = inl cc

fault_line : {A : Type 0} (line : ℕ) (r : Result A Cause) (e : LineFault) → map_fault (fault line) r ≡ Err e → e.line ≡ line
fault_line line (Ok x) e bad = absurd cc
fault_line line (Err d) e bad = let same : fault line d ≡ e = cc in ap (λ (f : LineFault). f.line) (sym same)

faults_below : {S : Type 0} (g : Grammar S) (line : ℕ) (s : S) (parts : List (List ℕ)) (e : LineFault)
    → lines_from g line s parts ≡ Err e → line ≤ e.line
unfolding lines_from
faults_below g line s [] e bad = omega (arith, fault_line line (g.ends s) e bad)
faults_below g line s (x ∷ []) e bad = let same : e.line ≡ line = fault_line line _ e bad in omega arith
faults_below {S} g line s (x ∷ y ∷ more) e bad =
    elim (bind_err (map_fault (fault line) (g.step s x)) (λ (t : S). lines_from g (line + 1) t (y ∷ more)) e bad) [
      | inl here ↦ omega (arith, fault_line line (g.step s x) e here)
      | inr later ↦ omega (arith, faults_below g (line + 1) later.0 (y ∷ more) e later.2)
    ]

pub faultless_from : {S : Type 0} (g : Grammar S) (above line : ℕ) (s : S) (parts : List (List ℕ)) → above < line
    → IsFaultlessTo above (lines_from g line s parts)
faultless_from {S} g above line s parts below =
    faultless (lines_from g line s parts) (λ e bad. omega (arith, below, faults_below g line s parts e bad))
  where
    faultless : (r : Result S LineFault) → ((e : LineFault) → r ≡ Err e → above < e.line) → IsFaultlessTo above r
    faultless (Ok x) all = tt
    faultless (Err e) all = all e refl

-- ---- Lemmas about one iteration of the loop

pub starts : {S : Type 0} (g : Grammar S) (first : ℕ) (text : List ℕ) (s : S)
    → Stands g first text (lines_from g first s (cut_at 10 text)) first s text
starts g first text s = record { so_far = refl; above = []; parts = refl; number = omega arith; left = omega arith }

pub goes_on : {S : Type 0} (g : Grammar S) (first : ℕ) (text : List ℕ) (read : Result S LineFault) (line : ℕ) (s t : S)
    (rest x after : List ℕ) → cut_at 10 rest ≡ x ∷ cut_at 10 after → length x + length after + 1 ≡ length rest → g.step s x ≡ Ok t
    → Stands g first text read line s rest → Stands g first text read (line + 1) t after
goes_on g first text read line s t rest x after parts shorter is stands = record {
  so_far = sym (lines_go g line s t x (cut_at 10 after) (some_part 10 after) is) ∙ ap (lines_from g line s) (sym parts)
      ∙ stands.so_far;
  above = stands.above ++ x ∷ [];
  parts = stands.parts ∙ ap (λ (ps : List (List ℕ)). stands.above ++ ps) parts
      ∙ sym (append_assoc stands.above (x ∷ []) (cut_at 10 after));
  number = omega (arith, stands.number, length-append stands.above (x ∷ []));
  left = omega (arith, stands.left, shorter);
}

pub stops : {S : Type 0} (g : Grammar S) (first : ℕ) (text : List ℕ) (read : Result S LineFault) (line : ℕ) (s : S) (d : Cause)
    (rest x after : List ℕ) → cut_at 10 rest ≡ x ∷ cut_at 10 after → g.step s x ≡ Err d
    → Stands g first text read line s rest → read ≡ Err (fault line d)
stops g first text read line s d rest x after parts is stands =
    sym stands.so_far ∙ ap (lines_from g line s) parts ∙ lines_stop g d line s x (cut_at 10 after) (some_part 10 after) is

pub not_ended : {S : Type 0} (g : Grammar S) (first : ℕ) (text : List ℕ) (read : Result S LineFault) (line : ℕ) (s : S)
    (rest : List ℕ) → cut_at 10 rest ≡ rest ∷ [] → (length rest ≡ 0 → ⊥)
    → Stands g first text read line s rest → read ≡ Err (unended line)
unfolding lines_from
not_ended g first text read line s rest parts some stands =
    sym stands.so_far ∙ rw (parts, ne_eqb (length rest) 0 some) refl

pub is_done : {S : Type 0} (g : Grammar S) (first : ℕ) (text : List ℕ) (read : Result S LineFault) (line : ℕ) (s : S)
    (rest : List ℕ) → length rest ≡ 0 → Stands g first text read line s rest → read ≡ map_fault (fault line) (g.ends s)
unfolding lines_from
is_done g first text read line s rest none stands =
    let empty : rest ≡ [] = nil_from_length rest none in sym stands.so_far ∙ rw empty refl

pub is_good : {S : Type 0} (g : Grammar S) (first : ℕ) (text : List ℕ) (read : Result S LineFault) (line : ℕ) (s t : S) (rest x after : List ℕ)
    → cut_at 10 rest ≡ x ∷ cut_at 10 after → g.step s x ≡ Ok t
    → Stands g first text read line s rest → IsGoodLine first (cut_at 10 text) read line
is_good {S} g first text read line s t rest x after parts is stands =
    let next = lines_from g (line + 1) t (cut_at 10 after) in
    let more : next ≡ read = sym (lines_go g line s t x (cut_at 10 after) (some_part 10 after) is)
    ∙ ap (lines_from g line s) (sym parts) ∙ stands.so_far in
    let split = stands.parts ∙ ap (λ (ps : List (List ℕ)). stands.above ++ ps) parts in
    let counted = ap length split ∙ length-append stands.above (x ∷ cut_at 10 after) in (
      omega (arith, stands.number),
      omega (arith, stands.number, counted, some_part 10 after),
      rw (← more) (faultless_from g line (line + 1) t (cut_at 10 after) (omega arith)),
    )

module _ {S : Type 0} (g : Grammar S) (first : ℕ) (text : List ℕ) (read : Result S LineFault) (line : ℕ) (s : S)
    (rest x after : List ℕ) (parts : cut_at 10 rest ≡ x ∷ cut_at 10 after) (stands : Stands g first text read line s rest)
    (cause : Cause) where
  abbrev IsNotTaken : Type 0
  IsNotTaken = (g.step s x ≡ Err cause) ⊎ ((cause ≡ Memory) × (t : S) × (g.step s x ≡ Ok t))

  pub refused : IsNotTaken → (cause ≡ Memory → ⊥) → read ≡ Err (fault line cause)
  refused (inl is) other = stops g first text read line s cause rest x after parts is stands
  refused (inr none) other = absurd (other none.0)

  pub ran_out : (g.step s x ≡ Err Memory → ⊥) → IsNotTaken → cause ≡ Memory → IsGoodLine first (cut_at 10 text) read line
  ran_out never (inl is) same = absurd (never (is ∙ ap (λ (c : Cause). Err c) same))
  ran_out never (inr none) same = is_good g first text read line s none.1 rest x after parts none.2 stands

pub line_at : {S : Type 0} (g : Grammar S) (first : ℕ) (text : List ℕ) (read : Result S LineFault) (line : ℕ) (s : S)
    (rest x after : List ℕ) → cut_at 10 rest ≡ x ∷ cut_at 10 after → (stands : Stands g first text read line s rest)
    → get_or (cut_at 10 text) (length stands.above) [] ≡ x
line_at g first text read line s rest x after parts stands =
    ap (λ (ps : List (List ℕ)). get_or ps (length stands.above) []) (cc (stands.parts, parts))
    ∙ get_or-append_seam stands.above x (cut_at 10 after) []

-- ---- Proof that reading inverts writing

ended : {S : Type 0} (g : Grammar S) (line : ℕ) (other : Cause) (b : Bool) (s t : S)
    → map_fault (fault line) (cond b (g.ends s) (Err other)) ≡ Ok t → (b ≡ true) × (g.ends s ≡ Ok t)
ended g line other true s t e = (refl, map_fault_ok (fault line) (g.ends s) t e)
ended g line other false s t e = absurd cc

pub lines_hold : {S : Type 0} (g : Grammar S) (P : S → Type 0) (text : S → List (List ℕ))
    → ((s t : S) (x : List ℕ) → P s → g.step s x ≡ Ok t → P t × (text t ≡ text s ++ x ∷ []))
    → ((s t : S) → g.ends s ≡ Ok t → s ≡ t)
    → (line : ℕ) (s t : S) (parts : List (List ℕ)) → 0 < length parts → P s → lines_from g line s parts ≡ Ok t
    → (text s ++ parts ≡ text t ++ [] ∷ []) × (g.ends t ≡ Ok t) × P t
unfolding lines_from
lines_hold g P text one same line s t [] some holds is = absurd (omega arith)
lines_hold {S} g P text one same line s t (x ∷ []) some holds is =
    let last = ended g line _ (eqb (length x) 0) s t is in
    let none : x ≡ [] = nil_from_length x (eqb-true _ _ last.0) in
    let at_end = same s t last.1 in (
      ap (λ (y : List ℕ). text s ++ y ∷ []) none ∙ ap (λ (u : S). text u ++ [] ∷ []) at_end,
      subst (λ (u : S). g.ends u ≡ Ok t) at_end last.1,
      subst P at_end holds,
    )
lines_hold {S} g P text one same line s t (x ∷ y ∷ more) some holds is =
    let next = bind_ok (map_fault (fault line) (g.step s x)) (λ (u : S). lines_from g (line + 1) u (y ∷ more)) t is in
    let moved = one s next.0 x holds (map_fault_ok (fault line) (g.step s x) next.0 next.1) in
    let others = lines_hold g P text one same (line + 1) next.0 t (y ∷ more) (omega arith) moved.0 next.2 in (
      sym (append_assoc (text s) (x ∷ []) (y ∷ more)) ∙ ap (λ (ls : List (List ℕ)). ls ++ y ∷ more) (sym moved.1) ∙ others.0,
      others.1,
      others.2,
    )

some_more : (ls : List (List ℕ)) → 0 < length (ls ++ [] ∷ [])
some_more [] = omega arith
some_more (l ∷ ls) = omega arith

pub lines_again : {S : Type 0} (g : Grammar S) (line : ℕ) (s t : S) (xs : List (List ℕ)) → Leads g s xs t
    → g.ends t ≡ Ok t → lines_from g line s (xs ++ [] ∷ []) ≡ Ok t
unfolding lines_from
lines_again g line s t [] leads at_end = rw (leads, at_end) refl
lines_again g line s t (x ∷ xs) leads at_end =
    lines_go g line s leads.0 x (xs ++ [] ∷ []) (some_more xs) leads.1 ∙ lines_again g (line + 1) leads.0 t xs leads.2 at_end

pub leads_on : {S : Type 0} (g : Grammar S) (s t u : S) (xs ys : List (List ℕ)) → Leads g s xs t → Leads g t ys u
    → Leads g s (xs ++ ys) u
leads_on {S} g s t u [] ys a b = subst (λ (v : S). Leads g v ys u) (sym a) b
leads_on g s t u (x ∷ xs) ys a b = (a.0, a.1, leads_on g a.0 t u xs ys a.2 b)

pub leads_all : {S : Type 0} (g : Grammar S) (P : S → Type 0) (Q : List ℕ → Type 0)
    → ((s t : S) (x : List ℕ) → P s → g.step s x ≡ Ok t → P t × Q x)
    → (s t : S) (xs : List (List ℕ)) → P s → Leads g s xs t → AllByRecursion Q xs
leads_all g P Q one s t [] holds leads = tt
leads_all g P Q one s t (x ∷ xs) holds leads =
    let moved = one s leads.0 x holds leads.1 in (moved.1, leads_all g P Q one leads.0 t xs moved.0 leads.2)

pub items_lead : {S X : Type 0} (g : Grammar S) (state : List X → S) (lines : ℕ → List X → List (List ℕ))
    (line : ℕ → X → List ℕ) → ((n : ℕ) → lines n [] ≡ [])
    → ((n : ℕ) (x : X) (xs : List X) → lines n (x ∷ xs) ≡ line n x ∷ lines (n + 1) xs) → (before xs : List X)
    → ((front more : List X) (x : X) → front ++ x ∷ more ≡ before ++ xs
    → g.step (state front) (line (length front) x) ≡ Ok (state (front ++ x ∷ [])))
    → Leads g (state before) (lines (length before) xs) (state (before ++ xs))
items_lead g state lines line none some before [] each = rw (none (length before)) (ap state (sym (append-nil before)))
items_lead {X = X} g state lines line none some before (x ∷ xs) each =
    let next : List X = before ++ x ∷ [] in
    let grouped : next ++ xs ≡ before ++ x ∷ xs = append_assoc before (x ∷ []) xs in
    let counted : length next ≡ length before + 1 = length-append before (x ∷ []) in
    let rest = items_lead g state lines line none some next xs (λ front more y is. each front more y (is ∙ grouped)) in
    let named = subst (λ (n : ℕ). Leads g (state next) (lines n xs) (state (next ++ xs))) counted rest in
    let all = subst (λ (ys : List X). Leads g (state next) (lines (length before + 1) xs) (state ys)) grouped named in
    rw (some (length before) x xs) (state next, each before xs x refl, all)
