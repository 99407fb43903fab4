-- Lemmas about the sections of a file. A section has one line for each item of a list, for example one line `key K` for
-- each key K.
use Rattle.std.proofs.Common.{◌≡◌, ℕ, ◌<◌, ◌≤◌, ◌^◌, List, [], ◌∷◌, ◌++◌, map, length, true, Ok, refl, sym, ap, subst, arith}
use Rattle.std.proofs.Common.{append_assoc, length-append}
use Rattle.std.specs.List.{AllByRecursion}
use Rattle.std.specs.List.Sorted.{IsStrictlyIncreasing}
use Rattle.std.proofs.lemmas.List.{append-nil, map_push}
use Rattle.std.proofs.lemmas.List.Elements.{recursion_from_All}
use Rattle.lset_words.specs.declared.TheConstants.{MOST_OPENING}
use Rattle.lset_words.specs.Words.{Opening, Opens}
use Rattle.lset_text.specs.declared.words.Version.{Version}
use Rattle.lset_text.specs.declared.words.Version.TheVariants.{One, Two}
use Rattle.lset_text.specs.Lines.{Grammar, Leads}
use Rattle.lset_text.specs.Openings.{opening_line, opening_lines, is_above, HasOpening}
use Rattle.lset_text.proofs.OpeningLaws.{above_before}
use Rattle.lset_text.proofs.LineLaws.{items_lead}

-- ---- Lemmas about an item of a list

at_seam : {X : Type 0} (P : X → Type 0) (front more : List X) (x : X) → AllByRecursion P (front ++ x ∷ more) → P x
at_seam P [] more x all = all.0
at_seam P (y ∷ ys) more x all = at_seam P ys more x all.1

pub middle : {X : Type 0} (P : X → Type 0) (front more xs : List X) (x : X) → front ++ x ∷ more ≡ xs → AllByRecursion P xs → P x
middle P front more xs x is all = at_seam P front more x (subst (AllByRecursion P) (sym is) all)

pub shorter : {X : Type 0} (front more xs : List X) (x : X) → front ++ x ∷ more ≡ xs → length front < length xs
shorter front more xs x is = let long = ap length is in omega (arith, long, length-append front (x ∷ more))

-- ---- Lemmas about a new line at the end of a section

pub push_last : {X : Type 0} (f : List (List ℕ)) (line : X → List ℕ) (xs : List X) (x : X)
    → f ++ map line (xs ++ x ∷ []) ≡ f ++ map line xs ++ line x ∷ []
push_last f line xs x = rw (map_push line xs x) (simp append_assoc)

pub push_before : {X : Type 0} (f a : List (List ℕ)) (line : X → List ℕ) (xs : List X) (x : X) → a ≡ []
    → f ++ map line (xs ++ x ∷ []) ++ a ≡ f ++ map line xs ++ a ++ line x ∷ []
push_before f a line xs x none = rw (none, map_push line xs x) (simp (append-nil, append_assoc))

-- ---- Lemmas about the current section of the reader

abbrev pub later : {X T : Type 0} → List X → T → T → T
later [] s t = s
later (x ∷ xs) s t = t

pub later_pushed : {X T : Type 0} (xs : List X) (x : X) (s t : T) → t ≡ later (xs ++ x ∷ []) s t
later_pushed [] x s t = refl
later_pushed (y ∷ ys) x s t = refl

-- ---- Lemmas about reading a whole section, up to its maximum number of lines

pub section_leads : {S X : Type 0} (g : Grammar S) (state : List X → S) (line : X → List ℕ) (P : X → Type 0) (most : ℕ)
    (xs : List X) → length xs ≤ most → AllByRecursion P xs
    → ((front more : List X) (x : X) → front ++ x ∷ more ≡ xs → length front < most → P x
    → g.step (state front) (line x) ≡ Ok (state (front ++ x ∷ []))) → Leads g (state []) (map line xs) (state xs)
section_leads g state line P most xs few are each =
    items_lead g state (λ n. map line) (λ n. line) (λ n. refl) (λ n x ys. refl) [] xs
    (λ front more x is. each front more x is (omega (arith, shorter front more xs x is, few)) (middle P front more xs x is are))

pub openings_lead : {S : Type 0} (g : Grammar S) (state : List ℕ → S) (v : Version) (o : Opening) → Opens o
    → HasOpening v o.keys
    → ((front : List ℕ) (k : ℕ) → v ≡ Two → length front < MOST_OPENING → k < 2 ^ 32 → is_above front k ≡ true
    → g.step (state front) (opening_line k) ≡ Ok (state (front ++ k ∷ [])))
    → Leads g (state []) (opening_lines o.keys) (state o.keys)
openings_lead g state One o is none each =
    subst (λ (ks : List ℕ). Leads g (state []) (opening_lines ks) (state ks)) (sym none) refl
openings_lead g state Two o is some each =
    section_leads g state opening_line (λ k. k < 2 ^ 32) MOST_OPENING o.keys is.within.opens
    (recursion_from_All (λ (k : ℕ). k < 2 ^ 32) o.keys is.low)
    (λ front more k same room low. each front k refl room low
    (above_before front k more (subst IsStrictlyIncreasing (sym same) is.increasing)))
