-- Proof: a line and the value read from it determine each other, for every list of kinds of lines.
use Rattle.std.proofs.Common.{◌≡◌, ◌⊎◌, inl, inr, ℕ, Bool, true, false, cond, List, [], ◌∷◌, map, length, ◌<◌, Option, Some, None}
use Rattle.std.proofs.Common.{Result, Ok, Err, refl, sym, ap, subst, ◌∙◌}
use Rattle.std.specs.List.{AllByRecursion}
use Rattle.lset_text.specs.declared.words.Version.{Version}
use Rattle.lset_text.specs.declared.causes.Cause.{Cause}
use Rattle.lset_text.specs.declared.causes.Cause.TheVariants.{Number}
use Rattle.lset_text.specs.Parts.{cut_at, line_of, Lacks}
use Rattle.lset_text.specs.Forms.{Told, spell, AllFit, have_form, all_told, IsForm}
use Rattle.lset_text.specs.Kinds.{LineKind, kind_as, made, first_of, line_in}
use Rattle.lset_text.specs.Results.{or_fail}
use Rattle.lset_text.proofs.PartLaws.{line_from_cut}
use Rattle.lset_text.proofs.ReadingLaws.{or_fail_ok, ok_is}
use Rattle.lset_text.proofs.FormLaws.{form_ok, form_again, cut_form, are_pieces, form_line_lacks, too_many}

pub made_ok : {X Y : Type 0} (f : X → Y) (r : Result X Cause) (y : Y) → made f r ≡ Ok y → (x : X) × (r ≡ Ok x) × (f x ≡ y)
made_ok f (Ok x) y e = (x, refl, ok_is (f x) y e)
made_ok f (Err d) y e = absurd cc

-- Holds if lines of the kind `k` can be read back. The form (list of fields) of `k` must be valid, and each value that
-- `k` makes from fields that the version can spell must have the property `Good` and be spelled by these fields.
abbrev pub Knows : {X : Type 0} → Version → (X → List (List ℕ)) → (X → Type 0) → LineKind X → Type 0
Knows v pieces Good k = IsForm k.0 × ((t : Told k.0) → AllFit v k.0 t → (spell k.0 t ≡ pieces (k.1 t)) × Good (k.1 t))

pub first_found : {X : Type 0} (v : Version) (none : Cause) (pieces : X → List (List ℕ)) (Good : X → Type 0)
    (ks : List (LineKind X)) (ps : List (List ℕ)) (x : X)
    → AllByRecursion (Knows v pieces Good) ks → first_of v none ks ps ≡ Ok x → (ps ≡ pieces x) × Good x
first_found v none pieces Good [] ps x known e = absurd cc
first_found {X} v none pieces Good (k ∷ ks) ps x known e =
    either (have_form v k.0 ps) refl (λ is. first_found v none pieces Good ks ps x known.1 is) e
  where
    either : (b : Bool) → have_form v k.0 ps ≡ b → (first_of v none ks ps ≡ Ok x → (ps ≡ pieces x) × Good x)
        → cond b (made k.1 (or_fail Number (all_told v k.0 ps))) (first_of v none ks ps) ≡ Ok x → (ps ≡ pieces x) × Good x
    either true has others is =
        let m = made_ok k.1 (or_fail Number (all_told v k.0 ps)) x is in
        let told = or_fail_ok Number (all_told v k.0 ps) m.0 m.1 in
        let found = form_ok v k.0 ps m.0 (are_pieces k.0 known.0.0) has told in
        let good = known.0.1 m.0 found.1 in
        (found.0 ∙ good.0 ∙ ap pieces m.2, subst Good m.2 good.1)
    either false has others is = others is

pub line_found : {X : Type 0} (v : Version) (none : Cause) (pieces : X → List (List ℕ)) (Good : X → Type 0)
    (ks : List (LineKind X)) (line : List ℕ) (x : X)
    → AllByRecursion (Knows v pieces Good) ks → line_in v none ks line ≡ Ok x → (line ≡ line_of (pieces x)) × Good x
line_found v none pieces Good ks line x known e =
    let found = first_found v none pieces Good ks (cut_at 32 line) x known e in
    (line_from_cut line (pieces x) found.0, found.1)

lacks_too : {X : Type 0} (v : Version) (pieces : X → List (List ℕ)) (Good : X → Type 0) (ks : List (LineKind X))
    → AllByRecursion (Knows v pieces Good) ks → AllByRecursion (Knows v pieces (λ x. Lacks 10 (line_of (pieces x)))) ks
lacks_too v pieces Good [] known = tt
lacks_too v pieces Good (k ∷ ks) known = (
  (
    known.0.0,
    λ t fit. let m = known.0.1 t fit in
        (m.0, subst (λ (ps : List (List ℕ)). Lacks 10 (line_of ps)) m.0 (form_line_lacks v k.0 t known.0.0 fit)),
  ),
  lacks_too v pieces Good ks known.1,
)

pub line_found_lacks : {X : Type 0} (v : Version) (none : Cause) (pieces : X → List (List ℕ)) (Good : X → Type 0)
    (ks : List (LineKind X)) (line : List ℕ) (x : X)
    → AllByRecursion (Knows v pieces Good) ks → line_in v none ks line ≡ Ok x → Lacks 10 line
line_found_lacks v none pieces Good ks line x known e =
    let found = line_found v none pieces (λ y. Lacks 10 (line_of (pieces y))) ks line x (lacks_too v pieces Good ks known) e in
    subst (Lacks 10) (sym found.0) found.1

-- Holds if the value `x` can be read from a line of some kind in the list, and no earlier kind in the list has a form
-- (list of fields) that matches the spelling of `x`.
abbrev pub IsMade : {X : Type 0} → Version → (X → List (List ℕ)) → List (LineKind X) → X → Type 0
IsMade v pieces [] x = ⊥
IsMade v pieces (k ∷ ks) x =
    ((t : Told k.0) × (k.1 t ≡ x) × AllFit v k.0 t) ⊎ ((have_form v k.0 (pieces x) ≡ false) × IsMade v pieces ks x)

first_made : {X : Type 0} (v : Version) (none : Cause) (pieces : X → List (List ℕ)) (Good : X → Type 0)
    (ks : List (LineKind X)) (x : X)
    → AllByRecursion (Knows v pieces Good) ks → IsMade v pieces ks x → first_of v none ks (pieces x) ≡ Ok x
first_made v none pieces Good [] x known is = absurd is
first_made v none pieces Good (k ∷ ks) x known (inl m) =
    let spelled = (known.0.1 m.0 m.2).0 ∙ ap pieces m.1 in
    let again = form_again v k.0 m.0 (are_pieces k.0 known.0.0) m.2 in
    let here : first_of v none (k ∷ ks) (spell k.0 m.0) ≡ Ok (k.1 m.0) = rw (again.1, again.0) refl in
    ap (first_of v none (k ∷ ks)) (sym spelled) ∙ here ∙ ap Ok m.1
first_made v none pieces Good (k ∷ ks) x known (inr m) = rw m.0 (first_made v none pieces Good ks x known.1 m.1)

made_spells : {X : Type 0} (v : Version) (pieces : X → List (List ℕ)) (Good : X → Type 0) (P : List (List ℕ) → Type 0)
    → ((k : LineKind X) → IsForm k.0 → (t : Told k.0) → AllFit v k.0 t → P (spell k.0 t))
    → (ks : List (LineKind X)) (x : X) → AllByRecursion (Knows v pieces Good) ks → IsMade v pieces ks x → P (pieces x)
made_spells v pieces Good P of_form [] x known is = absurd is
made_spells v pieces Good P of_form (k ∷ ks) x known (inl m) =
    subst P ((known.0.1 m.0 m.2).0 ∙ ap pieces m.1) (of_form k known.0.0 m.0 m.2)
made_spells v pieces Good P of_form (k ∷ ks) x known (inr m) = made_spells v pieces Good P of_form ks x known.1 m.1

pub line_made : {X : Type 0} (v : Version) (none : Cause) (pieces : X → List (List ℕ)) (Good : X → Type 0)
    (ks : List (LineKind X)) (x : X)
    → AllByRecursion (Knows v pieces Good) ks → IsMade v pieces ks x → line_in v none ks (line_of (pieces x)) ≡ Ok x
line_made v none pieces Good ks x known is =
    ap (first_of v none ks)
    (made_spells v pieces Good (λ ps. cut_at 32 (line_of ps) ≡ ps) (λ k form t fit. cut_form v k.0 t form fit) ks x known is)
    ∙ first_made v none pieces Good ks x known is

-- ---- Lemmas about the causes of refused lines

abbrev pub IsOneOf : Cause → Cause → Type 0
IsOneOf none c = (c ≡ none) ⊎ (c ≡ Number)

kind_fails : {X T : Type 0} (none : Cause) (f : T → X) (b : Bool) (o : Option T) (others : Result X Cause) (c : Cause)
    → (others ≡ Err c → IsOneOf none c) → cond b (made f (or_fail Number o)) others ≡ Err c → IsOneOf none c
kind_fails none f true None others c more is = inr cc
kind_fails none f true (Some t) others c more is = absurd cc
kind_fails none f false o others c more is = more is

pub first_fails : {X : Type 0} (v : Version) (none : Cause) (ks : List (LineKind X)) (ps : List (List ℕ)) (c : Cause)
    → first_of v none ks ps ≡ Err c → IsOneOf none c
first_fails v none [] ps c e = inl cc
first_fails v none (k ∷ ks) ps c e =
    kind_fails none k.1 (have_form v k.0 ps) (all_told v k.0 ps) (first_of v none ks ps) c (first_fails v none ks ps c) e

abbrev pub AreBelow : {X : Type 0} → ℕ → List (LineKind X) → Type 0
AreBelow n ks = AllByRecursion (λ k. length k.0 < n) ks

pub first_many : {X : Type 0} (v : Version) (none : Cause) (ks : List (LineKind X)) (ps : List (List ℕ))
    → AreBelow (length ps) ks → first_of v none ks ps ≡ Err none
first_many v none [] ps below = refl
first_many v none (k ∷ ks) ps below = rw (too_many v k.0 ps below.0) (first_many v none ks ps below.1)

-- ---- Lemmas about a function applied to the values of kinds of lines

kind_seen : {X Y T : Type 0} (f : X → Y) (g : T → X) (c : Cause) (b : Bool) (o : Option T) (r : Result Y Cause) (s : Result X Cause)
    → r ≡ made f s → cond b (made (λ t. f (g t)) (or_fail c o)) r ≡ made f (cond b (made g (or_fail c o)) s)
kind_seen f g c true None r s is = refl
kind_seen f g c true (Some t) r s is = refl
kind_seen f g c false o r s is = is

pub first_as : {X Y : Type 0} (f : X → Y) (v : Version) (none : Cause) (ks : List (LineKind X)) (ps : List (List ℕ))
    → first_of v none (map (kind_as f) ks) ps ≡ made f (first_of v none ks ps)
first_as f v none [] ps = refl
first_as f v none (k ∷ ks) ps =
    kind_seen f k.1 Number (have_form v k.0 ps) (all_told v k.0 ps) (first_of v none (map (kind_as f) ks) ps)
    (first_of v none ks ps) (first_as f v none ks ps)

-- Lemmas: if the kinds of lines have the properties `Knows` and `IsMade`, the kinds still have the properties after a
-- function `f` is applied to their values.
module _ {X Y : Type 0} (f : X → Y) (v : Version) (pieces : X → List (List ℕ)) (seen : Y → List (List ℕ))
    (same : (x : X) → pieces x ≡ seen (f x)) where
  pub knows_as : (Good : X → Type 0) (Fine : Y → Type 0) → ((x : X) → Good x → Fine (f x)) → (ks : List (LineKind X))
      → AllByRecursion (Knows v pieces Good) ks → AllByRecursion (Knows v seen Fine) (map (kind_as f) ks)
  knows_as Good Fine fine [] known = tt
  knows_as Good Fine fine (k ∷ ks) known = (
    (known.0.0, λ t fit. let m = known.0.1 t fit in (m.0 ∙ same (k.1 t), fine (k.1 t) m.1)),
    knows_as Good Fine fine ks known.1,
  )

  pub made_as : (ks : List (LineKind X)) (x : X) → IsMade v pieces ks x → IsMade v seen (map (kind_as f) ks) (f x)
  made_as [] x is = absurd is
  made_as (k ∷ ks) x (inl m) = inl (m.0, ap f m.1, m.2)
  made_as (k ∷ ks) x (inr m) = inr (subst (λ ps. have_form v k.0 ps ≡ false) (same x) m.0, made_as ks x m.1)
