-- Lemmas about moving items from one list to another, one by one. Seats (per-thread handles) are moved to threads and
-- back by such loops.
use Rattle.std.proofs.Common.{◌≡◌, ℕ, ◌+◌, List, [], ◌∷◌, ◌++◌, map, sum_by, All, refl, sym, ap, ◌∙◌, subst, append_assoc, arith}
use Rattle.std.proofs.lemmas.List.{map-append}
use Rattle.std.proofs.lemmas.List.Sums.{sum_by-cons}
use Rattle.std.proofs.lemmas.List.Elements.{All-head, All-tail, All-append, All-cons, All-nil}

pub moved_more : {H T : Type 0} (f : H → T) (hs hs' : List H) (h : H) (rest rest' all : List T) (x : T) → hs' ≡ hs ++ h ∷ [] →
    f h ≡ x → rest ≡ x ∷ rest'
    → map f hs ++ rest ≡ all → map f hs' ++ rest' ≡ all
moved_more f hs hs' h rest rest' all x e is step before =
    ap (λ l. map f l ++ rest') e ∙ ap (λ l. l ++ rest') (map-append f hs (h ∷ [])) ∙ append_assoc (map f hs) (f h ∷ []) rest'
    ∙ ap (λ y. map f hs ++ y ∷ rest') is ∙ ap (λ l. map f hs ++ l) (sym step) ∙ before

pub all_rest : {T : Type 0} (rest rest' : List T) (x : T) (P : T → Type 0) → rest ≡ x ∷ rest' → All P rest → P x × All P rest'
all_rest rest rest' x P e all =
    let both : All P (x ∷ rest') = subst (All P) e all in
    (All-head P x rest' both, All-tail P x rest' both)

pub all_more : {H : Type 0} (hs hs' : List H) (h : H) (P : H → Type 0) → hs' ≡ hs ++ h ∷ [] → All P hs → P h → All P hs'
all_more hs hs' h P e all one = subst (All P) (sym e) (All-append P hs (h ∷ []) all (All-cons P h [] one (All-nil P)))

pub held_next : {H : Type 0} (f : H → ℕ) (rest rest' : List H) (h : H) (a a' k total : ℕ) → rest ≡ h ∷ rest' →
    a + sum_by f rest ≡ total → a' ≡ a + k → k ≡ f h
    → a' + sum_by f rest' ≡ total
held_next f rest rest' h a a' k total step before e is = omega (arith, before, e, is, ap (sum_by f) step ∙ sum_by-cons f h rest')

pub starts_map : {H T A : Type 0} (seat_of : H → T) (record_at : T → A) (hs : List H) (ss : List T) → map seat_of hs ≡ ss
    → map (λ h. record_at (seat_of h)) hs ≡ map record_at ss
starts_map {H = H} {T = T} seat_of record_at hs ss e = one hs ∙ ap (map record_at) e
  where
    one : (xs : List H) → map (λ h. record_at (seat_of h)) xs ≡ map record_at (map seat_of xs)
    one [] = refl
    one (x ∷ xs) = ap (λ l. record_at (seat_of x) ∷ l) (one xs)
