-- Lemmas: reading given bytes always has the same result.
use Rattle.std.proofs.Common.{◌≡◌, ℕ, ◌+◌, inl, inr, List, [], ◌∷◌, Result, Ok, Err, sym, ap, subst, ◌∙◌}
use Rattle.lset_text.specs.declared.causes.Cause.{Cause}
use Rattle.lset_text.specs.declared.causes.LineFault.{LineFault}
use Rattle.lset_text.specs.Causes.{fault}
use Rattle.lset_recording.specs.Texts.{Recording}
use Rattle.lset_recording.specs.Reading.{SoFar, GoesOn, IsTaken, IsRefused, Reads, cause_of, with_told}

one_ok : {A E : Type 0} (r : Result A E) (x y : A) → r ≡ Ok x → r ≡ Ok y → x ≡ y
one_ok r x y is other = cc

one_err : {A E : Type 0} (r : Result A E) (x y : E) → r ≡ Err x → r ≡ Err y → x ≡ y
one_err r x y is other = cc

not_both : {A E : Type 0} (r : Result A E) (x : A) (e : E) → r ≡ Ok x → r ≡ Err e → ⊥
not_both r x e is other = cc

one_taken : (s t u : SoFar) (line : List ℕ) → IsTaken s line t → IsTaken s line u → t ≡ u
one_taken s t u line is other = is.3 ∙ ap (with_told s) (one_ok _ is.0 other.0 is.1 other.1) ∙ sym other.3

taken_or_refused : (s t : SoFar) (line : List ℕ) (cause : Cause) → IsTaken s line t → IsRefused s line cause → ⊥
taken_or_refused s t line cause taken (inl told) = not_both _ taken.0 cause taken.1 told
taken_or_refused s t line cause taken (inr (l, told, stays, is)) = stays (subst (GoesOn s.told) (one_ok _ taken.0 l taken.1 told) taken.2)

one_cause : (s : SoFar) (line : List ℕ) (cause other : Cause) → IsRefused s line cause → IsRefused s line other → cause ≡ other
one_cause s line cause other (inl told) (inl again) = one_err _ cause other told again
one_cause s line cause other (inl told) (inr (m, again, stays, is)) = absurd (not_both _ m cause again told)
one_cause s line cause other (inr (l, told, stays, is)) (inl again) = absurd (not_both _ l other told again)
one_cause s line cause other (inr (l, told, stays, is)) (inr (m, again, rests, was)) =
    is ∙ ap cause_of (one_ok _ l m told again) ∙ sym was

pub one_reading : (n : ℕ) (s : SoFar) (parts : List (List ℕ)) (read other : Result Recording LineFault)
    → Reads n s parts read → Reads n s parts other → read ≡ other
one_reading n s [] read other is again = absurd is
one_reading n s (rest ∷ []) read other is again = is ∙ sym again
one_reading n s (x ∷ y ∷ more) read other (inl (t, taken, goes)) (inl (u, took, went)) =
    one_reading (n + 1) t (y ∷ more) read other goes
    (subst (λ (v : SoFar). Reads (n + 1) v (y ∷ more) other) (sym (one_taken s t u x taken took)) went)
one_reading n s (x ∷ y ∷ more) read other (inl (t, taken, goes)) (inr (cause, refused, is)) = absurd (taken_or_refused s t x cause taken refused)
one_reading n s (x ∷ y ∷ more) read other (inr (cause, refused, is)) (inl (t, taken, goes)) = absurd (taken_or_refused s t x cause taken refused)
one_reading n s (x ∷ y ∷ more) read other (inr (cause, refused, is)) (inr (also, fails, was)) =
    is ∙ ap (λ (e : Cause). Err (fault n e)) (one_cause s x cause also refused fails) ∙ sym was
