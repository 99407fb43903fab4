-- Lemmas about the loop that reads the lines after the header: which line an error names, and that the content of a
-- line never causes the error `Memory`.
use Rattle.std.proofs.Common.{arith, ◌≡◌, ℕ, ◌+◌, inl, inr, Bool, true, false, cond, ltb, List, [], ◌∷◌, length, Option, Some}
use Rattle.std.proofs.Common.{None, Result, Err, refl, codes}
use Rattle.std.specs.Prelude.{MatchOption}
use Rattle.std.specs.List.{sum_by}
use Rattle.lset_words.specs.declared.TheConstants.{MOST_OPENING}
use Rattle.lset_text.specs.declared.words.Version.{Version}
use Rattle.lset_text.specs.declared.words.Version.TheVariants.{One, Two}
use Rattle.lset_text.specs.Parts.{cut_at}
use Rattle.lset_text.specs.Numbers.{number_in, max_number}
use Rattle.lset_text.specs.Forms.{have_form, both}
use Rattle.lset_text.specs.Kinds.{made, line_in}
use Rattle.lset_text.specs.Results.{or_fail}
use Rattle.lset_text.specs.Openings.{opening_form, is_above}
use Rattle.lset_text.proofs.KindLaws.{IsOneOf, first_fails, first_as}
use Rattle.lset_text.proofs.LineLaws.{bind_err}
use Rattle.lset_schedule.specs.declared.TheConstants.{MOST_EVENTS}
use Rattle.lset_text.specs.declared.causes.Cause.{Cause}
use Rattle.lset_text.specs.declared.causes.Cause.TheVariants.{Event, Number, Memory}
use Rattle.lset_schedule.specs.ScheduleReading.{EventLines, BodyValue, Item, opens, event, kinds_after, with_item, with_line}

-- ---- Lemmas about the lines before the first event line, in version 2

number_told : {L : Type 0} (o : Option ℕ) → (let word : Option (Unit {0}) = Some tt in
    made {Y = Item L} (λ t. opens t.1.0) (or_fail Number (both word (both o word)))) ≡ made opens (or_fail Number o)
number_told None = refl
number_told (Some n) = refl

pub key_told : {L K : Type 0} (text : EventLines L) (ls : List L) (line : List ℕ) (now : K → List ℕ) (o : Option K) → ls ≡ []
    → MatchOption o (have_form Two opening_form (cut_at 32 line) ≡ false) (λ key. cut_at 32 line ≡ codes "opening" ∷ now key ∷ [])
    → MatchOption o (line_in Two Event (kinds_after text Two ls) line ≡ made event (line_in Two Event text.kinds line))
    (λ key. line_in Two Event (kinds_after text Two ls) line ≡ made opens (or_fail Number (number_in 0 max_number (now key))))
key_told text ls line now None none other = rw (none, other) (first_as event Two Event text.kinds (cut_at 32 line))
key_told text ls line now (Some key) none is = rw (none, is) (number_told (number_in 0 max_number (now key)))

pub not_due : {L : Type 0} (text : EventLines L) (v : Version) (ls : List L) (line : List ℕ) → (v ≡ Two → ls ≡ [] → ⊥)
    → line_in v Event (kinds_after text v ls) line ≡ made event (line_in v Event text.kinds line)
not_due text One ls line not = first_as event One Event text.kinds (cut_at 32 line)
not_due text Two [] line not = absurd (not refl refl)
not_due text Two (l ∷ ls) line not = first_as event Two Event text.kinds (cut_at 32 line)

-- ---- Lemmas about the checks of a line, which never return `Memory`

either_fails : {A : Type 0} (b : Bool) (r s : Result A Cause) → (r ≡ Err Memory → ⊥) → (s ≡ Err Memory → ⊥)
    → cond b r s ≡ Err Memory → ⊥
either_fails true r s f g is = f is
either_fails false r s f g is = g is

item_fails : {L : Type 0} (text : EventLines L) (s : BodyValue L) (i : Item L) → with_item text s i ≡ Err Memory → ⊥
item_fails text s (opens k) is =
    either_fails (ltb (length s.keys) MOST_OPENING) _ _ (either_fails (is_above s.keys k) _ _ (λ e. cc) (λ e. cc)) (λ e. cc) is
item_fails text s (event l) is =
    either_fails (ltb MOST_EVENTS (sum_by text.count s.lines + text.count l)) _ _ (λ e. cc) (λ e. cc) is

no_cause : IsOneOf Event Memory → ⊥
no_cause (inl is) = cc
no_cause (inr is) = cc

pub never_memory : {L : Type 0} (text : EventLines L) (v : Version) (s : BodyValue L) (x : List ℕ) → with_line text v s x ≡ Err Memory → ⊥
never_memory text v s x is = grind (arith, bind_err, no_cause, first_fails, item_fails)
