-- Lemmas about decimal numerals.
use Rattle.std.proofs.Common.{◌≡◌, ℕ, zero, suc, ◌+◌, ◌-◌, ◌*◌, ◌^◌, ◌<◌, ◌≤◌, Bool, true, false, cond, eqb, leb, ◌&&◌, ◌||◌, not}
use Rattle.std.proofs.Common.{List, length, get_or, take, Some, None, refl, sym, ap, ◌∙◌, arith, inl, inr}
use Rattle.std.specs.Fmt.{decimal}
use Rattle.std.specs.Str.{all_ascii_digits}
use Rattle.std.specs.Str.Parse.{digits_value, AllDigits}
use Rattle.std.specs.Char.{digit_value, is_ascii_digit}
use Rattle.std.proofs.lemmas.Bool.{and_parts, and_from, and_left, and_right, lt-leb, le-leb, leb-true, lt-ltb, ltb-true, or_right}
use Rattle.std.proofs.lemmas.Bool.{or_left, eq-eqb, ne_eqb, both_ways, false_from_ne_true, not_from_false, cases_eq}
use Rattle.std.proofs.lemmas.List.Elements.{All-from_get_or}
use Rattle.std.proofs.lemmas.Int.Digits.{digits_value_more, digits_more}
use Rattle.std.proofs.lemmas.Str.Parse.{IsNumeralModel, numerals_by_value, tells_all_ascii_digits, digits_value-take-le, digit_at}
use Rattle.std.proofs.lemmas.Fmt.{decimal-digits_value, digits_decimal, digits_value-decimal, decimal_nonempty, first_decimal}
use Rattle.std.proofs.lemmas.Fmt.{decimal_digit}
use Rattle.lset_text.specs.Parts.{Lacks}
use Rattle.lset_text.specs.Numbers.{is_number, is_between, number_in, max_number}

own : IsNumeralModel (λ ds. all_ascii_digits ds ≡ true) (digits_value 10)
own = numerals_by_value _ tells_all_ascii_digits

-- ---- Lemmas about a loop over the digits of a field

value_of_digit : (c : ℕ) → 48 ≤ c → c ≤ 57 → digit_value c ≡ c - 48
value_of_digit c low high = grind arith

digit_range : (c : ℕ) → is_ascii_digit c ≡ true → (48 ≤ c) × (c ≤ 57)
digit_range c e = (leb-true 48 c (and_parts _ _ e).0, leb-true c 57 (and_parts _ _ e).1)

pub value_more : (p : List ℕ) (i v : ℕ) → i < length p → is_ascii_digit (get_or p i 0) ≡ true → v ≡ digits_value 10 (take i p)
    → digits_value 10 (take (i + 1) p) ≡ v * 10 + (get_or p i 0 - 48)
value_more p i v lt e is =
    let range = digit_range (get_or p i 0) e in
    rw (digits_value_more 10 p i lt, value_of_digit (get_or p i 0) range.0 range.1, ← is) refl

pub digit_more : (p : List ℕ) (i : ℕ) → i < length p → is_ascii_digit (get_or p i 0) ≡ true → AllDigits 10 (take i p)
    → AllDigits 10 (take (i + 1) p)
digit_more p i lt e so_far =
    let range = digit_range (get_or p i 0) e in
    digits_more 10 p i lt so_far (omega (arith, value_of_digit (get_or p i 0) range.0 range.1, range.0, range.1))

no_number : (low high : ℕ) (p : List ℕ) → (is_number p && is_between low high (digits_value 10 p)) ≡ false
    → None ≡ number_in low high p
unfolding number_in
no_number low high p e = rw e refl

pub not_a_digit : (low high : ℕ) (p : List ℕ) (i : ℕ) → i < length p → is_ascii_digit (get_or p i 0) ≡ false
    → None ≡ number_in low high p
not_a_digit low high p i lt e =
    let bad : is_number p ≡ true → ⊥ = grind (arith, and_parts, digit_at, own, both_ways) in
    no_number low high p (and_left (is_number p) _ (false_from_ne_true (is_number p) bad))

pub too_high : (low high : ℕ) (p : List ℕ) (i : ℕ) → high < digits_value 10 (take i p) → None ≡ number_in low high p
too_high low high p i lt =
    let above : high < digits_value 10 p = omega (arith, lt, digits_value-take-le 10 p i (omega arith)) in
    let outside = and_right (leb low (digits_value 10 p)) _ (lt-leb (digits_value 10 p) high above) in
    no_number low high p (and_right (is_number p) _ outside)

pub is_spelled : (low high : ℕ) (p : List ℕ) (v : ℕ) → v ≡ digits_value 10 p → 0 < length p → AllDigits 10 p
    → ((length p ≡ 1 → ⊥) → get_or p 0 0 ≡ 48 → ⊥) → low ≤ v → v ≤ high → Some v ≡ number_in low high p
unfolding number_in
is_spelled low high p v is some digits first low_ok high_ok =
    let first_ok : (eqb (length p) 1 || not (eqb (get_or p 0 0) 48)) ≡ true = elim (cases_eq (length p) 1) [
      | inl e ↦ or_left _ _ (eq-eqb _ _ e)
      | inr ne ↦ or_right _ _ (not_from_false _ (ne_eqb _ _ (first ne)))
    ] in
    let number : is_number p ≡ true = and_from _ _ (lt-ltb 0 (length p) some) (and_from _ _ (own.from p digits) first_ok) in
    let low_test = le-leb low (digits_value 10 p) (omega (arith, is)) in
    let high_test = le-leb (digits_value 10 p) high (omega (arith, is)) in
    let both = and_from _ _ number (and_from _ _ low_test high_test) in
    rw both (ap (λ (n : ℕ). Some n) is)

-- ---- Proof that reading inverts writing

some_then : (b : Bool) (n v : ℕ) → cond b (Some n) None ≡ Some v → (b ≡ true) × (n ≡ v)
some_then true n v e = (refl, cc)
some_then false n v e = absurd cc

pub number_ok : (low high : ℕ) (p : List ℕ) (v : ℕ) → high < 2 ^ 64 → number_in low high p ≡ Some v
    → (p ≡ decimal v) × (low ≤ v) × (v ≤ high)
unfolding number_in
number_ok low high p v wide e =
    let found = some_then (is_number p && is_between low high (digits_value 10 p)) (digits_value 10 p) v e in
    let all = and_parts _ _ found.0 in
    let bounds = and_parts _ _ all.1 in
    let number = and_parts _ _ all.0 in
    let digits = and_parts _ _ number.1 in
    let high_ok : digits_value 10 p ≤ high = leb-true _ _ bounds.1 in
    let first : get_or p 0 0 ≡ 48 → length p ≡ 1 = grind arith in
    let spelled = decimal-digits_value own p digits.0 (ltb-true 0 (length p) number.0) first (omega arith) in
    (sym (ap decimal (sym found.1) ∙ spelled), rw (← found.1) (leb-true _ _ bounds.0), rw (← found.1) high_ok)

pub number_again : (low high v : ℕ) → high < 2 ^ 64 → low ≤ v → v ≤ high → number_in low high (decimal v) ≡ Some v
number_again low high v wide low_ok high_ok =
    let small : v < 2 ^ 64 = omega arith in
    let value = sym (digits_value-decimal own v small) in
    let digits = own.to (decimal v) (digits_decimal own v small) in
    sym (is_spelled low high (decimal v) v value (decimal_nonempty v small) digits (first v small) low_ok high_ok)
  where
    first : (n : ℕ) → n < 2 ^ 64 → (length (decimal n) ≡ 1 → ⊥) → get_or (decimal n) 0 0 ≡ 48 → ⊥
    first zero small many is = many (ap (λ (ds : List ℕ). length ds) (decimal_digit 0 (omega arith)))
    first (suc n) small many is = let above = first_decimal (suc n) (omega arith) small in omega (arith, above, is)

pub decimal_lacks : (byte n : ℕ) → byte < 48 → n < 2 ^ 64 → Lacks byte (decimal n)
decimal_lacks byte n low small =
    All-from_get_or (λ b. eqb b byte ≡ false) (decimal n) 0 (λ i lt.
    let range = digit_at (decimal n) i (own.to (decimal n) (digits_decimal own n small)) lt in
    ne_eqb (get_or (decimal n) i 0) byte (λ e. absurd (omega (arith, range.0, e))))

-- ---- Lemmas about numbers as fields of a line

pub any_fits : (n : ℕ) → n < 2 ^ 32 → (0 ≤ n) × (n ≤ max_number)
any_fits n low = (omega arith, omega (arith, low))

pub moment_fits : (n : ℕ) → 0 < n → n < 2 ^ 32 → (1 ≤ n) × (n ≤ max_number)
moment_fits n some low = (omega (arith, some), omega (arith, low))
