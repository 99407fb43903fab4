-- Proofs about the loop that reads a number digit by digit, up to the next space.
use Rattle.std.proofs.Common.{◌≡◌, ℕ, zero, suc, ◌+◌, ◌-◌, ◌*◌, ◌^◌, ◌<◌, ◌≤◌, true, inl, inr, List, ◌∷◌, ◌++◌, length, min, get_or, take, drop, refl, sym, ap, ◌∙◌, arith, leb, take-append-drop, eq-or-lt_of_le}
use Rattle.std.specs.Fmt.{decimal}
use Rattle.std.specs.Char.{is_ascii_digit}
use Rattle.std.specs.Str.Parse.{digits_value, AllDigits}
use Rattle.std.proofs.Math.Nat.{pow-le-pow_right}
use Rattle.std.proofs.lemmas.Bool.{and_parts, leb-true}
use Rattle.std.proofs.lemmas.Int.Digits.{digits_value-lt}
use Rattle.std.proofs.lemmas.List.{take_rest, drop_more, get_or-take, length-take-le}
use Rattle.lset_text.proofs.NumberLaws.{value_more, digit_more, is_spelled, number_ok}

-- Loop invariant: the first `count` bytes of `text` are digits, and `value` is the number that they form.
pub record AreDigits (text : List ℕ) (count value : ℕ) : Type 0 where
  pub few : count ≤ length text
  pub spelled : value ≡ digits_value 10 (take count text)
  pub digits : AllDigits 10 (take count text)

pub no_digits : (text : List ℕ) → AreDigits text 0 0
no_digits text = record { few = omega arith; spelled = refl; digits = tt }

pub one_more_digit : (text : List ℕ) (i value digit : ℕ) → i < length text → is_ascii_digit (get_or text i 0) ≡ true
    → digit ≡ get_or text i 0 - 48 → AreDigits text i value → AreDigits text (i + 1) (value * 10 + digit)
one_more_digit text i value digit low is_digit is are =
    let more = value_more text i value low is_digit are.spelled in
    record {
      few = omega (arith, low);
      spelled = omega (arith, more, is);
      digits = digit_more text i low is_digit are.digits;
    }

pub digit_few : (b : ℕ) → is_ascii_digit b ≡ true → b - 48 ≤ 9
digit_few b digit = let high = leb-true b 57 (and_parts (leb 48 b) (leb b 57) digit).1 in omega (arith, high)

below : (text : List ℕ) (i value most : ℕ) → i ≤ most → AreDigits text i value → value < 10 ^ most
below text i value most low are =
    let long = length-take-le i text are.few in
    let small = digits_value-lt 10 (take i text) are.digits in
    let power : 10 ^ length (take i text) ≤ 10 ^ most = pow-le-pow_right {n = 10} (omega arith) (omega (arith, long, low)) in
    let is = are.spelled in
    omega (arith, small, power, is)

pub small_before : (text : List ℕ) (i value : ℕ) → i < min (length text) 19 → AreDigits text i value → value < 1000000000000000000
small_before text i value low are = below text i value 18 (omega (arith, low)) are

pub small_number : (text : List ℕ) (i value : ℕ) → i ≤ min (length text) 19 → AreDigits text i value → value < 10000000000000000000
small_number text i value low are = below text i value 19 (omega (arith, low)) are

pub is_within : (i many : ℕ) → i ≤ min many 19 → (i ≡ many → ⊥) → i < many
is_within i many low other =
    let within : i ≤ many = omega (arith, low) in
    elim (eq-or-lt_of_le within) [
      | inl same ↦ absurd (other same)
      | inr less ↦ less
    ]

pub number_at_space : (text : List ℕ) (i value : ℕ) → i < length text → get_or text i 0 ≡ 32
    → ((i ≡ 1 → ⊥) → 48 < get_or text 0 0) → value < 10000000000000000000 → AreDigits text i value
    → text ≡ decimal value ++ 32 ∷ take (length text - (i + 1)) (drop (i + 1) text)
number_at_space text zero value low space first small are = let above = first (λ one. absurd (omega (arith, one))) in absurd (omega (arith, above, space))
number_at_space text (suc j) value low space first small are =
    let i = suc j in
    let p : List ℕ = take i text in
    let of_length : length p ≡ i = length-take-le i text are.few in
    let at_first : get_or p 0 0 ≡ get_or text 0 0 = get_or-take i text 0 0 (omega arith) in
    let read = is_spelled 0 18446744073709551615 p value are.spelled (omega (arith, of_length)) are.digits
    (λ many zero. let above = first (λ one. many (of_length ∙ one)) in omega (arith, above, zero, at_first)) (omega arith) (omega (arith, small)) in
    let spelled : p ≡ decimal value = (number_ok 0 18446744073709551615 p value (omega arith) (sym read)).0 in
    let behind : take (length text - (i + 1)) (drop (i + 1) text) ≡ drop (i + 1) text = take_rest text (i + 1) in
    sym (take-append-drop i text) ∙ ap (λ (r : List ℕ). p ++ r) (drop_more text i 0 low)
    ∙ ap (λ b. p ++ b ∷ drop (i + 1) text) space ∙ ap (λ (q : List ℕ). q ++ 32 ∷ drop (i + 1) text) spelled
    ∙ ap (λ (r : List ℕ). decimal value ++ 32 ∷ r) (sym behind)
