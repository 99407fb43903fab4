-- Numbers in files: decimal numerals without leading zeros.
use Rattle.std.specs.Prelude.{◌≡◌, ℕ, ◌<◌, ◌≤◌, ◌^◌, ◌&&◌, ◌||◌, ◌==◌, nat_lt, nat_le, not, Bool, List, length, slice_index}
use Rattle.std.specs.Prelude.{Option, Some, None, if◌then◌else◌}
use Rattle.std.specs.Fmt.{decimal}
use Rattle.std.specs.Str.{all_ascii_digits}
use Rattle.std.specs.Str.Parse.{digits_value}

-- Returns whether a field is `0`, or consists of digits and does not start with `0`.
abbrev pub is_number : List ℕ → Bool
is_number piece = nat_lt 0 (length piece) && (all_ascii_digits piece && (length piece == 1 || not (slice_index piece 0 == 48)))

abbrev pub is_between : ℕ → ℕ → ℕ → Bool
is_between low high n = nat_le low n && nat_le n high

-- Returns the number from `low` to `high` that a field spells, or `None` if the field spells no such number.
unfoldable pub number_in : ℕ → ℕ → List ℕ → Option ℕ
number_in low high piece =
    if is_number piece && is_between low high (digits_value 10 piece) then Some (digits_value 10 piece) else None

-- The largest number that a thread, key, call or moment (a logical time) can have in a file.
abbrev pub max_number : ℕ
max_number = 4294967295

-- Lemma: reading inverts writing for numbers. A field is read as a number if and only if the field is the number's
-- decimal numeral.
abbrev pub NumbersReadBack : Type 0
NumbersReadBack = (low high n : ℕ) (piece : List ℕ) → high < 2 ^ 64
    → (low ≤ n → n ≤ high → number_in low high (decimal n) ≡ Some n)
    × (number_in low high piece ≡ Some n → (piece ≡ decimal n) × (low ≤ n) × (n ≤ high))
