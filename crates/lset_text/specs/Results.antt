-- Chains of checks. The first check that fails determines the error.
use Rattle.std.specs.Prelude.{Option, Some, None, Result, Ok, Err}

infixl 10 ◌>>=◌
abbrev pub ◌>>=◌ : {A B E : Type 0} → Result A E → (A → Result B E) → Result B E
(Ok x) >>= f = f x
(Err e) >>= f = Err e

-- Returns the value, or the given error if there is no value.
abbrev pub or_fail : {A E : Type 0} → E → Option A → Result A E
or_fail e None = Err e
or_fail e (Some x) = Ok x

-- Applies `f` to an error. Leaves a value unchanged.
abbrev pub map_fault : {A E D : Type 0} → (E → D) → Result A E → Result A D
map_fault f (Ok x) = Ok x
map_fault f (Err e) = Err (f e)
