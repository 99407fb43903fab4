-- Lemmas about a chain of checks: if the chain returns a value, each of its checks passes.
use Rattle.std.proofs.Common.{◌≡◌, Bool, true, false, cond, Option, Some, None, Result, Ok, Err, refl}
use Rattle.lset_text.specs.Results.{◌>>=◌, or_fail, map_fault}

pub bind_ok : {A B E : Type 0} (r : Result A E) (f : A → Result B E) (y : B) → (r >>= f) ≡ Ok y
    → (x : A) × (r ≡ Ok x) × (f x ≡ Ok y)
bind_ok (Ok x) f y e = (x, refl, e)
bind_ok (Err d) f y e = absurd cc

pub or_fail_ok : {A E : Type 0} (d : E) (o : Option A) (x : A) → or_fail d o ≡ Ok x → o ≡ Some x
or_fail_ok d None x e = absurd cc
or_fail_ok d (Some y) x e = cc

pub test_some : {A : Type 0} (b : Bool) (o : Option A) (y : A) → cond b o None ≡ Some y → (b ≡ true) × (o ≡ Some y)
test_some true o y e = (refl, e)
test_some false o y e = absurd cc

abbrev pub done : {A E : Type 0} → A → Result A E
done x = Ok x

pub ok_is : {A E : Type 0} (x y : A) → done {A = A} {E = E} x ≡ done y → x ≡ y
ok_is x y e = cc

pub kept_if : {A E : Type 0} (b : Bool) (d : E) (x y : A) → cond b (Ok x) (Err d) ≡ Ok y → (b ≡ true) × (x ≡ y)
kept_if true d x y e = (refl, ok_is x y e)
kept_if false d x y e = absurd cc

pub kept_twice : {A E : Type 0} (a b : Bool) (c d : E) (x y : A) → (cond a (Ok x) (Err c) >>= λ z. cond b (Ok z) (Err d)) ≡ Ok y
    → (a ≡ true) × (b ≡ true) × (x ≡ y)
kept_twice true true c d x y e = (refl, refl, ok_is x y e)
kept_twice true false c d x y e = absurd cc
kept_twice false b c d x y e = absurd cc

pub map_fault_ok : {A E D : Type 0} (f : E → D) (r : Result A E) (x : A) → map_fault f r ≡ Ok x → r ≡ Ok x
map_fault_ok f (Ok y) x e = cc
map_fault_ok f (Err d) x e = absurd cc
