-- Lemmas about the seats of a set that was just opened. (A seat is one thread's access to the set.)
use Rattle.std.proofs.Common.{◌≡◌, ℕ, List, [], ◌∷◌, ◌++◌, Option, Some, None, IfSome, map, option_to_list, refl, sym, subst}
use Rattle.std.specs.List.{AllByRecursion, range_with_len}
use Rattle.std.proofs.lemmas.List.Elements.{All-from_recursion}
use Rattle.lset_live.specs.Seats.{SetValue, SeatValue, new_seat}
use Rattle.ffi_sets.specs.Facts.{AreOf}

abbrev IsOf : SetValue → SeatValue → Type 0
IsOf set s = (s.set ≡ set) × (s.held ≡ 1)

parts : (set : SetValue) (xs ys : List SeatValue) → AllByRecursion (IsOf set) (xs ++ ys)
    → AllByRecursion (IsOf set) xs × AllByRecursion (IsOf set) ys
parts set [] ys all = (tt, all)
parts set (x ∷ xs) ys all = let rest = parts set xs ys all.1 in ((all.0, rest.0), rest.1)

new_are : (set : SetValue) (ns : List ℕ) → AllByRecursion (IsOf set) (map (new_seat set) ns)
new_are set [] = tt
new_are set (n ∷ ns) = ((refl, refl), new_are set ns)

pub opened_are : (set : SetValue) (n : ℕ) (rest : List SeatValue) (last : Option SeatValue)
    → rest ++ option_to_list last ≡ map (new_seat set) (range_with_len 0 n) → IfSome last (λ s. s.set ≡ set) × AreOf set rest
opened_are set n rest last e =
    let both = parts set rest (option_to_list last) (subst (AllByRecursion (IsOf set)) (sym e) (new_are set (range_with_len 0 n))) in
    (of_last last both.1, All-from_recursion (IsOf set) rest both.0)
  where
    of_last : (s : Option SeatValue) → AllByRecursion (IsOf set) (option_to_list s) → IfSome s (λ s. s.set ≡ set)
    of_last None all = tt
    of_last (Some s) all = all.0.0
