-- Lemmas about the versions of the schedule format. Version 2 has a name for every operation.
use Rattle.std.proofs.Common.{◌≡◌, ℕ, List, [], ◌∷◌, length, refl}
use Rattle.std.specs.List.{AllByRecursion}
use Rattle.lset_words.specs.declared.Call.{Call}
use Rattle.lset_words.specs.declared.Call.TheVariants.{Add, Remove, Contains, Ceiling}
use Rattle.lset_text.specs.declared.words.Version.TheVariants.{Two}
use Rattle.lset_text.specs.Spellings.{HasCall}
use Rattle.lset_schedule.specs.declared.value.Line.{Line}
use Rattle.lset_schedule.specs.declared.value.Line.TheVariants.{Begin, Go}
use Rattle.lset_schedule.specs.Plan.{HasCallOfLine}

has_call : (c : Call) → HasCall Two c
has_call (Add k) = tt
has_call (Remove k) = tt
has_call (Contains k) = tt
has_call (Ceiling k) = tt

pub have_calls : (ls : List Line) → AllByRecursion (HasCallOfLine Two) ls
have_calls [] = tt
have_calls (Begin t c ∷ ls) = (has_call c, have_calls ls)
have_calls (Go t n ∷ ls) = (tt, have_calls ls)

pub none : (keys : List ℕ) → length keys ≡ 0 → keys ≡ []
none [] e = refl
none (k ∷ ks) e = absurd cc
