-- Lemma: appending two lists of calls to a record, one after the other, has the same result as appending the
-- concatenation of the two lists.
use Rattle.std.proofs.Common.{◌≡◌, List, [], ◌∷◌, ◌++◌, refl}
use Rattle.lset_words.specs.Records.{CallMade, Record, called, with_calls}

pub with_calls-append : (r : Record) (xs ys : List CallMade) → with_calls r (xs ++ ys) ≡ with_calls (with_calls r xs) ys
with_calls-append r [] ys = refl
with_calls-append r (x ∷ xs) ys = with_calls-append (called r x) xs ys
