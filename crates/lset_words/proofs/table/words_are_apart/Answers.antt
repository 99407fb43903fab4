use Rattle.std.proofs.Common.{arith}
use Rattle.lset_words.proofs.Bounds.{row_once}
use Rattle.lset_words.proofs.table.words_are_apart.Goals as goal

pub returns-clause-slots : goal.returns-clause-slots
returns-clause-slots c = λ quota t u i j a b. (omega arith, λ e. row_once quota t u i j a b (omega arith))
