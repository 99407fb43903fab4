use Rattle.lset_steps.proofs.Promised.{lock_words_of}
use Rattle.lset_steps.proofs.laws.lock_words.Goals as goal

pub returns : goal.returns
returns g c = lock_words_of g.M.Machine.table g.met.M.Machine.lawful
