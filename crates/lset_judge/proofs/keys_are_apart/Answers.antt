use Rattle.lset_judge.proofs.KeyParts.{apart}
use Rattle.lset_judge.proofs.keys_are_apart.Goals as goal

pub returns : goal.returns
returns c = λ h keys part parts told opens left judged known. apart h keys part parts told opens left judged known
