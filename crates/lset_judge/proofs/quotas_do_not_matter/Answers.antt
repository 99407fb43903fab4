use Rattle.lset_judge.proofs.KeyParts.{any_quota}
use Rattle.lset_judge.proofs.quotas_do_not_matter.Goals as goal

pub returns : goal.returns
returns c = any_quota
