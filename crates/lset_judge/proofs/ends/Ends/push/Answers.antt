use Rattle.std.proofs.Common.{◌∙◌, ap}
use Rattle.lset_judge.specs.Rule.{put_in}
use Rattle.lset_judge.proofs.EndsInHeap.{reordered}
use Rattle.lset_judge.proofs.ends.Ends.push.Goals as goal

pub returns-clause-more : goal.returns-clause-more
returns-clause-more c = reordered _ _ c.in_ok-push.ensures.permutation ∙ ap (put_in c.args.end) c.self.view_is
