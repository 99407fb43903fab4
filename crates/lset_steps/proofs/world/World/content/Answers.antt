use Rattle.std.proofs.Common.{rules}
use Rattle.std.proofs.lemmas.Result.{IfOk-weaker}
use Rattle.lset_steps.specs.Laws.{view_of}
use Rattle.lset_steps.proofs.WalkedTo.{content_picked}
use Rattle.lset_steps.proofs.world.World.content.Goals as goal

pub returns : goal.returns
returns g c =
    IfOk-weaker c.walk.result _ _ (λ v w. content_picked _ (view_of c.args.self.now.sizes c.args.self.now.state)
    v.items (λ met answer says. search rules) w) c.walk.ensures
