use Rattle.std.proofs.Common.{rules}
use Rattle.std.proofs.lemmas.Result.{IfOk-weaker}
use Rattle.lset_steps.specs.Laws.{view_of}
use Rattle.lset_steps.proofs.WalkedTo.{chain_picked, content_of_chain}
use Rattle.lset_steps.proofs.world.World.chain.Goals as goal

pub returns-clause-keys : goal.returns-clause-keys
returns-clause-keys g c =
    IfOk-weaker c.walk.result _ _ (λ v w. chain_picked _ (view_of c.args.self.now.sizes c.args.self.now.state)
    v.items (λ met answer says. search rules) w) c.walk.ensures

pub returns-clause-content : goal.returns-clause-content
returns-clause-content g c =
    IfOk-weaker c.walk.result _ _ (λ v w. content_of_chain _ (view_of c.args.self.now.sizes c.args.self.now.state)
    v.items (λ met answer says. search rules) w) c.walk.ensures
