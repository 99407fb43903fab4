use Rattle.lset_judge.specs.Clash.{record_if}
use Rattle.lset_judge.proofs.ClashOfKey.{nothing_in}
use Rattle.lset_judge.proofs.clash.nothing_turns.Goals as goal

pub returns : goal.returns
returns c h = nothing_in c.args.calls.now c.args.key.0 c.args.there c.args.since (record_if c.args.second) (c.are_apart.ensures h)
