use Rattle.std.proofs.Common.{◌∙◌, ap, slice_index}
use Rattle.std.specs.Mem.Slots.{slots_items}
use Rattle.lset_live.specs.Closes.{LastWords}
use Rattle.lset_live.proofs.Closing.{at_word}
use Rattle.lset_live.proofs.closed.Closed.word.Goals as goal

pub returns : goal.returns
returns c = at_word (slots_items c.self.inside.words.words) c.args.w c.word.result c.word.ensures
    ∙ ap (λ (z : LastWords). slice_index z.words c.args.w) c.self.view_is
