use Rattle.std.specs.Prelude.{◌<◌, ◌^◌}
use Rattle.std.proofs.lemmas.List.Elements.{All-from_get_or}
use Rattle.lset_words.proofs.keys_are_small.Goals as goal

pub returns : goal.returns
returns c = All-from_get_or (λ k. k < 2 ^ 32) c.args.keys.now 0 (λ i l. (c.type_inv.keys i).fits)
