use Rattle.std.proofs.Common.{◌∷◌, arith}
use Rattle.lset_text.specs.declared.words.Version.TheVariants.{Two}
use Rattle.lset_text.specs.Parts.{cut_at}
use Rattle.lset_text.specs.Openings.{opening_form}
use Rattle.lset_text.proofs.PartLaws.{some_part}
use Rattle.lset_text.proofs.FormLaws.{too_many}
use Rattle.lset_schedule.proofs.body.opening_piece.Goals as goal

pub returns-in-Some : goal.returns-in-Some
returns-in-Some c =
    rw (c.in_ok-word.ensures.parts, c.in-Some.ensures.parts)
    (too_many Two opening_form (c.in_ok-word.word.now ∷ c.in-Some.field-0-0.now ∷ cut_at 32 c.in-Some._more.now)
    (omega (arith, some_part 32 c.in-Some._more.now)))
