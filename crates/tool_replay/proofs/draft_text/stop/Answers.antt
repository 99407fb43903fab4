use Rattle.std.proofs.Common.{◌∷◌, arith}
use Rattle.lset_text.specs.Parts.{cut_at}
use Rattle.lset_text.proofs.PartLaws.{some_part}
use Rattle.tool_replay.proofs.DraftLines.{many_are_plain}
use Rattle.tool_replay.proofs.draft_text.stop.Goals as goal

pub returns-in_default : goal.returns-in_default
returns-in_default c =
    rw (c.in_ok-first.ensures.parts, c.in_ok-second.ensures.parts, c.in_default.ensures.parts) c.out.ensures

pub returns-in-Some-cut : goal.returns-in-Some-cut
returns-in-Some-cut c =
    rw (c.in_ok-first.ensures.parts, c.in_ok-second.ensures.parts, c.in-Some.ensures.parts, c.in-Some-cut.ensures.parts)
    (many_are_plain (c.in_ok-first.first.now ∷ c.in_ok-second.second.now ∷ c.in-Some.third.now ∷ c.in-Some-cut.field-0-0.now
    ∷ cut_at 32 c.in-Some-cut._more.now) (omega (arith, some_part 32 c.in-Some-cut._more.now)))

pub returns : goal.returns
returns c =
    rw (c.in_ok-first.ensures.parts, c.in_ok-second.ensures.parts, c.in-Some.ensures.parts, c.in_default-cut.ensures.parts)
    c.to.ensures
