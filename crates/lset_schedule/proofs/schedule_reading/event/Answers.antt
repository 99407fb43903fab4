use Rattle.std.proofs.Common.{◌∷◌, sym, arith}
use Rattle.lset_text.specs.Parts.{cut_at}
use Rattle.lset_text.proofs.PartLaws.{some_part}
use Rattle.lset_text.proofs.KindLaws.{first_many}
use Rattle.lset_text.specs.declared.causes.Cause.TheVariants.{Event}
use Rattle.lset_schedule.specs.ScheduleReading.{events}
use Rattle.lset_schedule.proofs.schedule_reading.event.Goals as goal

pub returns-in-Some-cut-3 : goal.returns-in-Some-cut-3
returns-in-Some-cut-3 c =
    let some = some_part 32 c.in-Some-cut-3._more.now in
    rw (c.in-Some.ensures.parts, c.in-Some-cut.ensures.parts, c.in-Some-cut-2.ensures.parts, c.in-Some-cut-3.ensures.parts)
    (sym (first_many c.args.version Event events.kinds (c.in-Some.first.now ∷ c.in-Some-cut.second.now ∷ c.in-Some-cut-2.third.now
    ∷ c.in-Some-cut-3.field-0-0.now ∷ cut_at 32 c.in-Some-cut-3._more.now) (omega (arith, some), (omega (arith, some), tt))))
