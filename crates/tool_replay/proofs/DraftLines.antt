-- Lemmas about the event lines of a draft, a schedule that can state where a thread stops.
use Rattle.std.proofs.Common.{◌≡◌, ℕ, List, arith, ◌<◌, length}
use Rattle.lset_text.specs.declared.words.Version.{Version}
use Rattle.lset_text.specs.declared.causes.Cause.TheVariants.{Event}
use Rattle.lset_text.specs.Kinds.{made, first_of}
use Rattle.lset_text.proofs.FormLaws.{too_many}
use Rattle.lset_text.proofs.KindLaws.{first_as}
use Rattle.lset_schedule.specs.ScheduleReading.{events}
use Rattle.tool_replay.specs.declared.draft.DraftLine.TheVariants.{Plain}
use Rattle.tool_replay.specs.Drafts.{drafts, out_kind, to_kind, IsPlain}

pub read_plain : (v : Version) (fields : List (List ℕ)) → IsPlain fields
    → first_of v Event drafts.kinds fields ≡ made Plain (first_of v Event events.kinds fields)
read_plain v fields plain = rw ((plain v).0, (plain v).1) (first_as Plain v Event events.kinds fields)

pub many_are_plain : (fields : List (List ℕ)) → 4 < length fields → IsPlain fields
many_are_plain fields many = λ v. (
  too_many v out_kind.0 fields (omega (arith, many)),
  too_many v to_kind.0 fields (omega (arith, many)),
)
