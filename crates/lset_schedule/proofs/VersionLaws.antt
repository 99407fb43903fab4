-- Proof: every schedule that can be read can be written.
use Rattle.std.proofs.Common.{List, [], ◌∷◌}
use Rattle.std.specs.List.{AllByRecursion}
use Rattle.lset_text.specs.declared.words.Version.{Version}
use Rattle.lset_schedule.specs.declared.value.Line.{Line}
use Rattle.lset_schedule.specs.declared.value.Line.TheVariants.{Begin, Go}
use Rattle.lset_schedule.specs.Plan.{Plan, IsLine, IsSchedule, HasCallOfLine, HasWordsOfVersion}

calls_of_lines : (v : Version) (ls : List Line) → AllByRecursion (IsLine v) ls → AllByRecursion (HasCallOfLine v) ls
calls_of_lines v [] are = tt
calls_of_lines v (Begin t c ∷ ls) are = (are.0.2, calls_of_lines v ls are.1)
calls_of_lines v (Go t n ∷ ls) are = (tt, calls_of_lines v ls are.1)

pub schedule_has_words : (p : Plan) → IsSchedule p → HasWordsOfVersion p
schedule_has_words p is = (is.opening, calls_of_lines p.version p.lines is.lines)
