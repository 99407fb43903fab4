-- Proof that FineList satisfies `Lawful`, the properties that each list has in every run.
pub mod Outline
use Rattle.std.specs.Prelude.{false}
use Rattle.lset_steps.specs.Laws.{Lawful}
use Rattle.lset_steps.proofs.Discipline.{lawful_of}
use Rattle.lset_steps.proofs.Turns.{discipline_of, node_locks}
use Rattle.lset_fine.specs.Fine.{fine}
use Rattle.lset_fine.specs.Lawful.Outline.{At, fine_follows}

pub fine_lawful : Lawful fine
fine_lawful = lawful_of fine At (discipline_of fine (node_locks false) At fine_follows)
