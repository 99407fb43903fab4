-- Proof that OptimisticList satisfies `Lawful`, the properties that each list has in every run.
pub mod Outline
use Rattle.std.specs.Prelude.{false}
use Rattle.lset_steps.specs.Laws.{Lawful}
use Rattle.lset_steps.proofs.Discipline.{lawful_of}
use Rattle.lset_steps.proofs.Turns.{discipline_of, node_locks}
use Rattle.lset_optimistic.specs.Optimistic.{optimistic}
use Rattle.lset_optimistic.specs.Lawful.Outline.{At, optimistic_follows}

pub optimistic_lawful : Lawful optimistic
optimistic_lawful = lawful_of optimistic At (discipline_of optimistic (node_locks false) At optimistic_follows)
