-- Proof that CoarseList satisfies `Lawful`, the properties that each list has in every run.
pub mod Outline
use Rattle.lset_steps.specs.Laws.{Lawful}
use Rattle.lset_steps.proofs.Discipline.{lawful_of}
use Rattle.lset_steps.proofs.Turns.{discipline_of}
use Rattle.lset_coarse.specs.Coarse.{coarse}
use Rattle.lset_coarse.specs.Lawful.Outline.{At, one_lock, coarse_follows}

pub coarse_lawful : Lawful coarse
coarse_lawful = lawful_of coarse At (discipline_of coarse one_lock At coarse_follows)
