-- Proof that LazyList satisfies `Lawful`, the properties that each list has in every run.
pub mod Outline
use Rattle.std.specs.Prelude.{true}
use Rattle.lset_steps.specs.Laws.{Lawful}
use Rattle.lset_steps.proofs.Discipline.{Discipline, lawful_of}
use Rattle.lset_steps.specs.BoundedReads.{BoundedReads, WalkWasInChain}
use Rattle.lset_steps.proofs.ReadBound.{bounded_reads}
use Rattle.lset_steps.proofs.ReadWalk.{walk_was_in_chain}
use Rattle.lset_steps.proofs.Turns.{discipline_of, node_locks}
use Rattle.lset_lazy.specs.Lazy.{lazy}
use Rattle.lset_lazy.specs.Lawful.Outline.{At, lazy_follows, has_read_rows, shows_reading}

lazy_keeps : Discipline lazy true At
lazy_keeps = discipline_of lazy (node_locks true) At lazy_follows

pub lazy_lawful : Lawful lazy
lazy_lawful = lawful_of lazy At lazy_keeps

pub lazy_reads : BoundedReads lazy
lazy_reads = bounded_reads lazy lazy_lawful has_read_rows

pub lazy_walks : WalkWasInChain lazy
lazy_walks = walk_was_in_chain lazy At lazy_keeps has_read_rows shows_reading
