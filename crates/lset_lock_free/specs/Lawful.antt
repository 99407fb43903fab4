-- Proof that LockFreeList satisfies `Lawful`, the properties that each list has in every run.
pub mod Outline
use Rattle.std.specs.Prelude.{true}
use Rattle.lset_steps.specs.Laws.{Lawful}
use Rattle.lset_steps.proofs.Discipline.{Discipline, lawful_of}
use Rattle.lset_steps.specs.BoundedReads.{BoundedReads, WalkWasInChain}
use Rattle.lset_steps.proofs.ReadBound.{bounded_reads}
use Rattle.lset_steps.proofs.ReadWalk.{walk_was_in_chain}
use Rattle.lset_steps.proofs.Turns.{discipline_of, no_locks}
use Rattle.lset_lock_free.specs.LockFree.{lock_free}
use Rattle.lset_lock_free.specs.Lawful.Outline.{At, lock_free_follows, has_read_rows, shows_reading}

lock_free_keeps : Discipline lock_free true At
lock_free_keeps = discipline_of lock_free (no_locks true) At lock_free_follows

pub lock_free_lawful : Lawful lock_free
lock_free_lawful = lawful_of lock_free At lock_free_keeps

pub lock_free_reads : BoundedReads lock_free
lock_free_reads = bounded_reads lock_free lock_free_lawful has_read_rows

pub lock_free_walks : WalkWasInChain lock_free
lock_free_walks = walk_was_in_chain lock_free At lock_free_keeps has_read_rows shows_reading
