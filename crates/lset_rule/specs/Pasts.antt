-- The record of a seat (one thread's access to the set): its completed calls, and the records of the seats that were
-- merged into it, oldest first.
use Rattle.std.specs.Prelude.{ℕ, ◌<◌, ◌==◌, List, [], ◌∷◌, ◌++◌, cond}
use denote.Bor.{Bor}
use Rattle.lset_rule.specs.declared.view.OwnCall.{OwnCall}
use Rattle.lset_rule.specs.declared.view.Past.{Past, Fresh, Called', Gathered'}
use Rattle.lset_words.specs.Records.{thread_of, Names}
use Rattle.lset_rule.specs.Dated.{record_of}

abbrev nowhere : Bor (Unit {0})
nowhere = record { now = tt; ref_ptr = (0, 0) }

abbrev pub called : Past → OwnCall → Past
called r c = Called' nowhere r c

-- Returns the record of a seat (one thread's access to the set) after a merge: `r` is the seat's record before the
-- merge, and `g` is the record of the seat that is merged into it.
abbrev pub gathered : Past → Past → Past
gathered r g = Gathered' nowhere r nowhere g

-- Returns the thread to which the record r belongs.
abbrev pub root : Past → ℕ
root r = thread_of (record_of r)

-- Returns the calls by thread u in a record and in the records that were merged into it, in the order in which u made
-- the calls.
abbrev pub calls_of : ℕ → Past → List OwnCall
calls_of u (Fresh t) = []
calls_of u (Called' p r c) = calls_of u r ++ cond (u == root r) (c ∷ []) []
calls_of u (Gathered' p r q g) = calls_of u r ++ calls_of u g

-- Holds if all calls in a record, including those in the records that were merged into it, started and ended before
-- event n.
abbrev pub Before : ℕ → Past → Type 0
Before n (Fresh t) = Unit {0}
Before n (Called' p r c) = Before n r × (c.ended < n) × (c.begun < n)
Before n (Gathered' p r q g) = Before n r × Before n g

-- Holds if all calls in the records that were merged into a record started and ended before event n.
abbrev pub GatheredBefore : ℕ → Past → Type 0
GatheredBefore n (Fresh t) = Unit {0}
GatheredBefore n (Called' p r c) = GatheredBefore n r
GatheredBefore n (Gathered' p r q g) = GatheredBefore n r × Before n g

-- Holds if records were merged in real-time order: all calls in a record that was merged into another record ended
-- before the next call by the other record's own thread started. The condition also applies inside each merged record.
abbrev pub InOrder : Past → Type 0
InOrder (Fresh t) = Unit {0}
InOrder (Called' p r c) = InOrder r × GatheredBefore c.begun r
InOrder (Gathered' p r q g) = InOrder r × InOrder g

-- Holds if the record belongs to thread u, or a record of thread u was merged into it.
abbrev pub IsIn : ℕ → Past → Type 0
IsIn u r = Names u (record_of r)

-- Holds if a record of calls and all records that were merged into it belong to different threads.
abbrev pub Apart : Past → Type 0
Apart (Fresh t) = Unit {0}
Apart (Called' p r c) = Apart r
Apart (Gathered' p r q g) = Apart r × Apart g × ((u : ℕ) → IsIn u r → IsIn u g → ⊥)
