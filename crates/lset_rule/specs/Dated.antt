-- Removes the event numbers from a record of completed calls. Contracts use records without event numbers.
use Rattle.lset_rule.specs.declared.view.OwnCall.{OwnCall}
use Rattle.lset_rule.specs.declared.view.Past.{Past, Fresh, Called', Gathered'}
use Rattle.lset_words.specs.Records.{CallMade, Record, fresh, called, gathered}

abbrev pub call_of : OwnCall → CallMade
call_of c = record { call = c.call; reply = c.reply }

abbrev pub record_of : Past → Record
record_of (Fresh t) = fresh t
record_of (Called' p r c) = called (record_of r) (call_of c)
record_of (Gathered' p r q g) = gathered (record_of r) (record_of g)
