use Rattle.std.proofs.Common.{◌+◌, ◌-◌, vec_len}
use Rattle.std.specs.Io.KnownBytes.{Consumes}
use Rattle.tool_base.specs.declared.input.TheConstants.{LONGEST}
use Rattle.tool_base.proofs.input.read_all.Given as goal

abbrev pub invariant-loop-buffer : goal.invariant-loop-buffer
invariant-loop-buffer g l = Consumes (g.R.Read.remaining l.initial.input) (g.R.Read.remaining l.input) l.bytes.items

abbrev pub decreases-loop-buffer : goal.decreases-loop-buffer
decreases-loop-buffer g l = LONGEST + 1 - vec_len l.bytes
