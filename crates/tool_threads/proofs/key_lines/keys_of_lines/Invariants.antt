use Rattle.std.proofs.Common.{length}
use Rattle.tool_threads.proofs.key_lines.keys_of_lines.Given as goal

abbrev pub decreases-loop-rest : goal.decreases-loop-rest
decreases-loop-rest l = length l.rest
