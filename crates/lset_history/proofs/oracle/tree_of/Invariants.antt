use Rattle.std.proofs.Common.{◌≡◌, take}
use Rattle.lset_history.proofs.oracle.tree_of.Given as goal

-- Loop invariant: the tree contains the keys read so far.
abbrev pub invariant-loop-key : goal.invariant-loop-key
invariant-loop-key l = l.tree.keys ≡ take l.key-index l.keys
