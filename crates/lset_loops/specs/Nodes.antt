-- The words of a node, and the values that a link can have.
use Rattle.std.specs.Prelude.{ℕ, ◌+◌, ◌*◌}
use Rattle.lset_words.specs.Words.{key_index, link_index, lock_index}
use Rattle.lset_loops.specs.declared.parts.Part.{Part}
use Rattle.lset_loops.specs.declared.parts.Part.TheVariants as part
use Rattle.lset_loops.specs.declared.parts.Link.{Link}
use Rattle.lset_loops.specs.declared.parts.Link.TheVariants as link

abbrev pub index_of : Part → ℕ
index_of (part.Key n) = key_index n.number
index_of (part.Link n) = link_index n.number
index_of (part.Lock n) = lock_index n.number

abbrev pub word_of : Link → ℕ
word_of (link.To n) = 2 * n.number
word_of (link.Marked n) = 2 * n.number + 1
