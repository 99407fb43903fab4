use Rattle.std.proofs.Common.{◌≡◌, map, take}
use Rattle.std.specs.String.{string_bytes}
use Rattle.ffi_page.proofs.page_arguments.words_in.Given as goal

abbrev pub invariant-loop-piece : goal.invariant-loop-piece
invariant-loop-piece l = map string_bytes l.words.items ≡ map (λ t. t.now) (take l.piece-index l.piece-items)
