use Rattle.std.proofs.Common.{◌≡◌, ◌∙◌, ℕ, List, Bor, ap, map, take, eqb, lit<, arith}
use Rattle.std.specs.List.{slice_split}
use Rattle.std.proofs.lemmas.List.{take_all}
use Rattle.std.proofs.lemmas.Result.{IfOk-at_ok}
use Rattle.std.proofs.lemmas.Iterator.Consumers.{map_from_collect}
use Rattle.std.proofs.lemmas.Iterator.Splits.{YieldsList-from_str_split}
use Rattle.ffi_page.proofs.page_arguments.words_in.Goals as goal

pub returns : goal.returns
returns c =
    let split = c.split.ensures in
    let cut = λ (bytes : List ℕ). slice_split (λ b. eqb b 0) bytes in
    let texts = λ (ts : List (Bor (List ℕ))). map (λ t. t.now) ts in
    let collected : texts c.in_ok-pieces.pieces.items ≡ cut c.deref.result.now =
    IfOk-at_ok _ c.in_ok-pieces.was (map_from_collect _ c.collect.ensures.ran (YieldsList-from_str_split 0 c.deref.result.now
    (lit< tt) split.text split.has_more split.pattern)) in
    let whole : take c.loop-piece.piece-index c.deref-piece-items.result.now ≡ c.deref-piece-items.result.now =
    take_all _ _ (omega arith) in
    c.loop-piece.invariant ∙ ap texts whole ∙ ap texts c.deref-piece-items.ensures.value ∙ collected
    ∙ ap cut (c.deref.ensures ∙ c.in_ok-text.ensures.lossy)
