use Rattle.std.proofs.Common.{◌≡◌, ℕ, true, sym, ◌∙◌}
use Rattle.std.specs.Prelude.{IsTrue}
use Rattle.std.specs.Ordering.{nat_cmp}
use Rattle.std.specs.BTreeSet as set
use Rattle.std.proofs.lemmas.Iterator.{YieldsList-from_slice}
use Rattle.std.proofs.lemmas.Iterator.Adapters.{fact_from_collect}
use Rattle.std.proofs.lemmas.Iterator.Consumers.{YieldsList-at, YieldsList-from_copied}
use Rattle.std.proofs.lemmas.Result.{IfOk-at_ok}
use Rattle.lset_words.specs.SequentialSet.{has_key}
use Rattle.lset_history.proofs.KeySets.{has_key_tree}
use Rattle.lset_history.proofs.ChangeNoted.{kept_opened}
use Rattle.lset_history.proofs.changes.Changes.opened.Goals as goal

pub invariant_of-result : goal.invariant_of-result
invariant_of-result c =
    let road = YieldsList-from_copied (YieldsList-at c.copied.ensures.source (YieldsList-from_slice c.args.keys.now c.iter.ensures.rest)) in
    let got = fact_from_collect (λ ys s. set.IsFromIterResult nat_cmp ys s) c.collect.result c.collect.ensures.ran road in
    let made = IfOk-at_ok (λ s. set.IsFromIterResult nat_cmp c.args.keys.now s) c.in_ok-collect.was got in
    let has : (k : ℕ) → has_key k c.args.keys.now ≡ true → IsTrue (set.contains nat_cmp c.in_ok-collect.field-0 k) =
    λ k e. made.0 k ∙ sym (has_key_tree k c.args.keys.now) ∙ e in
    rw (c.in_ok-from_slice.ensures.items, c.new.ensures.empty)
    (kept_opened c.args.keys.now c.new-2.result c.in_ok-collect.field-0 c.requires c.keys_are_small.ensures has)
