use Rattle.std.proofs.Common.{◌++◌, ◌∷◌, [], Some, sym, refl, subst, ap, ◌∙◌}
use Rattle.std.specs.Ordering.{nat_cmp}
use Rattle.std.specs.BTreeMap.{is_at, UpdatesBy}
use Rattle.std.proofs.lemmas.Result.{MatchResult-from_err}
use Rattle.lset_history.proofs.ChangeNoted.{noted_map, same_items, items_in, shown}
use Rattle.lset_history.proofs.changes.push_moment.Goals as goal

-- If the key already has moments, the new moment is appended to them.
pub returns-in-Some-clause-noted : goal.returns-in-Some-clause-noted
returns-in-Some-clause-noted c = noted_map c.args.moments.now (c.get_mut.follows.lender c.push.new.self) c.args.key c.args.at
    c.push.new.self
    ((c.get_mut.follows.holds c.push.new.self).3 (rw (← c.in-Some.ensures.value) refl))
    (c.in_ok-push.ensures.items ∙ ap (λ z. items_in z ++ c.args.at ∷ []) c.in-Some.ensures.value)

-- If the allocation fails, no moment is appended.
pub returns-in_err-push-clause-unchanged : goal.returns-in_err-push-clause-unchanged
returns-in_err-push-clause-unchanged c = MatchResult-from_err _ _ _ c.from_residual.ensures.0 (λ _ opening.
    ap (λ es. record { opening = opening; entries = es }) (ap shown (c.get_mut.follows.holds c.push.new.self).0
    ∙ same_items (is_at (nat_cmp c.args.key)) c.args.moments.now.entries
    c.in-Some.moments.now c.push.new.self (sym c.in-Some.ensures.value) c.in_err-push.ensures.items))

-- If no moment is recorded for the key yet, the new moment becomes the key's first moment.
pub returns-clause-noted : goal.returns-clause-noted
returns-clause-noted c = noted_map c.args.moments.now c.insert.new.self c.args.key c.args.at c.push-2.new.self
    (subst (λ m. UpdatesBy nat_cmp (nat_cmp c.args.key) m c.insert.new.self (Some c.push-2.new.self))
    c.get_mut.follows.holds-at-none
    c.in_ok-insert.ensures.updates)
    (c.in_ok-push-2.ensures.items ∙ ap (λ z. z ++ c.args.at ∷ []) c.new-first.ensures.items
    ∙ ap (λ z. items_in z ++ c.args.at ∷ []) c.in_default.ensures.value)
