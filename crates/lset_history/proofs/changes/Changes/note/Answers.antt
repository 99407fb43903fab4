use Rattle.std.proofs.Common.{◌≡◌, true, refl, sym, subst}
use Rattle.std.specs.List.{list_any}
use Rattle.std.specs.Ordering.{nat_cmp}
use Rattle.std.specs.BTreeMap.{is_at}
use Rattle.std.proofs.lemmas.Bool.{both_ways}
use Rattle.std.proofs.lemmas.Result.{MatchResult-from_err}
use Rattle.lset_history.specs.Changes.{changes_in, AreKept}
use Rattle.lset_history.proofs.ChangeNoted.{kept_beside, kept_listed, kept_present, kept_noted, has_after, others_after}
use Rattle.lset_history.proofs.changes.Changes.note.Goals as goal

-- If the first allocation fails, the invariant still holds: `keys_at` and `keys_now` are unchanged.
pub invariant_of-self : goal.invariant_of-self
invariant_of-self c = kept_listed (changes_in c.self.inside.opening.items c.self.inside.moments) c.self.inside.keys_at c.insert.new.self
    c.self.inside.keys_now
    c.in_err-insert.ensures.err c.self.invariant

-- If the second allocation fails, the invariant still holds: only `keys_at` has a new entry.
pub invariant_of-self-in_err-insert-2 : goal.invariant_of-self-in_err-insert-2
invariant_of-self-in_err-insert-2 c = kept_present (changes_in c.self.inside.opening.items c.self.inside.moments) c.insert.new.self c.self.inside.keys_now
    c.insert-2.new.self
    (λ k has. subst (λ ks. list_any (is_at (nat_cmp k)) ks ≡ true) (sym c.in_err-insert-2.ensures.err) has)
    (kept_beside (changes_in c.self.inside.opening.items c.self.inside.moments) c.args.key c.args.at (rw (← c.self.view_is) at c.requires.later)
    c.self.inside.keys_at c.insert.new.self c.self.inside.keys_now c.in_ok-insert.ensures.updates c.self.invariant)

-- If recording the moment fails, the invariant still holds: `keys_at` and `keys_now` each have a new entry.
pub invariant_of-self-in_err-push_moment : goal.invariant_of-self-in_err-push_moment
invariant_of-self-in_err-push_moment c = subst (λ d. AreKept d c.insert.new.self c.insert-2.new.self)
    (sym (c.in_err-push_moment.ensures.unchanged c.self.inside.opening.items))
    (kept_present (changes_in c.self.inside.opening.items c.self.inside.moments) c.insert.new.self c.self.inside.keys_now c.insert-2.new.self
    (has_after c.args.key c.self.inside.keys_now c.insert-2.new.self c.in_ok-insert-2.ensures.updates)
    (kept_beside (changes_in c.self.inside.opening.items c.self.inside.moments) c.args.key c.args.at (rw (← c.self.view_is) at c.requires.later)
    c.self.inside.keys_at c.insert.new.self c.self.inside.keys_now c.in_ok-insert.ensures.updates c.self.invariant))

-- If the key was removed, the invariant still holds after the change is recorded and the key is removed from
-- `keys_now`.
pub invariant_of-self-then-not-present : goal.invariant_of-self-then-not-present
invariant_of-self-then-not-present c = kept_noted (changes_in c.self.inside.opening.items c.self.inside.moments) c.args.key c.args.at
    (rw (← c.self.view_is) at c.requires.later)
    (changes_in c.self.inside.opening.items c.push_moment.new.moments) refl
    (c.in_ok-push_moment.ensures.noted c.self.inside.opening.items) c.insert.new.self c.args.present c.insert-2.new.self
    c.remove.new.self
    c.ranges.key.fits
    (kept_present (changes_in c.self.inside.opening.items c.self.inside.moments) c.insert.new.self c.self.inside.keys_now c.insert-2.new.self
    (has_after c.args.key c.self.inside.keys_now c.insert-2.new.self c.in_ok-insert-2.ensures.updates)
    (kept_beside (changes_in c.self.inside.opening.items c.self.inside.moments) c.args.key c.args.at (rw (← c.self.view_is) at c.requires.later)
    c.self.inside.keys_at c.insert.new.self c.self.inside.keys_now c.in_ok-insert.ensures.updates c.self.invariant))
    c.in_ok-insert.ensures.updates.1 (rw (← c.self.view_is) at c.requires.turn)
    (others_after c.args.key c.insert-2.new.self c.remove.new.self c.remove.ensures.updates)
    (λ e. absurd (both_ways c.args.present c.if-not-present.true e))

pub invariant_of-self-else-not-present : goal.invariant_of-self-else-not-present
invariant_of-self-else-not-present c = kept_noted (changes_in c.self.inside.opening.items c.self.inside.moments) c.args.key c.args.at
    (rw (← c.self.view_is) at c.requires.later)
    (changes_in c.self.inside.opening.items c.push_moment.new.moments) refl
    (c.in_ok-push_moment.ensures.noted c.self.inside.opening.items) c.insert.new.self c.args.present c.insert-2.new.self
    c.insert-2.new.self
    c.ranges.key.fits
    (kept_present (changes_in c.self.inside.opening.items c.self.inside.moments) c.insert.new.self c.self.inside.keys_now c.insert-2.new.self
    (has_after c.args.key c.self.inside.keys_now c.insert-2.new.self c.in_ok-insert-2.ensures.updates)
    (kept_beside (changes_in c.self.inside.opening.items c.self.inside.moments) c.args.key c.args.at (rw (← c.self.view_is) at c.requires.later)
    c.self.inside.keys_at c.insert.new.self c.self.inside.keys_now c.in_ok-insert.ensures.updates c.self.invariant))
    c.in_ok-insert.ensures.updates.1 (rw (← c.self.view_is) at c.requires.turn)
    (λ k n has. has) (λ e. c.in_ok-insert-2.ensures.updates.1)

pub returns-in_err-push_moment-clause-unchanged : goal.returns-in_err-push_moment-clause-unchanged
returns-in_err-push_moment-clause-unchanged c = rw (← c.self.view_is)
    (MatchResult-from_err _ _ _ c.from_residual-in_err-push_moment.ensures.0 (λ _.
    c.in_err-push_moment.ensures.unchanged c.self.inside.opening.items))
