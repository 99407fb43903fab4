use Rattle.std.proofs.Common.{◌≡◌, ◌<◌, ◌≤◌, ◌-◌, length, get_or, nat_eq, nat_lt, sym, subst, ap, ◌∙◌, arith, rules}
use Rattle.std.proofs.lemmas.List.{get_or_read}
use Rattle.lset_history.specs.Changes.{IsCountUpTo}
use Rattle.lset_history.proofs.MomentSearch.{none_upto, some_upto}
use Rattle.lset_history.proofs.changes.Changes.opens_with.Goals as goal

pub returns-then-upto-gt0 : goal.returns-then-upto-gt0
returns-then-upto-gt0 c =
    let some : 0 < c.count_upto-upto.result.0 = search rules in
    let count : IsCountUpTo c.self.inside.opening.items c.args.key c.count_upto-upto.result.0 =
    subst (λ ks. IsCountUpTo ks c.args.key c.count_upto-upto.result.0) c.deref.ensures.value c.count_upto-upto.ensures.count in
    let inside : c.count_upto-upto.result.0 ≤ length c.self.inside.opening.items = count.inside in
    let below : c.count_upto-upto.result.0 - 1 < length c.self.inside.opening.items = omega (arith, some, inside) in
    let item : c.index.result.now ≡ get_or c.self.inside.opening.items (c.count_upto-upto.result.0 - 1) 0 =
    get_or_read c.self.inside.opening.items _ _ below c.index.ensures 0 in
    rw (← c.self.view_is) (ap (λ z. nat_eq z c.args.key) item
    ∙ sym (some_upto c.self.inside.opening.items c.args.key c.count_upto-upto.result.0 c.self.invariant.opening count some))

pub returns-else-upto-gt0 : goal.returns-else-upto-gt0
returns-else-upto-gt0 c =
    let none : c.count_upto-upto.result.0 ≡ 0 = search rules in
    let count : IsCountUpTo c.self.inside.opening.items c.args.key c.count_upto-upto.result.0 =
    subst (λ ks. IsCountUpTo ks c.args.key c.count_upto-upto.result.0) c.deref.ensures.value c.count_upto-upto.ensures.count in
    rw (← c.self.view_is) (ap (λ z. nat_lt 0 z) none
    ∙ sym (none_upto c.self.inside.opening.items c.args.key c.count_upto-upto.result.0 c.self.invariant.opening count none))
