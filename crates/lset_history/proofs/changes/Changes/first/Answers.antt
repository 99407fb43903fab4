use Rattle.std.proofs.Common.{◌≡◌, ℕ, Bool, List, ◌≤◌, ◌<◌, [], ◌∷◌, ◌++◌, length, Some, None, get_or, refl, sym, subst, ◌∙◌, arith}
use Rattle.std.proofs.Common.{rules}
use Rattle.std.specs.Prelude.{if◌then◌else◌}
use Rattle.lset_words.specs.SequentialSet.{has_key}
use Rattle.lset_history.specs.Changes.{ChangesValue, IsFirst, moments_of, noted_of, is_present}
use Rattle.lset_history.proofs.MomentSearch.{turned_from, same_state, other_state, found_at_once, never_found, found_next}
use Rattle.lset_history.proofs.MomentSearch.{first_of_all, few_looks}
use Rattle.lset_history.proofs.changes.Changes.first.Goals as goal
use Rattle.lset_history.proofs.changes.Changes.first.Goals.{then-next-to, else-next-to}

moments_are : (self : ChangesValue) (key : ℕ) (opens : Bool) (noted : List ℕ) → opens ≡ has_key key self.opening
    → noted ≡ noted_of self key → moments_of self key ≡ (if opens then 0 ∷ [] else []) ++ noted
moments_are self key opens noted e f =
    rw (e, f) refl

pub count_upto-before-requires : goal.count_upto-before-requires
count_upto-before-requires c = c.noted-noted.ensures.increases

pub returns-then-before-opens_with-clause-first : goal.returns-then-before-opens_with-clause-first
returns-then-before-opens_with-clause-first c =
    let is = moments_are c.args.self.now c.args.key _ _ c.opens_with.ensures c.noted-noted.ensures.value in
    first_of_all c.opens_with.result c.noted-noted.result.now (moments_of c.args.self.now c.args.key) is c.args.present c.args.from c.args.to (Some c.args.from)
    (found_at_once c.opens_with.result c.noted-noted.result.now c.noted-noted.ensures.increases c.args.present c.args.from c.args.to
    c.count_upto-before.result.0 c.requires c.count_upto-before.ensures.count
    (sym (turned_from c.count_upto-before.result.0 c.opens_with.result) ∙ same_state _ c.args.present c.if-before-opens_with.true))

pub returns-then-before-opens_with-clause-few : goal.returns-then-before-opens_with-clause-few
returns-then-before-opens_with-clause-few c = λ few.
    let a : c.count_upto-before.result.1 ≤ 20 = few_looks _ _ _ (moments_are c.args.self.now c.args.key _ _ c.opens_with.ensures c.noted-noted.ensures.value) _
    c.count_upto-before.ensures.looked few in
    omega arith

pub returns-then-before-noted-clause-first : goal.returns-then-before-noted-clause-first
returns-then-before-noted-clause-first c =
    let is = moments_are c.args.self.now c.args.key _ _ c.opens_with.ensures c.noted-noted.ensures.value in
    first_of_all c.opens_with.result c.noted-noted.result.now (moments_of c.args.self.now c.args.key) is c.args.present c.args.from c.args.to None
    (never_found c.opens_with.result c.noted-noted.result.now c.noted-noted.ensures.increases c.args.present c.args.from c.args.to
    c.count_upto-before.result.0 c.requires c.count_upto-before.ensures.count
    (λ e. other_state _ c.args.present c.if-before-opens_with.false (turned_from c.count_upto-before.result.0 c.opens_with.result ∙ e))
    (λ l. absurd (let e : c.count_upto-before.result.0 ≡ length c.noted-noted.result.now = search rules in omega arith)))

pub returns-then-before-noted-clause-few : goal.returns-then-before-noted-clause-few
returns-then-before-noted-clause-few c = λ few.
    let a : c.count_upto-before.result.1 ≤ 20 = few_looks _ _ _ (moments_are c.args.self.now c.args.key _ _ c.opens_with.ensures c.noted-noted.ensures.value) _
    c.count_upto-before.ensures.looked few in
    omega arith

pub overflow_add-result : goal.overflow_add-result
overflow_add-result c =
    let a : c.count_upto-before.result.1 ≤ 64 = c.count_upto-before.ensures.looked 64 (omega arith) (search rules) in omega arith

pub returns-clause-first : goal.returns-clause-first
returns-clause-first c =
    let is = moments_are c.args.self.now c.args.key _ _ c.opens_with.ensures c.noted-noted.ensures.value in
    let upto : c.count_upto-before.result.0 ≤ length c.noted-noted.result.now = c.count_upto-before.ensures.count.inside in
    let below : c.count_upto-before.result.0 < length c.noted-noted.result.now = search rules in
    elim c.if-next-to.branch [
      | then-next-to w ↦ (let test : get_or c.noted-noted.result.now c.count_upto-before.result.0 0 ≤ c.args.to = search rules in
          subst (λ z. IsFirst (λ m. is_present (moments_of c.args.self.now) c.args.key m ≡ c.args.present) c.args.from c.args.to
          z) (sym w.found-is)
          (first_of_all c.opens_with.result c.noted-noted.result.now (moments_of c.args.self.now c.args.key) is c.args.present c.args.from c.args.to
          (Some (get_or c.noted-noted.result.now c.count_upto-before.result.0 0))
          (found_next c.opens_with.result c.noted-noted.result.now c.noted-noted.ensures.increases c.args.present c.args.from c.args.to
          c.count_upto-before.result.0 c.requires c.count_upto-before.ensures.count
          (λ e. other_state _ c.args.present c.if-before-opens_with.false (turned_from c.count_upto-before.result.0 c.opens_with.result ∙ e)) below test)))
      | else-next-to w ↦ (let test : c.args.to < get_or c.noted-noted.result.now c.count_upto-before.result.0 0 = search rules in
          subst (λ z. IsFirst (λ m. is_present (moments_of c.args.self.now) c.args.key m ≡ c.args.present) c.args.from c.args.to
          z) (sym w.found-is)
          (first_of_all c.opens_with.result c.noted-noted.result.now (moments_of c.args.self.now c.args.key) is c.args.present c.args.from c.args.to None
          (never_found c.opens_with.result c.noted-noted.result.now c.noted-noted.ensures.increases c.args.present c.args.from c.args.to
          c.count_upto-before.result.0 c.requires c.count_upto-before.ensures.count
          (λ e. other_state _ c.args.present c.if-before-opens_with.false (turned_from c.count_upto-before.result.0 c.opens_with.result ∙ e)) (λ l. test))))
    ]

pub returns-clause-few : goal.returns-clause-few
returns-clause-few c = λ few.
    let a : c.count_upto-before.result.1 ≤ 20 = few_looks _ _ _ (moments_are c.args.self.now c.args.key _ _ c.opens_with.ensures c.noted-noted.ensures.value) _
    c.count_upto-before.ensures.looked few in
    omega arith
