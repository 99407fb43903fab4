use Rattle.std.proofs.Common.{◌≡◌, ℕ, ◌-◌, List, [], ◌++◌, length, take, drop, refl, sym, ap, ◌∙◌, subst, append_assoc}
use Rattle.std.proofs.Common.{append-nil, take-append-drop}
use Rattle.std.proofs.lemmas.Bool.{eqb-true}
use Rattle.std.proofs.lemmas.List.{take_rest, nil_from_length}
use Rattle.std.specs.Io.KnownBytes.{Appends}
use Rattle.std.proofs.KnownBytes.{Appends-trans, Appends-kept, Appends-nil}
use Rattle.tool_base.proofs.input.put.Goals as goal

moves_front : (all done rest : List ℕ) (n : ℕ) → all ≡ done ++ rest → all ≡ (done ++ take n rest)
    ++ take (length rest - n) (drop n rest)
moves_front all done rest n e =
    e ∙ ap (λ l. done ++ l) (sym (take-append-drop n rest)) ∙ sym (append_assoc done (take n rest) (drop n rest))
    ∙ ap (λ l. (done ++ take n rest) ++ l) (sym (take_rest rest n))

pub loop-rest-init : goal.loop-rest-init
loop-rest-init g c = ([], refl, Appends-nil _)

pub returns-in-Err-clause-front : goal.returns-in-Err-clause-front
returns-in-Err-clause-front g c =
    let (done, split, appended) = c.loop-rest.invariant in
    (done, c.loop-rest.rest.now, split, Appends-kept _ _ _ done appended c.in-Err.ensures.bytes)

pub returns-then-count-eq0-clause-front : goal.returns-then-count-eq0-clause-front
returns-then-count-eq0-clause-front g c =
    let (done, split, appended) = c.loop-rest.invariant in
    let none : take c.in-Ok.count c.loop-rest.rest.now ≡ [] = rw c.if-count-eq0.true refl in (
      done,
      c.loop-rest.rest.now,
      split,
      subst (Appends _ _) (ap (λ l. done ++ l) none ∙ append-nil done) (Appends-trans _ _ _ _ _ appended c.in-Ok.ensures.bytes),
    )

pub loop-rest-preserved : goal.loop-rest-preserved
loop-rest-preserved g c =
    let (done, split, appended) = c.loop-rest.invariant in (
      done ++ take c.in-Ok.count c.loop-rest.rest.now,
      moves_front _ done c.loop-rest.rest.now c.in-Ok.count split,
      Appends-trans _ _ _ _ _ appended c.in-Ok.ensures.bytes,
    )

pub returns-clause-front : goal.returns-clause-front
returns-clause-front g c =
    let (done, split, appended) = c.loop-rest.invariant in
    (done, c.loop-rest.rest.now, split, appended)

pub returns-clause-whole : goal.returns-clause-whole
returns-clause-whole g c = λ _.
    let (done, split, appended) = c.loop-rest.invariant in
    let empty : c.loop-rest.rest.now ≡ [] =
    nil_from_length c.loop-rest.rest.now (eqb-true _ _ (sym c.is_empty.ensures ∙ c.loop-rest-test.false)) in
    subst (Appends _ _) (sym (split ∙ ap (λ l. done ++ l) empty ∙ append-nil done)) appended
