use Rattle.std.proofs.Common.{◌≡◌, ◌<◌, [], ◌++◌, length, take, refl, sym, ap, ◌∙◌, subst, append-nil, arith}
use Rattle.std.proofs.lemmas.Bool.{eqb-true}
use Rattle.std.proofs.lemmas.List.{nil_from_length}
use Rattle.std.specs.Io.KnownBytes.{Appends}
use Rattle.std.proofs.KnownBytes.{Appends-trans, Appends-kept, Appends-nil}
use Rattle.lset_session.proofs.WriteLaws.{moves_front, cut_short}
use Rattle.lset_session.proofs.devices.write_all.Goals as goal

pub loop-rest-init : goal.loop-rest-init
loop-rest-init g c = (([], refl, Appends-nil _), c.requires.works)

pub returns-in_default-clause-text : goal.returns-in_default-clause-text
returns-in_default-clause-text g c =
    let (done, split, appended) = c.loop-rest.invariant.0 in
    let some : 0 < length c.loop-rest.rest.now = grind arith in
    cut_short _ _ _ done c.loop-rest.rest.now split some (Appends-kept _ _ _ done appended c.in_default.ensures.bytes)

pub loop-rest-preserved : goal.loop-rest-preserved
loop-rest-preserved g c =
    let (done, split, appended) = c.loop-rest.invariant.0 in (
      (
        done ++ take c.in-Some.count c.loop-rest.rest.now,
        moves_front _ done c.loop-rest.rest.now c.in-Some.count split,
        Appends-trans _ _ _ _ _ appended c.in-Some.ensures.bytes,
      ),
      c.in-Some.ensures.failed,
    )

pub returns-clause-text : goal.returns-clause-text
returns-clause-text g c =
    let (done, split, appended) = c.loop-rest.invariant.0 in
    let empty : c.loop-rest.rest.now ≡ [] =
    nil_from_length c.loop-rest.rest.now (eqb-true _ _ (sym c.is_empty.ensures ∙ c.loop-rest-test.false)) in
    subst (Appends _ _) (sym (split ∙ ap (λ l. done ++ l) empty ∙ append-nil done)) appended
