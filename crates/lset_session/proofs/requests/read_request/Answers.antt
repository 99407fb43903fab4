use Rattle.std.proofs.Common.{◌≡◌, ℕ, ◌<◌, List, [], ◌∷◌, length, rules, arith, codes, refl, sym}
use Rattle.std.proofs.lemmas.Slice.Eq.{text_from_reads}
use Rattle.lset_text.proofs.PartLaws.{some_part}
use Rattle.lset_session.specs.declared.requests.Request.TheVariants.{Bad}
use Rattle.lset_session.specs.SessionText.{request_of, request_of_pieces}
use Rattle.lset_session.proofs.requests.read_request.Goals as goal

many_pieces : (a b : List ℕ) (more : List (List ℕ)) → 0 < length more → Bad ≡ request_of_pieces (a ∷ b ∷ more)
many_pieces a b [] some = absurd (omega arith)
many_pieces a b (c ∷ cs) some = refl

pub returns-in-Some-cut : goal.returns-in-Some-cut
unfolding request_of
returns-in-Some-cut c =
    rw (c.in-Some.ensures.parts, c.in-Some-cut.ensures.parts)
    (many_pieces c.in-Some.word.now _ _ (some_part 32 c.in-Some-cut._more.now))

pub returns-in-REMOVE : goal.returns-in-REMOVE
unfolding request_of
returns-in-REMOVE c =
    let name = text_from_reads c.in-Some.word.now (codes "REMOVE") (omega arith) (search rules) in
    rw (c.in-Some.ensures.parts, c.in_default-cut.ensures.parts, name, sym c.in-Some-number.ensures) refl

pub returns-in-CONTAINS : goal.returns-in-CONTAINS
unfolding request_of
returns-in-CONTAINS c =
    let name = text_from_reads c.in-Some.word.now (codes "CONTAINS") (omega arith) (search rules) in
    rw (c.in-Some.ensures.parts, c.in_default-cut.ensures.parts, name, sym c.in-Some-number.ensures) refl

pub returns-in-CEILING : goal.returns-in-CEILING
unfolding request_of
returns-in-CEILING c =
    let name = text_from_reads c.in-Some.word.now (codes "CEILING") (omega arith) (search rules) in
    rw (c.in-Some.ensures.parts, c.in_default-cut.ensures.parts, name, sym c.in-Some-number.ensures) refl
