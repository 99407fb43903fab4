use Rattle.std.proofs.Common.{◌≡◌, ◌∷◌, [], ◌++◌, ◌∙◌, length, sym, ap, subst, append_assoc, arith, length-append}
use Rattle.lset_recording.specs.Kept.{IsRead, IsRefusedAt, IsLineOf}
use Rattle.lset_recording.proofs.ReadLaws.{refused_on, line_of_piece, line_of_rest}
use Rattle.lset_recording.proofs.reader.RecordingReader.bytes_in.Goals as goal

pub loop-line-init : goal.loop-line-init
loop-line-init c = c.in_ok-rest.ensures.taken

pub returns-in-Err-clause-refused : goal.returns-in-Err-clause-refused
returns-in-Err-clause-refused c = λ bytes is.
    let so_far = c.loop-line.invariant in
    let e = c.in-Err.fault in
    subst (λ p. IsRefusedAt (bytes ++ p) e) (sym (so_far.1 ∙ ap (λ r. so_far.0 ++ r) c.in-Some.ensures.0))
    (refused_on bytes so_far.0 c.in-Some.line.now c.in-Some.more.now e (c.in-Err.ensures.refused (bytes ++ so_far.0) (so_far.2 bytes is)))

pub returns-in-Err-clause-line : goal.returns-in-Err-clause-line
returns-in-Err-clause-line c = λ bytes is.
    let so_far = c.loop-line.invariant in
    subst (λ p. IsLineOf bytes p c.in-Err.fault.line) (sym (so_far.1 ∙ ap (λ r. so_far.0 ++ r) c.in-Some.ensures.0))
    (line_of_piece bytes so_far.0 c.in-Some.line.now c.in-Some.more.now c.in-Err.fault.line
    (c.in-Err.ensures.line ∙ (so_far.2 bytes is).counted))

pub returns-in-Err-calls_in-clause-refused : goal.returns-in-Err-calls_in-clause-refused
returns-in-Err-calls_in-clause-refused c = λ bytes is.
    let so_far = c.loop-line.invariant in
    let line = c.in-Some.line.now in
    let more = c.in-Some.more.now in
    let whole : c.args.piece.now ≡ so_far.0 ++ (line ++ 10 ∷ more) = so_far.1 ∙ ap (λ r. so_far.0 ++ r) c.in-Some.ensures.0 in
    let regrouped : (bytes ++ so_far.0 ++ line ++ 10 ∷ []) ++ more ≡ bytes ++ (so_far.0 ++ (line ++ 10 ∷ more)) = simp append_assoc in
    subst (λ t. IsRefusedAt t c.in-Err-calls_in.fault) (regrouped ∙ ap (λ p. bytes ++ p) (sym whole))
    (c.in-Err-calls_in.ensures.refused (bytes ++ so_far.0 ++ line ++ 10 ∷ [])
    (c.in_default-line_in.ensures.taken (bytes ++ so_far.0) (so_far.2 bytes is)))

pub returns-in-Err-calls_in-clause-line : goal.returns-in-Err-calls_in-clause-line
returns-in-Err-calls_in-clause-line c = λ bytes is.
    let so_far = c.loop-line.invariant in
    let line = c.in-Some.line.now in
    let more = c.in-Some.more.now in
    let n = c.in-Err-calls_in.fault.line in
    let whole : c.args.piece.now ≡ so_far.0 ++ (line ++ 10 ∷ more) = so_far.1 ∙ ap (λ r. so_far.0 ++ r) c.in-Some.ensures.0 in
    let of_piece : (so_far.0 ++ line ++ 10 ∷ []) ++ more ≡ so_far.0 ++ (line ++ 10 ∷ more) = simp append_assoc in
    let of_bytes : bytes ++ so_far.0 ++ line ++ 10 ∷ [] ≡ bytes ++ (so_far.0 ++ line ++ 10 ∷ []) = simp append_assoc in
    subst (λ p. IsLineOf bytes p n) (of_piece ∙ sym whole)
    (line_of_rest bytes (so_far.0 ++ line ++ 10 ∷ []) more n
    (subst (λ b. IsLineOf b more n) of_bytes
    (c.in-Err-calls_in.ensures.line (bytes ++ so_far.0 ++ line ++ 10 ∷ [])
    (c.in_default-line_in.ensures.taken (bytes ++ so_far.0) (so_far.2 bytes is)))))

pub loop-line-smaller : goal.loop-line-smaller
loop-line-smaller c =
    let long = ap length c.in-Some.ensures.0 in
    let parts = length-append c.in-Some.line.now (10 ∷ c.in-Some.more.now) in
    let calls = c.in-Ok.ensures.taken in
    let after = ap length calls.1 in
    let of_calls = length-append calls.0 c.in-Ok.rest.now in
    omega (arith, long, parts, after, of_calls)

pub loop-line-preserved : goal.loop-line-preserved
loop-line-preserved c =
    let so_far = c.loop-line.invariant in
    let line = c.in-Some.line.now in
    let calls = c.in-Ok.ensures.taken in (
      (so_far.0 ++ line ++ 10 ∷ []) ++ calls.0,
      so_far.1 ∙ ap (λ r. so_far.0 ++ r) (c.in-Some.ensures.0 ∙ ap (λ m. line ++ 10 ∷ m) calls.1) ∙ sym (simp append_assoc),
      λ bytes is.
          subst (λ t. IsRead t c.calls_in-in-Some.new.self) (simp append_assoc)
          (calls.2 (bytes ++ so_far.0 ++ line ++ 10 ∷ []) (c.in_default-line_in.ensures.taken (bytes ++ so_far.0) (so_far.2 bytes is))),
    )
