use Rattle.std.proofs.Common.{◌≡◌, ◌∷◌, [], ◌++◌, ◌∙◌, length, Err, refl, sym, ap, subst, append_assoc, append-nil, arith, length-append}
use Rattle.lset_text.specs.Causes.{fault}
use Rattle.lset_text.specs.declared.causes.LineFault.{LineFault}
use Rattle.lset_recording.specs.declared.reader.RecordingReader.{RecordingReader}
use Rattle.lset_recording.specs.declared.recording_lines.Line.TheVariants as told
use Rattle.lset_recording.specs.declared.recording_lines.Section.TheVariants as part
use Rattle.lset_recording.specs.Reading.{Says}
use Rattle.lset_recording.specs.Kept.{IsLineOf, IsRead}
use Rattle.lset_recording.proofs.LineKinds.{is_formed, line_found_in}
use Rattle.lset_recording.proofs.ReadLaws.{call_read, call_refused, line_of_piece}
use Rattle.lset_recording.proofs.reader.RecordingReader.quick_calls_in.Goals as goal

pub loop-call-init : goal.loop-call-init
loop-call-init c = (
  [],
  refl,
  λ bytes is. (subst (λ t. IsRead t c.args.self.now) (sym (append-nil bytes)) is, c.requires.takes),
  c.requires.none,
  c.requires.short,
)

pub put-requires : goal.put-requires
put-requires c =
    let found = c.in-Some.ensures in
    is_formed (told.Call c.in-Some.call) (line_found_in part.Calls found.0 (told.Call c.in-Some.call) (found.2 part.Calls refl)).1

pub returns-in-Err-clause-refused : goal.returns-in-Err-clause-refused
returns-in-Err-clause-refused c = λ bytes is other more.
    let so_far = c.loop-call.invariant in
    let found = c.in-Some.ensures in
    let read = so_far.2 bytes is in
    let behind = c.in-Some.more.now in
    let named : c.fault.result ≡ fault c.loop-call.self.judging.number c.in-Err.cause =
    c.fault.ensures ∙ ap (λ n. fault n c.in-Err.cause) c.in-Err.ensures.same in
    let whole : c.args.piece.now ≡ so_far.0 ++ (found.0 ++ 10 ∷ behind) = so_far.1 ∙ ap (λ r. so_far.0 ++ r) found.1 in
    let regrouped : (bytes ++ so_far.0 ++ found.0 ++ 10 ∷ []) ++ (behind ++ more) ≡ (bytes ++ (so_far.0 ++ (found.0 ++ 10 ∷ behind))) ++ more =
    simp append_assoc in
    subst (λ t. Says t (Err c.fault.result)) (regrouped ∙ ap (λ p. (bytes ++ p) ++ more) (sym whole))
    (subst (λ (e : LineFault). Says ((bytes ++ so_far.0 ++ found.0 ++ 10 ∷ []) ++ (behind ++ more)) (Err e)) (sym named)
    (call_refused (bytes ++ so_far.0) found.0 c.loop-call.self c.in-Some.call c.in-Err.cause read.0 so_far.3 so_far.4 read.1 found.2
    (c.in-Err.ensures.refused (λ memory. other (ap (λ (e : LineFault). e.cause) named ∙ memory))) (behind ++ more)))

pub returns-in-Err-clause-line : goal.returns-in-Err-clause-line
returns-in-Err-clause-line c = λ bytes is.
    let so_far = c.loop-call.invariant in
    let found = c.in-Some.ensures in
    let read = so_far.2 bytes is in
    let behind = c.in-Some.more.now in
    let named : c.fault.result ≡ fault c.loop-call.self.judging.number c.in-Err.cause =
    c.fault.ensures ∙ ap (λ n. fault n c.in-Err.cause) c.in-Err.ensures.same in
    let whole : c.args.piece.now ≡ so_far.0 ++ (found.0 ++ 10 ∷ behind) = so_far.1 ∙ ap (λ r. so_far.0 ++ r) found.1 in
    subst (λ p. IsLineOf bytes p c.fault.result.line) (sym whole)
    (line_of_piece bytes so_far.0 found.0 behind c.fault.result.line (ap (λ (e : LineFault). e.line) named ∙ read.0.counted))

pub loop-call-smaller : goal.loop-call-smaller
loop-call-smaller c =
    let found = c.in-Some.ensures in
    let long = ap length found.1 in
    let parts = length-append found.0 (10 ∷ c.in-Some.more.now) in
    omega (arith, long, parts)

pub loop-call-preserved : goal.loop-call-preserved
loop-call-preserved c =
    let so_far = c.loop-call.invariant in
    let found = c.in-Some.ensures in
    let after : RecordingReader = record {
      judging = c.put.new.self;
      line = c.loop-call.self.line;
      is_long = c.loop-call.self.is_long;
      failed = c.loop-call.self.failed;
    } in (
      so_far.0 ++ found.0 ++ 10 ∷ [],
      so_far.1 ∙ ap (λ r. so_far.0 ++ r) found.1 ∙ sym (simp append_assoc),
      λ bytes is.
          let read = so_far.2 bytes is in
          let next = call_read (bytes ++ so_far.0) found.0 c.loop-call.self after c.in-Some.call read.0 so_far.3 so_far.4 read.1 found.2
          c.in_default-put.ensures.taken so_far.3 so_far.4 read.0.sound in
          (subst (λ t. IsRead t after) (simp append_assoc) next.0, next.1),
      so_far.3,
      so_far.4,
    )

pub returns-clause-taken : goal.returns-clause-taken
returns-clause-taken c =
    let so_far = c.loop-call.invariant in
    (so_far.0, so_far.1, λ bytes is. (so_far.2 bytes is).0)
