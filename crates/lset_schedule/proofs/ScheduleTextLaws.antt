-- Proof: if a text can be read as a schedule, it is the text of that schedule, and reading the text of a schedule
-- yields that schedule.
use Rattle.std.proofs.Common.{◌≡◌, ℕ, ◌<◌, ◌^◌, inl, inr, List, [], ◌∷◌, ◌++◌, map, false, Result, Ok, Err, refl, ap, subst, ◌∙◌}
use Rattle.std.proofs.Common.{sym, arith}
use Rattle.std.specs.Prelude.{IfOk, MatchResult, ◌≢◌}
use Rattle.std.specs.List.{AllByRecursion}
use Rattle.lset_words.specs.declared.Key.{Key}
use Rattle.lset_words.specs.Words.{key_of}
use Rattle.lset_text.specs.declared.words.CallWord.{CallWord}
use Rattle.lset_text.specs.declared.words.Version.{Version}
use Rattle.lset_text.specs.declared.words.Version.TheVariants.{One, Two}
use Rattle.lset_text.specs.Parts.{cut_at, Lacks}
use Rattle.lset_text.specs.Forms.{spell, have_form}
use Rattle.lset_text.specs.Spellings.{word_of, with_key, HasWord}
use Rattle.lset_text.specs.Headers.{header_lines}
use Rattle.lset_text.specs.Openings.{opening_form, opening_lines}
use Rattle.lset_text.specs.Texts.{text_from}
use Rattle.lset_text.proofs.PartLaws.{Lacks-from_test}
use Rattle.lset_text.proofs.WordLaws.{with_key-word_of, word_of-with_key, key_of-with_key}
use Rattle.lset_text.proofs.ReadingLaws.{bind_ok, ok_is}
use Rattle.lset_text.proofs.KindLaws.{Knows, IsMade}
use Rattle.lset_schedule.specs.declared.value.Line.{Line}
use Rattle.lset_schedule.specs.declared.value.Line.TheVariants.{Begin, Go}
use Rattle.lset_schedule.specs.declared.value.Schedule.{Schedule}
use Rattle.lset_text.specs.declared.causes.Cause.{Cause}
use Rattle.lset_text.specs.declared.causes.Cause.TheVariants.{Memory}
use Rattle.lset_text.specs.declared.causes.LineFault.{LineFault}
use Rattle.lset_schedule.specs.Plan.{Plan, view, planned, header_in, pieces_of, line_text, title, schedule_text, IsLine}
use Rattle.lset_schedule.specs.Plan.{IsSchedule}
use Rattle.lset_schedule.specs.ScheduleReading.{begin_kind, events, schedules, plan_in, version_told, plan_of, reading, Gives}
use Rattle.lset_text.proofs.TextLaws.{version_again}
use Rattle.lset_schedule.proofs.BodyLaws.{body_found, body_again}

-- ---- Lemmas about the patterns of event lines

begun : (v : Version) (n : ℕ) (w : CallWord) (k : Key) → n < 2 ^ 32 → k.0 < 2 ^ 32 → HasWord v w
    → (spell begin_kind.0 (tt, (n, (w, (k.0, tt)))) ≡ pieces_of (Begin n (with_key w k))) × IsLine v (Begin n (with_key w k))
begun v n w k nl kl has = rw (word_of-with_key w k, key_of-with_key w k) (refl, (nl, kl, has))

pub events_known : (v : Version) → AllByRecursion (Knows v pieces_of (IsLine v)) events.kinds
events_known v = (
  (
    (refl, (omega arith, (tt, (omega arith, tt)))),
    λ t fit. begun v t.1.0 t.1.1.0 (record { 0 = t.1.1.1.0 })
        (omega (arith, fit.1.0.1)) (omega (arith, fit.1.1.1.0.1)) fit.1.1.0,
  ),
  (((refl, (omega arith, (omega arith, tt))), λ t fit. (refl, (omega (arith, fit.1.0.1), fit.1.1.0.0, fit.1.1.0.1))), tt),
)

pub event_made : (v : Version) (l : Line) → IsLine v l → IsMade v pieces_of events.kinds l
event_made v (Begin t c) is =
    inl (
      (tt, (t, (word_of c, ((key_of c).0, tt)))),
      ap (Begin t) (with_key-word_of c),
      (tt, ((omega arith, omega (arith, is.0)), (is.2, ((omega arith, omega (arith, is.1)), tt)))),
    )
event_made v (Go t n) is =
    inr (refl, inl ((tt, (t, (n, tt))), refl, (tt, ((omega arith, omega (arith, is.0)), ((is.1, is.2), tt)))))

pub no_opening : (v : Version) (l : Line) → IsLine v l → have_form v opening_form (pieces_of l) ≡ false
no_opening v (Begin t c) is = refl
no_opening v (Go t n) is = refl

-- ---- Proof for complete schedules

title_lacks : (v : Version) → Lacks 10 (title v)
title_lacks One = Lacks-from_test 10 (title One) refl
title_lacks Two = Lacks-from_test 10 (title Two) refl

pub is_found : (bytes : List ℕ) (p : Plan) → reading bytes ≡ Ok p → IsSchedule p × (bytes ≡ schedule_text p)
is_found bytes p is =
    let v = version_told (cut_at 10 bytes) in
    let body = bind_ok (text_from (schedules v) (cut_at 10 bytes)) (λ b. Ok (planned v b.header b.keys b.lines)) p is in
    let found = body_found events v (title v) pieces_of (IsLine v) (events_known v) (event_made v) (no_opening v) bytes body.0 body.1 in
    subst (λ q. IsSchedule q × (bytes ≡ schedule_text q)) (ok_is (planned v body.0.header body.0.keys body.0.lines) p body.2)
    (record { opens = found.0.opens; opening = found.0.opening; lines = found.0.lines; few = found.0.few }, found.1)

pub reads_text : (p : Plan) → IsSchedule p → reading (schedule_text p) ≡ Ok p
reads_text p is =
    let v = p.version in
    let again = body_again events v (title v) pieces_of (IsLine v) (events_known v) (event_made v) (no_opening v)
    (record { header = header_in p; keys = p.opening; lines = p.lines }) (title_lacks v)
    (record { opens = is.opens; opening = is.opening; lines = is.lines; few = is.few }) in
    let rest : List (List ℕ) = (opening_lines p.opening ++ map line_text p.lines) ++ [] ∷ [] in
    let parts : List (List ℕ) = header_lines (title v) (header_in p) ++ rest in
    ap plan_of again.0 ∙ ap (λ w. plan_in w parts) (version_again schedules refl v (header_in p) rest) ∙ rw again.1 refl

-- ---- Proofs of the contracts of the functions that read a schedule

is_memory : (c : Cause) → (c ≢ Memory → ⊥) → c ≡ Memory
is_memory Memory h = refl
is_memory c h = absurd (h (λ e. cc))

pub gives_ok : {X Y : Type 0} (view : X → Y) (r : Result X LineFault) (y : Y) → Gives view r (Ok y)
    → MatchResult r (λ x. view x ≡ y) (λ e. e.cause ≡ Memory)
gives_ok view (Ok x) y gives = sym (ok_is y (view x) gives)
gives_ok view (Err e) y gives = is_memory e.cause (λ other. let bad = gives other in cc)

pub found_in : (bytes : List ℕ) (r : Result Schedule LineFault) → Gives view r (reading bytes)
    → IfOk r (λ s. IsSchedule (view s) × (bytes ≡ schedule_text (view s)))
found_in bytes (Ok s) gives = is_found bytes (view s) gives
found_in bytes (Err e) gives = tt

pub only_in : (bytes : List ℕ) (r : Result Schedule LineFault) → Gives view r (reading bytes) → (p : Plan) → IsSchedule p
    → bytes ≡ schedule_text p → MatchResult r (λ s. view s ≡ p) (λ e. e.cause ≡ Memory)
only_in bytes r gives p is text =
    let read : reading bytes ≡ Ok p = ap reading text ∙ reads_text p is in
    gives_ok view r p (subst (Gives view r) read gives)
