-- Proof that the reader's state stays correct from line to line.
use Rattle.std.proofs.Common.{◌≡◌, ℕ, ◌+◌, ◌-◌, ◌<◌, ◌^◌, true, List, [], ◌∷◌, ◌++◌, length, min, Option, Some, None, refl, sym, ap, subst, ◌∙◌}
use Rattle.std.proofs.Common.{arith}
use Rattle.std.specs.Prelude.{nat_lt, slice_get}
use Rattle.std.proofs.lemmas.Bool.{ltb-true}
use Rattle.std.proofs.lemmas.List.{get_or_push, length_push}
use Rattle.std.proofs.lemmas.Option.{slice_get-get_or}
use Rattle.lset_words.specs.declared.history.CallRecord.{CallRecord}
use Rattle.lset_text.specs.Openings.{above_last, is_above}
use Rattle.lset_text.proofs.OpeningLaws.{increases_more}
use Rattle.lset_judge.specs.declared.set_judge.Judge.{Judge}
use Rattle.lset_judge.specs.Stream.{behind_all}
use Rattle.lset_recording.specs.declared.kept.Judging.{Judging}
use Rattle.lset_recording.specs.declared.recording_lines.Line.TheVariants as told
use Rattle.lset_recording.specs.declared.recording_lines.Section.{Section}
use Rattle.lset_recording.specs.declared.recording_lines.Section.TheVariants as part
use Rattle.lset_recording.specs.Texts.{Recording}
use Rattle.lset_recording.specs.Reading.{SoFar, Comes}
use Rattle.lset_recording.specs.Kept.{AreKeys, IsFirst, IsJudging, IsKept, IsJudgeKept}

-- ---- Lemmas about appending a key

above_pushed : (keys : List ℕ) (key k : ℕ) → is_above (keys ++ key ∷ []) k ≡ nat_lt key k
above_pushed keys key k =
    let long : length (keys ++ key ∷ []) ≡ length keys + 1 = length_push keys key in
    let at : length (keys ++ key ∷ []) - 1 ≡ length keys = omega (arith, long) in
    ap (λ o. above_last o k) (ap (slice_get (keys ++ key ∷ [])) at
    ∙ slice_get-get_or (keys ++ key ∷ []) (length keys) 0 (omega (arith, long)) ∙ ap (λ (x : ℕ). Some x) (get_or_push keys key 0 (length keys) refl))

pub keys_more : (keys : List ℕ) (key : ℕ) → AreKeys keys → is_above keys key ≡ true → key < 2 ^ 32 → AreKeys (keys ++ key ∷ [])
keys_more keys key are above low =
    let long : length (keys ++ key ∷ []) ≡ length keys + 1 = length_push keys key in
    let few = are.below key above in
    record {
      increase = increases_more keys key are.increase above;
      below = λ k next. let less = ltb-true key k (sym (above_pushed keys key k) ∙ next) in omega (arith, long, few, less);
      few = omega (arith, long, few, low);
    }

-- ---- Lemmas about reading the next line

first_none : (s : Section) (k : ℕ) (o : Option Judge) → Comes s (told.Opening k) → IsFirst s o → o ≡ None
first_none part.Opening k o comes first = first
first_none s k o comes first = absurd comes

no_calls : (opening more : List ℕ) (calls : List CallRecord) (o : Option Judge) → o ≡ None → IsJudgeKept opening calls o
    → IsJudgeKept more calls o
no_calls opening more calls None none kept = kept
no_calls opening more calls (Some s) none kept = absurd cc

pub opening_parts : (s : SoFar) (k : ℕ) (j : Judging) → IsJudging s j → Comes s.section (told.Opening k) → k < 2 ^ 32
    → is_above j.opening.items k ≡ true
    → (is_above s.told.opening k ≡ true) × AreKeys (s.told.opening ++ k ∷ [])
    × IsJudgeKept (s.told.opening ++ k ∷ []) s.told.calls j.judge × (j.judge ≡ None)
opening_parts s k j judging comes low added =
    let kept = judging.kept in
    let above : is_above s.told.opening k ≡ true = subst (λ (o : List ℕ). is_above o k ≡ true) kept.opening added in
    let none : j.judge ≡ None = first_none s.section k j.judge comes judging.first in (
      above,
      keys_more s.told.opening k kept.opens above low,
      no_calls s.told.opening (s.told.opening ++ k ∷ []) s.told.calls j.judge none kept.judge,
      none,
    )

pub key_parts : (c : Recording) (k : ℕ) (j : Judging) → IsKept c j → k < 2 ^ 32 → is_above j.keys.items k ≡ true
    → (is_above c.keys k ≡ true) × AreKeys (c.keys ++ k ∷ [])
key_parts c k j kept low added =
    let above : is_above c.keys k ≡ true = subst (λ (o : List ℕ). is_above o k ≡ true) kept.keys added in
    (above, keys_more c.keys k kept.left above low)

-- ---- Lemmas about the number of calls

few_calls : (opening : List ℕ) (calls : List CallRecord) (o : Option Judge) → IsJudgeKept opening calls o → length calls < behind_all
few_calls opening calls None kept = let n = ap length kept in omega (arith, n)
few_calls opening calls (Some s) kept = let low = kept.0.stream.moment in let few = kept.2 in omega (arith, low, few)

pub one_call_more : (opening : List ℕ) (calls : List CallRecord) (x : CallRecord) (s : Judge) (n m : ℕ)
    → IsJudgeKept opening (calls ++ x ∷ []) (Some s) → n ≡ length calls → m ≡ min (n + 1) (2 ^ 64 - 1) → m ≡ length (calls ++ x ∷ [])
one_call_more opening calls x s n m kept counted next =
    let few = few_calls opening (calls ++ x ∷ []) (Some s) kept in
    let long = length_push calls x in
    omega (arith, few, long, counted, next)
