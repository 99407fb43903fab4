use Rattle.std.proofs.Common.{◌≡◌, ℕ, ◌<◌, ◌≤◌, not, Bool, true, false, List, get_or, ap, ◌∙◌, arith, refl, subst, sym, All}
use mathlib.Core.Bool.{beq}
use Rattle.std.proofs.lemmas.List.Elements.{All-get_or, All-from_get_or}
use Rattle.lset_history.specs.Changes.{is_present, is_present_now, with_change, moments_of}
use Rattle.lset_history.proofs.ChangeLaws.{all_upto_change, present_past}
use Rattle.lset_replay.proofs.recording.note_key.Goals as goal

below_upto : (ms : List ℕ) (m : ℕ) → All (λ x. x < m) ms → All (λ x. x ≤ m) ms
below_upto ms m h = All-from_get_or (λ x. x ≤ m) ms 0 (λ i below.
    let b : get_or ms i 0 < m = All-get_or (λ x. x < m) ms i 0 below h in omega arith)

other_bool : (a b : Bool) → not (beq a b) ≡ true → b ≡ not a
other_bool true false d = refl
other_bool false true d = refl
other_bool a b d = absurd cc

turn_of : (changes : ℕ → List ℕ) (key moment : ℕ) (there present : Bool) → ((j : ℕ) → All (λ m. m < moment) (changes j))
    → there ≡ is_present changes key moment → not (beq there present) ≡ true → present ≡ not (is_present_now changes key)
turn_of changes key moment there present later is other =
    other_bool there present other
    ∙ ap not (is ∙ present_past changes key moment (below_upto (changes key) moment (later key)))

upto_change : (old new : ℕ → List ℕ) (key moment : ℕ) → ((j : ℕ) → All (λ m. m < moment) (old j))
    → ((j : ℕ) → new j ≡ with_change old key moment j) → (j : ℕ) → All (λ m. m ≤ moment) (new j)
upto_change old new key moment later is j = subst (All (λ m. m ≤ moment)) (sym (is j))
    (all_upto_change old key moment moment j (below_upto (old j) moment (later j)) (omega arith))

same_bool : (a b : Bool) → not (beq a b) ≡ false → a ≡ b
same_bool true true d = refl
same_bool false false d = refl
same_bool a b d = absurd cc

no_turn : (b : Bool) → b ≡ not b → ⊥
no_turn true e = absurd cc
no_turn false e = absurd cc

not_turned : (changes : ℕ → List ℕ) (key moment : ℕ) (there present : Bool) → ((j : ℕ) → All (λ m. m < moment) (changes j))
    → there ≡ is_present changes key moment → not (beq there present) ≡ false → present ≡ not (is_present_now changes key) → ⊥
not_turned changes key moment there present later is same turn =
    no_turn (is_present_now changes key) (sym (sym (same_bool there present same)
    ∙ is ∙ present_past changes key moment (below_upto (changes key) moment (later key))) ∙ turn)

pub note-requires-clause-turn : goal.note-requires-clause-turn
note-requires-clause-turn c = turn_of (moments_of c.args.changes.now) c.args.key c.args.moment c.is_there.result c.args.present
    c.requires.1 c.is_there.ensures c.if-is_there-present.true

pub returns-in_err-note-clause-upto : goal.returns-in_err-note-clause-upto
returns-in_err-note-clause-upto c = subst (λ x. (k : ℕ) → All (λ m. m ≤ c.args.moment) (moments_of x k)) (sym c.in_err-note.ensures.unchanged)
    (λ k. below_upto (moments_of c.args.changes.now k) c.args.moment (c.requires.1 k))

pub returns-in_ok-note : goal.returns-in_ok-note
returns-in_ok-note c = record {
  upto = upto_change (moments_of c.args.changes.now) (moments_of c.note.new.self) c.args.key c.args.moment c.requires.1
      c.in_ok-note.ensures.noted;
  noted = λ turn. c.in_ok-note.ensures.noted;
}

pub returns-else-is_there-present-clause-noted : goal.returns-else-is_there-present-clause-noted
returns-else-is_there-present-clause-noted c = λ turn k. absurd (not_turned (moments_of c.args.changes.now) c.args.key
    c.args.moment c.is_there.result c.args.present c.requires.1 c.is_there.ensures c.if-is_there-present.false turn)
