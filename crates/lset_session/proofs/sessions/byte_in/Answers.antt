use Rattle.std.proofs.Common.{◌≡◌, eqb, false, ℕ, ◌<◌, ◌∷◌, [], ◌++◌, length, arith, length-take, length-append}
use Rattle.lset_session.specs.declared.TheConstants.{LONGEST_LINE}
use Rattle.std.proofs.lemmas.Bool.{ne_eqb}
use Rattle.std.proofs.lemmas.List.Elements.{All-cons, All-nil}
use Rattle.lset_text.proofs.PartLaws.{Lacks-append}
use Rattle.lset_text.specs.Parts.{Lacks}
use Rattle.lset_session.specs.SessionSoFar.{pending_of}
use Rattle.lset_session.proofs.TalkLaws.{heard_long}
use Rattle.lset_session.proofs.sessions.byte_in.Goals as goal

Lacks-one : (byte b : ℕ) → (b ≡ byte → ⊥) → Lacks byte (b ∷ [])
Lacks-one byte b other = All-cons (λ x. eqb x byte ≡ false) b [] (ne_eqb b byte other) (All-nil (λ x. eqb x byte ≡ false))

pub returns-then-talk-eq-LONGEST_LINE-clause-heard : goal.returns-then-talk-eq-LONGEST_LINE-clause-heard
returns-then-talk-eq-LONGEST_LINE-clause-heard g c =
    let t = c.args.talk.now in
    let b = c.args.byte in
    let (whole, end, written, failed) = c.last_line.ensures in
    let full = c.if-talk-eq-LONGEST_LINE.true in
    let len : length (pending_of t) ≡ LONGEST_LINE = omega (arith, length-take t.len t.line, c.requires.talk.room, full) in
    let long : LONGEST_LINE < length (pending_of t ++ b ∷ []) = omega (arith, length-append (pending_of t) (b ∷ []), len) in
    let lacks = Lacks-append 10 (pending_of t) (b ∷ []) c.requires.talk.line (Lacks-one 10 b c.if-byte-eq10.false) in
    rw end (heard_long _ _ (pending_of t ++ b ∷ []) _ _ _ _ _ whole lacks long written)
