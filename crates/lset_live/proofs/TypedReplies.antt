-- Proof: the reply of each call is a possible reply of the sequential set to a call of that kind.
use Rattle.std.proofs.Common.{◌≡◌, ℕ, ◌==◌, Bool, true, false, List, [], ◌∷◌, ◌++◌, subst, sym}
use Rattle.std.specs.Prelude.{if◌then◌else◌, nat_lt}
use Rattle.lset_words.specs.declared.Key.{Key}
use Rattle.lset_words.specs.declared.Call.{Call}
use Rattle.lset_words.specs.declared.Call.TheVariants.{Add, Remove, Contains, Ceiling}
use Rattle.lset_words.specs.declared.Reply.{Reply}
use Rattle.lset_words.specs.declared.Reply.TheVariants.{True, False, Full, At}
use Rattle.lset_words.specs.SequentialSet.{SetState, Answered, IsLegal, opening_set, reply_to, after_call, has_key, count_of, ceiling_in}
use Rattle.lset_words.specs.Records.{CallMade, called, placed_by, thread_of}
use Rattle.lset_steps.specs.Steps.{Table}
use Rattle.lset_live.specs.Explained.{HasAnswered, SeenIsLinearizable}
use Rattle.lset_live.specs.Seats.{SeatValue, SetValue}
use Rattle.lset_live.specs.Typed.{IsAddReply, IsCeilingReply, IsTruth}

legal_at : (q : ℕ) (s : SetState) (xs : List Answered) (a : Answered) (ys : List Answered) → IsLegal q s (xs ++ a ∷ ys) →
    (z : SetState) × (reply_to q z a.thread a.call ≡ a.reply)
legal_at q s [] a ys l = (s, l.0)
legal_at q s (x ∷ xs) a ys l = legal_at q (after_call s x.thread x.call x.reply) xs a ys l.1

given : (T : Table) (set : SetValue) (old : SeatValue) (c : Call) (r : Reply) (new : SeatValue) → HasAnswered T set old c r new →
    (z : SetState) × (reply_to set.shape.quota z (thread_of old.past) c ≡ r)
given T set old c r new h =
    let made : CallMade = record { call = c; reply = r } in
    let ex : SeenIsLinearizable T set.shape new.events (called old.past made) =
    subst (λ p. SeenIsLinearizable T set.shape new.events p) h.past h.explained in
    let at = ex.keeps.1.1 in
    legal_at set.shape.quota (opening_set set.shape) at.before (placed_by (thread_of old.past) made) at.after
    (subst (λ o. IsLegal set.shape.quota (opening_set set.shape) o) at.is ex.linearizes.legal)

of_test : (b : Bool) (r : Reply) → (if b then True else False) ≡ r → IsTruth r
of_test true r e = subst (λ r. IsTruth r) e tt
of_test false r e = subst (λ r. IsTruth r) e tt

of_tests : (b d : Bool) (r : Reply) → (if b then False else if d then Full else True) ≡ r → IsAddReply r
of_tests true d r e = subst (λ r. IsAddReply r) e tt
of_tests false true r e = subst (λ r. IsAddReply r) e tt
of_tests false false r e = subst (λ r. IsAddReply r) e tt

of_ceiling : (k : ℕ) (xs : List ℕ) (r : Reply) → ceiling_in k xs ≡ r → IsCeilingReply r
of_ceiling k [] r e = subst (λ r. IsCeilingReply r) e tt
of_ceiling k (x ∷ xs) r e = by_test (nat_lt x k) (λ f. of_ceiling k xs r f) e
  where
    by_test : (b : Bool) → (ceiling_in k xs ≡ r → IsCeilingReply r)
        → (if b then ceiling_in k xs else At (record { 0 = x })) ≡ r → IsCeilingReply r
    by_test true further f = further f
    by_test false further f = subst (λ r. IsCeilingReply r) f tt

pub add_reply : (T : Table) (set : SetValue) (old : SeatValue) (k : Key) (r : Reply) (new : SeatValue) →
    HasAnswered T set old (Add k) r new → IsAddReply r
add_reply T set old k r new h =
    let l = given T set old (Add k) r new h in
    of_tests (has_key k.0 l.0.keys) (count_of l.0 (thread_of old.past) == set.shape.quota) r l.1

pub remove_reply : (T : Table) (set : SetValue) (old : SeatValue) (k : Key) (r : Reply) (new : SeatValue) →
    HasAnswered T set old (Remove k) r new → IsTruth r
remove_reply T set old k r new h =
    let l = given T set old (Remove k) r new h in of_test (has_key k.0 l.0.keys) r l.1

pub contains_reply : (T : Table) (set : SetValue) (old : SeatValue) (k : Key) (r : Reply) (new : SeatValue) →
    HasAnswered T set old (Contains k) r new → IsTruth r
contains_reply T set old k r new h =
    let l = given T set old (Contains k) r new h in of_test (has_key k.0 l.0.keys) r l.1

pub ceiling_reply : (T : Table) (set : SetValue) (old : SeatValue) (k : Key) (r : Reply) (new : SeatValue) →
    HasAnswered T set old (Ceiling k) r new → IsCeilingReply r
ceiling_reply T set old k r new h =
    let l = given T set old (Ceiling k) r new h in of_ceiling k.0 l.0.keys r l.1

pub stands_for : (T : Table) (set : SetValue) (old : SeatValue) (c : Call) (r : Reply) (new : SeatValue) →
    HasAnswered T set old c r new → (s : Reply) → s ≡ r → HasAnswered T set old c s new
stands_for T set old c r new h s e = subst (λ z. HasAnswered T set old c z new) (sym e) h
