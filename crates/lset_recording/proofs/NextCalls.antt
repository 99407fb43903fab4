-- Proof that the judge accepts a call after the earlier calls of a history if and only if the call can follow the
-- earlier calls.
use Rattle.std.proofs.Common.{◌≡◌, ℕ, ◌+◌, ◌<◌, ◌≤◌, inl, inr, true, Result, Ok, Err, List, [], ◌∷◌, ◌++◌, length, Option, Some, None, sym, ap, subst}
use Rattle.std.proofs.Common.{arith, length-append}
use Rattle.std.specs.Prelude.{IfSome, IfOk}
use Rattle.std.proofs.lemmas.List.Elements.{Contains-push}
use Rattle.lset_words.specs.declared.Reply.{Reply}
use Rattle.lset_words.specs.declared.history.CallRecord.{CallRecord}
use Rattle.lset_words.specs.History.{MayFollow, no_call}
use Rattle.lset_history.proofs.CallByCall.{may_follow_at}
use Rattle.lset_judge.specs.declared.stream.Pending.{Pending}
use Rattle.lset_judge.specs.declared.set_judge.Judge.{Judge}
use Rattle.lset_judge.specs.Verdict.{is_plain}
use Rattle.lset_judge.specs.Stream.{IsBefore, ArePending, MayCome, moment_of}
use Rattle.lset_judge.specs.Judge.{IsJudgeOf}
use Rattle.lset_judge.proofs.OrderAsRead.{comes}
use Rattle.lset_recording.specs.Texts.{all_threads}
use Rattle.lset_recording.specs.Kept.{IsLatest, IsJudgeKept}

-- ---- Lemmas: the judge accepts a call that can follow the earlier calls of a history

begun_after : (calls : List CallRecord) (moment : ℕ) → IsLatest calls moment → (x : CallRecord) → MayFollow all_threads calls x → moment < x.begun
begun_after calls moment (inl none) x follows = let some = follows.call.counted in omega (arith, none, some)
begun_after calls moment (inr last) x follows =
    let c = last.1 in
    let b = (follows.follows c.0 last.0 c.1).increasing in
    let is = ap (λ (y : CallRecord). y.begun) c.2 in
    let at = last.2 in
    omega (arith, b, is, at)

pub may_come : (calls : List CallRecord) (moment : ℕ) (pending : List Pending) → ArePending calls moment pending → IsLatest calls moment → (x : CallRecord)
    → IsBefore x → IfSome x.ended (λ (end : ℕ × Reply). is_plain x.call end.1 ≡ true) → MayFollow all_threads calls x → MayCome pending moment x
may_come calls moment pending are latest x before plain follows =
    comes calls moment pending x are (begun_after calls moment latest x follows) follows.call.ends_later before plain
    (λ n low. follows.follows n no_call low)

-- ---- Lemmas about the judge of the calls read so far

pub one_more : (opening : List ℕ) (calls : List CallRecord) (x : CallRecord) (s t : Judge) → IsJudgeKept opening calls (Some s)
    → (x.thread < all_threads → IsJudgeOf all_threads opening calls s → IsJudgeOf all_threads opening (calls ++ x ∷ []) t)
    → x.thread < all_threads → moment_of t.stream ≡ x.begun
    → MayFollow all_threads calls x × IsJudgeKept opening (calls ++ x ∷ []) (Some t)
one_more opening calls x s t kept added of_thread at =
    let is = added of_thread kept.0 in
    let follows = may_follow_at all_threads calls [] x is.stream.history in
    let long : length (calls ++ x ∷ []) ≡ length calls + 1 = length-append calls (x ∷ []) in
    (follows, (is, inr (x, Contains-push calls x, at), few is follows long))
  where
    few : IsJudgeOf all_threads opening (calls ++ x ∷ []) t → MayFollow all_threads calls x
        → length (calls ++ x ∷ []) ≡ length calls + 1 → length (calls ++ x ∷ []) ≤ moment_of t.stream
    few is follows long =
        let so_far = kept.2 in
        let low = begun_after calls (moment_of s.stream) kept.1 x follows in
        omega (arith, long, so_far, low, at)

pub opened : {E : Type 0} (opening : List ℕ) (o : Option Judge) (r : Result Judge E) → o ≡ None
    → IfOk r (λ s. (threads : ℕ) → IsJudgeOf threads opening [] s) → IfOk r (λ s. moment_of s.stream ≡ 0)
    → IfOk r (λ s. (calls : List CallRecord) → IsJudgeKept opening calls o → IsJudgeKept opening calls (Some s))
opened opening o (Ok s) none is at = λ calls kept.
    let nothing : calls ≡ [] = subst (IsJudgeKept opening calls) none kept in
    subst (λ (cs : List CallRecord). IsJudgeKept opening cs (Some s)) (sym nothing) (is all_threads, inl at, omega arith)
opened opening o (Err e) none is at = tt
