use Rattle.std.proofs.Common.{◌≡◌, ◌≢◌, ℕ, ◌<◌, ◌≤◌, List, [], ◌∷◌, Bool, true, false, inl, inr, refl, arith, ap, sym, subst}
use Rattle.std.specs.Prelude.{◌==◌, ◌&&◌, All, cond}
use Rattle.std.proofs.lemmas.List.Elements.{All-head, All-tail}
use Rattle.std.proofs.lemmas.List.Sums.{sum_by-cons}
use Rattle.std.proofs.lemmas.Bool.{true≢false}
use Rattle.lset_words.specs.declared.history.CallRecord.{CallRecord}
use Rattle.lset_words.specs.Words.{Opens, Opening}
use Rattle.lset_words.specs.History.{IsHistory}
use Rattle.lset_words.proofs.Numbers.{below_or_not, unequal_test, same_or_not}
use Rattle.lset_judge.specs.Verdict.{may_add, adds_of}
use Rattle.lset_judge.proofs.judged.has_room.Goals as goal

no_adds : (t : ℕ) (xs : List CallRecord) → All (λ (x : CallRecord). x.thread ≢ t) xs → adds_of t xs ≡ 0
no_adds t [] others = refl
no_adds t (x ∷ xs) others =
    let f : (x.thread == t) ≡ false = unequal_test x.thread t (All-head (λ (y : CallRecord). y.thread ≢ t) x xs others) in
    let rest = no_adds t xs (All-tail (λ (y : CallRecord). y.thread ≢ t) x xs others) in
    let here = by (may_add x.call x.ended) (x.thread == t) f in
    let first = sum_by-cons (λ (y : CallRecord). cond (may_add y.call y.ended && y.thread == t) 1 0) x xs in omega (arith, here, rest, first)
  where
    by : (a b : Bool) → b ≡ false → ◌≡◌ {A = ℕ} (cond (a && b) 1 0) 0
    by true b e = rw e refl
    by false b e = refl

room_for_all : (opening : Opening) (calls : List CallRecord) (quota : ℕ) → IsHistory opening.threads calls → Opens opening
    → ((t : ℕ) → t < 64 → adds_of t calls ≤ quota) → (t : ℕ) → adds_of t calls ≤ quota
room_for_all opening calls quota history opens each t = elim (below_or_not t 64) [
  | inl low ↦ each t low
  | inr high ↦ (let none = no_adds t calls (λ k d low e.
      let one = (history.each k d low).of_a_thread in let most = opens.within.few in omega (arith, one, most, high, e)) in
      omega (arith, none))
]

pub loop-thread-preserved : goal.loop-thread-preserved
loop-thread-preserved c = λ k low. elim (same_or_not k c.loop-thread.thread) [
  | inl e ↦ (let is = c.adds_of.ensures in let few = c.if-adds_of-quota.false in let same = ap (λ n. adds_of n c.calls-calls.result.now) e in
      omega (arith, is, few, same))
  | inr ne ↦ c.loop-thread.invariant k (omega (arith, low, ne))
]

pub returns-then-adds_of-quota : goal.returns-then-adds_of-quota
returns-then-adds_of-quota c = (
  λ t. absurd (true≢false (sym t)),
  λ room. absurd (let is = c.adds_of.ensures in let many = c.if-adds_of-quota.true in let few = room c.loop-thread.thread in
      let same = ap (adds_of c.loop-thread.thread) c.calls-calls.ensures.value in let quota = c.quota-quota.ensures.value in
      omega (arith, is, many, few, same, quota)),
)

pub returns : goal.returns
returns c =
    let h = c.args.history.now in let quota = c.quota-quota.ensures.value in (
      λ t. room_for_all h.opening h.calls h.opening.quota c.calls-calls.ensures.history c.quota-quota.ensures.opens (λ k low.
          let few = subst (λ cs. adds_of k cs ≤ c.quota-quota.result) c.calls-calls.ensures.value (c.loop-thread.invariant k (omega arith)) in
          omega (arith, few, quota)),
      λ room. refl,
    )
