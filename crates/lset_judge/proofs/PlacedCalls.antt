-- Proofs about an order that is built call by call, and about the reply of the next call in the order.
use Rattle.std.proofs.Common.{◌≡◌, ℕ, zero, suc, ◌<◌, ◌⊎◌, List, [], ◌∷◌, ◌++◌, Bool, true, false, inl, inr, refl, sym, arith}
use Rattle.std.proofs.Common.{subst, length, get_or}
use Rattle.std.specs.Prelude.{◌==◌, ◌||◌, not, nat_lt, Option, Some, None, All, IfSome}
use Rattle.std.proofs.lemmas.Bool.{true≢false}
use Rattle.std.proofs.lemmas.Bool.Decides.{nat_tests}
use Rattle.lset_words.specs.declared.Call.{Call}
use Rattle.lset_words.specs.declared.Call.TheVariants.{Add, Remove, Contains as IsIn}
use Rattle.lset_words.specs.declared.Reply.{Reply}
use Rattle.lset_words.specs.declared.Reply.TheVariants.{True, False}
use Rattle.lset_words.specs.declared.history.Placed.{Placed}
use Rattle.lset_words.specs.Words.{key_of}
use Rattle.lset_words.specs.SequentialSet.{SetState, Answered, has_key, reply_to, after_call, IsLegal, set_left, count_of}
use Rattle.lset_words.proofs.Numbers.{unequal_test, same_or_not}
use Rattle.lset_judge.specs.Rule.{same, not_before}
use Rattle.lset_judge.specs.Events.{changes, sees, nothing, kind_of, open_kind, kind_if}
use Rattle.lset_judge.specs.Verdict.{is_plain}
use Rattle.lset_judge.proofs.RuleLeads.{counts_not, counts_most, at_most_all}
use Rattle.lset_judge.proofs.TimelineOfKey.{has_split}

-- ---- Lemmas about lists of calls with replies

pub legal_push : (quota : ℕ) (s : SetState) (xs : List Answered) (a : Answered) → IsLegal quota s xs
    → reply_to quota (set_left s xs) a.thread a.call ≡ a.reply → IsLegal quota s (xs ++ a ∷ [])
legal_push quota s [] a l r = (r, tt)
legal_push quota s (x ∷ xs) a l r = (l.0, legal_push quota (after_call s x.thread x.call x.reply) xs a l.1 r)

pub left_push : (s : SetState) (xs : List Answered) (a : Answered)
    → set_left s (xs ++ a ∷ []) ≡ after_call (set_left s xs) a.thread a.call a.reply
left_push s [] a = refl
left_push s (x ∷ xs) a = left_push (after_call s x.thread x.call x.reply) xs a

-- Holds if the order contains call n.
abbrev pub IsPlaced : ℕ → List Placed → Type 0
IsPlaced n [] = ⊥
IsPlaced n (p ∷ ps) = (p.call ≡ n) ⊎ IsPlaced n ps

pub placed_or_not : (n : ℕ) (ps : List Placed) → IsPlaced n ps ⊎ (IsPlaced n ps → ⊥)
placed_or_not n [] = inr (λ q. q)
placed_or_not n (p ∷ ps) = elim (same_or_not p.call n) [
  | inl e ↦ inl (inl e)
  | inr d ↦ elim (placed_or_not n ps) [ inl q ↦ inl (inr q) | inr q ↦ inr (λ r. elim r [ inl e ↦ d e | inr t ↦ q t ]) ]
]

pub placed_at : (n i : ℕ) (d : Placed) (ps : List Placed) → i < length ps → (get_or ps i d).call ≡ n → IsPlaced n ps
placed_at n i d [] l e = absurd (omega arith)
placed_at n zero d (p ∷ ps) l e = inl e
placed_at n (suc i) d (p ∷ ps) l e = inr (placed_at n i d ps (omega arith) e)

pub placed_still : (n : ℕ) (ps : List Placed) (p : Placed) → IsPlaced n ps → IsPlaced n (ps ++ p ∷ [])
placed_still n [] p q = absurd q
placed_still n (x ∷ ps) p (inl e) = inl e
placed_still n (x ∷ ps) p (inr q) = inr (placed_still n ps p q)

pub placed_new : (ps : List Placed) (p : Placed) → IsPlaced p.call (ps ++ p ∷ [])
placed_new [] p = inl refl
placed_new (x ∷ ps) p = inr (placed_new ps p)

pub placed_split : (n : ℕ) (ps : List Placed) (p : Placed) → IsPlaced n (ps ++ p ∷ []) → IsPlaced n ps ⊎ (p.call ≡ n)
placed_split n [] p (inl e) = inr e
placed_split n [] p (inr q) = absurd q
placed_split n (x ∷ ps) p (inl e) = inl (inl e)
placed_split n (x ∷ ps) p (inr q) = elim (placed_split n ps p q) [ inl r ↦ inl (inr r) | inr e ↦ inr e ]

-- ---- Lemmas about the replies of the sequential set

pub change_replies : (quota thread : ℕ) (s : SetState) (c : Call) (o : Option (ℕ × Reply)) (w : Bool) → kind_if c o ≡ changes w
    → has_key (key_of c).0 s.keys ≡ not w → (w ≡ true → count_of s thread < quota)
    → (reply_to quota s thread c ≡ True) × (kind_of c True ≡ changes w) × IfSome o (λ (e : ℕ × Reply). e.1 ≡ True)
change_replies quota thread s (Add k) None true d h room = (
  (let low = room refl in
      let e : (count_of s thread == quota) ≡ false = unequal_test _ _ (λ q. omega (arith, q, low)) in rw h (rw e refl)),
  refl,
  tt,
)
change_replies quota thread s (Remove k) None false d h room = (rw h refl, refl, tt)
change_replies quota thread s c (Some e) w d h room = by c e.1 w room d h refl
  where
    by : (c : Call) (r : Reply) (w : Bool) → (w ≡ true → count_of s thread < quota) → kind_of c r ≡ changes w → has_key (key_of c).0 s.keys ≡ not w → e.1 ≡ r
        → (reply_to quota s thread c ≡ True) × (kind_of c True ≡ changes w) × (e.1 ≡ True)
    by (Add k) True true room d h q = (
      (let low = room refl in let f : (count_of s thread == quota) ≡ false = unequal_test _ _ (λ z. omega (arith, z, low)) in rw h (rw f refl)),
      refl,
      q,
    )
    by (Remove k) True false room d h q = (rw h refl, refl, q)
    by (IsIn k) True w room d h q = absurd (cc)
    by c r w room d h q = absurd (cc)
change_replies quota thread s c o w d h room = absurd cc

pub look_replies : (quota thread : ℕ) (s : SetState) (c : Call) (r : Reply) (w : Bool) → is_plain c r ≡ true → kind_of c r ≡ sees w
    → has_key (key_of c).0 s.keys ≡ w → reply_to quota s thread c ≡ r
look_replies quota thread s (Add k) False true p d h = rw h refl
look_replies quota thread s (Remove k) False false p d h = rw h refl
look_replies quota thread s (IsIn k) True true p d h = rw h refl
look_replies quota thread s (IsIn k) False false p d h = rw h refl
look_replies quota thread s c r w p d h = absurd (cc)

-- ---- Lemmas about the order built so far

pub open_sees_not : (c : Call) (w : Bool) → open_kind c ≡ sees w → ⊥
open_sees_not (Add k) w e = cc
open_sees_not c w e = cc

pub same_flips : (w b : Bool) → same w b ≡ false → same w (not b) ≡ true
same_flips true false e = refl
same_flips false true e = refl
same_flips w b e = absurd (true≢false e)

pub same_is : (w b : Bool) → same w b ≡ true → b ≡ w
same_is true b e = e
same_is false true e = absurd (true≢false (sym e))
same_is false false e = refl

pub kinds_apart : (w v : Bool) → changes w ≡ sees v → ⊥
kinds_apart w v e = cc

pub late_ones : (u d : ℕ) (xs : List ℕ) → has_key u xs ≡ true → u < d → not_before d xs < length xs
late_ones u d [] h l = absurd (true≢false (sym h))
late_ones u d (x ∷ xs) h l = elim (has_split u x xs h) [
  | inl e ↦ (let a = counts_not d x (omega (arith, e, l)) in let b = at_most_all d xs in omega (arith, a, b))
  | inr r ↦ (let a = late_ones u d xs r l in let b = counts_most d x in omega (arith, a, b))
]

pub begun_when_placed : (P : Placed → Type 0) (n : ℕ) (ps : List Placed) → All P ps → IsPlaced n ps → (r : Reply) × P (record { call = n; reply = r })
begun_when_placed P n [] h i = absurd i
begun_when_placed P n (p ∷ ps) h (inl e) = (p.reply, subst (λ c. P (record { call = c; reply = p.reply })) e (h 0 p (omega arith)))
begun_when_placed P n (p ∷ ps) h (inr i) = begun_when_placed P n ps (λ k d l. h (suc k) d (omega arith)) i

pub plain_kind : (c : Call) (r : Reply) → is_plain c r ≡ true → kind_of c r ≡ nothing → ⊥
plain_kind (Add k) True p e = cc
plain_kind (Remove k) True p e = cc
plain_kind (IsIn k) True p e = cc
plain_kind c r p e = cc

pub not_both_or : (a b : Bool) → a ≡ false → b ≡ true → (a || not b) ≡ true → ⊥
not_both_or true b f t e = true≢false f
not_both_or false true f t e = true≢false (sym e)
not_both_or false false f t e = true≢false (sym t)

pub below_test : (a b : ℕ) → a < b → nat_lt a b ≡ true
below_test a b l = grind (arith, nat_tests)
