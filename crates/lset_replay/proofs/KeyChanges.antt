-- Proof: the recorded changes of a key determine, after each event, whether the key is in the set.
use Rattle.std.proofs.Common.{◌≡◌, ◌≢◌, ℕ, suc, ◌<◌, ◌≤◌, ◌^◌, [], ◌∷◌, ◌++◌, ◌⊎◌, inl, inr, Bool, true, false, not, List, sym}
use Rattle.std.proofs.Common.{refl, subst, ap, ◌∙◌, arith}
use Rattle.std.specs.Prelude.{All, Option, Some, None}
use Rattle.lset_words.specs.declared.Key.{Key}
use Rattle.lset_words.specs.Log.{Change}
use Rattle.lset_words.specs.Account.{Contents, Changes}
use Rattle.lset_words.proofs.Numbers.{same_or_not, if_other}
use Rattle.lset_history.specs.Changes.{is_present, is_present_now, with_change, IsBounded}
use Rattle.lset_history.proofs.ChangeLaws.{others_stay, earlier_stays, turns_there, present_past, all_below, all_upto_later}
use Rattle.lset_history.proofs.ChangeLaws.{all_upto_change}
use Rattle.lset_replay.specs.Trace.{MayChange}

-- Holds if all keys in the set are below 2^32, at the start and after each of the first `last` events.
abbrev pub HoldsKeys : ℕ → Contents → Type 0
HoldsKeys last contents = (k j : ℕ) → k ≤ last → contents k j → j < 2 ^ 32

-- Holds if the Boolean `b` decides the proposition `C`: `C` is true if `b` is true, and false if `b` is false.
abbrev pub Tells : Bool → Type 0 → Type 0
Tells b C = (b ≡ true → C) × (b ≡ false → C → ⊥)

pub told_yes : {C : Type 0} (b : Bool) → Tells b C → C → b ≡ true
told_yes true t c = refl
told_yes false t c = absurd (t.1 refl c)

pub told_no : {C : Type 0} (b : Bool) → Tells b C → (C → ⊥) → b ≡ false
told_no true t n = absurd (n (t.0 refl))
told_no false t n = refl

tells_same : {C D : Type 0} (a b : Bool) → a ≡ b → Tells b C → (C → D) → (D → C) → Tells a D
tells_same a b e t f g = ((λ x. f (t.0 (sym e ∙ x))), (λ x y. t.1 (sym e ∙ x) (g y)))

tells_yes : {C : Type 0} (b : Bool) → b ≡ true → C → Tells b C
tells_yes b e c = ((λ x. c), (λ x y. absurd (cc)))

tells_no : {C : Type 0} (b : Bool) → b ≡ false → (C → ⊥) → Tells b C
tells_no b e n = ((λ x. absurd (cc)), (λ x y. n y))

pub last_or_before : (m k : ℕ) → m ≤ suc k → (m ≡ suc k) ⊎ (m ≤ k)
last_or_before m k b = grind arith

abbrev pub changes_by : Option Change → ℕ → (ℕ → List ℕ) → ℕ → List ℕ
changes_by None m changes = changes
changes_by (Some (x, present)) m changes = with_change changes x.0 m

module _ (contents : Contents) (k : ℕ) (changes : ℕ → List ℕ) (upto : (j : ℕ) → All (λ x. x ≤ k) (changes j))
    (keys : (j m : ℕ) → m ≤ k → Tells (is_present changes j m) (contents m j)) where
  now_is : (j : ℕ) → is_present_now changes j ≡ is_present changes j k
  now_is j = sym (present_past changes j k (upto j))

  now_tells : (j : ℕ) → Tells (is_present_now changes j) (contents k j)
  now_tells j = subst (λ b. Tells b (contents k j)) (sym (now_is j)) (keys j k (omega arith))

  next_is : (j : ℕ) → is_present changes j (suc k) ≡ is_present_now changes j
  next_is j = present_past changes j (suc k) (all_upto_later (changes j) k (suc k) (omega arith) (upto j))

  pub quiet_keys : (j m : ℕ) → m ≤ suc k → (contents k j → contents (suc k) j) → (contents (suc k) j → contents k j)
      → Tells (is_present changes j m) (contents m j)
  quiet_keys j m l f g = elim (last_or_before m k l) [
    | inl e ↦ rw e (tells_same (is_present changes j (suc k)) (is_present_now changes j) (next_is j) (now_tells j) f g)
    | inr y ↦ keys j m y
  ]

  here : (x : Key) (present : Bool) → Changes (Some (x, present)) (contents k) (contents (suc k))
      → is_present (with_change changes x.0 (suc k)) x.0 (suc k) ≡ not (is_present_now changes x.0)
      → Tells (is_present (with_change changes x.0 (suc k)) x.0 (suc k)) (contents (suc k) x.0)
  here x true c e = tells_yes (is_present (with_change changes x.0 (suc k)) x.0 (suc k))
      (e ∙ ap not (told_no (is_present_now changes x.0) (now_tells x.0) c.0)) c.1
  here x false c e = tells_no (is_present (with_change changes x.0 (suc k)) x.0 (suc k))
      (e ∙ ap not (told_yes (is_present_now changes x.0) (now_tells x.0) c.0)) c.1

  others : (x : Key) (present : Bool) → Changes (Some (x, present)) (contents k) (contents (suc k)) → (j : ℕ) → j ≢ x.0
      → (contents k j → contents (suc k) j) × (contents (suc k) j → contents k j)
  others x true c j n = c.2 j n
  others x false c j n = c.2 j n

  pub changed_keys : (ch : Option Change) → Changes ch (contents k) (contents (suc k)) → (j m : ℕ) → m ≤ suc k
      → Tells (is_present (changes_by ch (suc k) changes) j m) (contents m j)
  changed_keys None c j m l = quiet_keys j m l (c j).0 (c j).1
  changed_keys (Some (x, present)) c j m l = elim (same_or_not j x.0) [
    | inr d ↦ rw (others_stay changes x.0 (suc k) j m d) (let f = others x present c j d in quiet_keys j m l f.0 f.1)
    | inl e ↦ elim (last_or_before m k l) [
      | inr y ↦ subst (λ b. Tells b (contents m j)) (sym (earlier_stays changes x.0 (suc k) j m (omega arith))) (keys j m y)
      | inl z ↦ rw e (subst (λ w. Tells (is_present (with_change changes x.0 (suc k)) x.0 w) (contents w x.0)) (sym z)
          (here x present c (turns_there changes x.0 (suc k) (all_below (changes x.0) k (suc k) (omega arith) (upto x.0)))))
    ]
  ]

  pub changed_upto : (ch : Option Change) (j : ℕ) → All (λ x. x ≤ suc k) (changes_by ch (suc k) changes j)
  changed_upto None j = all_upto_later (changes j) k (suc k) (omega arith) (upto j)
  changed_upto (Some (x, present)) j = all_upto_change changes x.0 k (suc k) j (upto j) (omega arith)

  pub changed_bounded : (ch : Option Change) → Changes ch (contents k) (contents (suc k)) →
      ((j m : ℕ) → m ≤ suc k → contents m j → j < 2 ^ 32)
      → IsBounded changes → IsBounded (changes_by ch (suc k) changes)
  changed_bounded None c low b = b
  changed_bounded (Some (x, true)) c low b = λ j high.
      let l : x.0 < 2 ^ 32 = low x.0 (suc k) (omega arith) c.1 in
      if_other j x.0 (λ e. omega arith) (changes j ++ suc k ∷ []) (changes j) ∙ b j high
  changed_bounded (Some (x, false)) c low b = λ j high.
      let l : x.0 < 2 ^ 32 = low x.0 k (omega arith) c.0 in
      if_other j x.0 (λ e. omega arith) (changes j ++ suc k ∷ []) (changes j) ∙ b j high

  pub may_change : (ch : Option Change) → Changes ch (contents k) (contents (suc k)) → MayChange changes (suc k) ch
  may_change None c = tt
  may_change (Some (x, true)) c = (
    (omega arith, λ j. all_below (changes j) k (suc k) (omega arith) (upto j)),
    sym (ap not (told_no (is_present_now changes x.0) (now_tells x.0) c.0)),
  )
  may_change (Some (x, false)) c = (
    (omega arith, λ j. all_below (changes j) k (suc k) (omega arith) (upto j)),
    sym (ap not (told_yes (is_present_now changes x.0) (now_tells x.0) c.0)),
  )
