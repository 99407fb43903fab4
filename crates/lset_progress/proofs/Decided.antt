-- Proofs by cases: a property holds after a test or a decision of a call if it holds for each outcome of the test or
-- the decision.
use Rattle.std.specs.Prelude.{◌≡◌, ◌≢◌, ℕ, ◌<◌, ◌≤◌, ◌⊎◌, Bool, true, false, Option, Some, None, if◌then◌else◌, ◌==◌, nat_lt}
use Rattle.std.specs.Prelude.{refl}
use Rattle.std.proofs.Common.{inl, inr, sym, subst}
use Rattle.lset_words.proofs.Numbers.{same_or_not, below_or_not, if_same, if_other, if_below, if_not_below}
use Rattle.lset_words.specs.declared.Call.{Call}
use Rattle.lset_words.specs.declared.Call.TheVariants.{Add, Remove, Contains, Ceiling}
use Rattle.lset_words.specs.declared.Reply.{Reply}
use Rattle.lset_words.specs.declared.Reply.TheVariants.{True, False, Full}
use Rattle.lset_words.specs.Words.{target}
use Rattle.lset_steps.specs.declared.Local.{Local}
use Rattle.lset_steps.specs.declared.rows.Targets.{Targets}
use Rattle.lset_steps.specs.Rows.{ceiling_at, decided, decided_on, goes_to}

pub by_same : {A : Type 0} (P : A → Type 0) (a b : ℕ) {x y : A} → (a ≡ b → P x) → (a ≢ b → P y) → P (if a == b then x else y)
by_same P a b {x} {y} this other = elim (same_or_not a b) [
  | inl e ↦ subst P (sym (if_same a b e x y)) (this e)
  | inr d ↦ subst P (sym (if_other a b d x y)) (other d)
]

pub by_below : {A : Type 0} (P : A → Type 0) (a b : ℕ) {x y : A} → (a < b → P x) → (b ≤ a → P y) → P (if nat_lt a b then x else y)
by_below P a b {x} {y} this other = elim (below_or_not a b) [
  | inl l ↦ subst P (sym (if_below a b l x y)) (this l)
  | inr g ↦ subst P (sym (if_not_below a b g x y)) (other g)
]

-- Lemma: after its decision, a call continues at one of three rows of the step table: the row that adds a key, the row
-- that removes a key, or the row for calls that reply and change nothing.
module _ (P : Local → Type 0) (a d u c : ℕ) (l : Local) (adds : P (goes_to a None l)) (removes : P (goes_to d None l))
    (leaves : (r : Reply) → P (goes_to u (Some r) l)) where
  by_call : (call : Call) (found room : Bool) → P (decided a d u call found room c l)
  by_call (Add k) true room = leaves False
  by_call (Add k) false true = adds
  by_call (Add k) false false = leaves Full
  by_call (Remove k) true room = removes
  by_call (Remove k) false room = leaves False
  by_call (Contains k) true room = leaves True
  by_call (Contains k) false room = leaves False
  by_call (Ceiling k) found room = leaves (ceiling_at c)

pub by_decision : (P : Local → Type 0) (rows : Targets) (c : ℕ) (l : Local) → P (goes_to rows.adds None l)
    → P (goes_to rows.removes None l) → ((r : Reply) → P (goes_to rows.leaves (Some r) l)) → P (decided_on rows c l)
by_decision P rows c l adds removes leaves = by_call P rows.adds rows.removes rows.leaves c l adds removes leaves l.call
    (c == target l.call) (nat_lt l.used l.quota)

pub some_or_none : (r : Option Reply) → (r ≡ None) ⊎ ((x : Reply) × (r ≡ Some x))
some_or_none None = inl refl
some_or_none (Some x) = inr (x, refl)
