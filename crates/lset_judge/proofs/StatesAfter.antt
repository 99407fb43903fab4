-- Proofs about the state of a key after each moment, as computed by the judge's test. Moments without an event of the
-- key can be skipped.
use Rattle.std.proofs.Common.{◌≡◌, ℕ, zero, suc, ◌+◌, ◌-◌, ◌<◌, ◌≤◌, Bool, List, true, false, refl, sym, ap, ◌∙◌, arith, inl, inr}
use Rattle.std.specs.Prelude.{Option, Some, None, is_some}
use Rattle.lset_words.specs.declared.history.CallRecord.{CallRecord}
use Rattle.lset_words.proofs.Numbers.{below_or_not}
use Rattle.lset_history.specs.History.{latest_moment}
use Rattle.lset_judge.specs.Rule.{Event, leaves, idle, same, State, opened, entered, open_changes, stepped, state_after, may_leave}
use Rattle.lset_judge.specs.Events.{event_at}
use Rattle.lset_judge.proofs.RuleLeads.{at_once}
use Rattle.lset_judge.proofs.EventLemmas.{event_idle}

pub idle_step : (m : ℕ) (o : Option State) → stepped m idle o ≡ o
idle_step m None = refl
idle_step m (Some s) = ap (entered idle) (at_once (open_changes s) m idle s refl)

module _ (ev : ℕ → Event) (b : Bool) where
  -- ---- Lemmas about moments without an event
  pub quiet_until : (d m n : ℕ) → m + d ≡ n → ((j : ℕ) → m < j → j ≤ n → ev j ≡ idle) → state_after ev b n ≡ state_after ev b m
  quiet_until zero m n e q = let f : n ≡ m = omega arith in ap (state_after ev b) f
  quiet_until (suc d) m zero e q = absurd (omega (arith, e))
  quiet_until (suc d) m (suc n) e q =
      ap (λ (v : Event). stepped n v (state_after ev b n)) (q (suc n) (omega (arith, e)) (omega arith)) ∙ idle_step n (state_after ev b n)
      ∙ quiet_until d m n (omega (arith, e)) (λ j l h. q j l (omega (arith, h)))

  pub stays_failed : (d m n : ℕ) → n ≡ m + d → state_after ev b m ≡ None → state_after ev b n ≡ None
  stays_failed zero m n e none = let f : n ≡ m = omega (arith, e) in ap (state_after ev b) f ∙ none
  stays_failed (suc d) m zero e none = absurd (omega (arith, e))
  stays_failed (suc d) m (suc n) e none = ap (stepped n (ev (suc n))) (stays_failed d m n (omega (arith, e)) none)

pub same_after : (ev other : ℕ → Event) (b : Bool) (m : ℕ) → ((j : ℕ) → j ≤ m → ev j ≡ other j) → state_after ev b m ≡ state_after other b m
same_after ev other b zero same = refl
same_after ev other b (suc m) same =
    ap (λ (v : Event). stepped m v (state_after ev b m)) (same (suc m) (omega arith))
    ∙ ap (stepped m (other (suc m))) (same_after ev other b m (λ j l. same j (omega (arith, l))))

pub idle_key : (ev : ℕ → Event) (was left : Bool) (last : ℕ) → ((m : ℕ) → 0 < m → ev m ≡ idle) → may_leave ev was left last ≡ same left was
idle_key ev was left last quiet =
    ap (λ (o : Option State). is_some (stepped last (leaves left) o)) (quiet_until ev was last 0 last (omega arith) (λ j l h. quiet j l)) ∙ as_was left was
  where
    as_was : (l w : Bool) → is_some (stepped last (leaves l) (Some (opened w))) ≡ same l w
    as_was true true = refl
    as_was true false = refl
    as_was false true = refl
    as_was false false = refl

pub left_alike : (ev other : ℕ → Event) (b left : Bool) (last : ℕ) → ((j : ℕ) → j ≤ last → ev j ≡ other j)
    → may_leave ev b left last ≡ may_leave other b left last
left_alike ev other b left last same = ap (λ (o : Option State). is_some (stepped last (leaves left) o)) (same_after ev other b last same)

-- ---- Lemmas about the calls on key k. No call starts or ends after moment T

module _ (calls : List CallRecord) (T : ℕ) (behind : latest_moment calls ≤ T) (k : ℕ) (opens : Bool) where
  abbrev event : ℕ → Event
  event = event_at T k calls

  pub stays_after : (G : ℕ) → latest_moment calls ≤ G → G ≤ T → state_after event opens T ≡ state_after event opens G
  stays_after G low high = quiet_until event opens (T - G) G T (omega (arith, high)) (λ j l m. event_idle k j T calls (omega (arith, low, l)))

  pub failed_by : (left : Bool) (m : ℕ) → state_after event opens m ≡ None → may_leave event opens left T ≡ false
  failed_by left m none = ap (λ (o : Option State). is_some (stepped T (leaves left) o)) (elim (below_or_not T m) [
    | inr low ↦ stays_failed event opens (T - m) m T (omega (arith, low)) none
    | inl high ↦ sym (quiet_until event opens (m - T) T m (omega (arith, high)) (λ j l n. event_idle k j T calls (omega (arith, behind, l)))) ∙ none
  ])
