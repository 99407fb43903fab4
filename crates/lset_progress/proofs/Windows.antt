-- Proof by a potential, which is a bound on the number of counted steps until a call ends. If each counted step ends
-- its call or decreases the potential by at least 1, and no other event increases the potential, then among
-- sufficiently many counted steps, at least one ends its call.
use Rattle.std.specs.Prelude.{◌≡◌, ℕ, ◌+◌, ◌<◌, ◌≤◌, ◌⊎◌, Bool, true, false, refl}
use Rattle.std.proofs.Common.{arith, inl, inr, subst, zero, suc}
use Rattle.lset_words.specs.declared.Call.{Call}
use Rattle.lset_words.specs.declared.Call.TheVariants as call
use Rattle.lset_words.specs.Words.{Opening}
use Rattle.lset_steps.specs.declared.Event.{Event}
use Rattle.lset_steps.specs.declared.Event.TheVariants.{Go}
use Rattle.lset_steps.specs.Steps.{Table, State, state_at, after}
use Rattle.lset_progress.specs.Progress.{Answers, SomeEnds, counted, steps_among}

pub counted_or_not : (reads : Bool) (c : Call) → (counted reads c ≡ 0) ⊎ (counted reads c ≡ 1)
counted_or_not reads (call.Add k) = inr refl
counted_or_not reads (call.Remove k) = inr refl
counted_or_not true (call.Contains k) = inr refl
counted_or_not false (call.Contains k) = inl refl
counted_or_not reads (call.Ceiling k) = inl refl

pub ends_later : {count : State → Event → ℕ} {T : Table} {op : Opening} {es : ℕ → Event} {k n : ℕ}
    → SomeEnds count T op es (suc k) n
    → SomeEnds count T op es k (suc n)
ends_later {k = k} {n = n} e = record {
  at = e.at;
  from = (let h : suc k ≤ e.at = e.from in omega arith);
  before = (let h : e.at < suc k + n = e.before in omega arith);
  thread = e.thread;
  own = e.own;
  counts = e.counts;
  ends = e.ends;
}

module _ (T : Table) (count : State → Event → ℕ) (op : Opening) (es : ℕ → Event) (Phase : State → ℕ → Type 0) where
  -- Holds if event e is a counted step that ends its call, if e is a counted step that decreases the potential by at
  -- least 1, or if e is not a counted step and does not increase the potential.
  abbrev pub Then : ℕ → ℕ → Event → Type 0
  Then k p e = ((t : ℕ) × (e ≡ Go t) × Answers T (state_at T op es k) t × (count (state_at T op es k) e ≡ 1))
      ⊎ ((p' : ℕ) × (p' + count (state_at T op es k) e ≤ p) × Phase (after T (state_at T op es k) e) p')

  module _ (last : ℕ) (falls : (k p : ℕ) → k < last → Phase (state_at T op es k) p → Then k p (es k))
      (never : (k : ℕ) → k ≤ last → Phase (state_at T op es k) 0 → ⊥) where
    pub some_ends : (n k p : ℕ) → k + n ≤ last → Phase (state_at T op es k) p → p ≤ steps_among count T op es k n
        → SomeEnds count T op es k n
    some_ends zero k p l f h =
        let z : p ≡ 0 = omega arith in
        absurd (never k (omega arith) (subst (λ x. Phase (state_at T op es k) x) z f))
    some_ends (suc n) k p l f h = elim (falls k p (omega arith) f) [
      | inl a ↦ record {
        at = k;
        from = omega arith;
        before = omega arith;
        thread = a.0;
        own = a.1;
        counts = a.3;
        ends = a.2;
      }
      | inr x ↦
          (let less : x.0 + count (state_at T op es k) (es k) ≤ p = x.1 in
          ends_later (some_ends n (suc k) x.0 (omega arith) x.2 (omega arith)))
    ]
