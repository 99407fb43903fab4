-- Lemmas about a run given by a list of events, and about the run after one more event.
use Rattle.std.specs.Prelude.{◌≡◌, ℕ, zero, suc, ◌<◌, ◌≤◌, List, [], ◌∷◌, ◌++◌, length, refl, ◌⊎◌}
use Rattle.std.proofs.Common.{arith, ◌∙◌, sym, ap, subst, inl, inr, length-set}
use Rattle.std.proofs.lemmas.List.FromFn.{length-map-range_with_len}
use Rattle.lset_steps.specs.declared.Event.{Event}
use Rattle.lset_steps.specs.declared.Event.TheVariants.{Begin, Go}
use Rattle.lset_steps.specs.Steps.{Table, State, Run, state_at, event_at, after, local_of, opening, idle, Enabled, seen_next}
use Rattle.lset_words.specs.Words.{Opening, Opens}

pub state_agree : (T : Table) (op : Opening) (es fs : ℕ → Event) (k : ℕ) → ((j : ℕ) → j < k → fs j ≡ es j)
    → state_at T op fs k ≡ state_at T op es k
state_agree T op es fs zero h = refl
state_agree T op es fs (suc k) h =
    ap (λ e. after T (state_at T op fs k) e) (h k (omega arith))
    ∙ ap (λ s. after T s (es k)) (state_agree T op es fs k (λ j l. h j (omega arith)))

-- Holds if the events `es` form a run from the opening state to state `s`.
pub record RunsTo (T : Table) (op : Opening) (es : List Event) (s : State) : Type 0 where
  pub run : Run T op (event_at es) (length es)
  pub is : s ≡ state_at T op (event_at es) (length es)
  pub locals : length s.locals ≡ op.threads

pub runs_to_opening : (T : Table) (op : Opening) → Opens op → RunsTo T op [] (opening op)
runs_to_opening T op opens = record {
  run = record { opens = opens; enabled = λ k l. absurd (omega arith) };
  is = refl;
  locals = length-map-range_with_len (idle op.quota) 0 op.threads;
}

locals_length : (T : Table) (s : State) (e : Event) → length (after T s e).locals ≡ length s.locals
locals_length T s (Begin t call) = length-set s.locals t (T.begin call (local_of s t))
locals_length T s (Go t) = length-set s.locals t (T.feed (local_of s t) (seen_next T s t)).local

event_before : (es : List Event) (e : Event) (j : ℕ) → j < length es → event_at (es ++ e ∷ []) j ≡ event_at es j
event_before [] e j h = absurd (omega arith)
event_before (x ∷ es) e zero h = refl
event_before (x ∷ es) e (suc j) h = event_before es e j (omega arith)

pub event_last : (es : List Event) (e : Event) → event_at (es ++ e ∷ []) (length es) ≡ e
event_last [] e = refl
event_last (x ∷ es) e = event_last es e

length_more : (es : List Event) (e : Event) → length (es ++ e ∷ []) ≡ suc (length es)
length_more [] e = refl
length_more (x ∷ es) e = ap (λ k. suc k) (length_more es e)

module _ (T : Table) (op : Opening) (es : List Event) (s : State) (e : Event) (r : RunsTo T op es s) where
  abbrev more : ℕ → Event
  more = event_at (es ++ e ∷ [])

  same_before : (k : ℕ) → k ≤ length es → state_at T op more k ≡ state_at T op (event_at es) k
  same_before k l = state_agree T op (event_at es) more k (λ j m. event_before es e j (omega arith))

  pub last_is : state_at T op more (length es) ≡ s
  last_is = same_before (length es) (omega arith) ∙ sym r.is

  below : (k : ℕ) → k < suc (length es) → (k ≡ length es) ⊎ (k < length es)
  below k l = grind arith

  pub run_more : Enabled s e → Run T op more (suc (length es))
  run_more h = record {
    opens = r.run.opens;
    enabled = λ k l. elim (below k l) [
      | inl y ↦ subst (λ z. Enabled (state_at T op more z) (more z)) (sym y)
          (subst (λ z. Enabled (state_at T op more (length es)) z) (sym (event_last es e))
          (subst (λ x. Enabled x e) (sym last_is) h))
      | inr y ↦ subst (λ z. Enabled (state_at T op more k) z) (sym (event_before es e k y))
          (subst (λ x. Enabled x (event_at es k)) (sym (same_before k (omega arith))) (r.run.enabled k y))
    ];
  }

  pub runs_to_more : Enabled s e → RunsTo T op (es ++ e ∷ []) (after T s e)
  runs_to_more h = record {
    run = subst (λ k. Run T op more k) (sym (length_more es e)) (run_more h);
    is = sym (ap (λ k. state_at T op more k) (length_more es e)
        ∙ ap (λ x. after T (state_at T op more (length es)) x) (event_last es e)
        ∙ ap (λ x. after T x e) last_is);
    locals = locals_length T s e ∙ r.locals;
  }
