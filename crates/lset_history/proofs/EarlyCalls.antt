-- Lemmas about the checker's loop over an order from the last call to the first. The loop keeps the earliest moment
-- when a call ended, because a call that begins after the end of a later call is too early in the order.
use Rattle.std.proofs.Common.{rules, ◌≡◌, ℕ, ◌<◌, ◌≤◌, List, length, Option, Some, None, refl, subst, inl, inr, ◌⊎◌}
use Rattle.std.proofs.Common.{suc, arith}
use Rattle.std.proofs.lemmas.Bool.{cases_order, cases_lt}
use Rattle.std.specs.Option.{IsSomeAnd, MatchOption}
use Rattle.lset_words.specs.declared.Reply.{Reply}
use Rattle.lset_words.specs.declared.history.CallRecord.{CallRecord}
use Rattle.lset_words.specs.declared.history.Placed.{Placed}
use Rattle.lset_history.specs.Checks.{smallest_with}
use Rattle.lset_history.specs.Faults.{place_at, placed_call, IsTooEarly, Passes, RefusesFirst}

-- `EndsBefore` holds if a call ended before `moment`. `EndsFrom` holds if some call at index `i` or a larger index of
-- the order ended before `moment`.
abbrev pub EndsBefore : ℕ → Option (ℕ × Reply) → Type 0
EndsBefore moment ended = IsSomeAnd ended (λ (end : ℕ × Reply). end.0 < moment)

abbrev pub EndsFrom : List CallRecord → List Placed → ℕ → ℕ → Type 0
EndsFrom calls order i moment =
    (later : ℕ) × (i ≤ later) × (later < length order) × EndsBefore moment (placed_call calls order later).ended

-- Holds if `smallest` is the earliest moment when a call at index `i` or at a larger index ended, or `None` if no such
-- call has ended.
pub record EndsSmallest (calls : List CallRecord) (order : List Placed) (i : ℕ) (smallest : Option ℕ) : Type 0 where
  pub below : (moment : ℕ) → IsSomeAnd smallest (λ end. end < moment) → EndsFrom calls order i moment
  pub ends : (moment : ℕ) → EndsFrom calls order i moment → IsSomeAnd smallest (λ end. end < moment)

-- Holds if the call `number` is the first call of the order, from index `i` on, that is too early: a later call of the
-- order ended before the call began.
pub record EarlyFrom (calls : List CallRecord) (order : List Placed) (i number : ℕ) : Type 0 where
  pub place : ℕ
  pub from : i ≤ place
  pub inside : place < length order
  pub names : (place_at order place).call ≡ number
  pub refused : IsTooEarly calls order place
  pub first : (earlier : ℕ) → i ≤ earlier → earlier < place → IsTooEarly calls order earlier → ⊥

abbrev pub FindsEarly : List CallRecord → List Placed → ℕ → Option ℕ → Type 0
FindsEarly calls order i early =
    MatchOption early ((place : ℕ) → i ≤ place → place < length order → IsTooEarly calls order place → ⊥)
    (EarlyFrom calls order i)

first_or_later : (calls : List CallRecord) (order : List Placed) (j moment : ℕ) → EndsFrom calls order j moment
    → EndsBefore moment (placed_call calls order j).ended ⊎ EndsFrom calls order (suc j) moment
first_or_later calls order j moment (k, from, inside, ends) =
    elim (cases_order k j) [
      | inl e ↦ inl (subst (λ n. EndsBefore moment (placed_call calls order n).ended) e ends)
      | inr ne ↦ inr (k, omega arith, inside, ends)
    ]

later_from : (calls : List CallRecord) (order : List Placed) (j moment : ℕ) → EndsFrom calls order (suc j) moment
    → EndsFrom calls order j moment
later_from calls order j moment (k, from, inside, ends) = (k, omega arith, inside, ends)

smallest_by : (calls : List CallRecord) (order : List Placed) (j : ℕ) (smallest : Option ℕ) (ended : Option (ℕ × Reply))
    → ((m : ℕ) → EndsBefore m ended → EndsFrom calls order j m)
    → ((m : ℕ) → EndsFrom calls order j m → EndsBefore m ended ⊎ EndsFrom calls order (suc j) m)
    → EndsSmallest calls order (suc j) smallest → EndsSmallest calls order j (smallest_with smallest ended)
smallest_by calls order j smallest None own parts h = record {
  below = λ m low. later_from calls order j m (h.below m low);
  ends = λ m from. elim (parts m from) [ inl here ↦ absurd here | inr later ↦ h.ends m later ];
}
smallest_by calls order j None (Some end) own parts h = record {
  below = own;
  ends = λ m from. elim (parts m from) [ inl here ↦ here | inr later ↦ absurd (h.ends m later) ];
}
smallest_by calls order j (Some smallest) (Some end) own parts h = record {
  below = λ m low. elim (cases_lt smallest m) [ inl b ↦ later_from calls order j m (h.below m b) | inr a ↦ own m (omega arith) ];
  ends = λ m from. elim (parts m from) [ inl here ↦ omega (arith, here) | inr later ↦ omega (arith, h.ends m later) ];
}

pub smallest_more : (calls : List CallRecord) (order : List Placed) (j : ℕ) (smallest : Option ℕ) (ended : Option (ℕ × Reply))
    → j < length order → ended ≡ (placed_call calls order j).ended → EndsSmallest calls order (suc j) smallest
    → EndsSmallest calls order j (smallest_with smallest ended)
smallest_more calls order j smallest ended inside e h = smallest_by calls order j smallest ended
    (λ m here. (j, omega arith, inside, rw e at here)) (λ m from. rw e (first_or_later calls order j m from)) h

too_early_here : (calls : List CallRecord) (order : List Placed) (j : ℕ)
    → EndsFrom calls order (suc j) (placed_call calls order j).begun → IsTooEarly calls order j
too_early_here calls order j (k, from, inside, ends) = (k, omega arith, inside, ends)

pub early_here : (calls : List CallRecord) (order : List Placed) (j moment : ℕ) (smallest : Option ℕ) → j < length order
    → moment ≡ (placed_call calls order j).begun → EndsSmallest calls order (suc j) smallest → IsSomeAnd smallest (λ end. end < moment)
    → FindsEarly calls order j (Some (place_at order j).call)
early_here calls order j moment smallest inside e h low = record {
  place = j;
  from = omega arith;
  inside = inside;
  names = refl;
  refused = too_early_here calls order j (rw e at (h.below moment low));
  first = λ earlier from before. absurd (omega arith);
}

pub early_later : (calls : List CallRecord) (order : List Placed) (j moment : ℕ) (smallest early : Option ℕ)
    → moment ≡ (placed_call calls order j).begun → EndsSmallest calls order (suc j) smallest
    → (IsSomeAnd smallest (λ end. end < moment) → ⊥) → FindsEarly calls order (suc j) early → FindsEarly calls order j early
early_later calls order j moment smallest early e h other found = later early found
  where
    here : (place : ℕ) → place ≡ j → IsTooEarly calls order place → ⊥
    here place at early = search rules

    later : (early : Option ℕ) → FindsEarly calls order (suc j) early → FindsEarly calls order j early
    later None found = λ place from inside early. elim (cases_order place j) [
      | inl at ↦ here place at early
      | inr side ↦ found place (omega arith) inside early
    ]
    later (Some n) found = record {
      place = found.place;
      from = let f = found.from in omega arith;
      inside = found.inside;
      names = found.names;
      refused = found.refused;
      first = λ earlier from before early. elim (cases_order earlier j) [
        | inl at ↦ here earlier at early
        | inr side ↦ found.first earlier (omega arith) before early
      ];
    }

pub early_first : (calls : List CallRecord) (order : List Placed) (early : Option ℕ) → FindsEarly calls order 0 early
    → MatchOption early (Passes (IsTooEarly calls order) order) (RefusesFirst (IsTooEarly calls order) order)
early_first calls order None found = λ place inside. found place (omega arith) inside
early_first calls order (Some n) found = record {
  place = found.place;
  inside = found.inside;
  names = found.names;
  refused = found.refused;
  first = λ earlier before. found.first earlier (omega arith) before;
}
