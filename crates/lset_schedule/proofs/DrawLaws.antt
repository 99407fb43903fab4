-- Lemmas about loops that draw calls and programs (lists of calls, one for each thread) one by one.
use Rattle.std.proofs.Common.{◌≡◌, ℕ, suc, ◌+◌, ◌-◌, ◌<◌, ◌≤◌, List, [], ◌∷◌, ◌++◌, map, append_assoc, append-nil, refl, sym, ap}
use Rattle.std.proofs.Common.{◌∙◌, arith}
use Rattle.std.specs.List.{range_with_len}
use Rattle.std.proofs.lemmas.List.{map-append}
use Rattle.std.proofs.lemmas.List.FromFn.{map-range_with_len_more}
use Rattle.rand_core.specs.Stream.{Stream}
use Rattle.lset_words.specs.declared.Call.{Call}
use Rattle.lset_schedule.specs.Draws.{drawn_call, drawn_calls}

-- Returns the calls in `drawn`, followed by `left` more calls that the random numbers `s` select. Also returns the
-- unused random numbers.
abbrev pub with_others : ℕ → ℕ → List Call → Stream → List Call × Stream
with_others keys left drawn s = (drawn ++ (drawn_calls keys left s).0, (drawn_calls keys left s).1)

pub draws_more : (keys calls i : ℕ) (drawn : List Call) (s t : Stream) (c : Call) (whole : List Call × Stream)
    → i < calls → (c, t) ≡ drawn_call keys s → with_others keys (calls - i) drawn s ≡ whole
    → with_others keys (calls - (i + 1)) (drawn ++ c ∷ []) t ≡ whole
unfolding drawn_calls
draws_more keys calls i drawn s t c whole lt e so_far =
    let k : calls - i ≡ suc (calls - (i + 1)) = omega arith in
    let c_is : c ≡ (drawn_call keys s).0 = ap (λ (p : Call × Stream). p.0) e in
    let t_is : t ≡ (drawn_call keys s).1 = ap (λ (p : Call × Stream). p.1) e in
    let one : with_others keys (calls - i) drawn s
    ≡ with_others keys (calls - (i + 1)) (drawn ++ (drawn_call keys s).0 ∷ []) (drawn_call keys s).1 =
    rw (k, append_assoc drawn ((drawn_call keys s).0 ∷ []) (drawn_calls keys (calls - (i + 1)) (drawn_call keys s).1).0) refl in
    rw (c_is, t_is) (sym one ∙ so_far)

pub draws_end : (keys calls i : ℕ) (drawn : List Call) (s : Stream) (whole : List Call × Stream) → calls ≤ i
    → with_others keys (calls - i) drawn s ≡ whole → (drawn, s) ≡ whole
unfolding drawn_calls
draws_end keys calls i drawn s whole le so_far =
    let k : calls - i ≡ 0 = omega arith in
    let one : with_others keys (calls - i) drawn s ≡ (drawn, s) = rw (k, append-nil drawn) refl in
    sym one ∙ so_far

pub programs_more : {X : Type 0} (calls_of : X → List Call) (f : ℕ → List Call) (all more : List X) (x : X) (t : ℕ)
    → more ≡ all ++ x ∷ [] → calls_of x ≡ f t → map calls_of all ≡ map f (range_with_len 0 t)
    → map calls_of more ≡ map f (range_with_len 0 (t + 1))
programs_more calls_of f all more x t grown is so_far =
    ap (map calls_of) grown ∙ map-append calls_of all (x ∷ []) ∙ ap (λ xs. xs ++ calls_of x ∷ []) so_far
    ∙ ap (λ y. map f (range_with_len 0 t) ++ y ∷ []) is ∙ sym (map-range_with_len_more f 0 t t (omega arith))
