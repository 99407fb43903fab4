-- Lemmas: every program (a thread's list of calls) has the requested number of calls, and that number fits in 32 bits.
use Rattle.std.proofs.Common.{◌≡◌, ℕ, zero, suc, ◌+◌, ◌<◌, ◌%◌, ◌^◌, List, [], ◌∷◌, length, map, All, refl, sym, ap, subst, arith}
use Rattle.std.specs.List.{range_with_len}
use Rattle.std.proofs.lemmas.List.Elements.{All-cons, All-nil, All-head, All-tail}
use Rattle.rand_core.specs.Stream.{Stream}
use Rattle.lset_words.specs.declared.Call.{Call}
use Rattle.lset_schedule.specs.Draws.{drawn_call, drawn_calls, program_of, programs_of, seeded}

length-drawn_calls : (keys n : ℕ) (s : Stream) → length (drawn_calls keys n s).0 ≡ n
unfolding drawn_calls
length-drawn_calls keys zero s = refl
length-drawn_calls keys (suc n) s = ap suc (length-drawn_calls keys n (drawn_call keys s).1)

length-program_of : (calls keys seed t : ℕ) → length (program_of calls keys seed t) ≡ calls
unfolding program_of
length-program_of calls keys seed t = length-drawn_calls keys calls (seeded ((seed + t) % 2 ^ 64))

of_threads : (calls keys seed : ℕ) → calls < 2 ^ 32 → (ts : List ℕ) →
    All (λ (p : List Call). length p < 2 ^ 32) (map (program_of calls keys seed) ts)
of_threads calls keys seed few [] = All-nil (λ (p : List Call). length p < 2 ^ 32)
of_threads calls keys seed few (t ∷ ts) = All-cons (λ (p : List Call). length p < 2 ^ 32) (program_of calls keys seed t)
    (map (program_of calls keys seed) ts)
    (omega (arith, few, length-program_of calls keys seed t)) (of_threads calls keys seed few ts)

held_short : {P : Type 0} (calls_of : P → List Call) (ps : List P) → All (λ l. length l < 2 ^ 32) (map calls_of ps) →
    All (λ p. length (calls_of p) < 2 ^ 32) ps
held_short calls_of [] all = All-nil (λ p. length (calls_of p) < 2 ^ 32)
held_short calls_of (p ∷ ps) all = All-cons (λ p. length (calls_of p) < 2 ^ 32) p ps
    (All-head (λ l. length l < 2 ^ 32) (calls_of p) (map calls_of ps) all)
    (held_short calls_of ps (All-tail (λ l. length l < 2 ^ 32) (calls_of p) (map calls_of ps) all))

pub are_short : {P : Type 0} (calls_of : P → List Call) (ps : List P) (threads calls keys seed : ℕ) → calls < 2 ^ 32
    → map calls_of ps ≡ programs_of threads calls keys seed → All (λ p. length (calls_of p) < 2 ^ 32) ps
are_short calls_of ps threads calls keys seed few drawn =
    held_short calls_of ps
    (subst (All (λ l. length l < 2 ^ 32)) (sym drawn) (of_threads calls keys seed few (range_with_len 0 threads)))
