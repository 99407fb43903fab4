-- The random calls that `generate` and `programs` draw. A program is a list of calls for one thread.
use Rattle.std.specs.Prelude.{ℕ, zero, suc, ◌+◌, ◌%◌, ◌^◌, ◌==◌, List, [], ◌∷◌, map, if◌then◌else◌}
use Rattle.std.specs.List.{range_with_len}
use Rattle.rand_core.specs.Pcg32Seed.{pcg32_seed}
use Rattle.rand_core.specs.Steps.{stream_of, steps_u32}
use Rattle.rand_core.specs.Stream.{Stream, next_u32}
use Rattle.rand_pcg.specs.Pcg.{pcg32, pcg32_of_seed}
use Rattle.lset_words.specs.declared.Key.{Key}
use Rattle.lset_words.specs.declared.Call.{Call}
use Rattle.lset_words.specs.declared.Call.TheVariants.{Add, Remove, Contains}

-- Returns the random numbers that the generator `Pcg32` produces from `seed`.
abbrev pub seeded : ℕ → Stream
seeded seed = stream_of (steps_u32 pcg32) (pcg32_of_seed (pcg32_seed 16 seed))

-- Returns an `add`, `remove` or `contains` of the given key. The random number `choice` selects one of the three.
abbrev pub call_by : ℕ → Key → Call
call_by choice key = if choice % 3 == 0 then Add key else (if choice % 3 == 1 then Remove key else Contains key)

-- Returns the call that two random numbers select. The key of the call is below `keys`.
unfoldable pub chosen : ℕ → ℕ → ℕ → Call
chosen keys a b = call_by a (record { 0 = b % keys })

-- Returns the call that the next two random numbers select, and the remaining random numbers.
unfoldable pub drawn_call : ℕ → Stream → Call × Stream
drawn_call keys s =
    let a = next_u32 s in
    let b = next_u32 a.1 in
    (chosen keys a.0 b.0, b.1)

-- Returns the n calls that the next random numbers select, and the remaining random numbers.
unfoldable pub drawn_calls : ℕ → ℕ → Stream → List Call × Stream
drawn_calls keys zero s = ([], s)
drawn_calls keys (suc n) s =
    let first = drawn_call keys s in
    let others = drawn_calls keys n first.1 in
    (first.0 ∷ others.0, others.1)

-- Returns the random program (list of calls) of one thread. The thread's random generator is seeded with the wrapping
-- sum of `seed` and the thread's number.
unfoldable pub program_of : ℕ → ℕ → ℕ → ℕ → List Call
program_of calls keys seed thread = (drawn_calls keys calls (seeded ((seed + thread) % 2 ^ 64))).0

-- Returns the random programs (one list of calls per thread) of threads 0 to `threads` - 1.
abbrev pub programs_of : ℕ → ℕ → ℕ → ℕ → List (List Call)
programs_of threads calls keys seed = map (program_of calls keys seed) (range_with_len 0 threads)
