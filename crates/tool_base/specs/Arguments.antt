-- The meaning of the arguments of the command `gen`.
use Rattle.std.specs.Prelude.{ℕ, ◌-◌, ◌^◌, List, Option, option_and_then, slice_get, Result, Ok}
use Rattle.lset_words.specs.declared.Kind.{Kind}
use Rattle.lset_words.specs.declared.TheConstants.{MOST_THREADS, MOST_QUOTA}
use Rattle.lset_text.specs.Numbers.{number_in}
use Rattle.lset_text.specs.Results.{◌>>=◌, or_fail}
use Rattle.lset_text.specs.Spellings.{kind_of}
use Rattle.tool_base.specs.declared.trouble.ValueName.{ValueName}
use Rattle.tool_base.specs.declared.trouble.ValueName.TheVariants as name
use Rattle.tool_base.specs.declared.arguments.RandomRequest.{RandomRequest}
use Rattle.tool_base.specs.declared.arguments.TheConstants.{MOST_CALLS_ASKED}

-- Returns the kind of list that argument `index` (counted from 0) names. Returns `None` if the argument is missing or
-- names no kind.
abbrev pub kind_at : List (List ℕ) → ℕ → Option Kind
kind_at values index = option_and_then kind_of (slice_get values index)

-- Returns the number in argument `index` (counted from 0). Returns `None` if the argument is missing or is not a number
-- from `low` to `high`.
abbrev pub number_at : List (List ℕ) → ℕ → ℕ → ℕ → Option ℕ
number_at values index low high = option_and_then (number_in low high) (slice_get values index)

-- Parses the arguments of the command `gen`. The error is the first argument that is missing or wrong.
unfoldable pub random_request_of : List (List ℕ) → Result RandomRequest ValueName
random_request_of values = do
  kind ← or_fail name.Kind (kind_at values 0)
  threads ← or_fail name.Threads (number_at values 1 1 MOST_THREADS)
  quota ← or_fail name.Quota (number_at values 2 0 MOST_QUOTA)
  calls ← or_fail name.Calls (number_at values 3 0 MOST_CALLS_ASKED)
  keys ← or_fail name.Keys (number_at values 4 1 (2 ^ 32 - 1))
  seed ← or_fail name.Seed (number_at values 5 0 (2 ^ 64 - 1))
  Ok (record { kind = kind; threads = threads; quota = quota; calls = calls; keys = keys; seed = seed })
