use Rattle.std.proofs.Common.{◌≡◌, ℕ, ◌<◌, ◌≤◌, ◌^◌, List, Option, Some, None, IfSome, sym, arith}
use Rattle.lset_text.specs.Numbers.{number_in}
use Rattle.lset_text.proofs.NumberLaws.{number_ok}
use Rattle.tool_base.proofs.arguments.number_at.Goals as goal

range_of : (low high : ℕ) (piece : List ℕ) (found : Option ℕ) → high < 2 ^ 64 → found ≡ number_in low high piece
    → IfSome found (λ n. (low ≤ n) × (n ≤ high))
range_of low high piece None wide is = tt
range_of low high piece (Some n) wide is = let known = number_ok low high piece n wide (sym is) in (known.1, known.2)

pub returns-clause-range : goal.returns-clause-range
returns-clause-range c =
    range_of c.args.low c.args.high c.as_bytes.result.now c.number.result (omega (arith, c.ranges.high.fits)) c.number.ensures
