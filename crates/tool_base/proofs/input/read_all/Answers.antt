use Rattle.std.proofs.Common.{◌≡◌, ◌<◌, List, ℕ, [], ◌++◌, Option, Some, None, IfSome, take, length, refl, sym, ap, ◌∙◌, append-nil, arith, rules}
use Rattle.std.proofs.Common.{inl, inr, length-append}
use Rattle.std.proofs.lemmas.Grind.{common_steps}
use Rattle.std.specs.Io.KnownBytes.{Consumes}
use Rattle.std.proofs.KnownBytes.{Consumes-trans, Consumes-all}
use Rattle.tool_base.specs.Tools.{IsReadOf}
use Rattle.tool_base.specs.declared.input.TheConstants.{LONGEST}
use Rattle.tool_base.proofs.input.read_all.Goals as goal

as_whole : (known : Option (List ℕ)) (read : List ℕ) → IfSome known (λ all. read ≡ all) → IfSome known (IsReadOf read)
as_whole None read is = tt
as_whole (Some all) read is = inl is

as_long : (known rest : Option (List ℕ)) (read : List ℕ) → Consumes known rest read → LONGEST < length read
    → IfSome known (IsReadOf read)
as_long None rest read is long = tt
as_long (Some all) None read is long = absurd is
as_long (Some all) (Some rest) read is long = inr (long, omega (arith, ap length is, length-append read rest))

pub returns-then-count-eq0-clause-read : goal.returns-then-count-eq0-clause-read
returns-then-count-eq0-clause-read g c =
    let none : take c.in-Ok.count c.read.new.buf ≡ [] = rw c.if-count-eq0.true refl in
    let room : 0 < length c.read.new.buf = search rules in
    as_whole _ _ (Consumes-all _ _ (c.loop-buffer.bytes.items ++ take c.in-Ok.count c.read.new.buf) [] c.loop-buffer.bytes.items
    (Consumes-trans _ _ _ _ _ c.loop-buffer.invariant c.in-Ok.ensures.bytes.0)
    (c.in-Ok.ensures.bytes.1 c.if-count-eq0.true room)
    (sym (ap (λ l. c.loop-buffer.bytes.items ++ l) none ∙ append-nil c.loop-buffer.bytes.items)))

pub loop-buffer-preserved : goal.loop-buffer-preserved
loop-buffer-preserved g c =
    let more : c.extend_from_slice.new.self.items ≡ c.loop-buffer.bytes.items ++ take c.in-Ok.count c.read.new.buf =
    grind (arith, common_steps) in
    rw more (Consumes-trans _ _ _ _ _ c.loop-buffer.invariant c.in-Ok.ensures.bytes.0)

pub returns-clause-read : goal.returns-clause-read
returns-clause-read g c = as_long _ _ _ c.loop-buffer.invariant (omega arith)
