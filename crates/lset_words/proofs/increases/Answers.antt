use Rattle.std.proofs.Common.{◌<◌, ◌≡◌, ◌+◌, ◌-◌, inl, inr, refl, subst, sym, arith}
use Rattle.std.specs.Prelude.{slice_index}
use Rattle.lset_words.proofs.Numbers.{same_or_not}
use Rattle.lset_words.proofs.increases.Goals as goal

pub loop-i-preserved : goal.loop-i-preserved
loop-i-preserved c = λ k l. elim (same_or_not (k + 1) c.loop-i.i) [
  | inl e ↦ (let f : c.loop-i.i - 1 ≡ k = omega arith in
      subst (λ z. slice_index c.args.keys.now k < slice_index c.args.keys.now z) (sym e)
      (subst (λ z. slice_index c.args.keys.now z < slice_index c.args.keys.now c.loop-i.i) f c.if-keys-i.false))
  | inr d ↦ c.loop-i.invariant k (omega arith)
]

pub returns : goal.returns
returns c = let a = c.loop-i-test.false in ((λ t k l. c.loop-i.invariant k (omega arith)), (λ h. refl))
