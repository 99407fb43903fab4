use Rattle.std.proofs.Common.{◌≢◌, None, refl, sym, ap, ◌∙◌}
use Rattle.std.specs.Prelude.{is_some}
use Rattle.std.specs.Bool.{nat_eq}
use Rattle.std.specs.HashMap.{get}
use Rattle.std.proofs.lemmas.Bool.{true≢false}
use Rattle.lset_judge.proofs.KeyStates.{has_at, each_more, none_of}
use Rattle.lset_judge.proofs.stream.Stream.unknown_left.Goals as goal

pub returns-then-not-contains_key : goal.returns-then-not-contains_key
returns-then-not-contains_key c = (
  has_at _ c.args.keys.now c.loop-key.key-index c.loop-key-test.true refl,
  none_of _ (sym c.contains_key.ensures ∙ c.if-not-contains_key.true),
)

pub loop-key-preserved : goal.loop-key-preserved
loop-key-preserved c =
    each_more (λ k. get nat_eq c.args.self.now.states k ≢ None) c.args.keys.now c.loop-key.key-index c.loop-key-test.true c.loop-key.invariant
    (λ none. true≢false (sym c.if-not-contains_key.false ∙ c.contains_key.ensures ∙ ap is_some none))
