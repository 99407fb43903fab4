use Rattle.std.proofs.Common.{◌≡◌, ◌<◌, List, [], ◌∷◌, length, refl, sym, ap, ◌∙◌, arith}
use Rattle.lset_rule.specs.declared.view.SpareThread.{SpareThread}
use Rattle.lset_rule.proofs.Joins.{splits}
use Rattle.lset_rule.proofs.Counts.{some_words}
use Rattle.lset_live.specs.Seats.{SetValue}
use Rattle.lset_live.proofs.set.LiveSet.split_off.Goals as goal

uncons : (os : List SpareThread) → 0 < length os → (o : SpareThread) × (rest : List SpareThread) × (os ≡ o ∷ rest)
uncons [] lt = absurd (omega arith)
uncons (o ∷ os) lt = (o, os, refl)

pub split_seat-requires : goal.split_seat-requires
split_seat-requires g c =
    let v = c.args.place.now.me.0 in
    let p = c.requires.place in
    let t = uncons v.others c.requires.fresh.1 in (
      p.0.0 ∙ sym (ap (λ (z : SetValue). z.table) c.self.view_is),
      some_words (record { threads = c.self.inside.threads; quota = c.self.inside.quota; opening = c.self.inside.opening }) _
          c.self.inside.sized.0,
      splits g.M.Machine.table _ _ v t.0 t.1 p.1.0 p.1.1 c.requires.fresh.0 t.2,
    )
