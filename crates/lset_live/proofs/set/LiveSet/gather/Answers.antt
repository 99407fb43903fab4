use Rattle.std.proofs.Common.{rules, ◌≡◌, false, sym, ap, ◌∙◌}
use Rattle.lset_rule.proofs.Joins.{joins, learns}
use Rattle.lset_rule.proofs.Counts.{held_few, some_words}
use Rattle.lset_live.specs.Seats.{SeatValue, SetValue}
use Rattle.lset_live.proofs.set.LiveSet.gather.Goals as goal
use Rattle.lset_words.specs.Words.{Sizes}

pub join_seat-requires : goal.join_seat-requires
join_seat-requires g c =
    let a = c.into.invariant in
    let b = c.from.invariant in
    let table = sym (ap (λ (z : SetValue). z.table) c.self.view_is) in (
      ap (λ (s : SeatValue). s.set.table) c.into.view_is ∙ (ap (λ (z : SetValue). z.table) c.requires.into ∙ table),
      ap (λ (s : SeatValue). s.set.table) c.from.view_is ∙ (ap (λ (z : SetValue). z.table) c.requires.from ∙ table),
      b.4,
      some_words (record { threads = c.self.inside.threads; quota = c.self.inside.quota; opening = c.self.inside.opening }) _
          c.self.inside.sized.0,
      joins g.M.Machine.table _ _ _ c.into.inside.place.me.0 c.from.inside.place.me.0 a.0.0 b.0.0 a.0.1 b.0.1,
    )

pub load-requires : goal.load-requires
load-requires g c =
    let still : c.join_seat.new.seat.me.0.spent ≡ false = ap (λ z. z.0.spent) c.join_seat.ensures.2 ∙ c.into.invariant.0.0 in
    let table = sym (ap (λ (z : SetValue). z.table) c.self.view_is) in (
      c.join_seat.ensures.0 ∙ (ap (λ (s : SeatValue). s.set.table) c.into.view_is
          ∙ (ap (λ (z : SetValue). z.table) c.requires.into ∙ table)),
      some_words (record { threads = c.self.inside.threads; quota = c.self.inside.quota; opening = c.self.inside.opening }) _
          c.self.inside.sized.0,
      learns g.M.Machine.table _ _ _ c.join_seat.new.seat.me _ still,
    )

pub overflow_add-into : goal.overflow_add-into
overflow_add-into g c =
    let v = c.into.inside.place.me.0 in
    let w = c.from.inside.place.me.0 in
    let a = held_few g.M.Machine.table v c.into.invariant.1 in
    let b = held_few g.M.Machine.table w c.from.invariant.1 in
    let key = sym (ap (λ (z : SetValue). z.shape.threads) c.self.view_is) ∙ ap (λ (z : Sizes). z.threads) c.self.inside.shaped in
    let va : v.shape.threads ≡ c.self.inside.threads = ap (λ (s : SeatValue). s.set.shape.threads) c.into.view_is
    ∙ (ap (λ (z : SetValue). z.shape.threads) c.requires.into ∙ key) in
    let wa : w.shape.threads ≡ c.self.inside.threads = ap (λ (s : SeatValue). s.set.shape.threads) c.from.view_is
    ∙ (ap (λ (z : SetValue). z.shape.threads) c.requires.from ∙ key) in
    let p = c.into.invariant.3 in
    let q = c.from.invariant.3 in
    let few = c.self.inside.within.1 in
    search rules
