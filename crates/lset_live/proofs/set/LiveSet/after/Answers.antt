use Rattle.std.proofs.Common.{◌≡◌, false, sym, ap, ◌∙◌}
use Rattle.lset_rule.proofs.Joins.{informs, learns}
use Rattle.lset_rule.proofs.Counts.{some_words}
use Rattle.lset_live.specs.Seats.{ReceiptValue, SeatValue, SetValue}
use Rattle.lset_live.proofs.set.LiveSet.after.Goals as goal

pub join_seat-requires : goal.join_seat-requires
join_seat-requires g c =
    let table = sym (ap (λ (z : SetValue). z.table) c.self.view_is) in (
      ap (λ (s : SeatValue). s.set.table) c.seat.view_is ∙ (ap (λ (z : SetValue). z.table) c.requires.seat ∙ table),
      ap (λ (s : ReceiptValue). s.set.table) c.receipt.view_is ∙ (ap (λ (z : SetValue). z.table) c.requires.receipt ∙ table),
      c.receipt.invariant.1,
      some_words (record { threads = c.self.inside.threads; quota = c.self.inside.quota; opening = c.self.inside.opening }) _
          c.self.inside.sized.0,
      informs g.M.Machine.table _ _ _ c.seat.inside.place.me.0 c.receipt.inside.place.me.0 c.seat.invariant.0.0 c.receipt.invariant.0,
    )

pub load-requires : goal.load-requires
load-requires g c =
    let still : c.join_seat.new.seat.me.0.spent ≡ false = ap (λ z. z.0.spent) c.join_seat.ensures.2 ∙ c.seat.invariant.0.0 in
    let table = sym (ap (λ (z : SetValue). z.table) c.self.view_is) in (
      c.join_seat.ensures.0 ∙ (ap (λ (s : SeatValue). s.set.table) c.seat.view_is
          ∙ (ap (λ (z : SetValue). z.table) c.requires.seat ∙ table)),
      some_words (record { threads = c.self.inside.threads; quota = c.self.inside.quota; opening = c.self.inside.opening }) _
          c.self.inside.sized.0,
      learns g.M.Machine.table _ _ _ c.join_seat.new.seat.me _ still,
    )
