use Rattle.std.proofs.Common.{sym, ap, ◌∙◌}
use Rattle.lset_rule.proofs.Joins.{notes}
use Rattle.lset_rule.proofs.Counts.{some_words}
use Rattle.lset_live.specs.Seats.{SeatValue, SetValue}
use Rattle.lset_live.proofs.set.LiveSet.receipt.Goals as goal

pub split_seat-place-requires : goal.split_seat-place-requires
split_seat-place-requires g c = (
  ap (λ (s : SeatValue). s.set.table) c.seat.view_is ∙ (ap (λ (z : SetValue). z.table) c.requires
      ∙ sym (ap (λ (z : SetValue). z.table) c.self.view_is)),
  some_words (record { threads = c.self.inside.threads; quota = c.self.inside.quota; opening = c.self.inside.opening }) _
      c.self.inside.sized.0,
  notes g.M.Machine.table _ _ c.seat.inside.place.me.0,
)
