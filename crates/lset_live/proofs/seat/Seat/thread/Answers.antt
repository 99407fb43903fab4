use Rattle.std.proofs.Common.{ap, sym, ◌∙◌}
use Rattle.lset_rule.specs.declared.slots.OwnSlots.{OwnSlots}
use Rattle.lset_rule.proofs.MovesKeepRule.{own_number}
use Rattle.lset_words.specs.Records.{thread_of}
use Rattle.lset_live.specs.Seats.{SeatValue}
use Rattle.lset_live.proofs.seat.Seat.thread.Goals as goal

pub returns : goal.returns
returns g c = let v = c.self.inside.place.me.0 in let stands = c.self.invariant.1 in
    ap (λ (x : OwnSlots). x.thread) c.self.invariant.2
    ∙ (own_number g.M.Machine.table g.met.M.Machine.lawful v stands
    ∙ (sym stands.of_thread ∙ ap (λ (s : SeatValue). thread_of s.past) c.self.view_is))
