use Rattle.std.proofs.Common.{◌≡◌, ◌+◌, [], ◌∷◌, length, sym, ap, ◌∙◌, subst}
use Rattle.lset_live.specs.Closes.{HasKeys}
use Rattle.lset_live.specs.Explained.{IsOneOrderInTime}
use Rattle.lset_live.specs.Seats.{SeatValue, SetValue}
use Rattle.lset_live.proofs.Closing.{last_in_time}
use Rattle.lset_live.proofs.set.LiveSet.close.Goals as goal
use Rattle.lset_words.specs.Words.{Opening, Sizes}

pub returns-clause-in_time : goal.returns-clause-in_time
returns-clause-in_time g c = λ keys has.
    let v = c.seat.inside.place.me.0 in
    let key = c.self.inside.table.shared.key in
    let shaped = c.self.inside.shaped in
    let shape : v.shape ≡ key = ap (λ (s : SeatValue). s.set.shape) c.seat.view_is
    ∙ (ap (λ (z : SetValue). z.shape) c.requires ∙ sym (ap (λ (z : SetValue). z.shape) c.self.view_is)) in
    let full : length v.others + 1 ≡ key.threads = sym c.seat.invariant.3
    ∙ (c.if-seat-self.false ∙ sym (ap (λ (z : Sizes). z.threads) shaped)) in
    let words = c.close_with-words.result.words.items in
    subst (λ (z : Opening × SeatValue). IsOneOrderInTime g.M.Machine.table z.0 z.1.events (z.1.past ∷ []) keys) (λ i. (
      ap (λ (s : SetValue). s.shape) c.self.view_is i,
      c.seat.view_is i,
    ))
    (last_in_time g.M.Machine.table g.met.M.Machine.lawful v c.seat.invariant.1 c.seat.invariant.0.0 c.seat.invariant.0.1 key
    shape full c.seat.inside.place.id words _
    c.close_with-words.ensures.values.2 c.runs_are_linearizable.ensures keys
    (subst (λ (z : Sizes). HasKeys (record { sizes = z; words = words }) keys) (sym shaped) has))

pub returns-clause-closed : goal.returns-clause-closed
returns-clause-closed g c = λ keys has. (returns-clause-in_time g c keys has).one
