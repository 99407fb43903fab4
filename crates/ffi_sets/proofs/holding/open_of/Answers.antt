use Rattle.std.proofs.Common.{◌≡◌, ◌∙◌, IfSome, sym, subst}
use Rattle.ffi_sets.specs.Facts.{AreOf}
use Rattle.ffi_sets.proofs.OpenedSeats.{opened_are}
use Rattle.ffi_sets.proofs.holding.open_of.Goals as goal

pub invariant_of-result : goal.invariant_of-result
invariant_of-result g c =
    let set = sym c.in-Ok.ensures.ok in
    let rest = c.pop-seat.new.self.items in
    let are = opened_are c.in_ok-set.set c.args.seats rest c.pop-seat.result
    (sym c.pop-seat.ensures.items ∙ c.in_ok-set.ensures.opened.1) in
    record {
      seat_of = subst (λ v. IfSome c.pop-seat.result (λ s. s.set ≡ v)) set are.0;
      spare_of = subst (λ v. AreOf v rest) set are.1;
    }
