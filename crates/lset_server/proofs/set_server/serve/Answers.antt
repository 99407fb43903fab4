use Rattle.std.proofs.Common.{Some, None, sym, ap, ◌∙◌, ◌≡◌}
use Rattle.std.specs.Option.{option_map}
use Rattle.lset_live.specs.Seats.{gather_onto}
use Rattle.lset_live.proofs.GatheredRecords.{gathered_explains}
use Rattle.lset_server.specs.Serving.{followed}
use Rattle.lset_server.proofs.set_server.serve.Goals as goal

pub returns-clause-served : goal.returns-clause-served
returns-clause-served g c =
    let e = c.in-Ok.ensures.gathered in
    let last = c.in-Some.seat.past in
    let is : Some last ≡ gather_onto None (followed _ e.added) = sym (ap (option_map (λ s. s.past)) c.in-Some.is) ∙ e.end_is in
    record {
      added = e.added;
      each = e.each;
      count = e.count;
      explained = gathered_explains c.args.set.shape last _ c.in-Ok-keys_left.keys.items is c.in-Ok-keys_left.ensures.order;
    }
