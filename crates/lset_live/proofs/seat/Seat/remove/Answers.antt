use Rattle.lset_live.proofs.TypedReplies.{remove_reply, stands_for}
use Rattle.lset_live.proofs.seat.Seat.remove.Goals as goal

pub truth_of-requires : goal.truth_of-requires
truth_of-requires g c = remove_reply _ _ _ _ _ _ c.remove-reply.ensures

pub returns : goal.returns
returns g c = stands_for _ _ _ _ _ _ c.remove-reply.ensures _ c.truth_of.ensures
