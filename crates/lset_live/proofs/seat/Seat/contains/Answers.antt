use Rattle.lset_live.proofs.TypedReplies.{contains_reply, stands_for}
use Rattle.lset_live.proofs.seat.Seat.contains.Goals as goal

pub truth_of-requires : goal.truth_of-requires
truth_of-requires g c = contains_reply _ _ _ _ _ _ c.contains-reply.ensures

pub returns : goal.returns
returns g c = stands_for _ _ _ _ _ _ c.contains-reply.ensures _ c.truth_of.ensures
