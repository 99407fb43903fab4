use Rattle.lset_live.proofs.TypedReplies.{add_reply, stands_for}
use Rattle.lset_live.proofs.seat.Seat.add.Goals as goal

pub added_of-requires : goal.added_of-requires
added_of-requires g c = add_reply _ _ _ _ _ _ c.add-reply.ensures

pub returns : goal.returns
returns g c = stands_for _ _ _ _ _ _ c.add-reply.ensures _ c.added_of.ensures
