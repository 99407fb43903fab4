use Rattle.lset_live.proofs.TypedReplies.{ceiling_reply, stands_for}
use Rattle.lset_live.proofs.seat.Seat.ceiling.Goals as goal

pub key_of-requires : goal.key_of-requires
key_of-requires g c = ceiling_reply _ _ _ _ _ _ c.ceiling-reply.ensures

pub returns : goal.returns
returns g c = stands_for _ _ _ _ _ _ c.ceiling-reply.ensures _ c.key_of.ensures
