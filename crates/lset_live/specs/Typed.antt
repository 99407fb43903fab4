-- Converts the typed results of calls to the replies that a record of calls contains, and defines the possible replies
-- to each kind of call.
use Rattle.std.specs.Prelude.{Option, Some, None}
use Rattle.lset_words.specs.declared.Key.{Key}
use Rattle.lset_words.specs.declared.Reply.{Reply}
use Rattle.lset_words.specs.declared.Reply.TheVariants as reply
use Rattle.lset_live.specs.declared.typed_calls.Added.{Added}
use Rattle.lset_live.specs.declared.typed_calls.Added.TheVariants as added

-- Converts a result of `Seat::add` to the reply that a record of calls contains.
abbrev pub reply_of_add : Added → Reply
reply_of_add added.New = reply.True
reply_of_add added.Already = reply.False
reply_of_add added.Full = reply.Full

-- Converts a result of `Seat::ceiling` to the reply that a record of calls contains.
abbrev pub reply_of_ceiling : Option Key → Reply
reply_of_ceiling None = reply.Nothing
reply_of_ceiling (Some k) = reply.At k

-- Holds if the given reply is possible for an `add`.
abbrev pub IsAddReply : Reply → Type 0
IsAddReply reply.True = Unit {0}
IsAddReply reply.False = Unit {0}
IsAddReply reply.Full = Unit {0}
IsAddReply (reply.At k) = ⊥
IsAddReply reply.Nothing = ⊥

-- Holds if the given reply is possible for a `remove` or a `contains`.
abbrev pub IsTruth : Reply → Type 0
IsTruth reply.True = Unit {0}
IsTruth reply.False = Unit {0}
IsTruth reply.Full = ⊥
IsTruth (reply.At k) = ⊥
IsTruth reply.Nothing = ⊥

-- Holds if the given reply is possible for a `ceiling`.
abbrev pub IsCeilingReply : Reply → Type 0
IsCeilingReply reply.True = ⊥
IsCeilingReply reply.False = ⊥
IsCeilingReply reply.Full = ⊥
IsCeilingReply (reply.At k) = Unit {0}
IsCeilingReply reply.Nothing = Unit {0}
