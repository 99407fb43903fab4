-- The connections sent and received through a server's channel, for contracts about the server's result.
use Rattle.crossbeam_channel.specs.Claims.{view}
use Rattle.lset_server.specs.declared.channel.Tally.{Tally}
use Rattle.lset_server.specs.declared.set_server.Served.{Served}

-- Returns the tally of the server's channel: the connections that were sent and received with all passes (permissions
-- to use the channel), after all passes were joined into one.
abbrev pub tally_of : Served → Tally
tally_of s = view s.pass
