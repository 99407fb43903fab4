use Rattle.lset_session.specs.SessionText.{calls_in}
use Rattle.lset_server.proofs.workers.hold.Goals as goal

pub returns-clause-calls : goal.returns-clause-calls
returns-clause-calls g c =
    let did = c.buffered_session-ended.ensures.session.3 in
    (calls_in did.talk, did.recorded, did.count)
