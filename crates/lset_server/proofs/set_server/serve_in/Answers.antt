use Rattle.std.proofs.Common.{◌≡◌, length, arith}
use Rattle.crossbeam_channel.specs.Claims.{view}
use Rattle.lset_live.proofs.ListsHandedOn.{starts_map}
use Rattle.lset_server.proofs.ServeLaws.{as_many, whole_again, all_gathered}
use Rattle.lset_server.proofs.set_server.serve_in.Goals as goal

pub returns-clause-gathered : goal.returns-clause-gathered
returns-clause-gathered g c =
    let seats = c.args.seats.items in
    let started = c.in_ok-started.ensures.seats in
    let workers = c.in_ok-started.started.items in
    let j = c.join_all-gathered.ensures.joined in
    let whole = whole_again (length seats) c.args.pool.now.sessions (view c.args.pass) _ _ _ j.received (length workers)
    c.requires.pass.2 c.requires.seats.1
    c.in_ok-started.ensures.pass.1 c.in_ok-send_all.ensures.told.1
    (as_many _ workers seats started) j.view in
    let all : c.join_all-gathered.result.sessions ≡ c.args.pool.now.sessions = grind arith in
    let (left, told) = c.balance.ensures.told in
    all_gathered _ _ _ _ _ _ _ _ _ _ left (starts_map _ (λ s. s.past) workers seats started) j whole all told
    c.balance.ensures.channel.1
