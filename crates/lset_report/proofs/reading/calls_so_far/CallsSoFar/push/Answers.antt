use Rattle.lset_report.proofs.ReportHistories.{may_ok, tracks_more}
use Rattle.lset_report.specs.declared.reading.calls_so_far.CallsSoFar.{CallsSoFar}
use Rattle.lset_report.proofs.reading.calls_so_far.CallsSoFar.push.Goals as goal

pub push-requires : goal.push-requires
push-requires c = may_ok _ _ _ c.requires

pub invariant_of-self-2-clause-tracks : goal.invariant_of-self-2-clause-tracks
invariant_of-self-2-clause-tracks c =
    let s : CallsSoFar = c.args.self.now in
    rw (c.end_moment.ensures, c.is_open.ensures)
    (tracks_more s.history c.push.new.self s.last_begun s.last_ends.items s.busy.items c.args.made s.tracks c.requires
    c.in_ok-push.ensures.pushed)
