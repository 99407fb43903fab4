use Rattle.std.proofs.Common.{◌≡◌, replicate, false, rules}
use Rattle.lset_report.proofs.ReportHistories.{tracks_none}
use Rattle.lset_report.proofs.reading.calls_so_far.CallsSoFar.new.Goals as goal

pub invariant_of-result-clause-tracks : goal.invariant_of-result-clause-tracks
invariant_of-result-clause-tracks c =
    let ends : c.in_ok-vec.field-0.items ≡ replicate c.args.threads 0 = search rules in
    let busy : c.in_ok-vec-2.field-0.items ≡ replicate c.args.threads false = search rules in
    rw (ends, busy) (tracks_none c.new.result c.args.threads c.args.quota c.new.ensures)
