use Rattle.std.proofs.Common.{rules, []}
use Rattle.std.specs.Prelude.{None}
use Rattle.lset_history.proofs.CallByCall.{empty_history}
use Rattle.lset_judge.specs.declared.stream.Stream.{Stream}
use Rattle.lset_judge.specs.Stream.{IsStreamOf}
use Rattle.lset_judge.specs.Facts.{facts_for}
use Rattle.lset_judge.proofs.FactsGoOn.{first_facts}
use Rattle.lset_judge.proofs.FactsSuffice.{complete_first}
use Rattle.lset_judge.proofs.stream.Stream.new.Goals as goal

pub returns-clause-opened : goal.returns-clause-opened
returns-clause-opened c = λ threads.
    let states = c.in_ok-opening_states.field-0 in
    let s : Stream = record { alloc = c.args.alloc; states = states; pending = c.new.result; moment = 0; failed = None; clash = None; overlapped = 0 } in
    let is : IsStreamOf threads c.args.opening.now [] s = search (rules, empty_history) in record {
      stream = is;
      known = λ k. first_facts c.args.opening.now k (facts_for states k) (c.in_ok-opening_states.ensures.facts k);
      complete = λ k. complete_first c.args.opening.now k (facts_for states k) (c.in_ok-opening_states.ensures.facts k);
    }
