use Rattle.std.specs.Prelude.{ℕ, List}
use Rattle.lset_words.specs.declared.history.Placed.{Placed}
use Rattle.lset_words.specs.Log.{Log, calls_at}
use Rattle.lset_words.specs.Account.{Counts, Account}
use Rattle.lset_history.specs.Placement.{IsPlacement}
use Rattle.lset_history.specs.Laws.{contents_of_lists, HasKeysOf, set_of_order}
use Rattle.lset_words.proofs.IncreasingLists.{increasing_from_increases}
use Rattle.lset_history.proofs.SetStates.{Shows}
use Rattle.lset_history.proofs.PlacementTheorem.{linearizes, leaves_set, leaves_keys}
use Rattle.lset_history.proofs.placement.placement_linearizes.Goals as goal
use Rattle.lset_words.specs.Words.{Opening}

has_keys : (op : Opening) (last : ℕ) (log : Log) (lists : ℕ → List ℕ) (counts : Counts) (order : List Placed)
    → Account op last log (contents_of_lists lists) counts
    → IsPlacement op.quota (calls_at log last) (contents_of_lists lists) counts order
    → HasKeysOf (set_of_order op log last order) (lists last)
has_keys op last log lists counts order a p =
    let w : Shows op.threads (contents_of_lists lists last) (counts last) (set_of_order op log last order) =
    leaves_set op last log (contents_of_lists lists) counts order a p in
    record {
      increasing = increasing_from_increases 0 (set_of_order op log last order).keys w.increasing;
      members = w.keys;
      alone = leaves_keys op last log (contents_of_lists lists) counts order a p;
    }

pub returns : goal.returns
returns c = λ op last log lists counts order a p.
    (linearizes op last log (contents_of_lists lists) counts order a p, has_keys op last log lists counts order a p)
