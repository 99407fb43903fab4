-- Proof that the calls of a run have exactly one order by linearization points, and that the order explains the run.
-- The proof assumes that the run has an account (a record of each event's effect on the set), and that some list
-- contains exactly the run's final keys.
use Rattle.std.proofs.Common.{ℕ, List, sym, subst, arith}
use Rattle.lset_words.specs.declared.history.Placed.{Placed}
use Rattle.lset_words.specs.Words.{Opening}
use Rattle.lset_words.specs.Log.{calls_at}
use Rattle.lset_words.specs.Account.{Account}
use Rattle.lset_history.proofs.RunHistories.{is_history}
use Rattle.lset_history.proofs.PlacementTheorem.{linearizes, leaves_keys}
use Rattle.lset_history.proofs.UniquePlacement.{has_placement, placement_once}
use Rattle.lset_steps.specs.declared.Event.{Event}
use Rattle.lset_steps.specs.Steps.{Table, log_of}
use Rattle.lset_steps.specs.Chain.{contents_of, counts_of}
use Rattle.lset_steps.specs.Laws.{views}
use Rattle.lset_steps.specs.Worlds.{IsContent}
use Rattle.lset_steps.specs.Promises.{HasAccount, ListedContent, ContentIsListed}
use Rattle.lset_lists.specs.Headline.{ExplainsRun, RunsAreLinearizable}
use Rattle.lset_lists.specs.Headline.{IsPlacedBy, IsThePlacement, PlacementExplainsRuns}

module _ (T : Table) (op : Opening) (last : ℕ) (es : ℕ → Event)
    (account : Account op last (log_of T op es) (contents_of (views T op es))
    (counts_of (views T op es)))
    (listed : ContentIsListed (views T op es last)) where
  explained : (order : List Placed) → IsPlacedBy T op es last order → ExplainsRun T op es last order
  explained order placed = record {
    history = is_history op last (log_of T op es) (contents_of (views T op es))
        (counts_of (views T op es)) account last (omega arith);
    linearizes = linearizes op last (log_of T op es) (contents_of (views T op es))
        (counts_of (views T op es)) order account placed;
    content = subst (λ keys. IsContent (views T op es last) keys)
        (sym (leaves_keys op last (log_of T op es) (contents_of (views T op es))
        (counts_of (views T op es)) order account placed listed.keys listed.increasing.1
        (λ j. (listed.member j, listed.only j))))
        listed.increasing;
  }

  the_placement : (order : List Placed) → IsPlacedBy T op es last order → IsThePlacement T op es last order
  the_placement order placed = record {
    placement = placed;
    alone = λ other o. placement_once op.quota (calls_at (log_of T op es) last)
        (contents_of (views T op es)) (counts_of (views T op es)) other order o placed;
  }

pub placement_explains : (T : Table) → HasAccount T → ListedContent T → PlacementExplainsRuns T
placement_explains T account listed op last es run =
    let a = account op last es run in
    let p : (order : List Placed) × IsPlacedBy T op es last order =
    has_placement op last (log_of T op es) (contents_of (views T op es))
    (counts_of (views T op es)) a in
    let l = listed op last last es run (omega arith) in
    (p.0, explained T op last es a l p.0 p.1, the_placement T op last es a l p.0 p.1)

pub runs_linearize : (T : Table) → PlacementExplainsRuns T → RunsAreLinearizable T
runs_linearize T placed op last es run = let p = placed op last es run in (p.0, p.1)
