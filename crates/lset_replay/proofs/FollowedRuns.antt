-- Lemmas about a recorded run.
use Rattle.std.proofs.Common.{ℕ, List, sym, subst, arith}
use Rattle.lset_words.specs.Log.{Log}
use Rattle.lset_words.specs.Account.{Account, Contents, Counts}
use Rattle.lset_words.specs.Words.{Opening}
use Rattle.lset_steps.specs.declared.Event.{Event}
use Rattle.lset_steps.specs.Steps.{Table, Run, event_at, log_of}
use Rattle.lset_steps.specs.Chain.{contents_of, counts_of}
use Rattle.lset_steps.specs.Laws.{views}
use Rattle.lset_steps.specs.Worlds.{WorldState}
use Rattle.lset_steps.specs.Promises.{HasAccount, ListedContent}
use Rattle.lset_replay.specs.declared.events.LineEvent.{LineEvent}
use Rattle.lset_replay.specs.declared.recorder.Recorder.{Recorder}
use Rattle.lset_replay.specs.Events.{only_events}
use Rattle.lset_replay.specs.Trace.{trace_of}
use Rattle.lset_replay.specs.Follows.{HasFollowed}
use Rattle.lset_replay.proofs.ReplayKept.{Follows}
use Rattle.lset_replay.proofs.KeyChanges.{HoldsKeys}
use Rattle.lset_replay.proofs.RecorderReady.{follows}

-- What a run does to the set, without the shared words and private states: the effect of each event (`log`) and, after
-- each number of events, the keys in the set (`contents`) and how many keys each thread has added (`counts`).
pub record Shown : Type 1 where
  pub log : Log
  pub contents : Contents
  pub counts : Counts

abbrev pub shown : Table → Opening → List LineEvent → Shown
shown T op events = record {
  log = log_of T op (event_at (only_events events));
  contents = contents_of (views T op (event_at (only_events events)));
  counts = counts_of (views T op (event_at (only_events events)));
}

-- What a replay assumes about a list: each run has an account (a description of how each event changes the keys in the
-- set), and all keys in the set are below 2^32.
pub record TellsKeys (T : Table) : Type 0 where
  pub account : HasAccount T
  pub listed : ListedContent T

pub tells_keys : (T : Table) → HasAccount T → ListedContent T → TellsKeys T
tells_keys T account listed = record { account = account; listed = listed }

pub holds_keys : (T : Table) → TellsKeys T → (op : Opening) (last : ℕ) (es : ℕ → Event) → Run T op es last
    → HoldsKeys last (contents_of (views T op es))
holds_keys T accounts op last es run = λ k j below c. (accounts.listed op last k es run below).low j c

module _ (T : Table) (accounts : TellsKeys T) (op : Opening) (events : List LineEvent) (k : ℕ) (w : WorldState) (r : Recorder)
    (h : HasFollowed T op events k w r) where
  open shown T op events use {log, contents, counts}

  pub account_then : Account op k log contents counts
  account_then = accounts.account op k (event_at (only_events events)) h.run

  pub low_then : HoldsKeys k contents
  low_then = holds_keys T accounts op k (event_at (only_events events)) h.run

  pub kept_then : Follows op log contents counts k (trace_of r)
  kept_then = subst (λ s. Follows op log contents counts k s) (sym h.trace)
      (follows op k log contents counts account_then low_then k (omega arith))
