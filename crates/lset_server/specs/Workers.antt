-- The results of the worker threads of a server. Each worker makes its calls from its own seat (per-thread handle to
-- the set).
use Rattle.std.specs.Prelude.{◌≡◌, ℕ, ◌+◌, List, [], ◌++◌, length, sum_by, Option, None}
use Rattle.lset_words.specs.Records.{Record, CallMade, with_calls}
use Rattle.lset_live.specs.Seats.{SeatValue, gather_onto}
use Rattle.lset_server.specs.declared.channel.Tally.{Tally}
use Rattle.lset_server.specs.Serving.{followed}
use Rattle.lset_server.specs.Tallies.{tally}

-- Holds if a worker has received `sessions` connections with its pass (permission to use the channel), and has made
-- `calls` calls from its seat (per-thread handle to the set). The value of the seat changed from s to s'.
pub record HasWorked (s s' : SeatValue) (v : Tally) (sessions calls : ℕ) : Type 0 where
  pub received : List ℕ
  pub view : v ≡ tally 1 [] received
  pub number : sessions ≡ length received
  pub added : List CallMade
  pub recorded : s'.past ≡ with_calls s.past added
  pub count : calls ≡ length added
  pub held : s'.held ≡ s.held

-- Holds if all `workers` workers have ended, their passes (permissions to use the channel) were joined to the sender's
-- pass, and their seats (per-thread handles to the set) were merged into `end`. The sender's tally changed from v to
-- v'. `sessions` and `calls` are the sums over all workers.
pub record HaveWorked (starts : List Record) (end : Option Record) (v v' : Tally) (workers sessions calls : ℕ) : Type 0 where
  pub added : List (List CallMade)
  pub each : length added ≡ length starts
  pub count : calls ≡ sum_by (λ cs. length cs) added
  pub end_is : end ≡ gather_onto None (followed starts added)
  pub received : List ℕ
  pub view : v' ≡ tally (v.parts + workers) v.sent (v.received ++ received)
  pub number : sessions ≡ length received
