-- [Served]: the calls of a server that has ended. The server makes its calls from seats, which are per-thread handles
-- to the set.
use Rattle.std.specs.Prelude.{◌≡◌, ℕ, List, [], ◌∷◌, length, sum_by, Option, None}
use Rattle.lset_words.specs.Records.{Record, CallMade, with_calls}
use Rattle.lset_live.specs.Explained.{IsOneLegalOrder}
use Rattle.lset_live.specs.Seats.{gather_onto}
use Rattle.lset_server.specs.declared.channel.Tally.{Tally}
use Rattle.lset_server.specs.Tallies.{ReceivedOnce}
use Rattle.lset_words.specs.Words.{Opening}

-- Returns the record of each seat (per-thread handle to the set), followed by the calls that were made from the seat
-- afterwards.
abbrev pub followed : List Record → List (List CallMade) → List Record
followed [] more = []
followed (r ∷ rs) [] = r ∷ rs
followed (r ∷ rs) (cs ∷ more) = with_calls r cs ∷ followed rs more

-- Holds if some legal order consists of the calls in `records` and of `calls` further calls, agrees with each record,
-- and leaves the keys `keys`. A record lists the calls of one thread. `added` lists the further calls of each thread.
pub record IsServed (k : Opening) (records : List Record) (calls : ℕ) (keys : List ℕ) : Type 0 where
  pub added : List (List CallMade)
  pub each : length added ≡ length records
  pub count : calls ≡ sum_by (λ cs. length cs) added
  pub explained : IsOneLegalOrder k (followed records added) keys

-- Holds if all workers have ended, their seats (per-thread handles to the set) have been merged into one, and each
-- connection was received exactly once.
pub record HasGathered (starts : List Record) (end : Option Record) (v : Tally) (asked sessions calls : ℕ) : Type 0 where
  pub added : List (List CallMade)
  pub each : length added ≡ length starts
  pub count : calls ≡ sum_by (λ cs. length cs) added
  pub end_is : end ≡ gather_onto None (followed starts added)
  pub all : sessions ≡ asked
  pub received : ReceivedOnce asked v
