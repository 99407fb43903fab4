-- The invariant of the channel that passes connections to the workers. A pass (permission to use the channel) has a
-- tally: the numbers of the connections that were sent and received with the pass. No connection is lost or duplicated:
-- each number was sent exactly as often as it was received or is in the queue.
use Rattle.std.specs.Prelude.{◌≡◌, ◌==◌, ◌≤◌, ◌<◌, ℕ, ◌+◌, zero, suc, List, [], ◌∷◌, ◌++◌, if◌then◌else◌}
use mathlib.Core.Option.{some}
use lib.ListN.{get_elem?}
use Rattle.std.specs.List.{flat_map}
use Rattle.lset_server.specs.declared.channel.TheConstants.{PARTS}
use Rattle.lset_server.specs.declared.channel.Message.{Message}
use Rattle.lset_server.specs.declared.channel.Message.TheVariants as message
use Rattle.lset_server.specs.declared.channel.Tally.{Tally}

abbrev pub tally : ℕ → List ℕ → List ℕ → Tally
tally parts sent received = record { parts = parts; sent = sent; received = received }

-- Returns the number of the connection in a message, as a list. The list is empty for the message Close.
abbrev pub number_of : {S : Type 0} → Message S → List ℕ
number_of (message.Connection c) = c.number ∷ []
number_of message.Close = []

-- Returns the numbers of the connections in the given messages.
abbrev pub numbers : {S : Type 0} → List (Message S) → List ℕ
numbers = flat_map number_of

-- Returns the sum of the weights of the given numbers. `h` maps each number to a weight.
abbrev pub weigh : (ℕ → ℕ) → List ℕ → ℕ
weigh h [] = 0
weigh h (x ∷ xs) = h x + weigh h xs

-- Returns 1 for the number n, and 0 for any other number.
abbrev pub one_at : ℕ → ℕ → ℕ
one_at n m = if m == n then 1 else 0

-- Returns how often n occurs in a list.
abbrev pub times : ℕ → List ℕ → ℕ
times n = weigh (one_at n)

-- Returns the sum of f over the tallies of all passes (permissions to use the channel).
abbrev pub total : (Tally → ℕ) → List Tally → ℕ
total f [] = 0
total f (v ∷ vs) = f v + total f vs

-- Holds if every pass (permission to use the channel) with 0 parts has sent and received nothing. A pass has 0 parts
-- after it was joined to a second pass.
abbrev pub IdleIsEmpty : List Tally → Type 0
IdleIsEmpty views = (port : ℕ) (v : Tally) → get_elem? views port ≡ some v → v.parts ≡ 0 → (v.sent ≡ []) × (v.received ≡ [])

-- Holds if the channel has lost and duplicated nothing. For any weights h, the total weight of the numbers sent equals
-- the total weight of the numbers received and the numbers in the queue. The passes (permissions to use the channel)
-- together have all parts, and a pass without parts has sent and received nothing.
abbrev pub IsBalanced : List ℕ → List Tally → Type 0
IsBalanced queue views =
    (total (λ v. v.parts) views ≡ PARTS)
    × ((h : ℕ → ℕ) → total (λ v. weigh h v.sent) views ≡ total (λ v. weigh h v.received) views + weigh h queue)
    × IdleIsEmpty views

-- Returns the numbers 0 to n - 1, which are the numbers of the first n connections.
abbrev pub numbers_below : ℕ → List ℕ
numbers_below zero = []
numbers_below (suc n) = numbers_below n ++ n ∷ []

-- Holds if all passes of a channel (permissions to use it) were joined into one pass with tally v, the n numbers from 0
-- on were sent in order, each sent number was received once, and no other number was received.
pub record ReceivedOnce (n : ℕ) (v : Tally) : Type 0 where
  pub parts : v.parts ≡ PARTS
  pub sent : v.sent ≡ numbers_below n
  pub once : (m : ℕ) → m < n → times m v.received ≡ 1
  pub no_other : (m : ℕ) → n ≤ m → times m v.received ≡ 0
