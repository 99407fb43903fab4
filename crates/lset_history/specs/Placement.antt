-- The placement of a run: the order of its calls by their linearization points (the moments when the calls take
-- effect).
use Rattle.std.specs.Prelude.{◌≡◌, ℕ, suc, ◌+◌, ◌*◌, ◌<◌, ◌≤◌, ◌⊎◌, Bool, true, false, if◌then◌else◌, List, [], ◌∷◌, map, length}
use Rattle.std.specs.Prelude.{Option, Some, None, AllPairs, slice_index_or}
use Rattle.std.specs.List.Sorted.{IsPermutation}
use Rattle.lset_words.specs.declared.Call.TheVariants as call
use Rattle.lset_words.specs.declared.Reply.{Reply}
use Rattle.lset_words.specs.declared.Reply.TheVariants.{True}
use Rattle.lset_words.specs.declared.history.Placed.{Placed}
use Rattle.lset_words.specs.Log.{TracedCall}
use Rattle.lset_words.specs.Account.{Contents, Counts, Fits}

-- Holds if `moment` is the first moment, from the start to the end of the call `x`, when the reply of `x` is correct.
pub record IsSmallestFit (quota : ℕ) (contents : Contents) (counts : Counts) (x : TracedCall) (end : ℕ) (reply : Reply)
    (moment : ℕ) : Type 0 where
  pub from : x.begun ≤ moment
  pub upto : moment ≤ end
  pub fits : Fits quota (contents moment) (counts moment x.thread) x.call reply
  pub smallest : (m : ℕ) → x.begun ≤ m → m < moment → Fits quota (contents m) (counts m x.thread) x.call reply → ⊥

-- Holds if `place` is the moment of a call's linearization point. If the call has changed the set, the point is the
-- moment of the change. If the call is completed and has not changed the set, the point is the first moment when the
-- call's reply is correct. A pending call that has not changed the set has no linearization point (`None`).
abbrev pub StandsBy : ℕ → Contents → Counts → TracedCall → Option ℕ → Option (ℕ × Reply) → Option ℕ → Type 0
StandsBy quota contents counts x (Some changed) ended place = place ≡ Some changed
StandsBy quota contents counts x None None place = place ≡ None
StandsBy quota contents counts x None (Some end) place =
    (moment : ℕ) × (place ≡ Some moment) × IsSmallestFit quota contents counts x end.0 end.1 moment

abbrev pub StandsAt : ℕ → Contents → Counts → TracedCall → Option ℕ → Type 0
StandsAt quota contents counts x place = StandsBy quota contents counts x x.changed x.ended place

-- A call that has a linearization point, with the call's number in the history and the moment of the point.
pub record Standing : Type 0 where
  pub number : ℕ
  pub traced : TracedCall
  pub moment : ℕ

abbrev pub reply_by : Option ℕ → Option (ℕ × Reply) → Reply
reply_by (Some changed) ended = True
reply_by None None = True
reply_by None (Some end) = end.1

-- Returns the item of an order for a call: the call's number and reply. The reply of a call that changed the set is
-- `True`, even if the call is still pending.
abbrev pub placed_of : Standing → Placed
placed_of s = record { call = s.number; reply = reply_by s.traced.changed s.traced.ended }

abbrev pub makes_change : Standing → Bool
makes_change s = has s.traced.changed
  where
    has : Option ℕ → Bool
    has None = false
    has (Some moment) = true

-- Returns the calls that have a linearization point, ordered by number. `places` has one item for each call: the moment
-- of the call's linearization point, or `None`.
abbrev pub standing : ℕ → List TracedCall → List (Option ℕ) → List Standing
standing number [] places = []
standing number (x ∷ xs) [] = []
standing number (x ∷ xs) (None ∷ places) = standing (suc number) xs places
standing number (x ∷ xs) (Some moment ∷ places) =
    record { number = number; traced = x; moment = moment } ∷ standing (suc number) xs places

-- Returns the rank of a call in the order. Calls are sorted by the moment of their linearization point. If several
-- calls have the same moment, the call that changes the set precedes the calls that read the set. Calls of equal rank
-- are sorted by number.
abbrev pub rank_of : Standing → ℕ
rank_of s = if makes_change s then 2 * s.moment else 2 * s.moment + 1

abbrev pub ComesBefore : Standing → Standing → Type 0
ComesBefore s r = (rank_of s < rank_of r) ⊎ ((rank_of s ≡ rank_of r) × (s.number < r.number))

abbrev pub no_traced : TracedCall
no_traced = record { thread = 0; call = call.Contains (record { 0 = 0 }); begun = 0; changed = None; ended = None }

abbrev pub traced_at : List TracedCall → ℕ → TracedCall
traced_at calls number = slice_index_or calls number no_traced

abbrev pub place_at : List (Option ℕ) → ℕ → Option ℕ
place_at places number = slice_index_or places number None

-- Holds if `order` is the placement of `calls`: all calls that have a linearization point, sorted by linearization
-- point.
pub record IsPlacement (quota : ℕ) (calls : List TracedCall) (contents : Contents) (counts : Counts)
    (order : List Placed) : Type 0 where
  -- The moment of each call's linearization point, or `None`.
  pub places : List (Option ℕ)
  pub one_each : length places ≡ length calls
  pub stands : (number : ℕ) → number < length calls
      → StandsAt quota contents counts (traced_at calls number) (place_at places number)
  -- The calls that have a linearization point, sorted by linearization point.
  pub sorted : List Standing
  pub moved : IsPermutation (standing 0 calls places) sorted
  pub rises : AllPairs ComesBefore sorted
  pub in_order : order ≡ map placed_of sorted
