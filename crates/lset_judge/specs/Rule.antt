-- The judge's test of the calls on one key. The test processes the starts and ends of the calls in order, and lets a
-- pending change take effect when an event requires it.
use Rattle.std.specs.Prelude.{ℕ, zero, suc, ◌+◌, ◌==◌, ◌||◌, min, nat_lt, Bool, true, false, not, if◌then◌else◌, List, [], ◌∷◌}
use Rattle.std.specs.Prelude.{length, Option, Some, None, is_some}

-- An event of a key. The argument of type `Bool` is true for the state present. `begins`: a change to the state starts;
-- the second argument is the moment when the change ends (after all moments if the change stays pending). `ends`: a
-- change to the state ends. `looks`: a read that saw the state ends; the second argument is the moment when the read
-- started. `leaves`: the state is the key's final state. `idle`: nothing happens to the key.
pub data Event : Type 0 where
  begins : Bool → ℕ → Event
  ends : Bool → Event
  looks : Bool → ℕ → Event
  leaves : Bool → Event
  idle : Event

-- The state of a key in the judge's test. `there`: whether the key is present. `turned`: the moment of the key's last
-- change. `puts`: the moments when the pending `add`s that have not taken effect will end. `takes`: the moments when
-- the pending `remove`s that have not taken effect will end.
pub record State : Type 0 where
  pub there : Bool
  pub turned : ℕ
  pub puts : List ℕ
  pub takes : List ℕ

-- Returns the state of a key when the set opens. The argument b is true if the key is present.
abbrev pub opened : Bool → State
opened b = record { there = b; turned = 0; puts = []; takes = [] }

abbrev pub same : Bool → Bool → Bool
same true b = b
same false b = not b

abbrev pub changes_to : Bool → State → List ℕ
changes_to w s = if w then s.puts else s.takes

-- Returns the moments when the pending changes that would change the key's current state will end: the `remove`s if the
-- key is present, the `add`s if it is absent.
abbrev pub options : State → List ℕ
options s = changes_to (not s.there) s

-- Returns how many moments in the list are equal to d or later than d.
abbrev pub not_before : ℕ → List ℕ → ℕ
not_before d [] = 0
not_before d (x ∷ xs) = (if nat_lt x d then 0 else 1) + not_before d xs

-- Returns whether the event at moment m is possible for a key in state s. The end of a change is possible if each
-- change to the same state that ends by moment m has taken effect. The end of a read is possible if the key is in the
-- state that the read saw, or has changed since the read started. A final state is possible if the key is in the final
-- state.
abbrev pub fits : ℕ → Event → State → Bool
fits m (begins w end) s = true
fits m (ends w) s = not_before (suc m) (changes_to w s) == length (changes_to w s)
fits m (looks w since) s = same w s.there || not (nat_lt s.turned since)
fits m (leaves w) s = same w s.there
fits m idle s = true

-- Inserts a moment into an increasing list of moments.
abbrev pub put_in : ℕ → List ℕ → List ℕ
put_in e [] = e ∷ []
put_in e (x ∷ xs) = if nat_lt e x then e ∷ x ∷ xs else x ∷ put_in e xs

-- Updates xs, the moments when the pending changes to the state w end, for an event of the key. Returns the result.
abbrev pub entering : Bool → Event → List ℕ → List ℕ
entering w (begins v end) xs = if same w v then put_in end xs else xs
entering w (ends v) xs = xs
entering w (looks v since) xs = xs
entering w (leaves v) xs = xs
entering w idle xs = xs

abbrev pub enters : Event → State → State
enters v s = record { there = s.there; turned = s.turned; puts = entering true v s.puts; takes = entering false v s.takes }

abbrev pub take_out : ℕ → List ℕ → List ℕ
take_out e [] = []
take_out e (x ∷ xs) = if x == e then xs else x ∷ take_out e xs

-- Returns the state of a key just after moment m, if the pending change that ends at `e` takes effect at moment m.
abbrev pub turned_by : ℕ → ℕ → State → State
turned_by m e s = record {
  there = not s.there;
  turned = m;
  puts = if s.there then s.puts else take_out e s.puts;
  takes = if s.there then take_out e s.takes else s.takes;
}

-- `nearest` returns the earliest of the moment x and the moments in a list. `turned_if` returns the key's state after
-- one pending change takes effect: the change that ends first of the changes that end at the moments in the list. The
-- result is None if the list is empty.
abbrev pub nearest : ℕ → List ℕ → ℕ
nearest x [] = x
nearest x (y ∷ ys) = min x (nearest y ys)

abbrev pub turned_if : ℕ → State → List ℕ → Option State
turned_if m s [] = None
turned_if m s (x ∷ xs) = Some (turned_by m (nearest x xs) s)

-- Lets up to n pending changes of a key take effect, one after another, until the event v is possible in the key's
-- state. Returns the state in which v is possible, or None if there is no such state.
abbrev pub settled : ℕ → ℕ → Event → Option State → Option State
settled n m v None = None
settled zero m v (Some s) = if fits (suc m) v s then Some s else None
settled (suc n) m v (Some s) = if fits (suc m) v s then Some s else settled n m v (turned_if m s (options s))

abbrev pub open_changes : State → ℕ
open_changes s = length s.puts + length s.takes

abbrev pub found : ℕ → Event → State → Option State
found m v s = settled (open_changes s) m v (Some s)

abbrev pub entered : Event → Option State → Option State
entered v None = None
entered v (Some t) = Some (enters v t)

-- Returns the state of a key after the event v at moment m + 1, or None if v is impossible. If v is impossible, no
-- order explains the calls on the key.
abbrev pub stepped : ℕ → Event → Option State → Option State
stepped m v None = None
stepped m v (Some s) = entered v (found m v s)

-- Returns the state of a key after a moment, or None if an event up to the moment was impossible. If an event is
-- impossible, no order explains the calls on the key.
abbrev pub state_after : (ℕ → Event) → Bool → ℕ → Option State
state_after ev opening zero = Some (opened opening)
state_after ev opening (suc m) = stepped m (ev (suc m)) (state_after ev opening m)

-- Returns whether a key passes the judge's test: every event up to the moment `last` is possible in the key's state,
-- and so is the final state `left`.
abbrev pub may_leave : (ℕ → Event) → Bool → Bool → ℕ → Bool
may_leave ev opening left last = is_some (stepped last (leaves left) (state_after ev opening last))
