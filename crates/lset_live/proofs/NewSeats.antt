-- Lemmas about the new seats (per-thread handles) of a set that was just opened.
use Rattle.std.proofs.Common.{◌≡◌, ℕ, ◌+◌, List, [], ◌∷◌, ◌++◌, map, length, refl, sym, ◌∙◌, subst, arith, All}
use Rattle.std.specs.List.{range_with_len}
use Rattle.std.proofs.lemmas.List.Elements.{All-cons, All-nil}
use Rattle.std.proofs.lemmas.List.FromFn.{map-range_with_len_more}
use Rattle.atomic_table.specs.declared.shared.Seat.{Seat}
use Rattle.atomic_table.specs.Seated.{TableId}
use Rattle.lset_rule.specs.declared.view.View.{View}
use Rattle.lset_rule.proofs.RuleAtOpening.{IsNew}
use Rattle.lset_rule.specs.Dated.{record_of}
use Rattle.lset_live.specs.Seats.{SeatValue, SetValue, IsOpened, new_seat}
use Rattle.lset_words.specs.Words.{Opening}

-- Returns the value that represents a seat (per-thread handle) in contracts.
abbrev pub value_of : Seat (Unit {0}) View → SeatValue
value_of s = record {
  set = record { table = s.table_id; shape = s.me.0.shape };
  past = record_of s.me.0.past;
  held = length s.me.0.others + 1;
  events = s.me.0.seen;
}

abbrev pub opened : TableId → Opening → SetValue
opened z k = record { table = z; shape = k }

new_value : (z : TableId) (k : Opening) (t : ℕ) (s : Seat (Unit {0}) View) → IsNew z k t s → value_of s ≡ new_seat (opened z k) t
new_value z k t s new i = record {
  set = record { table = new.0 i; shape = (new.1 i).0.shape };
  past = record_of (new.1 i).0.past;
  held = length (new.1 i).0.others + 1;
  events = (new.1 i).0.seen;
}

pub seats_more : (z : TableId) (k : Opening) (t : ℕ) (s : Seat (Unit {0}) View) (before after : List SeatValue) →
    before ≡ map (new_seat (opened z k)) (range_with_len 0 t) → IsNew z k t s
    → after ≡ before ++ value_of s ∷ [] → after ≡ map (new_seat (opened z k)) (range_with_len 0 (t + 1))
seats_more z k t s before after is new more = more ∙ ((λ i. is i ++ new_value z k t s new i ∷ [])
    ∙ sym (map-range_with_len_more (new_seat (opened z k)) 0 t t (omega arith)))

new_of : (set : SetValue) (ts : List ℕ) → All (λ (s : SeatValue). s.set ≡ set) (map (new_seat set) ts)
new_of set [] = All-nil (λ (s : SeatValue). s.set ≡ set)
new_of set (t ∷ ts) = All-cons (λ (s : SeatValue). s.set ≡ set) (new_seat set t) (map (new_seat set) ts) refl (new_of set ts)

pub opened_of : (set : SetValue) (opening : Opening) (seats : List SeatValue) → IsOpened set opening seats →
    All (λ (s : SeatValue). s.set ≡ set) seats
opened_of set opening seats is =
    subst (All (λ (s : SeatValue). s.set ≡ set)) (sym is.1) (new_of set (range_with_len 0 opening.threads))
