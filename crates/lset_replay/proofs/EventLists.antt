-- Lemmas about the events of a schedule as one list. The proof of the loop that executes the events uses them.
use Rattle.std.proofs.lemmas.Grind.{common_steps}
use Rattle.std.proofs.Common.{◌≡◌, ℕ, zero, suc, drop, arith, ◌-◌, ◌+◌, ◌<◌, ◌≤◌, List, [], ◌∷◌, ◌++◌, replicate, length, get_or}
use Rattle.std.proofs.Common.{sym, ap, ◌∙◌, add-one, length-drop, drop-cons}
use Rattle.std.proofs.lemmas.List.{length-map}
use Rattle.lset_schedule.specs.declared.value.Line.{Line}
use Rattle.lset_schedule.specs.declared.value.Line.TheVariants as line
use Rattle.lset_words.specs.declared.Call.TheVariants as call
use Rattle.lset_replay.specs.declared.events.LineEvent.{LineEvent}
use Rattle.lset_replay.specs.Events.{events_of_line, events_from, only_events, event_in}
use Rattle.lset_replay.specs.Follows.{ComesNext}

pub as_many : (es : List LineEvent) → length (only_events es) ≡ length es
as_many es = length-map es event_in

-- ---- Lemmas about the executed events and the remaining events

-- Holds if the first `k` events of the list `es` were executed, and the events in `rest` remain.
pub record IsAhead (es : List LineEvent) (k : ℕ) (rest : List LineEvent) : Type 0 where
  pub within : k ≤ length es
  pub rest_is : drop k es ≡ rest

comes_next : (es : List LineEvent) (k : ℕ) (next : LineEvent) (rest : List LineEvent) → drop k es ≡ next ∷ rest
    → ComesNext es k next
comes_next [] zero next rest e = absurd (cc)
comes_next [] (suc k) next rest e = absurd (cc)
comes_next (x ∷ es) zero next rest e = record {
  known = omega arith;
  event_is = (let f : x ≡ next = cc in ap (λ (d : LineEvent). d.event) f);
  line_is = (let f : x ≡ next = cc in ap (λ (d : LineEvent). d.line) (sym f));
}
comes_next (x ∷ es) (suc k) next rest e =
    let there : ComesNext es k next = comes_next es k next rest e in
    record { known = (let l : k < length es = there.known in omega arith); event_is = there.event_is; line_is = there.line_is }

drop_more : (es : List LineEvent) (k : ℕ) (next : LineEvent) (rest : List LineEvent) → drop k es ≡ next ∷ rest
    → drop (suc k) es ≡ rest
drop_more [] zero next rest e = absurd (cc)
drop_more [] (suc k) next rest e = absurd (cc)
drop_more (x ∷ es) zero next rest e = cc
drop_more (x ∷ es) (suc k) next rest e = drop_more es k next rest e

-- A line for a lookup with an index that is out of range.
abbrev pub no_line : Line
no_line = line.Begin 0 (call.Add (record { 0 = 0 }))

-- Returns the remaining events while the loop executes the events of line `i` (counted from 0): `times` events of line
-- `i`, then all events of later lines.
abbrev pub rest_of : ℕ → List Line → ℕ → ℕ → LineEvent → List LineEvent
rest_of n ls i times next = replicate times next ++ events_from (n + (i + 1)) (drop (i + 1) ls)

module _ (n : ℕ) (ls : List Line) (i k times : ℕ) (next : LineEvent) where
  pub next_line : i < length ls → events_of_line (n + i) (get_or ls i no_line) ≡ replicate times next
      → IsAhead (events_from n ls) k (events_from (n + i) (drop i ls))
      → IsAhead (events_from n ls) k (rest_of n ls i (times - 0) next)
  next_line below line ahead = record {
    within = ahead.within;
    rest_is = ahead.rest_is ∙ ap (λ ks. events_from (n + i) ks) (drop-cons ls i no_line below)
        ∙ ap (λ es. es ++ events_from (n + i + 1) (drop (suc i) ls)) line
        ∙ (let e : n + i + 1 ≡ n + (i + 1) = omega arith in
        let f : suc i ≡ i + 1 = omega arith in
        let t : times ≡ times - 0 = omega arith in cc (e, f, t));
  }

  module _ (j : ℕ) (ahead : IsAhead (events_from n ls) k (rest_of n ls i (times - j) next)) where
    is_next : j < times → drop k (events_from n ls) ≡ next ∷ rest_of n ls i (times - (j + 1)) next
    is_next inside = ahead.rest_is ∙ ap (λ z. rest_of n ls i z next) (let e : times - j ≡ suc (times - (j + 1)) = omega arith in e)

    pub next_event : j < times → ComesNext (events_from n ls) k next
    next_event inside = comes_next (events_from n ls) k next _ (is_next inside)

    pub event_done : j < times → IsAhead (events_from n ls) (k + 1) (rest_of n ls i (times - (j + 1)) next)
    event_done inside = record {
      within = (let l : k < length (events_from n ls) = (next_event inside).known in omega arith);
      rest_is = ap (λ z. drop z (events_from n ls)) (add-one k) ∙ drop_more (events_from n ls) k next _ (is_next inside);
    }

    pub line_done : times ≤ j → IsAhead (events_from n ls) k (events_from (n + (i + 1)) (drop (i + 1) ls))
    line_done past = record {
      within = ahead.within;
      rest_is = ahead.rest_is ∙ ap (λ z. rest_of n ls i z next) (let e : times - j ≡ 0 = omega arith in e);
    }

pub none_behind : (n : ℕ) (ls : List Line) → IsAhead (events_from n ls) 0 (events_from (n + 0) (drop 0 ls))
none_behind n ls = record {
  within = omega arith;
  rest_is = ap (λ z. events_from z ls) (let e : n ≡ n + 0 = omega arith in e);
}

pub all_behind : (n : ℕ) (ls : List Line) (i k : ℕ) → length ls ≤ i
    → IsAhead (events_from n ls) k (events_from (n + i) (drop i ls)) → k ≡ length (events_from n ls)
all_behind n ls i k past ahead =
    let a : k ≤ length (events_from n ls) = ahead.within in
    let b : length (drop k (events_from n ls)) ≡ length (events_from n ls) - k = length-drop k (events_from n ls) in grind
    (arith, common_steps)
