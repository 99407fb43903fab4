-- The invariant of the loop of `generate`. Each turn of the loop draws at most one event.
use Rattle.std.proofs.Common.{◌≡◌, ℕ, zero, suc, List, [], ◌∷◌, map, slice_index_or, refl, ◌≢◌, ◌+◌, ◌^◌, ◌<◌, ◌≤◌, ◌⊎◌, inl, inr, IsTrue, ◌↔◌, false, ◌++◌, length}
use Rattle.std.proofs.Common.{length-append, sym, ap, subst, ◌∙◌, arith}
use Rattle.std.specs.List.{range_with_len, AllByRecursion, count_by, sum_by}
use Rattle.std.proofs.lemmas.Grind.{flat_map-append}
use Rattle.std.proofs.lemmas.List.Sums.{sum_by-append, sum_by-cons}
use Rattle.lset_words.specs.Words.{empty, Sizes, IsWithin, sizes}
use Rattle.lset_words.specs.declared.TheConstants.{MOST_THREADS}
use Rattle.lset_words.specs.declared.Kind.{Kind}
use Rattle.lset_words.proofs.Bounds.{opens_empty}
use Rattle.lset_text.specs.declared.words.Version.TheVariants.{One}
use Rattle.lset_steps.specs.Steps.{idle, local_of, opening, Table, State, Enabled, after}
use Rattle.lset_schedule.specs.declared.TheConstants.{MOST_GENERATED}
use Rattle.lset_steps.specs.declared.Event.{Event}
use Rattle.lset_steps.specs.declared.Event.TheVariants as event
use Rattle.lset_steps.specs.Worlds.{WorldState}
use Rattle.lset_schedule.specs.declared.value.Line.{Line}
use Rattle.lset_schedule.specs.declared.value.Line.TheVariants as line
use Rattle.lset_schedule.specs.Plan.{IsLine, IsSchedule, event_count}
use Rattle.lset_schedule.specs.Generating.{events_of_line, events_of_lines, is_begin, IsGeneratedLine, StartsWithBegin, IsGenerated}
use Rattle.lset_steps.proofs.MoreEvents.{RunsTo, runs_to_opening, runs_to_more}
use Rattle.lset_schedule.specs.Drawing.{line_of_event, left_after, IsOver}
use Rattle.lset_schedule.specs.GeneratorTurns.{IsIdle, IsNextEvent}

-- ---- Lemmas about a set that was just opened

idle_rests : (q t : ℕ) (xs : List ℕ) → (slice_index_or (map (idle q) xs) t (idle 0 0)).pc ≡ 0
idle_rests q t [] = refl
idle_rests q zero (x ∷ xs) = refl
idle_rests q (suc t) (x ∷ xs) = idle_rests q t xs

pub opening_rests : (n q t : ℕ) → (local_of (opening (empty n q)) t).pc ≡ 0
opening_rests n q t = idle_rests q t (range_with_len 0 n)

abbrev pub Resting : State → ℕ → Type 0
Resting s n = (t : ℕ) → t < n → (local_of s t).pc ≡ 0

-- Holds if `generate` has not begun its first turn. (Each turn draws at most one event.) No event has happened yet, and
-- all calls can still begin.
pub record IsUnbegun (turns n calls left : ℕ) (lines : List Line) (s : State) : Type 0 where
  pub turn : turns ≡ 0
  pub all_left : left ≡ calls
  pub none : lines ≡ []
  pub rest : Resting s n

-- The invariant of `generate` after `turns` turns, when `left` more calls can begin. The events in `lines` are a run of
-- the list, and the run leads to the state in `w`.
pub record IsDraft (T : Table) (n q calls keys turns left : ℕ) (lines : List Line) (w : WorldState) : Type 0 where
  pub sized : w.sizes ≡ sizes (empty n q)
  pub run : RunsTo T (empty n q) (events_of_lines lines) w.state
  pub each : AllByRecursion (IsGeneratedLine n keys) lines
  pub begun : count_by is_begin lines + left ≡ calls
  pub few : length lines ≤ MOST_GENERATED
  pub alone : n ≡ 1 → length lines ≡ turns
  pub start : IsUnbegun turns n calls left lines w.state ⊎ StartsWithBegin lines

all_more : {X : Type 0} (P : X → Type 0) (xs : List X) (x : X) → AllByRecursion P xs → P x → AllByRecursion P (xs ++ x ∷ [])
all_more P [] x all h = (h, tt)
all_more P (y ∷ ys) x all h = (all.0, all_more P ys x all.1 h)

one_event : (e : Event) → events_of_lines (line_of_event e ∷ []) ≡ e ∷ []
one_event (event.Begin t call) = refl
one_event (event.Go t) = refl

events_more : (lines : List Line) (e : Event)
    → events_of_lines (lines ++ line_of_event e ∷ []) ≡ events_of_lines lines ++ e ∷ []
events_more lines e =
    flat_map-append events_of_line lines (line_of_event e ∷ []) ∙ ap (λ es. events_of_lines lines ++ es) (one_event e)

length_more : (lines : List Line) (l : Line) → length (lines ++ l ∷ []) ≡ length lines + 1
length_more lines l = length-append lines (l ∷ [])

count_more : (lines : List Line) (l : Line)
    → count_by is_begin (lines ++ l ∷ []) ≡ count_by is_begin lines + count_by is_begin (l ∷ [])
count_more lines l = sum_by-append _ lines (l ∷ [])

starts_more : (lines : List Line) (l : Line) → StartsWithBegin lines → StartsWithBegin (lines ++ l ∷ [])
starts_more [] l h = absurd h
starts_more (x ∷ xs) l h = h

pub draft_opening : (T : Table) (s : Sizes) (calls keys : ℕ) → IsWithin s → s.opening ≡ 0
    → IsDraft T s.threads s.quota calls keys 0 calls [] (record { sizes = s; state = opening (empty s.threads s.quota) })
draft_opening T s calls keys h none = record {
  sized = same;
  run = runs_to_opening T (empty s.threads s.quota) (opens_empty s.threads s.quota (subst IsWithin same h));
  each = tt;
  begun = omega arith;
  few = omega arith;
  alone = λ _. refl;
  start = inl (record { turn = refl; all_left = refl; none = refl; rest = λ t _. opening_rests s.threads s.quota t });
}
  where
    same : s ≡ sizes (empty s.threads s.quota)
    same = ap (λ m. record { threads = s.threads; quota = s.quota; opening = m }) none

pub goes_on : (s : State) (events m left : ℕ) → events ≡ m → (IsTrue false ↔ IsOver s events left) → IsOver s m left → ⊥
goes_on s events m left e test over = let f : IsTrue false = test.1 (subst (λ k. IsOver s k left) (sym e) over) in cc

idle_with_others : (s : State) (n left t m : ℕ) → length s.locals ≡ n → (IsOver s m left → ⊥) → IsIdle s t left
    → Resting s n → ⊥
idle_with_others s n left t m len more h rest = more (inr (h.1, λ u lt. rest u (omega arith)))

pub draft_idle : (T : Table) (n q calls keys turns left t : ℕ) (lines : List Line) (w : WorldState)
    → IsDraft T n q calls keys turns left lines w → (IsOver w.state (length lines) left → ⊥) → t < n
    → IsIdle w.state t left → IsDraft T n q calls keys (turns + 1) left lines w
draft_idle T n q calls keys turns left t lines w d more lt h = record {
  sized = d.sized;
  run = d.run;
  each = d.each;
  begun = d.begun;
  few = d.few;
  alone = λ one. absurd (not_resting (λ u l. subst (λ v. (local_of w.state v).pc ≡ 0) (same one u l) h.0));
  start = started d.start;
}
  where
    not_resting : Resting w.state n → ⊥
    not_resting = idle_with_others w.state n left t (length lines) d.run.locals more h

    same : n ≡ 1 → (u : ℕ) → u < n → t ≡ u
    same one u l = omega arith

    started : IsUnbegun turns n calls left lines w.state ⊎ StartsWithBegin lines
        → IsUnbegun (turns + 1) n calls left lines w.state ⊎ StartsWithBegin lines
    started (inl u) = absurd (not_resting u.rest)
    started (inr b) = inr b

line_made : (s : State) (n t left keys : ℕ) (e : Event) → t < n → IsNextEvent s t left keys e
    → IsGeneratedLine n keys (line_of_event e)
line_made s n t left keys (event.Begin u call) lt h = (omega (arith, h.0), h.3, h.4)
line_made s n t left keys (event.Go u) lt h = (omega (arith, h.0), refl)

begun_more : (s : State) (t left keys calls : ℕ) (lines : List Line) (e : Event) → IsNextEvent s t left keys e
    → count_by is_begin lines + left ≡ calls → count_by is_begin (lines ++ line_of_event e ∷ []) + left_after left e ≡ calls
begun_more s t left keys calls lines (event.Begin u call) h b =
    rw (count_more lines (line.Begin u call)) (omega (arith, h.2))
begun_more s t left keys calls lines (event.Go u) h b = rw (count_more lines (line.Go u 1)) (omega arith)

starts_now : (s : State) (n t left keys : ℕ) (e : Event) → t < n → IsNextEvent s t left keys e → Resting s n
    → StartsWithBegin (line_of_event e ∷ [])
starts_now s n t left keys (event.Begin u call) lt h rest = refl
starts_now s n t left keys (event.Go u) lt h rest = absurd (h.1 (rest t lt))

next_enabled : (s : State) (n t left keys : ℕ) (e : Event) → length s.locals ≡ n → t < n → keys < 2 ^ 32
    → IsNextEvent s t left keys e → Enabled s e
next_enabled s n t left keys (event.Begin u call) len lt small h =
    (omega (arith, h.0), subst (λ v. (local_of s v).pc ≡ 0) (sym h.0) h.1, omega (arith, h.3))
next_enabled s n t left keys (event.Go u) len lt small h =
    (omega (arith, h.0), subst (λ v. (local_of s v).pc ≢ 0) (sym h.0) h.1)

pub draft_event : (T : Table) (n q calls keys turns left t : ℕ) (lines : List Line) (w : WorldState) (e : Event)
    → IsDraft T n q calls keys turns left lines w → (IsOver w.state (length lines) left → ⊥) → t < n
    → IsNextEvent w.state t left keys e → keys < 2 ^ 32
    → IsDraft T n q calls keys (turns + 1) (left_after left e) (lines ++ line_of_event e ∷ [])
    (record w { state = after T w.state e })
draft_event T n q calls keys turns left t lines w e d more lt h small = record {
  sized = d.sized;
  run = rw (events_more lines e) (runs_to_more T (empty n q) (events_of_lines lines) w.state e d.run enabled);
  each = all_more (IsGeneratedLine n keys) lines (line_of_event e) d.each (line_made w.state n t left keys e lt h);
  begun = begun_more w.state t left keys calls lines e h d.begun;
  few = rw (length_more lines (line_of_event e)) room;
  alone = λ one. length_more lines (line_of_event e) ∙ ap (λ k. k + 1) (d.alone one);
  start = inr (started d.start);
}
  where
    enabled : Enabled w.state e
    enabled = next_enabled w.state n t left keys e d.run.locals lt small h

    not_full : length lines ≢ MOST_GENERATED
    not_full full = more (inl full)

    room : length lines + 1 ≤ MOST_GENERATED
    room = let f : length lines ≢ MOST_GENERATED = not_full in let g : length lines ≤ MOST_GENERATED = d.few in omega arith

    started : IsUnbegun turns n calls left lines w.state ⊎ StartsWithBegin lines
        → StartsWithBegin (lines ++ line_of_event e ∷ [])
    started (inl u) = rw u.none (starts_now w.state n t left keys e lt h u.rest)
    started (inr b) = starts_more lines (line_of_event e) b

pub draft_along : (T : Table) (n q calls keys turns left left' : ℕ) (lines lines' : List Line) (w w' : WorldState)
    → left' ≡ left → lines' ≡ lines → w' ≡ w
    → IsDraft T n q calls keys turns left lines w → IsDraft T n q calls keys turns left' lines' w'
draft_along T n q calls keys turns left left' lines lines' w w' e f h d =
    subst (λ l. IsDraft T n q calls keys turns l lines' w') (sym e)
    (rw f (subst (λ v. IsDraft T n q calls keys turns left lines v) (sym h) d))

-- ---- Lemmas about the lines that `generate` draws

lines_fit : (n keys : ℕ) (lines : List Line) → n ≤ MOST_THREADS → keys < 2 ^ 32
    → AllByRecursion (IsGeneratedLine n keys) lines → AllByRecursion (IsLine One) lines
lines_fit n keys [] few small each = tt
lines_fit n keys (line.Begin t call ∷ ls) few small each =
    ((omega (arith, each.0.0), omega (arith, each.0.1), each.0.2), lines_fit n keys ls few small each.1)
lines_fit n keys (line.Go t steps ∷ ls) few small each = (
  (omega (arith, each.0.0), omega (arith, each.0.1), omega (arith, each.0.1)),
  lines_fit n keys ls few small each.1,
)

one_each : (n keys : ℕ) (l : Line) → IsGeneratedLine n keys l → event_count l ≡ 1
one_each n keys (line.Begin t call) h = refl
one_each n keys (line.Go t steps) h = h.1

events_counted : (n keys : ℕ) (lines : List Line) → AllByRecursion (IsGeneratedLine n keys) lines
    → sum_by event_count lines ≡ length lines
events_counted n keys [] each = refl
events_counted n keys (l ∷ ls) each = omega (arith, sum_by-cons, one_each, events_counted n keys ls each.1)

pub generated_fits : (T : Table) (kind : Kind) (n q calls keys : ℕ) (lines : List Line) → keys < 2 ^ 32
    → length lines ≤ MOST_GENERATED → IsGenerated T n q calls keys lines
    → IsSchedule (record { version = One; kind = kind; threads = n; quota = q; opening = []; lines = lines })
generated_fits T kind n q calls keys lines small few made = record {
  opens = made.run.opens;
  opening = refl;
  lines = lines_fit n keys lines made.run.opens.within.few small made.each;
  few = rw (events_counted n keys lines made.each) (omega arith);
}
