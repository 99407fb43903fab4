-- Proof that the state of a world (a list with its threads) is the last state of a run, both when the world opens and
-- after each event.
use Rattle.std.specs.Prelude.{◌≡◌, ℕ, ◌<◌, List, [], ◌∷◌, ◌++◌, length, refl, All, ◌^◌, Bool, true, false, if◌then◌else◌}
use Rattle.std.specs.Prelude.{◌==◌, slice_index, slice_set, suc}
use Rattle.std.specs.List.Sorted.{IsStrictlyIncreasing}
use Rattle.std.proofs.Common.{arith, ◌∙◌, sym, ap, subst, length-set}
use Rattle.std.proofs.lemmas.List.FromFn.{length-map-range_with_len}
use Rattle.lset_steps.specs.declared.Action.{Action}
use Rattle.lset_steps.specs.declared.Action.TheVariants.{Load, Store, Exchange}
use Rattle.lset_words.specs.Words.{word_count, Sizes, IsWithin, Opening, Opens, sizes}
use Rattle.lset_steps.specs.declared.Event.{Event}
use Rattle.lset_steps.specs.declared.Event.TheVariants.{Begin, Go}
use Rattle.lset_steps.specs.Steps.{Table, State, event_at, after, local_of, opening, opening_of, opening_word, Enabled, left_by}
use Rattle.lset_steps.specs.Laws.{Lawful, StateLaws, word_named, StepAt}
use Rattle.lset_steps.specs.Worlds.{WorldState, IsRun}
use Rattle.lset_steps.proofs.MoreEvents.{RunsTo, runs_to_opening, runs_to_more, run_more, last_is, event_last}

left_length : (ws : List ℕ) (a : Action) → length (left_by ws a) ≡ length ws
left_length ws (Load w) = refl
left_length ws (Store w v) = length-set ws w v
left_length ws (Exchange w old new) = either_length (slice_index ws w == old)
  where
    either_length : (b : Bool) → length (if b then slice_set ws w new else ws) ≡ length ws
    either_length true = length-set ws w new
    either_length false = refl

words_length : (T : Table) (s : State) (e : Event) → length (after T s e).words ≡ length s.words
words_length T s (Begin t call) = refl
words_length T s (Go t) = left_length s.words (T.next (local_of s t))

runs_to : (T : Table) (w : WorldState) (r : IsRun T w) → RunsTo T r.opening r.events w.state
runs_to T w r = record { run = r.run; is = r.is; locals = r.locals ∙ ap (λ (z : Sizes). z.threads) (sym r.of_sizes) }

pub is_run_after : (T : Table) (w : WorldState) (e : Event) → IsRun T w → Enabled w.state e
    → IsRun T (record w { state = after T w.state e })
is_run_after T w e r h =
    let more = runs_to_more T r.opening r.events w.state e (runs_to T w r) h in
    record {
      opening = r.opening;
      of_sizes = r.of_sizes;
      events = r.events ++ e ∷ [];
      run = more.run;
      is = more.is;
      words = words_length T w.state e ∙ r.words;
      locals = more.locals ∙ ap (λ (z : Sizes). z.threads) r.of_sizes;
    }

pub is_run_opening : (T : Table) (op : Opening) → Opens op → IsRun T (record { sizes = sizes op; state = opening op })
is_run_opening T op opens =
    let none = runs_to_opening T op opens in
    record {
      opening = op;
      of_sizes = refl;
      events = [];
      run = none.run;
      is = none.is;
      words = length-map-range_with_len (opening_word op) 0 (word_count (sizes op));
      locals = none.locals;
    }

pub is_run_of_keys : (T : Table) (sz : Sizes) (keys : List ℕ) → length keys ≡ sz.opening → IsWithin sz → IsStrictlyIncreasing keys
    → All (λ (k : ℕ). k < 2 ^ 32) keys
    → IsRun T (record { sizes = sz; state = opening (opening_of sz keys) })
is_run_of_keys T sz keys many within increasing low =
    let same : sizes (opening_of sz keys) ≡ sz = ap (λ m. record { threads = sz.threads; quota = sz.quota; opening = m }) many in
    subst (λ (z : Sizes). IsRun T (record { sizes = z; state = opening (opening_of sz keys) })) same
    (is_run_opening T (opening_of sz keys) (record {
      within = subst (λ (z : Sizes). IsWithin z) (sym same) within;
      increasing = increasing;
      low = low;
    }))

pub order_of : (T : Table) (w : WorldState) → Lawful T → IsRun T w → StateLaws T.marks w.sizes w.state
order_of T w law r = subst (λ z. StateLaws T.marks z w.state) r.of_sizes
    (subst (λ s. StateLaws T.marks (sizes r.opening) s) (sym r.is)
    (law.states r.opening (length r.events) (length r.events) (event_at r.events) r.run (omega arith)))

pub named_in : (T : Table) (w : WorldState) (t : ℕ) → Lawful T → IsRun T w → Enabled w.state (Go t)
    → word_named (T.next (local_of w.state t)) < length w.state.words
named_in T w t law r h =
    let st : StepAt T r.opening (event_at (r.events ++ Go t ∷ [])) (length r.events) t =
    law.steps r.opening (suc (length r.events)) (length r.events) t (event_at (r.events ++ Go t ∷ []))
    (run_more T r.opening r.events w.state (Go t) (runs_to T w r) h) (omega arith) (event_last r.events (Go t)) in
    let in_table : word_named (T.next (local_of w.state t)) < word_count (sizes r.opening) =
    subst (λ s. word_named (T.next (local_of s t)) < word_count (sizes r.opening))
    (last_is T r.opening r.events w.state (Go t) (runs_to T w r)) st.in_table in
    rw r.words (subst (λ z. word_named (T.next (local_of w.state t)) < word_count z) r.of_sizes in_table)
