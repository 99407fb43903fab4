use Rattle.std.proofs.Common.{◌≡◌, ℕ, ◌+◌, Bool, List, set, ap, Some, refl, ◌∙◌}
use Rattle.std.specs.Prelude.{Option, None}
use mathlib.Core.Path.{fun_ext}
use Rattle.lset_words.specs.declared.Key.{Key}
use Rattle.lset_words.specs.declared.Reply.{Reply}
use Rattle.lset_words.specs.declared.history.CallRecord.{CallRecord}
use Rattle.lset_history.specs.History.{HistoryValue, with_ended}
use Rattle.lset_history.specs.Changes.{ChangesValue, moments_of, with_change}
use Rattle.lset_replay.specs.declared.places.OpenCall.{OpenCall}
use Rattle.lset_replay.specs.declared.places.Linearized.{Linearized}
use Rattle.lset_replay.specs.declared.recorder.Recorder.{Recorder}
use Rattle.lset_replay.specs.Trace.{Trace, trace_of, open_call_at, place_at, number_of, fit_of, settled, changed_at, changed_on, ended_by, ended_on}
use Rattle.lset_replay.proofs.recorder.Recorder.follow.Goals as goal
use Rattle.lset_replay.proofs.recorder.Recorder.follow.Goals.{in-Some+in_ok-change-in-Go, in_default}

same_trace : {a b : List CallRecord} {c d : List (Option OpenCall)} {e f : List (Option Linearized)} {g h : ℕ → List ℕ} → a ≡ b
    → c ≡ d → e ≡ f → g ≡ h
    → (let x : Trace = record { calls = a; under_way = c; places = e; changes = g } in x) ≡ record {
      calls = b;
      under_way = d;
      places = f;
      changes = h;
    }
same_trace p q r s = cc

changed_trace : (r r' : Recorder) (m t : ℕ) (k : Key) (present : Bool) → r'.history ≡ r.history
    → r'.under_way.items ≡ r.under_way.items
    → r'.places.items ≡ set r.places.items (number_of (open_call_at r.under_way.items t)) (Some (changed_at m))
    → ((j : ℕ) → moments_of r'.changes j ≡ with_change (moments_of r.changes) k.0 m j)
    → trace_of r' ≡ changed_on m t (Some (k, present)) (trace_of r)
changed_trace r r' m t k present a b c d = same_trace (ap (λ (h : HistoryValue). h.calls) a) b c (fun_ext d)

ended_trace : (r r' : Recorder) (m t : ℕ) (reply : Reply)
    → r'.history ≡ with_ended r.history (number_of (open_call_at r.under_way.items t)) (m, reply)
    → r'.under_way.items ≡ set r.under_way.items t None
    → r'.places.items ≡ set r.places.items (number_of (open_call_at r.under_way.items t))
    (settled (place_at r.places.items (number_of (open_call_at r.under_way.items t))) (fit_of (moments_of r.changes)
    (open_call_at r.under_way.items t) reply m) m reply)
    → r'.changes ≡ r.changes
    → trace_of r' ≡ ended_by m t reply (open_call_at r.under_way.items t) (trace_of r)
ended_trace r r' m t reply a b c d = same_trace (ap (λ (h : HistoryValue). h.calls) a) b c
    (let f : ChangesValue → ℕ → List ℕ = λ s j. moments_of s j in ap f d)

pub returns-in_ok-end-in-Go-clause-trace : goal.returns-in_ok-end-in-Go-clause-trace
returns-in_ok-end-in-Go-clause-trace c =
    let r : Recorder = c.args.self.now in
    let r' : Recorder = c.match-told.self in
    let m : ℕ = c.args.self.now.last + 1 in
    let t : ℕ = c.in-Go.thread in
    λ may.
    let moment : r'.last ≡ m =
    elim c.match-told.branch [
      | in-Some+in_ok-change-in-Go w ↦ rw w.self-is w.in_ok-change-in-Go.ensures.counted
      | in_default w ↦ rw w.self-is refl
    ] in
    let middle : trace_of r' ≡ changed_on m t c.args.told.change (trace_of r) =
    elim c.match-told.branch [
      | in-Some+in_ok-change-in-Go w ↦ (let i = w.in-Some.is in
          let turn = (rw i at (rw c.in-Go.is at may).1).1 in
          rw (w.self-is, i)
          (changed_trace r w.change.new.self m t w.in-Some.key w.in-Some.present
          w.in_ok-change-in-Go.ensures.history
          w.in_ok-change-in-Go.ensures.under_way w.in_ok-change-in-Go.ensures.places (w.in_ok-change-in-Go.ensures.changes turn)))
      | in_default w ↦ (let i = w.in_default.is in rw (w.self-is, i) refl)
    ] in
    let last : trace_of c.end.new.self ≡ ended_on r'.last t (Some c.in-Some-answer.reply) (trace_of r') =
    ended_trace r' c.end.new.self r'.last t c.in-Some-answer.reply c.in_ok-end-in-Go.ensures.history
    c.in_ok-end-in-Go.ensures.under_way c.in_ok-end-in-Go.ensures.places c.in_ok-end-in-Go.ensures.changes in
    rw (c.in-Go.is, c.in-Some-answer.is) (last ∙ ap (λ z. ended_on z t (Some c.in-Some-answer.reply) (trace_of r')) moment
    ∙ ap (λ (s : Trace). ended_on m t (Some c.in-Some-answer.reply) s) middle)
