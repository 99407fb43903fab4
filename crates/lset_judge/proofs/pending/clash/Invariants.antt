use Rattle.std.proofs.Common.{◌≡◌, ◌≢◌, ◌<◌, ◌≤◌, ℕ, All, false, true, IfSome, slice_index_or}
use Rattle.lset_judge.specs.declared.stream.Pending.{Pending}
use Rattle.lset_judge.proofs.pending.clash.Given as goal

abbrev pub invariant-loop-it : goal.invariant-loop-it
invariant-loop-it l = record {
  apart : (k : ℕ) (d : Pending) → k < l.it-index → ((slice_index_or l.few k d).end ≢ l.call.begun)
      × IfSome l.call.ended (λ end. (slice_index_or l.few k d).end ≢ end.0);
  free : l.is_busy ≡ false → (k : ℕ) (d : Pending) → k < l.it-index → (slice_index_or l.few k d).call.thread ≡ l.call.thread
      → (slice_index_or l.few k d).end ≤ l.call.begun;
  busy : l.is_busy ≡ true → All (λ (p : Pending). p.call.thread ≡ l.call.thread → p.end ≤ l.call.begun) l.few → ⊥;
}
