-- The invariant of `CallsSoFar`, which contains the calls that a report reader has read.
use Rattle.std.specs.Prelude.{◌≡◌, ℕ, ◌<◌, ◌&&◌, ◌==◌, nat_lt, not, Bool, true, false, List, length, Option, Some, None, slice_index_or}
use Rattle.std.specs.List.{list_any}
use Rattle.lset_words.specs.declared.Reply.{Reply}
use Rattle.lset_words.specs.declared.history.CallRecord.{CallRecord}
use Rattle.lset_history.specs.History.{HistoryValue}
use Rattle.lset_report.specs.ReportReading.{begins_later, is_taken, is_idle}

-- Returns the moment (a position in the history, from 1) when a call ended, or 0 if the call is pending.
abbrev pub end_moment : Option (ℕ × Reply) → ℕ
end_moment None = 0
end_moment (Some end) = end.0

abbrev pub is_open : Option (ℕ × Reply) → Bool
is_open None = true
is_open (Some end) = false

-- Returns whether the last call of some thread ended at `moment` (a position in the history). `ends` lists the end of
-- each thread's last call.
abbrev pub is_last_end : List ℕ → ℕ → Bool
is_last_end ends moment = list_any (λ end. end == moment) ends

-- Returns whether a call that started at moment `begun` can have the given end. The call must be pending, or must end
-- after `begun`, at a moment (a position in the history) that is not the end of any thread's last call.
abbrev pub ends_apart : List ℕ → ℕ → Option (ℕ × Reply) → Bool
ends_apart ends begun None = true
ends_apart ends begun (Some end) = nat_lt begun end.0 && not (is_last_end ends end.0)

abbrev pub ends_well_by : List ℕ → CallRecord → Bool
ends_well_by ends x = ends_apart ends x.begun x.ended

-- The invariant of a report reader: the fields of `CallsSoFar` determine whether a call can follow the calls read so
-- far.
pub record Tracks (h : HistoryValue) (last_begun : ℕ) (last_ends : List ℕ) (busy : List Bool) : Type 0 where
  -- `last_begun` is the moment (a position in the history) when the last call started.
  pub begins : (m : ℕ) → begins_later h.calls m ≡ nat_lt last_begun m
  -- If moment `m` (a position in the history) is after `last_begun`, a call starts or ends at `m` if and only if some
  -- thread's last call ends at `m`.
  pub taken : (m : ℕ) → last_begun < m → is_taken h.calls m ≡ is_last_end last_ends m
  -- `last_ends` and `busy` have an entry for each thread. A thread `t` can start a call at moment `m` (a position in
  -- the history) if the thread's last call is not pending (`busy`) and ended before `m` (`last_ends`).
  pub ends : length last_ends ≡ h.opening.threads
  pub each : length busy ≡ h.opening.threads
  pub idle : (t m : ℕ) → t < h.opening.threads → 0 < m
      → is_idle h.calls t m ≡ (not (slice_index_or busy t false) && nat_lt (slice_index_or last_ends t 0) m)
