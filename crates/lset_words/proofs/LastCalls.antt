-- Lemmas: a thread's last call changes only at log entries made by the thread.
use Rattle.std.specs.Prelude.{◌≡◌, ◌≢◌, ℕ, suc}
use Rattle.lset_words.specs.Log.{Log, Entry, maker, last_after, last_at}
use Rattle.lset_words.proofs.Numbers.{if_same, if_other}

pub last_own : (log : Log) (t k : ℕ) {e : Entry} → log k ≡ e → maker e ≡ t
    → last_at log t (suc k) ≡ last_after (suc k) e (last_at log t k)
last_own log t k {e} at own = rw at (if_same (maker e) t own (last_after (suc k) e (last_at log t k)) (last_at log t k))

pub last_other : (log : Log) (t k : ℕ) {e : Entry} → log k ≡ e → maker e ≢ t → last_at log t (suc k) ≡ last_at log t k
last_other log t k {e} at other = rw at (if_other (maker e) t other (last_after (suc k) e (last_at log t k)) (last_at log t k))
