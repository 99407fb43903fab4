-- Lemmas about step tables that have the rows of `ReadRows` (rows 20 to 25, for `contains` and `ceiling`).
use Rattle.std.specs.Prelude.{◌≡◌, ◌⊎◌, ℕ, None}
use Rattle.std.proofs.Common.{inl, inr, sym, subst}
use Rattle.lset_words.specs.declared.Call.{Call}
use Rattle.lset_steps.specs.declared.Local.{Local}
use Rattle.lset_steps.specs.Steps.{Table}
use Rattle.lset_steps.specs.ReadRows.{begun_reading, read_action, read_fed}

abbrev pub IsReadRow : ℕ → Type 0
IsReadRow pc = (pc ≡ 20) ⊎ (pc ≡ 21) ⊎ (pc ≡ 22) ⊎ (pc ≡ 23) ⊎ (pc ≡ 24) ⊎ (pc ≡ 25)

pub record HasReadRows (T : Table) : Type 0 where
  pub begins : (call : Call) (l : Local) → T.begin call l ≡ begun_reading call l
  pub acts : (l : Local) → IsReadRow l.pc → T.next l ≡ read_action l
  pub feeds : (l : Local) (seen : ℕ) → IsReadRow l.pc → T.feed l seen ≡ read_fed l seen
  pub tells : (l : Local) (seen : ℕ) → IsReadRow l.pc → T.effect l seen ≡ None

pub in_each_read_row : (P : ℕ → Type 0) → P 20 → P 21 → P 22 → P 23 → P 24 → P 25 → (pc : ℕ) → IsReadRow pc → P pc
in_each_read_row P a b c d e f pc (inl is) = subst P (sym is) a
in_each_read_row P a b c d e f pc (inr (inl is)) = subst P (sym is) b
in_each_read_row P a b c d e f pc (inr (inr (inl is))) = subst P (sym is) c
in_each_read_row P a b c d e f pc (inr (inr (inr (inl is)))) = subst P (sym is) d
in_each_read_row P a b c d e f pc (inr (inr (inr (inr (inl is))))) = subst P (sym is) e
in_each_read_row P a b c d e f pc (inr (inr (inr (inr (inr is))))) = subst P (sym is) f
