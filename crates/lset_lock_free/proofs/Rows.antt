-- Proof, by computation, of the effect of each row of the step table.
use Rattle.std.proofs.Common.{◌≡◌, ℕ, Bool, true, false, if◌then◌else◌, ◌==◌, refl, ap, ◌∙◌}
use Rattle.std.specs.Prelude.{nat_lt}
use Rattle.lset_words.specs.declared.Call.{Call}
use Rattle.lset_words.specs.declared.Call.TheVariants.{Add, Remove, Contains, Ceiling}
use Rattle.lset_words.specs.Words.{target}
use Rattle.lset_steps.specs.declared.Local.{Local}
use Rattle.lset_steps.specs.Rows.{decided}
use Rattle.lset_steps.specs.ReadRows.{continued}
use Rattle.lset_steps.specs.RowLaws.{HasReading}
use Rattle.lset_lock_free.specs.LockFree.{lock_free, at_key, decision_of}
use Rattle.lset_lock_free.specs.Rows.{LockFreeRows, decides}

decides_by : (c : Call) (l : Local) (found room : Bool) (seen : ℕ) → (seen == target c) ≡ found → nat_lt l.used l.quota ≡ room
    → decision_of (decided 5 8 0 c (seen == target c) (nat_lt l.used l.quota) seen l) ≡ decides c l seen
decides_by (Add k) l true room seen e f = rw e refl
decides_by (Add k) l false true seen e f = rw (e, f) refl
decides_by (Add k) l false false seen e f = rw (e, f) refl
decides_by (Remove k) l true room seen e f = rw e refl
decides_by (Remove k) l false room seen e f = rw e refl
decides_by (Contains k) l true room seen e f = rw e refl
decides_by (Contains k) l false room seen e f = rw e refl
decides_by (Ceiling k) l found room seen e f = refl

walks_or_decides : (l : Local) (seen : ℕ) → at_key seen l
    ≡ (if nat_lt seen (target l.call) then continued (record l { pc = 2; pred = l.curr; curr = l.succ })
    else decides l.call l seen)
walks_or_decides l seen = ap (λ d. if nat_lt seen (target l.call)
    then continued (record l { pc = 2; pred = l.curr; curr = l.succ }) else d)
    (decides_by l.call l (seen == target l.call) (nat_lt l.used l.quota) seen refl refl)

fed_4 : (l : Local) → l.pc ≡ 4 → (seen : ℕ) → lock_free.feed l seen ≡ at_key seen l
fed_4 l e seen = rw e refl

reads : HasReading lock_free
reads = record {
  begins = λ call l. refl;
  row_20 = λ l e. (rw e refl, λ seen. (rw e refl, rw e refl));
  row_21 = λ l e. (rw e refl, λ seen. (rw e refl, rw e refl));
  row_22 = λ l e. (rw e refl, λ seen. (rw e refl, rw e refl));
  row_23 = λ l e. (rw e refl, λ seen. (rw e refl, rw e refl));
  row_24 = λ l e. (rw e refl, λ seen. (rw e refl, rw e refl));
  row_25 = λ l e. (rw e refl, λ seen. (rw e refl, rw e refl));
}

pub lock_free_rows : LockFreeRows lock_free
lock_free_rows = record {
  reading = reads;
  row_1 = λ l e. (rw e refl, λ seen. (rw e refl, rw e refl));
  row_2 = λ l e. (rw e refl, λ seen. (rw e refl, rw e refl));
  row_3 = λ l e. (rw e refl, λ seen. (rw e refl, rw e refl));
  row_4 = λ l e. (rw e refl, λ seen. (fed_4 l e seen ∙ walks_or_decides l seen, rw e refl));
  row_5 = λ l e. (rw e refl, λ seen. (rw e refl, rw e refl));
  row_6 = λ l e. (rw e refl, λ seen. (rw e refl, rw e refl));
  row_7 = λ l e. (rw e refl, λ seen. (rw e refl, rw e refl));
  row_8 = λ l e. (rw e refl, λ seen. (rw e refl, rw e refl));
  row_9 = λ l e. (rw e refl, λ seen. (rw e refl, rw e refl));
  row_10 = λ l e. (rw e refl, λ seen. (rw e refl, rw e refl));
}
