-- Proof, by computation, of the effect of each row of the step table.
use Rattle.std.proofs.Common.{◌≡◌, ℕ, ◌*◌, ◌/◌, ◌%◌, Bool, true, false, if◌then◌else◌, Option, Some, None, ◌==◌, refl, ◌∙◌}
use Rattle.std.specs.Prelude.{nat_lt}
use Rattle.lset_words.specs.declared.Call.{Call}
use Rattle.lset_words.specs.declared.Call.TheVariants.{Add, Remove, Contains, Ceiling}
use Rattle.lset_words.specs.declared.Reply.{Reply}
use Rattle.lset_words.specs.Words.{target}
use Rattle.lset_steps.specs.declared.Local.{Local}
use Rattle.lset_steps.specs.Rows.{decided}
use Rattle.lset_steps.specs.ReadRows.{continued}
use Rattle.lset_steps.specs.RowLaws.{HasReading}
use Rattle.lset_lazy.specs.Lazy.{lazy, at_curr, released}
use Rattle.lset_lazy.specs.Rows.{LazyRows, leaves, decides, answers_or_walks}

choice : (b : Bool) (x y : Local) → continued (if b then x else y) ≡ (if b then continued x else continued y)
choice true x y = refl
choice false x y = refl

decides_by : (c : Call) (l : Local) (found room : Bool) → (l.ckey == target c) ≡ found → nat_lt l.used l.quota ≡ room
    → continued (decided 8 11 13 c (l.ckey == target c) (nat_lt l.used l.quota) l.ckey l) ≡ decides c l
decides_by (Add k) l true room e f = rw e refl
decides_by (Add k) l false true e f = rw (e, f) refl
decides_by (Add k) l false false e f = rw (e, f) refl
decides_by (Remove k) l true room e f = rw e refl
decides_by (Remove k) l false room e f = rw e refl
decides_by (Contains k) l true room e f = rw e refl
decides_by (Contains k) l false room e f = rw e refl
decides_by (Ceiling k) l found room e f = refl

decides_or_leaves : (l : Local) (seen : ℕ) →
    continued (at_curr seen l) ≡ (if seen % 2 == 0 then decides l.call (record l { succ = seen / 2 }) else leaves None l)
decides_or_leaves l seen = by_mark (seen % 2 == 0) refl
  where
    by_mark : (b : Bool) → (seen % 2 == 0) ≡ b →
        continued (at_curr seen l) ≡ (if seen % 2 == 0 then decides l.call (record l { succ = seen / 2 }) else leaves None l)
    by_mark true e = rw e (decides_by l.call (record l { succ = seen / 2 }) (l.ckey == target l.call) (nat_lt l.used l.quota) refl
        refl)
    by_mark false e = rw e refl

ends_by : (r : Option Reply) (l : Local) → released r l ≡ answers_or_walks r l
ends_by None l = refl
ends_by (Some r) l = refl

fed_7 : (l : Local) → l.pc ≡ 7 → (seen : ℕ) → lazy.feed l seen ≡ continued (at_curr seen l)
fed_7 l e seen = rw e refl

fed_14 : (l : Local) → l.pc ≡ 14 → (seen : ℕ) → lazy.feed l seen ≡ released l.reply l
fed_14 l e seen = rw e refl

reads : HasReading lazy
reads = record {
  begins = λ call l. refl;
  row_20 = λ l e. (rw e refl, λ seen. (rw e refl, rw e refl));
  row_21 = λ l e. (rw e refl, λ seen. (rw e refl, rw e refl));
  row_22 = λ l e. (rw e refl, λ seen. (rw e refl, rw e refl));
  row_23 = λ l e. (rw e refl, λ seen. (rw e refl, rw e refl));
  row_24 = λ l e. (rw e refl, λ seen. (rw e refl, rw e refl));
  row_25 = λ l e. (rw e refl, λ seen. (rw e refl, rw e refl));
}

pub lazy_rows : LazyRows lazy
lazy_rows = record {
  reading = reads;
  row_1 = λ l e. (rw e refl, λ seen. (rw e refl, rw e refl));
  row_2 = λ l e. (rw e refl, λ seen. (rw e (choice (nat_lt seen (target l.call)) _ _), rw e refl));
  row_3 = λ l e. (rw e refl, λ seen. (rw e refl, rw e refl));
  row_4 = λ l e. (rw e refl, λ seen. (rw e (choice (seen == 0) _ _), rw e refl));
  row_5 = λ l e. (rw e refl, λ seen. (rw e (choice (seen == 0) _ _), rw e refl));
  row_6 = λ l e. (rw e refl, λ seen. (rw e (choice (seen == 2 * l.curr) _ _), rw e refl));
  row_7 = λ l e. (rw e refl, λ seen. (fed_7 l e seen ∙ decides_or_leaves l seen, rw e refl));
  row_8 = λ l e. (rw e refl, λ seen. (rw e refl, rw e refl));
  row_9 = λ l e. (rw e refl, λ seen. (rw e refl, rw e refl));
  row_10 = λ l e. (rw e refl, λ seen. (rw e refl, rw e refl));
  row_11 = λ l e. (rw e refl, λ seen. (rw e refl, rw e refl));
  row_12 = λ l e. (rw e refl, λ seen. (rw e refl, rw e refl));
  row_13 = λ l e. (rw e refl, λ seen. (rw e refl, rw e refl));
  row_14 = λ l e. (rw e refl, λ seen. (fed_14 l e seen ∙ ends_by l.reply l, rw e refl));
}
