-- The effect of each row of LazyList's step table, stated with definitions that all lists share.
use Rattle.std.specs.Prelude.{ℕ, ◌+◌, ◌*◌, ◌/◌, ◌%◌, true, false, if◌then◌else◌, Option, Some, None, ◌==◌, nat_lt}
use Rattle.lset_words.specs.declared.Call.{Call}
use Rattle.lset_words.specs.declared.Call.TheVariants.{Add, Remove, Contains, Ceiling}
use Rattle.lset_words.specs.declared.Reply.{Reply}
use Rattle.lset_words.specs.declared.Reply.TheVariants.{True, False, Full}
use Rattle.lset_words.specs.Words.{key_index, link_index, lock_index, key_of, target}
use Rattle.lset_steps.specs.declared.Local.{Local}
use Rattle.lset_steps.specs.declared.Action.TheVariants.{Load, Store, Exchange}
use Rattle.lset_steps.specs.declared.Fed.{Fed}
use Rattle.lset_steps.specs.Steps.{Table}
use Rattle.lset_steps.specs.Rows.{own_slot, goes_to, ceiling_at}
use Rattle.lset_steps.specs.ReadRows.{continued, leaves_with}
use Rattle.lset_steps.specs.RowLaws.{Does, HasReading, nothing}

-- Returns the outcome of a step after which the call continues at row `pc` of the step table.
abbrev pub on_to : ℕ → Local → Fed
on_to pc l = continued (record l { pc = pc })

-- Returns the outcome of a step to row 13 of the step table, where the call releases its locks. If the reply is `None`,
-- the call then starts again.
abbrev pub leaves : Option Reply → Local → Fed
leaves r l = continued (goes_to 13 r l)

-- Returns the outcome of the step that has found `curr` unmarked, while the call holds both locks. An `add` that will
-- change the set continues at row 8 of the step table, and a `remove` that will change the set at row 11. Any other
-- call gets its reply: for example, an `add` gets `False` if `curr` has the call's key.
abbrev pub decides : Call → Local → Fed
decides (Add k) l =
    if l.ckey == target (Add k) then leaves (Some False) l
    else if nat_lt l.used l.quota then continued (goes_to 8 None l)
    else leaves (Some Full) l
decides (Remove k) l = if l.ckey == target (Remove k) then continued (goes_to 11 None l) else leaves (Some False) l
decides (Contains k) l = if l.ckey == target (Contains k) then leaves (Some True) l else leaves (Some False) l
decides (Ceiling k) l = leaves (Some (ceiling_at l.ckey)) l

-- Returns the outcome of the step that releases the second lock: the call ends with its reply or, without a reply,
-- starts again.
abbrev pub answers_or_walks : Option Reply → Local → Fed
answers_or_walks None l = on_to 1 l
answers_or_walks (Some r) l = leaves_with r l

pub record LazyRows (T : Table) : Type 0 where
  pub reading : HasReading T
  -- A walk along the list starts with a load of the head's link.
  pub row_1 : Does T 1 (λ l. Load (link_index 0)) (λ l seen. continued (record l { pc = 2; pred = 0; curr = seen / 2 })) nothing
  -- The walk loads the key of `curr`. While the loaded key is smaller than the call's key, the walk continues.
  pub row_2 : Does T 2 (λ l. Load (key_index l.curr))
      (λ l seen. if nat_lt seen (target l.call) then continued (record l { pc = 3; ckey = seen })
      else continued (record l { pc = 4; ckey = seen }))
      nothing
  pub row_3 : Does T 3 (λ l. Load (link_index l.curr))
      (λ l seen. continued (record l { pc = 2; pred = l.curr; curr = seen / 2 }))
      nothing
  -- The call attempts to lock `pred`, and then `curr`, until it holds both locks.
  pub row_4 : Does T 4 (λ l. Exchange (lock_index l.pred) 0 (l.thread + 1))
      (λ l seen. if seen == 0 then on_to 5 l else on_to 4 l)
      nothing
  pub row_5 : Does T 5 (λ l. Exchange (lock_index l.curr) 0 (l.thread + 1))
      (λ l seen. if seen == 0 then on_to 6 l else on_to 5 l)
      nothing
  -- The call checks that the link of `pred` points to `curr` and that `pred` is not marked. If a check fails, the call
  -- releases the locks and starts again.
  pub row_6 : Does T 6 (λ l. Load (link_index l.pred)) (λ l seen. if seen == 2 * l.curr then on_to 7 l else leaves None l) nothing
  -- The call checks that `curr` is not marked. If `curr` is unmarked, the call has a reply or will change the set.
  -- Otherwise the call releases the locks and starts again.
  pub row_7 : Does T 7 (λ l. Load (link_index l.curr))
      (λ l seen. if seen % 2 == 0 then decides l.call (record l { succ = seen / 2 }) else leaves None l)
      nothing
  -- An `add` writes the key and the link of its own slot, a reserved node that no link leads to yet. Then the `add`
  -- links the slot after `pred`, which adds the key to the set.
  pub row_8 : Does T 8 (λ l. Store (key_index (own_slot l)) (target l.call)) (λ l seen. on_to 9 l) nothing
  pub row_9 : Does T 9 (λ l. Store (link_index (own_slot l)) (2 * l.curr)) (λ l seen. on_to 10 l) nothing
  pub row_10 : Does T 10 (λ l. Store (link_index l.pred) (2 * own_slot l))
      (λ l seen. leaves (Some True) (record l { used = l.used + 1 }))
      (λ l seen. Some (key_of l.call, true))
  -- A `remove` marks `curr`, which removes the key from the set. Then the `remove` unlinks `curr`.
  pub row_11 : Does T 11 (λ l. Store (link_index l.curr) (2 * l.succ + 1))
      (λ l seen. on_to 12 l)
      (λ l seen. Some (key_of l.call, false))
  pub row_12 : Does T 12 (λ l. Store (link_index l.pred) (2 * l.succ)) (λ l seen. leaves (Some True) l) nothing
  -- The call releases both locks. Then the call ends with its reply or, without a reply, starts again.
  pub row_13 : Does T 13 (λ l. Store (lock_index l.curr) 0) (λ l seen. on_to 14 l) nothing
  pub row_14 : Does T 14 (λ l. Store (lock_index l.pred) 0) (λ l seen. answers_or_walks l.reply l) nothing
