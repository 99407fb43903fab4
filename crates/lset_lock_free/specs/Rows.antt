-- The effect of each row of LockFreeList's step table, stated with definitions that all lists share.
use Rattle.std.specs.Prelude.{ℕ, ◌+◌, ◌*◌, ◌/◌, ◌%◌, Bool, true, false, if◌then◌else◌, Option, Some, None, ◌==◌, nat_lt}
use Rattle.lset_words.specs.declared.Key.{Key}
use Rattle.lset_words.specs.declared.Call.{Call}
use Rattle.lset_words.specs.declared.Call.TheVariants.{Add, Remove, Contains, Ceiling}
use Rattle.lset_words.specs.declared.Reply.{Reply}
use Rattle.lset_words.specs.declared.Reply.TheVariants.{True, False, Full}
use Rattle.lset_words.specs.Words.{key_index, link_index, key_of, target}
use Rattle.lset_steps.specs.declared.Local.{Local}
use Rattle.lset_steps.specs.declared.Action.TheVariants.{Load, Store, Exchange}
use Rattle.lset_steps.specs.declared.Fed.{Fed}
use Rattle.lset_steps.specs.Steps.{Table}
use Rattle.lset_steps.specs.Rows.{own_slot, goes_to, ceiling_at}
use Rattle.lset_steps.specs.ReadRows.{continued, leaves_with}
use Rattle.lset_steps.specs.RowLaws.{Does, HasReading, nothing}

-- Returns the outcome of a step after which the call continues at row `pc` of the step table.
abbrev pub on_to : ℕ → Local → Fed
on_to pc l = continued (record l { pc = pc })

-- Returns the outcome of a step that ends the call with reply `r`.
abbrev pub answers : Reply → Local → Fed
answers r l = leaves_with r (record l { reply = Some r })

-- Returns the outcome of the step that has loaded `seen`, the first key that is not smaller than the call's key. An
-- `add` that will change the set continues at row 5 of the step table, and a `remove` that will change the set at row
-- 8. Any other call ends with a reply.
abbrev pub decides : Call → Local → ℕ → Fed
decides (Add k) l seen =
    if seen == target (Add k) then answers False l
    else if nat_lt l.used l.quota then continued (goes_to 5 None l)
    else answers Full l
decides (Remove k) l seen = if seen == target (Remove k) then continued (goes_to 8 None l) else answers False l
decides (Contains k) l seen = if seen == target (Contains k) then answers True l else answers False l
decides (Ceiling k) l seen = answers (ceiling_at seen) l

-- Returns the change of the set by a compare-and-exchange that expects the value `old`. If the word has the value
-- `old`, the compare-and-exchange succeeds, and adds the call's key (if `put_in` is true) or removes the key. Otherwise
-- the set does not change.
abbrev pub tells_where : ℕ → Bool → Local → ℕ → Option (Key × Bool)
tells_where old put_in l seen = if seen == old then Some (key_of l.call, put_in) else None

pub record LockFreeRows (T : Table) : Type 0 where
  pub reading : HasReading T
  -- A walk along the list starts with a load of the head's link.
  pub row_1 : Does T 1 (λ l. Load (link_index 0)) (λ l seen. continued (record l { pc = 2; pred = 0; curr = seen / 2 })) nothing
  -- The walk loads the link of `curr`, which includes the mark of `curr`.
  pub row_2 : Does T 2 (λ l. Load (link_index l.curr))
      (λ l seen. if seen % 2 == 0 then continued (record l { pc = 4; succ = seen / 2 })
      else continued (record l { pc = 3; succ = seen / 2 }))
      nothing
  -- If `curr` is marked, the walk unlinks `curr` by a compare-and-exchange of the link of `pred`. If the
  -- compare-and-exchange fails, the walk starts again from the head.
  pub row_3 : Does T 3 (λ l. Exchange (link_index l.pred) (2 * l.curr) (2 * l.succ))
      (λ l seen. if seen == 2 * l.curr then continued (record l { pc = 2; curr = l.succ }) else on_to 1 l)
      nothing
  -- If `curr` is not marked, the walk loads the key of `curr`. If the loaded key is smaller than the call's key, the
  -- walk continues with the next node. Otherwise the call ends with a reply, or will change the set.
  pub row_4 : Does T 4 (λ l. Load (key_index l.curr))
      (λ l seen. if nat_lt seen (target l.call) then continued (record l { pc = 2; pred = l.curr; curr = l.succ })
      else decides l.call l seen)
      nothing
  -- An `add` writes the key and the link of its own slot, a reserved node that no link leads to yet.
  pub row_5 : Does T 5 (λ l. Store (key_index (own_slot l)) (target l.call)) (λ l seen. on_to 6 l) nothing
  pub row_6 : Does T 6 (λ l. Store (link_index (own_slot l)) (2 * l.curr)) (λ l seen. on_to 7 l) nothing
  -- An `add` links its own slot, a reserved node, after `pred`, which adds the key to the set and uses up the slot. If
  -- the compare-and-exchange fails, the call starts again.
  pub row_7 : Does T 7 (λ l. Exchange (link_index l.pred) (2 * l.curr) (2 * own_slot l))
      (λ l seen. if seen == 2 * l.curr then leaves_with True (record l { used = l.used + 1 }) else on_to 1 l)
      (λ l. tells_where (2 * l.curr) true l)
  -- A `remove` loads the link of the node that has its key.
  pub row_8 : Does T 8 (λ l. Load (link_index l.curr)) (λ l seen. continued (record l { pc = 9; succ = seen / 2 })) nothing
  -- A `remove` marks the node that has its key, which removes the key from the set. If the link of the node has changed
  -- since it was loaded, the compare-and-exchange fails, and the call starts again.
  pub row_9 : Does T 9 (λ l. Exchange (link_index l.curr) (2 * l.succ) (2 * l.succ + 1))
      (λ l seen. if seen == 2 * l.succ then on_to 10 l else on_to 1 l)
      (λ l. tells_where (2 * l.succ) false l)
  -- A `remove` attempts once to unlink the node that it has marked, and then ends. If the attempt fails, a later walk
  -- unlinks the node.
  pub row_10 : Does T 10 (λ l. Exchange (link_index l.pred) (2 * l.curr) (2 * l.succ)) (λ l seen. leaves_with True l) nothing
