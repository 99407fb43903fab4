-- The step table of LockFreeList (Harris's marks and Michael's unlinking of one node at a time, as Herlihy and Shavit
-- describe them).
use Rattle.std.specs.Prelude.{ℕ, ◌+◌, ◌*◌, ◌/◌, ◌%◌, Bool, true, false, if◌then◌else◌, Option, Some, None, ◌==◌, nat_lt}
use Rattle.lset_words.specs.declared.Key.{Key}
use Rattle.lset_words.specs.declared.Reply.TheVariants.{True}
use Rattle.lset_words.specs.Words.{key_index, link_index, key_of, target}
use Rattle.lset_steps.specs.declared.Local.{Local}
use Rattle.lset_steps.specs.declared.Action.{Action}
use Rattle.lset_steps.specs.declared.Action.TheVariants.{Load, Store, Exchange}
use Rattle.lset_steps.specs.declared.Fed.{Fed}
use Rattle.lset_steps.specs.declared.rows.Targets.{Targets}
use Rattle.lset_steps.specs.Steps.{Table}
use Rattle.lset_steps.specs.Rows.{own_slot, decided_on}
use Rattle.lset_steps.specs.ReadRows.{begun_reading, read_action, read_fed, continued, leaves_with}

-- The rows of the step table at which a call continues after its walk along the list: to add its key (`adds`) or to
-- remove its key (`removes`). A call that changes nothing ends at once (`leaves`, row 0).
abbrev pub targets : Targets
targets = record { adds = 5; removes = 8; leaves = 0 }

abbrev pub next_action : Local → Action
next_action l =
    if l.pc == 1 then Load (link_index 0)
    else if l.pc == 2 then Load (link_index l.curr)
    else if l.pc == 3 then Exchange (link_index l.pred) (2 * l.curr) (2 * l.succ)
    else if l.pc == 4 then Load (key_index l.curr)
    else if l.pc == 5 then Store (key_index (own_slot l)) (target l.call)
    else if l.pc == 6 then Store (link_index (own_slot l)) (2 * l.curr)
    else if l.pc == 7 then Exchange (link_index l.pred) (2 * l.curr) (2 * own_slot l)
    else if l.pc == 8 then Load (link_index l.curr)
    else if l.pc == 9 then Exchange (link_index l.curr) (2 * l.succ) (2 * l.succ + 1)
    else if l.pc == 10 then Exchange (link_index l.pred) (2 * l.curr) (2 * l.succ)
    else read_action l

-- Returns the outcome of the step that has loaded the link of curr. If the link has a mark, the call next attempts to
-- unlink curr. Otherwise the call next loads curr's key.
abbrev pub at_link : ℕ → Local → Fed
at_link seen l =
    if seen % 2 == 0 then continued (record l { pc = 4; succ = seen / 2 }) else continued (record l { pc = 3; succ = seen / 2 })

-- Returns the outcome of the final step of a walk along the list. The call ends with its reply, or continues at the row
-- of the step table that adds or removes its key.
abbrev pub decision_of : Local → Fed
decision_of l = record { local = l; answer = if l.pc == 0 then l.reply else None }

-- Returns the outcome of the step that has loaded curr's key. If the key of curr is smaller than the call's key, the
-- walk continues. Otherwise the call ends with a reply, or will change the set.
abbrev pub at_key : ℕ → Local → Fed
at_key seen l =
    if nat_lt seen (target l.call) then continued (record l { pc = 2; pred = l.curr; curr = l.succ })
    else decision_of (decided_on targets seen l)

-- Returns the outcome of a failed compare-and-exchange: the call starts its walk again from the head.
abbrev pub again : Local → Fed
again l = continued (record l { pc = 1 })

abbrev pub fed_by : Local → ℕ → Fed
fed_by l seen =
    if l.pc == 1 then continued (record l { pc = 2; pred = 0; curr = seen / 2 })
    else if l.pc == 2 then at_link seen l
    else if l.pc == 3 then (if seen == 2 * l.curr then continued (record l { pc = 2; curr = l.succ }) else again l)
    else if l.pc == 4 then at_key seen l
    else if l.pc == 5 then continued (record l { pc = 6 })
    else if l.pc == 6 then continued (record l { pc = 7 })
    else if l.pc == 7 then (if seen == 2 * l.curr then leaves_with True (record l { used = l.used + 1 }) else again l)
    else if l.pc == 8 then continued (record l { pc = 9; succ = seen / 2 })
    else if l.pc == 9 then (if seen == 2 * l.succ then continued (record l { pc = 10 }) else again l)
    else if l.pc == 10 then leaves_with True l
    else read_fed l seen

abbrev pub effect_of : Local → ℕ → Option (Key × Bool)
effect_of l seen =
    if l.pc == 7 then (if seen == 2 * l.curr then Some (key_of l.call, true) else None)
    else if l.pc == 9 then (if seen == 2 * l.succ then Some (key_of l.call, false) else None)
    else None

abbrev pub lock_free : Table
lock_free = record { marks = true; begin = begun_reading; next = next_action; feed = fed_by; effect = effect_of }
