-- The step table of LazyList (Heller and others' lazy list, as Herlihy and Shavit describe it, with the mark in the
-- link word).
use Rattle.std.specs.Prelude.{ℕ, ◌+◌, ◌*◌, ◌/◌, ◌%◌, Bool, true, false, if◌then◌else◌, Option, Some, None, ◌==◌, nat_lt}
use Rattle.lset_words.specs.declared.Key.{Key}
use Rattle.lset_words.specs.declared.Reply.{Reply}
use Rattle.lset_words.specs.declared.Reply.TheVariants.{True}
use Rattle.lset_words.specs.Words.{key_index, link_index, lock_index, key_of, target}
use Rattle.lset_steps.specs.declared.Local.{Local}
use Rattle.lset_steps.specs.declared.Action.{Action}
use Rattle.lset_steps.specs.declared.Action.TheVariants.{Load, Store, Exchange}
use Rattle.lset_steps.specs.declared.Fed.{Fed}
use Rattle.lset_steps.specs.declared.rows.Targets.{Targets}
use Rattle.lset_steps.specs.Steps.{Table}
use Rattle.lset_steps.specs.Rows.{own_slot, decided_on}
use Rattle.lset_steps.specs.ReadRows.{begun_reading, read_action, read_fed, continued, leaves_with}

-- The rows of the step table at which a call continues after its walk along the list: to add its key (`adds`), to
-- remove its key (`removes`), or to end with its reply (`leaves`).
abbrev pub targets : Targets
targets = record { adds = 8; removes = 11; leaves = 13 }

abbrev pub next_action : Local → Action
next_action l =
    if l.pc == 1 then Load (link_index 0)
    else if l.pc == 2 then Load (key_index l.curr)
    else if l.pc == 3 then Load (link_index l.curr)
    else if l.pc == 4 then Exchange (lock_index l.pred) 0 (l.thread + 1)
    else if l.pc == 5 then Exchange (lock_index l.curr) 0 (l.thread + 1)
    else if l.pc == 6 then Load (link_index l.pred)
    else if l.pc == 7 then Load (link_index l.curr)
    else if l.pc == 8 then Store (key_index (own_slot l)) (target l.call)
    else if l.pc == 9 then Store (link_index (own_slot l)) (2 * l.curr)
    else if l.pc == 10 then Store (link_index l.pred) (2 * own_slot l)
    else if l.pc == 11 then Store (link_index l.curr) (2 * l.succ + 1)
    else if l.pc == 12 then Store (link_index l.pred) (2 * l.succ)
    else if l.pc == 13 then Store (lock_index l.curr) 0
    else if l.pc == 14 then Store (lock_index l.pred) 0
    else read_action l

-- Returns the thread's private state after the thread has loaded curr's key. If the key of curr is smaller than the
-- call's key, the walk continues. Otherwise the call takes the locks.
abbrev pub at_key : ℕ → Local → Local
at_key seen l = if nat_lt seen (target l.call) then record l { pc = 3; ckey = seen } else record l { pc = 4; ckey = seen }

-- Returns the thread's private state after validation has failed. The thread has no reply, and releases both locks
-- next.
abbrev pub gives_up : Local → Local
gives_up l = record l { pc = 13; reply = None }

-- Returns the thread's private state after it has loaded the link of pred, with both nodes locked. Validation fails
-- unless the link leads to curr and has no mark.
abbrev pub at_pred : ℕ → Local → Local
at_pred seen l = if seen == 2 * l.curr then record l { pc = 7 } else gives_up l

-- Returns the thread's private state after the thread has loaded the link of curr, with both nodes locked. Validation
-- fails if the link has a mark. Otherwise the call has a reply or will change the set.
abbrev pub at_curr : ℕ → Local → Local
at_curr seen l = if seen % 2 == 0 then decided_on targets l.ckey (record l { succ = seen / 2 }) else gives_up l

-- Returns the outcome of the step that releases the second lock: the call ends with its reply or, without a reply,
-- starts again.
abbrev pub released : Option Reply → Local → Fed
released None l = continued (record l { pc = 1 })
released (Some r) l = leaves_with r l

abbrev pub fed_by : Local → ℕ → Fed
fed_by l seen =
    if l.pc == 1 then continued (record l { pc = 2; pred = 0; curr = seen / 2 })
    else if l.pc == 2 then continued (at_key seen l)
    else if l.pc == 3 then continued (record l { pc = 2; pred = l.curr; curr = seen / 2 })
    else if l.pc == 4 then continued (if seen == 0 then record l { pc = 5 } else record l { pc = 4 })
    else if l.pc == 5 then continued (if seen == 0 then record l { pc = 6 } else record l { pc = 5 })
    else if l.pc == 6 then continued (at_pred seen l)
    else if l.pc == 7 then continued (at_curr seen l)
    else if l.pc == 8 then continued (record l { pc = 9 })
    else if l.pc == 9 then continued (record l { pc = 10 })
    else if l.pc == 10 then continued (record l { pc = 13; reply = Some True; used = l.used + 1 })
    else if l.pc == 11 then continued (record l { pc = 12 })
    else if l.pc == 12 then continued (record l { pc = 13; reply = Some True })
    else if l.pc == 13 then continued (record l { pc = 14 })
    else if l.pc == 14 then released l.reply l
    else read_fed l seen

abbrev pub effect_of : Local → ℕ → Option (Key × Bool)
effect_of l seen = if l.pc == 10 then Some (key_of l.call, true) else if l.pc == 11 then Some (key_of l.call, false) else None

abbrev pub lazy : Table
lazy = record { marks = true; begin = begun_reading; next = next_action; feed = fed_by; effect = effect_of }
