-- The step table of OptimisticList (Herlihy and Shavit's optimistic list).
use Rattle.std.specs.Prelude.{ℕ, ◌+◌, ◌*◌, ◌/◌, Bool, true, false, if◌then◌else◌, Option, Some, None, ◌==◌, nat_lt}
use Rattle.lset_words.specs.declared.Key.{Key}
use Rattle.lset_words.specs.declared.Reply.{Reply}
use Rattle.lset_words.specs.declared.Reply.TheVariants.{True}
use Rattle.lset_words.specs.Words.{key_index, link_index, lock_index, key_of, target}
use Rattle.lset_steps.specs.declared.Local.{Local}
use Rattle.lset_steps.specs.declared.Action.{Action}
use Rattle.lset_steps.specs.declared.Action.TheVariants.{Load, Store, Exchange}
use Rattle.lset_steps.specs.declared.Fed.{Fed}
use Rattle.lset_steps.specs.declared.rows.Targets.{Targets}
use Rattle.lset_steps.specs.Steps.{Table}
use Rattle.lset_steps.specs.Rows.{own_slot, begun, decided_on}

-- The rows of the step table at which a call continues after its walks along the list: an `add` adds its key from row 9
-- on, a `remove` removes its key from row 12 on, and a call that already has its reply continues at row 14.
abbrev pub targets : Targets
targets = record { adds = 9; removes = 12; leaves = 14 }

abbrev pub next_action : Local → Action
next_action l =
    if l.pc == 1 then Load (link_index 0)
    else if l.pc == 2 then Load (key_index l.curr)
    else if l.pc == 3 then Load (link_index l.curr)
    else if l.pc == 4 then Exchange (lock_index l.pred) 0 (l.thread + 1)
    else if l.pc == 5 then Exchange (lock_index l.curr) 0 (l.thread + 1)
    else if l.pc == 6 then Load (link_index l.node)
    else if l.pc == 7 then Load (key_index l.node)
    else if l.pc == 8 then Load (link_index l.pred)
    else if l.pc == 9 then Store (key_index (own_slot l)) (target l.call)
    else if l.pc == 10 then Store (link_index (own_slot l)) (2 * l.curr)
    else if l.pc == 11 then Store (link_index l.pred) (2 * own_slot l)
    else if l.pc == 12 then Load (link_index l.curr)
    else if l.pc == 13 then Store (link_index l.pred) (2 * l.succ)
    else if l.pc == 14 then Store (lock_index l.pred) 0
    else Store (lock_index l.curr) 0

-- Returns the thread's private state after the thread has loaded curr's key. If the key of curr is smaller than the
-- call's key, the walk continues. Otherwise the call takes the locks.
abbrev pub at_key : ℕ → Local → Local
at_key seen l = if nat_lt seen (target l.call) then record l { pc = 3; ckey = seen } else record l { pc = 4; ckey = seen }

-- Returns the thread's private state after the thread has taken both locks. The second walk then begins at the head. If
-- pred is the head, the second walk has already arrived.
abbrev pub at_locks : Local → Local
at_locks l = if l.pred == 0 then record l { pc = 8; node = 0 } else record l { pc = 6; node = 0 }

-- Returns the thread's private state after validation has failed. The thread has no reply, and next releases both
-- locks.
abbrev pub gives_up : Local → Local
gives_up l = record l { pc = 14; reply = None }

-- Returns the thread's private state after the second walk has loaded the key of `node`. Validation fails if the key of
-- `node` is greater than the key of pred. If `node` is pred, the second walk has arrived.
abbrev pub at_node : ℕ → Local → Local
at_node seen l =
    if nat_lt l.pkey seen then gives_up l
    else if l.node == l.pred then record l { pc = 8 }
    else record l { pc = 6 }

-- Returns the thread's private state after the second walk has arrived at pred and loaded pred's link. If the link
-- points to curr, the call has a reply or will change the set. Otherwise validation fails.
abbrev pub at_link : ℕ → Local → Local
at_link seen l = if seen / 2 == l.curr then decided_on targets l.ckey l else gives_up l

-- Returns the thread's private state after the thread has released both locks. A call without a reply starts again at
-- row 1 of the step table.
abbrev pub at_end : Option Reply → Local → Local
at_end None l = record l { pc = 1 }
at_end (Some reply) l = record l { pc = 0 }

abbrev pub local_after : Local → ℕ → Local
local_after l seen =
    if l.pc == 1 then record l { pc = 2; pred = 0; pkey = 0; curr = seen / 2 }
    else if l.pc == 2 then at_key seen l
    else if l.pc == 3 then record l { pc = 2; pred = l.curr; pkey = l.ckey; curr = seen / 2 }
    else if l.pc == 4 then (if seen == 0 then record l { pc = 5 } else record l { pc = 4 })
    else if l.pc == 5 then (if seen == 0 then at_locks l else record l { pc = 5 })
    else if l.pc == 6 then record l { pc = 7; node = seen / 2 }
    else if l.pc == 7 then at_node seen l
    else if l.pc == 8 then at_link seen l
    else if l.pc == 9 then record l { pc = 10 }
    else if l.pc == 10 then record l { pc = 11 }
    else if l.pc == 11 then record l { pc = 14; reply = Some True; used = l.used + 1 }
    else if l.pc == 12 then record l { pc = 13; succ = seen / 2 }
    else if l.pc == 13 then record l { pc = 14; reply = Some True }
    else if l.pc == 14 then record l { pc = 15 }
    else at_end l.reply l

abbrev pub fed_by : Local → ℕ → Fed
fed_by l seen = record { local = local_after l seen; answer = if l.pc == 15 then l.reply else None }

abbrev pub effect_of : Local → ℕ → Option (Key × Bool)
effect_of l seen =
    if l.pc == 11 then Some (key_of l.call, true) else if l.pc == 13 then Some (key_of l.call, false) else None

abbrev pub optimistic : Table
optimistic = record { marks = false; begin = begun 1; next = next_action; feed = fed_by; effect = effect_of }
