-- The step table of FineList (Herlihy and Shavit's fine-grained list).
use Rattle.std.specs.Prelude.{ℕ, ◌+◌, ◌*◌, ◌/◌, Bool, true, false, if◌then◌else◌, Option, Some, None, ◌==◌, nat_lt}
use Rattle.lset_words.specs.declared.Key.{Key}
use Rattle.lset_words.specs.declared.Reply.TheVariants.{True}
use Rattle.lset_words.specs.Words.{key_index, link_index, lock_index, key_of, target}
use Rattle.lset_steps.specs.declared.Local.{Local}
use Rattle.lset_steps.specs.declared.Action.{Action}
use Rattle.lset_steps.specs.declared.Action.TheVariants.{Load, Store, Exchange}
use Rattle.lset_steps.specs.declared.Fed.{Fed}
use Rattle.lset_steps.specs.declared.rows.Targets.{Targets}
use Rattle.lset_steps.specs.Steps.{Table}
use Rattle.lset_steps.specs.Rows.{own_slot, begun, decided_on}

-- The rows of the step table at which a call continues after its walk along the list: to add its key (`adds`), to
-- remove its key (`removes`), or to end with its reply (`leaves`).
abbrev pub targets : Targets
targets = record { adds = 7; removes = 10; leaves = 12 }

abbrev pub next_action : Local → Action
next_action l =
    if l.pc == 1 then Exchange (lock_index 0) 0 (l.thread + 1)
    else if l.pc == 2 then Load (link_index 0)
    else if l.pc == 3 then Exchange (lock_index l.curr) 0 (l.thread + 1)
    else if l.pc == 4 then Load (key_index l.curr)
    else if l.pc == 5 then Store (lock_index l.pred) 0
    else if l.pc == 6 then Load (link_index l.curr)
    else if l.pc == 7 then Store (key_index (own_slot l)) (target l.call)
    else if l.pc == 8 then Store (link_index (own_slot l)) (2 * l.curr)
    else if l.pc == 9 then Store (link_index l.pred) (2 * own_slot l)
    else if l.pc == 10 then Load (link_index l.curr)
    else if l.pc == 11 then Store (link_index l.pred) (2 * l.succ)
    else if l.pc == 12 then Store (lock_index l.curr) 0
    else Store (lock_index l.pred) 0

-- Returns the thread's private state after the thread has loaded `seen`, the key of `curr`. If `seen` is smaller than
-- the call's key, the walk continues. Otherwise the call has a reply or will change the set.
abbrev pub at_key : ℕ → Local → Local
at_key seen l =
    if nat_lt seen (target l.call) then record l { pc = 5; ckey = seen }
    else decided_on targets seen (record l { ckey = seen })

abbrev pub local_after : Local → ℕ → Local
local_after l seen =
    if l.pc == 1 then (if seen == 0 then record l { pc = 2; pred = 0 } else record l { pc = 1 })
    else if l.pc == 2 then record l { pc = 3; curr = seen / 2 }
    else if l.pc == 3 then (if seen == 0 then record l { pc = 4 } else record l { pc = 3 })
    else if l.pc == 4 then at_key seen l
    else if l.pc == 5 then record l { pc = 6 }
    else if l.pc == 6 then record l { pc = 3; pred = l.curr; curr = seen / 2 }
    else if l.pc == 7 then record l { pc = 8 }
    else if l.pc == 8 then record l { pc = 9 }
    else if l.pc == 9 then record l { pc = 12; reply = Some True; used = l.used + 1 }
    else if l.pc == 10 then record l { pc = 11; succ = seen / 2 }
    else if l.pc == 11 then record l { pc = 12; reply = Some True }
    else if l.pc == 12 then record l { pc = 13 }
    else record l { pc = 0 }

abbrev pub fed_by : Local → ℕ → Fed
fed_by l seen = record { local = local_after l seen; answer = if l.pc == 13 then l.reply else None }

abbrev pub effect_of : Local → ℕ → Option (Key × Bool)
effect_of l seen = if l.pc == 9 then Some (key_of l.call, true) else if l.pc == 11 then Some (key_of l.call, false) else None

abbrev pub fine : Table
fine = record { marks = false; begin = begun 1; next = next_action; feed = fed_by; effect = effect_of }
