-- The rows of a step table for a `contains` and a `ceiling` that take no lock and write nothing (Herlihy and Shavit's
-- wait-free `contains`). Rows 20 and 23 load the link of a node, rows 21 and 24 load the key of the next node, and rows
-- 22 and 25 load the mark of the node where the walk stops.
use Rattle.std.specs.Prelude.{ℕ, ◌/◌, ◌%◌, if◌then◌else◌, Some, None, ◌==◌, nat_lt}
use Rattle.lset_words.specs.declared.Call.{Call}
use Rattle.lset_words.specs.declared.Call.TheVariants.{Add, Remove, Contains, Ceiling}
use Rattle.lset_words.specs.declared.Reply.{Reply}
use Rattle.lset_words.specs.declared.Reply.TheVariants.{True, False, Nothing}
use Rattle.lset_words.specs.Words.{key_index, link_index, tail_word, target}
use Rattle.lset_steps.specs.declared.Local.{Local}
use Rattle.lset_steps.specs.declared.Action.{Action}
use Rattle.lset_steps.specs.declared.Action.TheVariants.{Load}
use Rattle.lset_steps.specs.declared.Fed.{Fed}
use Rattle.lset_steps.specs.Rows.{begun, ceiling_at}

-- Returns the first row of a call in the step table: 20 for `contains`, 23 for `ceiling`, 1 for `add` and `remove`.
abbrev pub first_row : Call → ℕ
first_row (Add k) = 1
first_row (Remove k) = 1
first_row (Contains k) = 20
first_row (Ceiling k) = 23

abbrev pub begun_reading : Call → Local → Local
begun_reading call l = begun (first_row call) call l

abbrev pub read_action : Local → Action
read_action l =
    if l.pc == 21 then Load (key_index l.curr)
    else if l.pc == 24 then Load (key_index l.curr)
    else Load (link_index l.curr)

abbrev pub continued : Local → Fed
continued l = record { local = l; answer = None }

abbrev pub leaves_with : Reply → Local → Fed
leaves_with r l = record { local = record l { pc = 0 }; answer = Some r }

abbrev pub read_key : Local → ℕ → Fed
read_key l seen =
    if nat_lt seen (target l.call) then continued (record l { pc = 20 })
    else if seen == target l.call then continued (record l { pc = 22 })
    else leaves_with False l

abbrev pub read_mark : Local → ℕ → Fed
read_mark l seen = if seen % 2 == 0 then leaves_with True l else leaves_with False l

-- Returns the next state of a `ceiling` that has read a key word. If the key is smaller than the call's key, the call
-- continues with the next node. At the tail, the call replies `Nothing`. Otherwise, the call loads the node's mark.
abbrev pub ceiling_key : Local → ℕ → Fed
ceiling_key l seen =
    if nat_lt seen (target l.call) then continued (record l { pc = 23; ckey = seen })
    else if seen == tail_word then leaves_with Nothing (record l { ckey = seen })
    else continued (record l { pc = 25; ckey = seen })

-- Returns the next state of a `ceiling` that has stopped at a node and read its mark. The call replies with the node's
-- key or, if the node is marked, starts again from the head.
abbrev pub ceiling_mark : Local → ℕ → Fed
ceiling_mark l seen = if seen % 2 == 0 then leaves_with (ceiling_at l.ckey) l else continued (record l { pc = 23; curr = 0 })

abbrev pub read_fed : Local → ℕ → Fed
read_fed l seen =
    if l.pc == 20 then continued (record l { pc = 21; curr = seen / 2 })
    else if l.pc == 21 then read_key l seen
    else if l.pc == 23 then continued (record l { pc = 24; curr = seen / 2 })
    else if l.pc == 24 then ceiling_key l seen
    else if l.pc == 25 then ceiling_mark l seen
    else read_mark l seen
