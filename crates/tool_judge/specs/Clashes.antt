-- The lines that `judge` prints for a contradiction about a key, byte by byte. In a contradiction, one call leaves the
-- key present or absent, the next call needs the key in the opposite state, and no call can change the key between the
-- two calls.
use Rattle.std.specs.Prelude.{ℕ, Bool, true, false, if◌then◌else◌, nat_le, List, ◌++◌, codes, Option, Some, None}
use Rattle.std.specs.Fmt.{decimal}
use Rattle.lset_words.specs.declared.Call.{Call}
use Rattle.lset_words.specs.declared.Call.TheVariants.{Add, Remove}
use Rattle.lset_words.specs.declared.Reply.{Reply}
use Rattle.lset_words.specs.declared.Reply.TheVariants.{True}
use Rattle.lset_words.specs.declared.effect.Presence.{Presence}
use Rattle.lset_words.specs.declared.effect.Presence.TheVariants.{Present, Absent}
use Rattle.lset_words.specs.Words.{key_of}
use Rattle.lset_text.specs.Spellings as words
use Rattle.lset_judge.specs.declared.stream.StreamCall.{StreamCall}
use Rattle.lset_judge.specs.declared.clash.Clash.{Clash}
use Rattle.lset_judge.specs.Clash as clash

abbrev pub other : Presence → Presence
other there = clash.other there

abbrev pub state_word : Presence → List ℕ
state_word Present = codes "present"
state_word Absent = codes "absent"

-- Returns whether a call is an add or remove that returned true.
abbrev pub is_change : Call → Option (ℕ × Reply) → Bool
is_change (Add k) (Some (end, True)) = true
is_change (Remove k) (Some (end, True)) = true
is_change c ended = false

-- Returns the state (present or absent) that a call needs its key to have. `leaves` is the state after the call. If the
-- call changes the key, the result is the opposite of `leaves`; otherwise it is `leaves` itself.
abbrev pub need_of : Bool → Presence → Presence
need_of changes leaves = if changes then other leaves else leaves

abbrev pub end_of : ℕ → Option (ℕ × Reply) → ℕ
end_of begun None = begun
end_of begun (Some e) = e.0

-- Returns whether the second call starts at or before the end of the first, or the first call is pending.
abbrev pub overlap : Option (ℕ × Reply) → ℕ → Bool
overlap None begun = true
overlap (Some e) begun = nat_le begun e.0

-- ---- The text of a call: its thread, operation, key, reply, start and end
abbrev pub thread_text : ℕ → List ℕ
thread_text thread = codes "thread " ++ decimal thread ++ codes " "

abbrev pub key_text : ℕ → List ℕ
key_text key = codes " " ++ decimal key

abbrev pub reply_text : Reply → List ℕ
reply_text reply = words.reply_text reply

abbrev pub between : ℕ → ℕ → List ℕ
between from to = decimal from ++ codes " to " ++ decimal to

abbrev pub end_text : ℕ → Option (ℕ × Reply) → List ℕ
end_text begun None = codes ", pending since " ++ decimal begun ++ codes ", "
end_text begun (Some e) = codes " " ++ reply_text e.1 ++ codes ", " ++ between begun e.0 ++ codes ", "

unfoldable pub made_text : StreamCall → List ℕ
made_text x = thread_text x.thread ++ words.call_text x.call ++ key_text (key_of x.call).0 ++ end_text x.begun x.ended

-- ---- Contradictions between calls that do not overlap, or between a call and the key's first or final state

abbrev pub leaves_text : ℕ → Presence → List ℕ
leaves_text key Present = codes "leaves key " ++ decimal key ++ codes " present,\n"
leaves_text key Absent = codes "leaves key " ++ decimal key ++ codes " absent,\n"

abbrev pub needs_text : ℕ → Presence → List ℕ
needs_text key Present = codes "needs key " ++ decimal key ++ codes " present,\n"
needs_text key Absent = codes "needs key " ++ decimal key ++ codes " absent,\n"

abbrev pub opening_text : ℕ → Presence → List ℕ
opening_text key Present = codes "contradiction: key " ++ decimal key ++ codes " is present at first,\n"
opening_text key Absent = codes "contradiction: key " ++ decimal key ++ codes " is absent at first,\n"

abbrev pub final_text : ℕ → Presence → List ℕ
final_text key Present = codes "  key " ++ decimal key ++ codes " is present at the end,\n"
final_text key Absent = codes "  key " ++ decimal key ++ codes " is absent at the end,\n"

abbrev pub first_line : ℕ → Presence → Option StreamCall → List ℕ
first_line key was None = opening_text key was
first_line key was (Some x) = codes "contradiction: " ++ made_text x ++ leaves_text key was

abbrev pub second_line : ℕ → Presence → Option StreamCall → List ℕ
second_line key need None = final_text key need
second_line key need (Some y) = codes "  " ++ made_text y ++ needs_text key need

abbrev pub no_change : ℕ → Presence → List ℕ
no_change key Present = codes "  and no add " ++ decimal key ++ codes " "
no_change key Absent = codes "  and no remove " ++ decimal key ++ codes " "

abbrev pub overlaps_text : ℕ → ℕ → List ℕ
overlaps_text from to = codes "that returned true or is pending overlaps " ++ between from to ++ codes "\n"

abbrev pub begins_text : ℕ → List ℕ
begins_text to = codes "that returned true or is pending begins before " ++ decimal to ++ codes "\n"

abbrev pub ends_text : ℕ → List ℕ
ends_text from = codes "that returned true ends after " ++ decimal from ++ codes ", and none is pending\n"

abbrev pub time_text : Option StreamCall → Option StreamCall → List ℕ
time_text (Some x) (Some y) = overlaps_text x.begun (end_of y.begun y.ended)
time_text None (Some y) = begins_text (end_of y.begun y.ended)
time_text (Some x) None = ends_text x.begun
time_text None None = codes "returned true or is pending\n"

abbrev pub third_line : ℕ → Presence → Option StreamCall → Option StreamCall → List ℕ
third_line key need first second = no_change key need ++ time_text first second

abbrev pub lines_in_order : ℕ → Presence → Option StreamCall → Option StreamCall → List ℕ
lines_in_order key was first second =
    first_line key was first ++ second_line key (other was) second ++ third_line key (other was) first second

-- ---- Contradictions between two overlapping calls

abbrev pub needs_key : ℕ → List ℕ
needs_key key = codes "needs key " ++ decimal key ++ codes " "

unfoldable pub needs_and_leaves : ℕ → Presence → Presence → List ℕ
needs_and_leaves key need leaves = needs_key key ++ state_word need ++ codes " and leaves it " ++ state_word leaves ++ codes ",\n"

abbrev pub nor_text : Presence → List ℕ
nor_text Present = codes ", and no such add overlaps "
nor_text Absent = codes ", and no such remove overlaps "

-- Two parts of the text about two overlapping calls: no call changes the key between the two calls. `turned_there` is
-- for the case that the first call takes effect first, `turned_back` for the case that the second call does.
unfoldable pub turned_there : ℕ → Presence → ℕ → ℕ → List ℕ
turned_there key need from to = no_change key need ++ codes "that returned true or is pending overlaps " ++ between from to

unfoldable pub turned_back : Presence → ℕ → ℕ → List ℕ
turned_back back from to = nor_text back ++ between from to ++ codes "\n"

unfoldable pub turned_first : ℕ → Presence → Presence → StreamCall → List ℕ
turned_first key need was x = codes "contradiction in both orders: " ++ made_text x ++ needs_and_leaves key need was

unfoldable pub turned_second : ℕ → Presence → Presence → StreamCall → List ℕ
turned_second key need left y = codes "  " ++ made_text y ++ needs_and_leaves key need left

abbrev pub lines_turned : ℕ → Presence → StreamCall → StreamCall → List ℕ
lines_turned key was x y = turned_first key (need_of (is_change x.call x.ended) was) was x
    ++ turned_second key (other was) (need_of (is_change y.call y.ended) (other was)) y
    ++ turned_there key (other was) x.begun (end_of y.begun y.ended)
    ++ turned_back (need_of (is_change x.call x.ended) was) y.begun (end_of x.begun x.ended)

-- Returns the lines of a contradiction about a key. If the two calls overlap, the lines describe both orders of the two
-- calls.
abbrev pub lines_of : ℕ → Presence → Option StreamCall → Option StreamCall → List ℕ
lines_of key was (Some x) (Some y) = if overlap x.ended y.begun then lines_turned key was x y else lines_in_order key was (Some x) (Some y)
lines_of key was first second = lines_in_order key was first second

abbrev pub clash_lines : ℕ → Clash → List ℕ
clash_lines key c = lines_of key c.was c.first c.second
