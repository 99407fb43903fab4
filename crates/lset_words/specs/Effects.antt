-- The effect of a completed call: its reply shows that the call changed its key, or that the call found its key present
-- or absent.
use Rattle.std.specs.Prelude.{Bool, true, false}
use Rattle.lset_words.specs.declared.Call.{Call}
use Rattle.lset_words.specs.declared.Call.TheVariants.{Add, Remove, Contains}
use Rattle.lset_words.specs.declared.Reply.{Reply}
use Rattle.lset_words.specs.declared.Reply.TheVariants.{True, False, Full}
use Rattle.lset_words.specs.declared.effect.Presence.{Presence}
use Rattle.lset_words.specs.declared.effect.Presence.TheVariants.{Present, Absent}
use Rattle.lset_words.specs.declared.effect.Effect.{Effect}
use Rattle.lset_words.specs.declared.effect.Effect.TheVariants.{Changes, Sees, Other}

abbrev pub presence : Bool → Presence
presence true = Present
presence false = Absent

abbrev pub is_there : Presence → Bool
is_there Present = true
is_there Absent = false

-- Returns the effect of a call with the given reply: the call changed its key, or found its key present or absent. The
-- effect is `Other` if the reply shows nothing about the key.
abbrev pub effect_of : Call → Reply → Effect
effect_of (Add k) True = Changes Present
effect_of (Add k) False = Sees Present
effect_of (Add k) Full = Sees Absent
effect_of (Remove k) True = Changes Absent
effect_of (Remove k) False = Sees Absent
effect_of (Contains k) True = Sees Present
effect_of (Contains k) False = Sees Absent
effect_of c r = Other
