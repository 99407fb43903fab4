-- The effect of an event on the world of a list: the list's shared words and the private states of its threads.
use Rattle.std.specs.Prelude.{◌≡◌, Result, Ok, Err}
use Rattle.lset_text.specs.declared.causes.Cause.{Cause}
use Rattle.lset_text.specs.declared.causes.Cause.TheVariants as cause
use Rattle.lset_steps.specs.declared.Event.{Event}
use Rattle.lset_steps.specs.declared.Told.{Told}
use Rattle.lset_steps.specs.declared.world.StepFault.TheVariants as step
use Rattle.lset_steps.specs.Steps.{Table, Enabled, after, told}
use Rattle.lset_steps.specs.Worlds.{WorldState, Refused}

-- Holds if an event has the given effect on the world `w` (the words and threads of a list). An enabled event is
-- executed, and its effect is returned. Any other event changes nothing, and an error is returned.
abbrev pub HasMade : Table → WorldState → Event → Result Told Cause → WorldState → Type 0
HasMade T w e (Ok answer) w' = Enabled w.state e × (w' ≡ record w { state = after T w.state e }) × (answer ≡ told T w.state e)
HasMade T w e (Err cause.NoThread) w' = Refused w e step.NoThread × (w' ≡ w)
HasMade T w e (Err cause.Busy) w' = Refused w e step.Busy × (w' ≡ w)
HasMade T w e (Err cause.Idle) w' = Refused w e step.Idle × (w' ≡ w)
HasMade T w e (Err other) w' = ⊥
