-- The errors that end the program. Each error has a message on stderr and an exit status.
use Rattle.std.specs.Prelude.{ℕ, List, ◌++◌, codes}
use Rattle.std.specs.Fmt.{decimal}
use Rattle.lset_text.specs.declared.causes.Cause.{Cause}
use Rattle.lset_text.specs.declared.causes.Cause.TheVariants as cause
use Rattle.lset_text.specs.declared.causes.LineFault.{LineFault}
use Rattle.lset_text.specs.Causes.{name_of}
use Rattle.lset_schedule.specs.declared.gen_fault.GenFault.{GenFault}
use Rattle.lset_schedule.specs.declared.gen_fault.GenFault.TheVariants as generator
use Rattle.tool_base.specs.declared.trouble.SystemCause.{SystemCause}
use Rattle.tool_base.specs.declared.trouble.SystemCause.TheVariants as system
use Rattle.tool_base.specs.declared.trouble.ValueName.{ValueName}
use Rattle.tool_base.specs.declared.trouble.ValueName.TheVariants as value
use Rattle.tool_base.specs.declared.trouble.Trouble.{Trouble}
use Rattle.tool_base.specs.declared.trouble.Trouble.TheVariants.{CannotRead, TooLong, CannotWrite, Memory, Line, Bad}
use Rattle.tool_base.specs.declared.trouble.Trouble.TheVariants.{CannotListen, Work, Serve}

-- Returns the error for a wrong line of an input. A failed allocation at a line becomes the error `Memory`, which does
-- not contain the line's number.
abbrev pub of_line : ℕ → Cause → Trouble
of_line number cause.Memory = Memory
of_line number c = Line number c

abbrev pub of_line_fault : LineFault → Trouble
of_line_fault fault = of_line fault.line fault.cause

-- Returns the program's error for an error of the generator of random schedules.
abbrev pub of_generator : GenFault → Trouble
of_generator generator.Threads = Bad value.Threads
of_generator generator.Quota = Bad value.Quota
of_generator generator.Keys = Bad value.Keys
of_generator generator.Memory = Memory

abbrev pub status_of : Trouble → ℕ
status_of Memory = 3
status_of (Bad wrong) = 2
status_of t = 1

abbrev pub value_word : ValueName → List ℕ
value_word value.Kind = codes "KIND"
value_word value.Threads = codes "THREADS"
value_word value.Quota = codes "QUOTA"
value_word value.Calls = codes "CALLS"
value_word value.Keys = codes "KEYS"
value_word value.Seed = codes "SEED"
value_word value.Lives = codes "LIVES"
value_word value.Seats = codes "SEATS"
value_word value.Port = codes "PORT"
value_word value.Sessions = codes "SESSIONS"
value_word value.Name = codes "NAME"
value_word value.Unbroken = codes "NAME: this example has no broken report"
value_word value.Lacks = codes "NAME: 'listset help replay' lists the names"
value_word value.From = codes "FROM"
value_word value.To = codes "TO"
value_word value.Width = codes "WIDTH"
value_word value.Key = codes "KEY"
value_word value.Cause = codes "CAUSE"

abbrev pub system_name : SystemCause → List ℕ
system_name system.Programs = codes "Programs"
system_name system.Gate = codes "Gate"
system_name system.Opening = codes "Opening"
system_name system.Seats = codes "Seats"
system_name system.Accept = codes "Accept"
system_name system.Spawn = codes "Spawn"
system_name system.Send = codes "Send"
system_name system.Left = codes "Left"

abbrev pub trouble_text : Trouble → List ℕ
trouble_text CannotRead = codes "listset: cannot read\n"
trouble_text TooLong = codes "listset: too long\n"
trouble_text CannotWrite = codes "listset: cannot write\n"
trouble_text Memory = codes "listset: out of memory\n"
trouble_text (Line number cause) = codes "listset: line " ++ decimal number ++ codes ": " ++ name_of cause ++ codes "\n"
trouble_text (Bad wrong) = codes "listset: bad " ++ value_word wrong ++ codes "\n"
trouble_text CannotListen = codes "listset: cannot listen\n"
trouble_text (Work name) = codes "listset: work: " ++ system_name name ++ codes "\n"
trouble_text (Serve name) = codes "listset: serve: " ++ system_name name ++ codes "\n"
