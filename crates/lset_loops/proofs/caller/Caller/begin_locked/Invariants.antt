use Rattle.lset_loops.proofs.caller.Caller.begin_locked.Given as goal

abbrev pub ghosts-start_on : goal.ghosts-start_on
ghosts-start_on g a = record { call = a.call }
