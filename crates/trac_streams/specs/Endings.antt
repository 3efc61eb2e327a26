-- How a run, the debugger and a walk end.
use Rattle.std.specs.Prelude.{ℕ}
use Rattle.trac_streams.specs.declared.ending.Ending.{Ending}
use Rattle.trac_streams.specs.declared.ending.Ending.TheVariants.{Ended, Budget, Limit, Memory, Read, Write}
use Rattle.trac_streams.specs.declared.ending.Ending.TheVariants.{NotUnderstood}

-- the exit status of the program
abbrev pub status_of : Ending → ℕ
status_of Ended = 0
status_of Budget = 3
status_of Limit = 4
status_of Memory = 5
status_of Read = 6
status_of Write = 7
status_of (NotUnderstood line) = 8
