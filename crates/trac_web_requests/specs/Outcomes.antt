-- How a request ended, as a number.
use Rattle.std.specs.Prelude.{ℕ}
use Rattle.trac_streams.specs.Endings.{status_of}
use Rattle.trac_web_requests.specs.declared.outcome.Outcome.{Outcome}
use Rattle.trac_web_requests.specs.declared.outcome.Outcome.TheVariants.{Ends, TooLong, WrongBudget, WrongJournal}
use Rattle.trac_web_requests.specs.declared.outcome.Outcome.TheVariants.{WrongDecimals, WrongPlace, NotReached}

-- the number that a host is told: the exit status of the program, or one after these
abbrev pub status_told : Outcome → ℕ
status_told (Ends ending) = status_of ending
status_told TooLong = 9
status_told WrongBudget = 10
status_told WrongJournal = 11
status_told WrongDecimals = 12
status_told WrongPlace = 13
status_told NotReached = 14
