-- The output and the ending of a whole run.
use Rattle.std.specs.Prelude.{ℕ, zero, suc, List, [], ◌++◌, Result, Ok, Err, true}
use Rattle.trac_rules.specs.declared.refusal.Refusal.{Refusal}
use Rattle.trac_rules.specs.declared.refusal.Refusal.TheVariants.{TooLong, Ended}
use Rattle.trac_rules.specs.declared.width.Width.{Width}
use Rattle.trac_rules.specs.State.{Environment, State, initial}
use Rattle.trac_rules.specs.Stepping.{step}

-- how a run ends: the budget of steps is spent, the input has ended (or the program halts), or a limit would be passed
pub data Stop : Type 0 where
  BudgetSpent : Stop
  InputEnded : Stop
  LimitPassed : Stop

pub record Output : Type 0 where
  pub bytes : List ℕ
  pub stop : Stop

-- on a tape that has ended a step is refused for a limit or for the end, and for nothing else
abbrev pub stop_of : Refusal → Stop
stop_of TooLong = LimitPassed
stop_of Ended = InputEnded
stop_of refusal = InputEnded

-- a state with its output emptied
abbrev pub silent : State → State
silent s = record s { output = [] }

-- after a step the output of its state and then that of the rest of the run; after a refusal nothing more
abbrev pub going_on : Result State Refusal → (State → Output) → Output
going_on (Ok t) rest = record { bytes = t.output ++ (rest t).bytes; stop = (rest t).stop }
going_on (Err refusal) rest = record { bytes = []; stop = stop_of refusal }

-- a run of at most so many steps from a state: the output is emptied before each step
unfoldable pub output_from : ℕ → Environment → State → Output
output_from zero environment s = record { bytes = []; stop = BudgetSpent }
output_from (suc n) environment s = going_on (step environment (silent s)) (λ t. output_from n environment t)

-- a run over the whole input with numbers of a width, within a budget of steps
abbrev pub output_of : Width → List ℕ → ℕ → Output
output_of width input budget =
    output_from budget (record { tape = record { bytes = input; ended = true }; width = width }) initial
