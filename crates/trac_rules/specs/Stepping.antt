-- One step.
use Rattle.std.specs.Prelude.{List, ℕ, Option, None, Some, Result, Ok}
use Rattle.trac_rules.specs.declared.refusal.Refusal.{Refusal}
use Rattle.trac_rules.specs.State.{Environment, State}
use Rattle.trac_rules.specs.Scanning.{Scanned, Moves, Calls, scan}
use Rattle.trac_rules.specs.Effect.{argument}
use Rattle.trac_rules.specs.Performing.{after_call, performed}
use Rattle.trac_rules.specs.Limits.{texts_fit}
use Rattle.trac_rules.specs.Outcomes.{limited, seen_as}

-- what scanning and performing say, before the limits on texts, marks and output are looked at
abbrev pub carried_out : Environment → Scanned → Result State Refusal
carried_out environment (Moves t) = Ok t
carried_out environment (Calls call) = seen_as (after_call call) (performed environment call)

-- the state after a step, or why it is refused: only the state after the step is judged. Its forms and
-- blocks were judged when the call put one: if the state before is proper, that is the same as judging all of the state
-- after it
unfoldable pub step : Environment → State → Result State Refusal
step environment s = limited texts_fit (carried_out environment (scan s))

-- ---- the call at which a state stands

-- the name of the function that scanning asks for, if it asks for one
abbrev pub name_called : Scanned → Option (List ℕ)
name_called (Moves t) = None
name_called (Calls call) = Some (argument 0 call.arguments)

-- the name of the function that the next step would perform, if it would perform one
abbrev pub call_at : State → Option (List ℕ)
call_at s = name_called (scan s)
