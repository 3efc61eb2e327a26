-- Sessions whose states are steps of one another.
use Rattle.std.specs.Prelude.{◌≡◌, ◌≤◌, List, [], ◌∷◌, length, Ok}
use Rattle.trac_rules.specs.Session.{PlainSession, over}
use Rattle.trac_rules.specs.State.{Environment, State}
use Rattle.trac_rules.specs.Stepping.{step}

-- a state is the step from the one before it, and so on back to the first; the states before it come newest first
abbrev pub AreSteps : Environment → List State → State → Type 0
AreSteps environment [] t = Unit {0}
AreSteps environment (s ∷ earlier) t = (step environment s ≡ Ok t) × AreSteps environment earlier s

-- each state of a session but the first is the step from the one before it, over the tape as it is now; and there are
-- no more of them than the limit allows. So it is of every session that a new one becomes
-- (`trails::sessions_are_trails`)
pub record IsTrail (p : PlainSession) : Type 0 where
  pub steps : AreSteps (over p.width p.tape) p.earlier p.last
  pub within : length p.earlier ≤ p.limit
