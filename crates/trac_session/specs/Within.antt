-- Walks that stop once the records weigh enough.
use Rattle.std.specs.Prelude.{◌≡◌, ℕ, ◌<◌, ◌≤◌, nat_lt, ◌&&◌, List, drop, MatchOption, Option, None, Some}
use Rattle.trac_rules.specs.declared.refusal.Refusal.{Refusal}
use Rattle.trac_rules.specs.Session.{PlainSession, Command, Goal, Step, IsWalk}
use Rattle.trac_rules.specs.State.{State}
use Rattle.trac_rules.specs.Weights.{weights_from}
use Rattle.trac_session.specs.Goals.{outcome}

-- the records of these states weigh more than that, if a weight is given
abbrev pub IsHeavy : Option ℕ → List State → Type 0
IsHeavy None states = ⊥
IsHeavy (Some most) states = most < weights_from states

-- they do not
abbrev pub IsLight : Option ℕ → List State → Type 0
IsLight None states = Unit {0}
IsLight (Some most) states = weights_from states ≤ most

-- a walk of at most n steps to a goal that stops also if the records weigh more than that. It is a walk of as many
-- steps as were allowed to it. These are fewer than n only if it took one at least and the records weigh more after the
-- last of them. Before that one they did not, if it was not the first
pub record IsWalkUnder (weight : Option ℕ) (command : Command) (goal : Goal) (n : ℕ) (old : PlainSession) (steps : ℕ)
    (why : Option Refusal) (new : PlainSession) : Type 0 where
  pub allowed : ℕ
  pub within : allowed ≤ n
  pub walk : IsWalk command goal allowed old steps why new
  pub heavy : allowed < n → (0 < allowed) × IsHeavy weight new.earlier
  pub light : 1 < steps → IsLight weight (drop 1 new.earlier)
  -- a refusal ends it only if the records do not weigh too much, or if it took no step
  pub refused : MatchOption why (Unit {0}) (λ refusal. 0 < steps → IsLight weight new.earlier)

-- such a walk forward, to which a weight is given
abbrev pub IsWalkWithin : ℕ → Goal → ℕ → PlainSession → ℕ → Option Refusal → PlainSession → Type 0
IsWalkWithin most = IsWalkUnder (Some most) Step

-- a search is such a walk, as a search without that stop is a walk. If its steps were taken and the goal is not met, it
-- says so
abbrev pub IsSearchWithin : ℕ → Goal → ℕ → PlainSession → ℕ → Option Refusal → PlainSession → Type 0
IsSearchWithin most goal n old steps why new = (ended : Option Refusal) × IsWalkWithin most goal n old steps ended new
    × (why ≡ outcome (nat_lt 0 steps && goal new.last) ended)
