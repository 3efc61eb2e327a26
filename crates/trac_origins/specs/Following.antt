-- Following a byte back over many steps.
use Rattle.std.specs.Prelude.{ℕ, zero, suc, List, [], ◌∷◌}
use Rattle.trac_rules.specs.State.{Environment, State}
use Rattle.trac_origins.specs.Places.{Place, Origin, Carried}
use Rattle.trac_origins.specs.Stepping.{origin}

-- how many steps carried a byte, from the last one back, and where it comes from by the step before these. If all steps
-- carried it, its place before them
pub record Followed : Type 0 where
  pub carried : ℕ
  pub origin : Origin

-- one step more carried it
abbrev pub one_more : Followed → Followed
one_more f = record f { carried = suc f.carried }

-- from where a step carried it, a byte is followed further
abbrev pub going_back : Origin → (Place → Followed) → Followed
going_back (Carried place) further = one_more (further place)
going_back source further = record { carried = 0; origin = source }

-- what stands at a place, followed back over the steps from these states, the newest first
abbrev pub followed : Environment → List State → Place → Followed
followed environment [] place = record { carried = 0; origin = Carried place }
followed environment (s ∷ earlier) place = going_back (origin environment s place) (λ q. followed environment earlier q)

-- the state so many steps before one, the states before it given, the newest first
abbrev pub state_back : ℕ → State → List State → State
state_back zero t earlier = t
state_back (suc n) t [] = t
state_back (suc n) t (s ∷ earlier) = state_back n s earlier
