-- Steps that pass a byte on, and such as do not.
use Rattle.std.specs.Prelude.{ℕ, ◌+◌, List, [], ◌∷◌, if◌then◌else◌}
use Rattle.trac_rules.specs.State.{Environment, State}
use Rattle.trac_origins.specs.Places.{Place, Origin, Carried}
use Rattle.trac_origins.specs.Stepping.{origin}
use Rattle.trac_follow_step.specs.Places.{IsPassed, is_passed}

-- the step from a state, by which what stands at a place has this origin, does not pass it on; if it
-- carried it, more holds of where from
abbrev pub UnpassedBy : State → Place → Origin → (Place → Type 0) → Type 0
UnpassedBy s place (Carried q) further = (IsPassed s place q → ⊥) × further q
UnpassedBy s place source further = Unit {0}

-- of the steps from these states, the newest first, none that carried what stands at a place passed it on
abbrev pub IsUnpassed : Environment → List State → Place → Type 0
IsUnpassed environment [] place = Unit {0}
IsUnpassed environment (s ∷ earlier) place =
    UnpassedBy s place (origin environment s place) (λ q. IsUnpassed environment earlier q)

-- ---- the calls that passed a byte on, one after another

-- a call on the way of a byte: the state that performs it next, over how many steps that is reached, and the place from
-- which the byte is followed to it: the one that is asked for, and later the one from which the call before had it
pub record Passing : Type 0 where
  pub state : State
  pub steps : ℕ
  pub from : Place

-- the call of a step that passed a byte on, and then those further back, with it followed from there. Only those
-- further back, if the step just carried it; none, if the step read it or made it
abbrev pub passed_by : State → ℕ → Place → Place → Origin → (Place → Place → List Passing) → List Passing
passed_by s steps from here (Carried there) further = if is_passed s here there
    then record { state = s; steps = steps; from = from } ∷ further there there else further from there
passed_by s steps from here source further = []

-- the calls on the way of what stands here, which is followed from a place over so many steps so far, and on over the
-- steps from these states, the newest first
abbrev pub passings : Environment → List State → ℕ → Place → Place → List Passing
passings environment [] steps from here = []
passings environment (s ∷ earlier) steps from here = passed_by s (steps + 1) from here (origin environment s here)
    (λ next there. passings environment earlier (steps + 1) next there)
