-- Steps back over which a byte is followed without a look at where it comes from.
use Rattle.std.specs.Prelude.{◌≡◌, ℕ, length, Bool, Ok, Some}
use Rattle.trac_rules.specs.declared.item.Item.{Item}
use Rattle.trac_rules.specs.State.{Environment, State}
use Rattle.trac_rules.specs.Stepping.{step}
use Rattle.trac_origins.specs.Places.{Place, Carried, found_at}
use Rattle.trac_origins.specs.Stepping.{origin}
use Rattle.trac_follow_step.specs.Offsets.{IsPlaced}
use Rattle.trac_follow_step.specs.Places.{IsPassed}

-- what stands at a place after the step from a state stood there before it, what is known of the place stays known,
-- and the step does not pass it on
abbrev pub StaysAt : State → ℕ → Bool → Place → Type 0
StaysAt s bytes gap place = (environment : Environment) (t : State) (item : Item) →
    step environment s ≡ Ok t → found_at t place ≡ Some item → IsPlaced bytes gap t place →
    (origin environment s place ≡ Carried place) × IsPlaced bytes gap s place × (IsPassed s place place → ⊥)

-- what stands at a place here after the step from a state, which leaves so much of the active text, stood there before
-- it, whatever is known of that place, and the step does not pass it on
abbrev pub CameFrom : State → ℕ → Place → Place → Type 0
CameFrom s left here there = (environment : Environment) (t : State) (item : Item) → step environment s ≡ Ok t →
    left ≡ length t.active → found_at t here ≡ Some item → (origin environment s here ≡ Carried there)
    × ((bytes : ℕ) (gap : Bool) → IsPlaced bytes gap s there) × (IsPassed s here there → ⊥)
