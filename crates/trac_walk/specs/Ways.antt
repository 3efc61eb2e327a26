-- What is said of the way of a byte: the calls that passed it on, each with the number of its step and what it did.
use Rattle.std.specs.Prelude.{◌≡◌, ◌≢◌, ◌+◌, ◌-◌, ◌^◌, ◌++◌, ℕ, List, [], ◌∷◌, length, map, min, nat_lt, take}
use Rattle.std.specs.Prelude.{if◌then◌else◌}
use Rattle.trac_person_lines.specs.declared.way.Treatment.{Treatment}
use Rattle.trac_person_lines.specs.declared.way.Treatment.TheVariants.{Prints, Puts, Gives}
use Rattle.trac_origins.specs.Places.{Place, InArgument, InForm, InHeld, InOutput}
use Rattle.trac_follow.specs.declared.tracing.End.{End}
use Rattle.trac_follow.specs.declared.tracing.End.TheVariants.{Untold}
use Rattle.trac_follow.specs.Passing.{Passing}
use Rattle.trac_replies.specs.declared.telling.TheConstants.{LINE_COUNT}
use Rattle.trac_walk.specs.declared.calls_told.TheConstants.{FIRST_COUNT}
use Rattle.trac_walk.specs.declared.calls_told.Told.{Told}
use Rattle.trac_walk.specs.declared.calls_told.Way.{Way}

-- a step, by its number, and what it did with a byte
pub record Deed : Type 0 where
  pub step : ℕ
  pub done : Treatment

-- what a call did with a byte that is here after it
abbrev pub deed_at : Place → Treatment
deed_at (InOutput i) = Prints
deed_at (InForm name i) = Puts
deed_at (InHeld number name i) = Puts
deed_at place = Gives

-- what a call did that passed a byte on, if the way begins at the step of this number
abbrev pub deed_of : ℕ → Passing → Deed
deed_of step call = record { step = step - call.steps; done = deed_at call.from }

-- the deeds that are said, one in a line
abbrev pub deeds_said : {A : Type 0} → Way A → List Deed
deeds_said {A} way = map (λ (told : Told A). record { step = told.step; done = told.deed }) way.told.items

-- all of so many calls, if they are few enough; else the first of them
abbrev pub shown : {X : Type 0} → ℕ → List X → List X
shown count calls = if nat_lt count LINE_COUNT then calls else take FIRST_COUNT calls

-- after one call more it is counted, and said after those before; or, if they are too many, the first of these alone
-- are
pub record Tells {A : Type 0} (old : Way A) (call : Passing) (new : Way A) : Type 0 where
  pub begins : new.step ≡ old.step
  pub count : new.count ≡ min (old.count + 1) (2 ^ 64 - 1)
  pub said : deeds_said new ≡ (if nat_lt new.count LINE_COUNT then deeds_said old ++ deed_of old.step call ∷ []
      else take FIRST_COUNT (deeds_said old))

-- of these calls, on a way that begins at the step of this number, all are said, or the first of
-- them; and how many there are
pub record HasTold {A : Type 0} (step : ℕ) (calls : List Passing) (way : Way A) : Type 0 where
  pub begins : way.step ≡ step
  pub count : way.count ≡ min (length calls) (2 ^ 64 - 1)
  pub said : deeds_said way ≡ shown (length calls) (map (deed_of step) calls)

-- so it is after a trace, unless memory was refused to say more
abbrev pub AreTold : {A : Type 0} → ℕ → List Passing → End → Way A → Type 0
AreTold step calls end way = end ≢ Untold → HasTold step calls way

-- ---- from where a call had a byte

-- what stands at this place is of this argument of the innermost of so many begun functions
abbrev pub IsOfArgument : ℕ → ℕ → Place → Type 0
IsOfArgument depth argument (InArgument f a i) = (f + 1 ≡ depth) × (a ≡ argument)
IsOfArgument depth argument place = ⊥
