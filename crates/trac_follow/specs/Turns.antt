-- How a byte is followed further back, by what is told of it.
use Rattle.std.specs.Prelude.{◌≡◌, ◌⊎◌, true, false}
use Rattle.trac_rules.specs.State.{State}
use Rattle.trac_follow_step.specs.declared.place.Origin as told
use Rattle.trac_follow_step.specs.declared.place.Place as code_place
use Rattle.trac_follow_step.specs.Places.{IsPassed, is_in_form, is_in_storage, place_of}
use Rattle.trac_follow.specs.declared.history.Source as code
use Rattle.trac_follow.specs.declared.history.Turn as turning

-- how it goes on from a place here, by what is told of it
abbrev pub IsTurn : State → code_place.Place → told.Origin → turning.Turn → Type 0
IsTurn s here (told.TheVariants.Carried there) turn =
    ((turn ≡ turning.TheVariants.On there) × (IsPassed s (place_of here) (place_of there) → ⊥))
    ⊎ ((turn ≡ turning.TheVariants.Found (code.TheVariants.Passed there)) × IsPassed s (place_of here) (place_of there)
    × (is_in_form (place_of there) ≡ true → is_in_storage (place_of here) ≡ true))
IsTurn s here (told.TheVariants.OfForm i) turn =
    (turn ≡ turning.TheVariants.Found (code.TheVariants.OfForm i)) × (is_in_storage (place_of here) ≡ false)
IsTurn s here (told.TheVariants.Read n) turn = turn ≡ turning.TheVariants.Found (code.TheVariants.Read n)
IsTurn s here told.TheVariants.Made turn = turn ≡ turning.TheVariants.Found code.TheVariants.Made
IsTurn s here told.TheVariants.Nothing turn = turn ≡ turning.TheVariants.Found code.TheVariants.Nothing
