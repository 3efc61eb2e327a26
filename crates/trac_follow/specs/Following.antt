-- A byte that was followed back, in the words of `trac_origins`.
use Rattle.std.specs.Prelude.{◌≡◌, ◌⊎◌, ℕ, ◌+◌, ◌-◌, true, false, ◌<◌, take, []}
use Rattle.trac_rules.specs.Effect.{argument}
use Rattle.trac_rules.specs.Scanning.{Call, Calls, scan}
use Rattle.trac_rules.specs.declared.width.Width.{Width}
use Rattle.trac_rules.specs.Session.{PlainSession, over}
use Rattle.trac_rules.specs.Trails.{IsTrail}
use Rattle.trac_origins.specs.Following.{followed}
use Rattle.trac_origins.specs.Places.{Place, InForm, Origin, Carried, Read, Made}
use Rattle.trac_follow.specs.declared.history.Followed.{Followed as Found}
use Rattle.trac_follow.specs.declared.history.Source as code
use Rattle.trac_follow.specs.Passing.{IsUnpassed}
use Rattle.trac_follow_step.specs.Places.{IsBare, IsListing, IsPassed, Stands, is_in_form, is_in_storage, place_of}

-- a session of numbers of this width, whose states are steps of one another, and something stands at a place
abbrev pub IsKnown : Width → PlainSession → Place → Type 0
IsKnown width old place = (width ≡ old.width) × IsTrail old × Stands old.last place

-- over the last so many steps of a session a byte was carried by so many, and has this origin
abbrev pub IsOrigin : PlainSession → Place → ℕ → ℕ → Origin → Type 0
IsOrigin p place steps carried source =
    followed (over p.width p.tape) (take steps p.earlier) place ≡ record { carried = carried; origin = source }

-- what was found: nothing stood there; all steps carried the byte and it is followed no further; or the last of them
-- carried it from a place that a reader wants to see, took it out of a form, read it or made it; or the last of them is
-- a call of `ln` of which memory was refused to tell, and the others carried it
abbrev pub IsSource : PlainSession → Place → ℕ → PlainSession → ℕ → code.Source → Type 0
IsSource old place most new steps code.TheVariants.Nothing = (steps ≡ 0) × IsBare old.last place
IsSource old place most new steps (code.TheVariants.Here there) =
    IsOrigin old place steps steps (Carried (place_of there)) × ((steps ≡ most) ⊎ (new.earlier ≡ []))
IsSource old place most new steps (code.TheVariants.Passed there) =
    IsOrigin old place steps steps (Carried (place_of there)) × ((before : ℕ) × ((here : Place) × (steps ≡ before + 1)
    × IsOrigin old place before before (Carried here) × IsPassed new.last here (place_of there)
    × (is_in_form (place_of there) ≡ true → is_in_storage here ≡ true)))
IsSource old place most new steps (code.TheVariants.OfForm i) = ((call : Call) × (scan new.last ≡ Calls call)
    × IsOrigin old place steps steps (Carried (InForm (argument 1 call.arguments) i))) × ((before : ℕ) × ((here : Place)
    × (steps ≡ before + 1) × IsOrigin old place before before (Carried here) × (is_in_storage here ≡ false)))
IsSource old place most new steps (code.TheVariants.Read n) =
    (0 < steps) × IsOrigin old place steps (steps - 1) (Read n)
IsSource old place most new steps code.TheVariants.Made = (0 < steps) × IsOrigin old place steps (steps - 1) Made
IsSource old place most new steps code.TheVariants.Memory = (0 < steps)
    × ((here : Place) × IsOrigin old place (steps - 1) (steps - 1) (Carried here)) × IsListing new.last

-- over how many steps it is known that none passed the byte on: all if it is followed no further, else all before the
-- last
abbrev pub quiet_steps : ℕ → code.Source → ℕ
quiet_steps steps (code.TheVariants.Here there) = steps
quiet_steps steps source = steps - 1

pub record IsFollowed
    (old : PlainSession) (place : Place) (most : ℕ) (new : PlainSession) (found : Found) : Type 0 where
  pub source : IsSource old place most new found.steps found.source
  -- it goes no further than to the first step that passed the byte on
  pub unpassed : IsUnpassed (over old.width old.tape) (take (quiet_steps found.steps found.source) old.earlier) place
  -- if nothing stands, that is said
  pub nothing : IsBare old.last place → found.source ≡ code.TheVariants.Nothing
