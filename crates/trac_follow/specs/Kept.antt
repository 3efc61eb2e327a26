-- Places that are kept with the names of their forms.
use Rattle.trac_origins.specs.Places.{Place, InForm, InHeld}
use Rattle.trac_follow.specs.declared.kept.KeptPlace as kept
use Rattle.trac_follow_step.specs.Places.{place_of}

abbrev pub kept_place : {A : Type 0} → kept.KeptPlace A → Place
kept_place (kept.TheVariants.Lent place) = place_of place
kept_place (kept.TheVariants.Form name i) = InForm name.items i
kept_place (kept.TheVariants.Held number name i) = InHeld number name.items i
