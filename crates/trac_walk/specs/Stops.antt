-- What is said of moves that stopped.
use Rattle.std.specs.Prelude.{◌≡◌, Option, Some}
use Rattle.trac_person_lines.specs.declared.notes.Stop.{Stop}
use Rattle.trac_person_lines.specs.declared.notes.Stop.TheVariants as stops

-- if this is said of a search, it has left that as it was
abbrev pub IsAsToldOf : {X : Type 0} → Option Stop → X → X → Type 0
IsAsToldOf (Some (stops.Unmet why)) old new = new ≡ old
IsAsToldOf (Some (stops.UnmetUpTo why step)) old new = new ≡ old
IsAsToldOf (Some (stops.SpentUpTo step)) old new = new ≡ old
IsAsToldOf other old new = Unit {0}
