-- How a walk ends.
use Rattle.trac_streams.specs.declared.ending.Ending.{Ending}
use Rattle.trac_streams.specs.declared.ending.Ending.TheVariants.{NotUnderstood}

-- how it may end: also before it is begun, if the program is too long
abbrev pub MayEnd : Ending → Type 0
MayEnd (NotUnderstood line) = ⊥
MayEnd ending = Unit {0}
