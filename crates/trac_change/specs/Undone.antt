-- What a call destroyed of forms and blocks, as the rules see it.
use Rattle.trac_rules.specs.Undone as rules
use Rattle.trac_change.specs.Changed.{named_forms}
use Rattle.trac_change.specs.declared.undone.Undone as code
use Rattle.trac_change.specs.declared.undone.Undone.TheVariants.{Nothing, Point, Join, Swap, Restore, MoveOut, Unbring}
use Rattle.trac_change.specs.declared.undone.Undone.TheVariants.{Unerase}

-- what the code keeps of forms and blocks, read as what the rules do
abbrev pub undone_in : {A : Type 0} → code.Undone A → rules.Undone
undone_in Nothing = rules.Nothing
undone_in (Point place) = rules.Point place
undone_in (Join cut pointer) = rules.Join cut pointer
undone_in (Swap old) = rules.Swap old
undone_in (Restore forms) = rules.Restore (named_forms forms.items)
undone_in (MoveOut old) = rules.MoveOut old
undone_in (Unbring number replaced) = rules.Unbring number (named_forms replaced.items)
undone_in (Unerase number block address) = rules.Unerase number block.held address
