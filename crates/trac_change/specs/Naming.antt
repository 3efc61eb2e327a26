-- A change with its name, and the same without it.
use Rattle.std.specs.Prelude.{◌≡◌, ℕ, List}
use Rattle.trac_change.specs.declared.change.Change as code
use Rattle.trac_change.specs.declared.change.Change.TheVariants.{Keep, Put, Cut, Remove, Clear, Point, MoveIn, Bring}
use Rattle.trac_change.specs.declared.change.Change.TheVariants.{Erase}
use Rattle.trac_change.specs.declared.change.UnnamedChange.{UnnamedChange}
use Rattle.trac_change.specs.declared.change.UnnamedChange.TheVariants as plain

-- a change without its name
abbrev pub unnamed : {A : Type 0} → code.Change A → UnnamedChange A
unnamed Keep = plain.Keep
unnamed (Put name form) = plain.Put form
unnamed (Cut name cut) = plain.Cut cut
unnamed (Remove names) = plain.Remove names
unnamed Clear = plain.Clear
unnamed (Point name place) = plain.Point place
unnamed (MoveIn held name address) = plain.MoveIn held address
unnamed (Bring number forms) = plain.Bring number forms
unnamed (Erase number name) = plain.Erase number

-- the name of a change, if it has one, is this
abbrev pub IsNamed : {A : Type 0} → List ℕ → code.Change A → Type 0
IsNamed name (Put given form) = given.items ≡ name
IsNamed name (Cut given cut) = given.items ≡ name
IsNamed name (Point given place) = given.items ≡ name
IsNamed name (MoveIn held given address) = given.items ≡ name
IsNamed name (Erase number given) = given.items ≡ name
IsNamed name change = Unit {0}
