-- What a step makes of the texts: the neutral text on the left, and the active text on the right.
use Rattle.std.specs.Prelude.{ℕ, ◌++◌, Bool, true, false, List}
use Rattle.trac_gap.specs.Ends.{Ends}
use Rattle.trac_rules.specs.declared.kind.Kind.{Kind}
use Rattle.trac_rules.specs.declared.kind.Kind.TheVariants.{Active, Neutral}
use Rattle.trac_rules.specs.Matching.{Protected}

-- the texts with what is protected at the end of the one on the left, and what stands after it on the right
abbrev pub with_protected : Protected → Ends ℕ → Ends ℕ
with_protected p e = record e { left = e.left ++ p.inner; right = p.rest }

-- the texts with a value where it goes: after the neutral text for a neutral function, if it is not forced, else before
-- the active text
abbrev pub with_value : Kind → Bool → List ℕ → Ends ℕ → Ends ℕ
with_value Active forced value e = record e { right = value ++ e.right }
with_value Neutral true value e = record e { right = value ++ e.right }
with_value Neutral false value e = record e { left = e.left ++ value }
