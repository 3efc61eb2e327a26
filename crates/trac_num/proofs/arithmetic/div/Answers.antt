-- std's quotient is there where 128 bits can hold it and the divisor is not 0, and the width judges it, where 64 bits cannot.
use Rattle.std.proofs.Common.{◌∙◌}
use Rattle.std.proofs.Math.Facts.{to_z-of_z}
use Rattle.trac_rules.specs.declared.primitive.Operation.TheVariants.{Divide}
use Rattle.trac_num.proofs.Range.{narrow_made, wide_made}
use Rattle.trac_num.proofs.arithmetic.div.Goals as goal

pub returns-in-Some : goal.returns-in-Some
returns-in-Some c = narrow_made Divide c.args.width c.args.a c.args.b c.in-Some.n (simp (to_z-of_z c.ranges.a, to_z-of_z c.ranges.b) at c.in-Some.ensures)

pub returns : goal.returns
returns c = c.within.ensures ∙ wide_made Divide c.args.width c.args.a c.args.b c.checked_div.result c.ranges.b (simp (to_z-of_z c.ranges.a, to_z-of_z c.ranges.b) at c.checked_div.ensures)
