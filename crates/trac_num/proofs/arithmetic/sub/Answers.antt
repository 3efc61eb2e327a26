-- std's result is there where 128 bits can hold it, and the width judges it.
use Rattle.std.proofs.Common.{◌∙◌}
use Rattle.std.proofs.Math.Facts.{to_z-of_z}
use Rattle.trac_rules.specs.declared.primitive.Operation.TheVariants.{Subtract}
use Rattle.trac_num.proofs.Range.{wide_made}
use Rattle.trac_num.proofs.arithmetic.sub.Goals as goal

pub returns : goal.returns
returns c = c.within.ensures ∙ wide_made Subtract c.args.width c.args.a c.args.b c.checked_sub.result c.ranges.b (simp (to_z-of_z c.ranges.a, to_z-of_z c.ranges.b) at c.checked_sub.ensures)
