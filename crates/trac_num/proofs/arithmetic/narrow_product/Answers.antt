-- Both numbers are held in 64 bits.
use Rattle.std.proofs.Math.Facts.{to_z-of_z}
use Rattle.trac_rules.specs.declared.primitive.Operation.TheVariants.{Multiply}
use Rattle.trac_num.proofs.Range.{narrow_checked}
use Rattle.trac_num.proofs.arithmetic.narrow_product.Goals as goal

pub returns : goal.returns
returns c = narrow_checked Multiply c.args.a c.args.b _ _ _ _ c.checked_mul.result c.in_ok-first.ensures (to_z-of_z c.ranges.a) c.in_ok-second.ensures (to_z-of_z c.ranges.b) c.checked_mul.ensures
