-- A number of places leads to the left or to the right.
use Rattle.std.proofs.Common.{rules}
use Rattle.std.proofs.Math.Facts.{to_z-of_z}
use Rattle.trac_rules.specs.Octal.{bits_of}
use Rattle.trac_num.proofs.Directions.{shift_left, shift_right}
use Rattle.trac_num.proofs.shifting.shift.Goals as goal

pub returns-then-by-lt0-clause-bits : goal.returns-then-by-lt0-clause-bits
returns-then-by-lt0-clause-bits g c =
    rw (shift_right _ c.args.by c.unsigned_abs.result (bits_of c.args.a.now) (to_z-of_z c.ranges.by) c.if-by-lt0.true c.unsigned_abs.ensures.value) (search rules)

pub returns-clause-bits : goal.returns-clause-bits
returns-clause-bits g c =
    rw (shift_left _ c.args.by c.unsigned_abs-2.result (bits_of c.args.a.now) (to_z-of_z c.ranges.by) c.if-by-lt0.false c.unsigned_abs-2.ensures.value) (search rules)
