-- A number of places leads to the left or to the right.
use Rattle.std.proofs.Common.{◌≡◌, ◌/◌, ◌%◌, ◌∙◌, ap, length}
use Rattle.std.proofs.Math.Facts.{to_z-of_z}
use Rattle.trac_num.proofs.Directions.{rotate_left, rotate_right}
use Rattle.trac_num.proofs.shifting.rotate.Goals as goal

pub returns-then-by-lt0-clause-bits : goal.returns-then-by-lt0-clause-bits
returns-then-by-lt0-clause-bits g c =
    let whole : c.left_of-whole.result ≡ c.unsigned_abs.result / 3 % length c.args.a.now =
    c.left_of-whole.ensures ∙ ap (λ digits. digits % length c.args.a.now) c.digits_and_bits-digits.ensures.digits in
    rw (rotate_right _ c.args.by c.unsigned_abs.result c.args.a.now (to_z-of_z c.ranges.by) c.if-by-lt0.true c.unsigned_abs.ensures.value c.if-is_empty.ensures)
    (rw (whole, c.digits_and_bits-digits.ensures.bits) at c.turned.ensures.bits)

pub returns-clause-bits : goal.returns-clause-bits
returns-clause-bits g c =
    let whole : c.left_of-whole.result ≡ c.unsigned_abs.result / 3 % length c.args.a.now =
    c.left_of-whole.ensures ∙ ap (λ digits. digits % length c.args.a.now) c.digits_and_bits-digits.ensures.digits in
    rw (rotate_left _ c.args.by c.unsigned_abs.result c.args.a.now (to_z-of_z c.ranges.by) c.if-by-lt0.false c.unsigned_abs.ensures.value c.if-is_empty.ensures)
    (rw (whole, c.digits_and_bits-digits.ensures.bits) at c.turned-2.ensures.bits)
