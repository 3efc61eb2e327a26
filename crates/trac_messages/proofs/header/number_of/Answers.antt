use Rattle.std.proofs.Common.{arith}
use Rattle.trac_messages.proofs.Lines.{fits_more}
use Rattle.trac_messages.proofs.header.number_of.Goals as goal

pub overflow_mul-number : goal.overflow_mul-number
overflow_mul-number c = omega (arith, fits_more c.loop-digit.digit-index c.loop-digit.number 0 (omega arith) c.loop-digit.invariant.small (omega arith))

pub overflow_add-number : goal.overflow_add-number
overflow_add-number c =
    omega (arith, fits_more c.loop-digit.digit-index c.loop-digit.number c.from.result (omega arith) c.loop-digit.invariant.small (omega (arith, c.from.ensures, c.if-not-is_ascii_digit.ensures.cases)))
