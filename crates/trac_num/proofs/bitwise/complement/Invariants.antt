-- The digits so far are turned over.
use Rattle.std.proofs.Common.{◌≡◌, take, map}
use Rattle.trac_num.proofs.EachDigit.{flipped}
use Rattle.trac_num.proofs.bitwise.complement.Given as goal

abbrev pub invariant-loop-digit : goal.invariant-loop-digit
invariant-loop-digit g l = l.digits.items ≡ map flipped (take l.digit-index l.a)
