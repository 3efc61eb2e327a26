-- The digits so far are met.
use Rattle.std.proofs.Common.{◌≡◌, take}
use Rattle.std.specs.Prelude.{bit_and}
use Rattle.trac_num.proofs.Pairs.{pairwise}
use Rattle.trac_num.proofs.bitwise.meet.Given as goal

abbrev pub invariant-loop-i : goal.invariant-loop-i
invariant-loop-i g l = l.digits.items ≡ pairwise bit_and (take l.i l.first) (take l.i l.second)
