-- The left part is taken, and the digits so far are joined.
use Rattle.std.proofs.Common.{◌≡◌, ◌++◌, ◌-◌, length, take}
use Rattle.std.specs.Prelude.{bit_or}
use Rattle.trac_num.proofs.Pairs.{pairwise}
use Rattle.trac_num.proofs.bitwise.union_of_longer.Given as goal

abbrev pub invariant-loop-i : goal.invariant-loop-i
invariant-loop-i g l = l.digits.items ≡ take (length l.fn.long - length l.short) l.fn.long ++ pairwise bit_or (take l.i l.right) (take l.i l.short)
