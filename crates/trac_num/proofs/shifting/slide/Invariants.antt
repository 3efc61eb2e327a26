-- The digits so far have the moved bits, and the others are still to come.
use Rattle.trac_num.proofs.Sliding.{IsSlid}
use Rattle.trac_num.proofs.shifting.slide.Given as goal

abbrev pub invariant-loop-k : goal.invariant-loop-k
invariant-loop-k g l = IsSlid l.fn.digits.items l.digits.items l.k l.skipped
