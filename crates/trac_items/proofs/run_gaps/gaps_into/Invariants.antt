use Rattle.std.proofs.Common.{drop}
use Rattle.trac_items.proofs.RunGaps.{IsMixedSoFar}
use Rattle.trac_items.proofs.run_gaps.gaps_into.Given as goal

abbrev pub invariant-loop-gap : goal.invariant-loop-gap
invariant-loop-gap g l = IsMixedSoFar l.number l.text l.run l.gaps l.out.items l.rest (drop l.gap-index l.gaps)
