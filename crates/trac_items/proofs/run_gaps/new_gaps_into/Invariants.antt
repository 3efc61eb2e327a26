use Rattle.std.proofs.Common.{length}
use Rattle.trac_items.proofs.RunGaps.{IsCutSoFar}
use Rattle.trac_items.proofs.run_gaps.new_gaps_into.Given as goal

abbrev pub invariant-occurrences : goal.invariant-occurrences
invariant-occurrences g l = IsCutSoFar l.number l.text l.run l.fn.gaps.items l.gaps.items l.rest

abbrev pub decreases-occurrences : goal.decreases-occurrences
decreases-occurrences g l = length l.rest
