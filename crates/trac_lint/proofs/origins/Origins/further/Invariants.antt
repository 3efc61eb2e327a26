-- Each way takes a step at least of those that are left.
use Rattle.trac_lint.proofs.origins.Origins.further.Given as goal

abbrev pub decreases-loop-next : goal.decreases-loop-next
decreases-loop-next g l = l.self.left
