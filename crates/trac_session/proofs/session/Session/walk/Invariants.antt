use Rattle.std.proofs.Common.{◌-◌}
use Rattle.trac_session.specs.Goals.{goal_at}
use Rattle.trac_session.proofs.Heavy.{IsUnderWay}
use Rattle.trac_session.proofs.session.Session.walk.Given as goal

-- so many steps are done of those that it may take
abbrev pub invariant-loop-direction : goal.invariant-loop-direction
invariant-loop-direction g l = IsUnderWay l.direction (goal_at l.goal) l.n l.most l.fn.self l.done l.self

abbrev pub decreases-loop-direction : goal.decreases-loop-direction
decreases-loop-direction g l = l.most - l.done
