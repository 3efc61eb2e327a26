use Rattle.std.proofs.Common.{◌≤◌, ◌-◌}
use Rattle.trac_rules.specs.Session.{no_goal}
use Rattle.trac_session.proofs.Heavy.{GoesOnLight}
use Rattle.trac_session.proofs.session.Session.forward_within.Given as goal

-- so many steps are done, and the records do not weigh too much
abbrev pub invariant-loop-done : goal.invariant-loop-done
invariant-loop-done g l = (l.done ≤ l.n) × GoesOnLight l.most no_goal l.fn.self l.done l.self

abbrev pub decreases-loop-done : goal.decreases-loop-done
decreases-loop-done g l = l.n - l.done
