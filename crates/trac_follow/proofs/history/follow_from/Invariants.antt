use Rattle.std.proofs.Common.{◌≤◌, ◌-◌}
use Rattle.trac_follow_step.specs.Places.{place_of}
use Rattle.trac_follow.proofs.StepsBack.{GoesBack}
use Rattle.trac_follow.proofs.history.follow_from.Given as goal

-- so many steps carried it, and so much is known of its place
abbrev pub invariant-loop-steps : goal.invariant-loop-steps
invariant-loop-steps g l = (l.steps ≤ l.most) × GoesBack l.width l.fn.session l.session (place_of l.place) (place_of l.here) l.steps l.measure.0 l.measure.1

abbrev pub decreases-loop-steps : goal.decreases-loop-steps
decreases-loop-steps g l = l.most - l.steps
