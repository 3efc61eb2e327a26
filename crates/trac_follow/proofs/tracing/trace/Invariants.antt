use Rattle.std.proofs.Common.{◌≤◌}
use Rattle.trac_follow.specs.Following.{IsKnown}
use Rattle.trac_follow.specs.Kept.{kept_place}
use Rattle.trac_follow_step.specs.Places.{place_of}
use Rattle.trac_follow.specs.Tracing.{ToldAll, way_of}
use Rattle.trac_follow.proofs.Traces.{Way}
use Rattle.trac_follow.proofs.tracing.trace.Given as goal

-- so many legs led here, and the witness was told of the call at the end of each
abbrev pub invariant-loop-leg : goal.invariant-loop-leg
invariant-loop-leg g l =
    (l.steps ≤ l.most)
    × Way l.width l.fn.session l.session (place_of l.place) (kept_place l.here) l.steps l._leg
    × (IsKnown l.width l.fn.session (place_of l.place) → ToldAll g.W.Witness.passes l.fn.witness (way_of l.fn.session (place_of l.place) l.steps) l.witness)
