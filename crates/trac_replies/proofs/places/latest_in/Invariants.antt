use Rattle.std.proofs.Common.{◌-◌, length}
use Rattle.trac_replies.specs.Places.{ArePassed}
use Rattle.trac_replies.proofs.places.latest_in.Given as goal

abbrev pub invariant-loop-back : goal.invariant-loop-back
invariant-loop-back l = ArePassed l.step l.first_step l.places (length l.places - l.back)
