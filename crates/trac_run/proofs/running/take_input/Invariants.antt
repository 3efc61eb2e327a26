use Rattle.trac_run.specs.Runs.{turns_left}
use Rattle.trac_run.proofs.Waited.{HasTaken}
use Rattle.trac_run.proofs.running.take_input.Given as goal

abbrev pub invariant-loop-waits : goal.invariant-loop-waits
invariant-loop-waits g l =
    HasTaken (g.R.Read.remaining l.fn.input) (g.R.Read.remaining l.input) (g.W.Write.contents l.fn.output) (g.W.Write.contents l.output) l.fn.reads l.reads l.fn.session l.session l.waits

abbrev pub decreases-loop-waits : goal.decreases-loop-waits
decreases-loop-waits g l = turns_left l.session 0
