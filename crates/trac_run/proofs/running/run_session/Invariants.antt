use Rattle.trac_run.specs.Runs.{turns_left}
use Rattle.trac_run.proofs.Ran.{SoFar}
use Rattle.trac_run.proofs.running.run_session.Given as goal

abbrev pub invariant-loop-ending : goal.invariant-loop-ending
invariant-loop-ending g l =
    SoFar (g.R.Read.remaining l.fn.input) (g.R.Read.remaining l.input) (g.W.Write.contents l.fn.output) (g.W.Write.contents l.output) l.fn.session.width l.fn.budget l.fn.session l.session l.left l.reads

abbrev pub decreases-loop-ending : goal.decreases-loop-ending
decreases-loop-ending g l = turns_left l.session l.left
