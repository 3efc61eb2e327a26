use Rattle.trac_debug.proofs.Debugged.{SoFar}
use Rattle.trac_debug.proofs.debugging.debug_session.Given as goal

abbrev pub invariant-loop-number : goal.invariant-loop-number
invariant-loop-number g l =
    SoFar (g.R.Read.remaining l.fn.commands) (g.R.Read.remaining l.commands) (g.W.Write.contents l.fn.output) (g.W.Write.contents l.output) l.fn.session l.reads l.number l.lines l.session
