use Rattle.trac_text.proofs.Depth.{IsOpen}
use Rattle.trac_text.proofs.matching.match_in.Given as goal

abbrev pub invariant-loop-i : goal.invariant-loop-i
invariant-loop-i l = IsOpen l.text l.i l.depth
