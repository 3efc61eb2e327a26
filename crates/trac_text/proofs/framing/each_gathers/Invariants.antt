-- The functions so far have arguments.
use Rattle.std.proofs.Common.{take}
use Rattle.trac_text.specs.Framing.{EachGathers}
use Rattle.trac_text.proofs.framing.each_gathers.Given as goal

abbrev pub invariant-loop-arguments : goal.invariant-loop-arguments
invariant-loop-arguments g l = EachGathers (take l.arguments-index l.functions)
