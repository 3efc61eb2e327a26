-- What was added up so far.
use Rattle.std.proofs.Common.{◌≡◌, ◌-◌, ◌^◌, take}
use Rattle.std.specs.Prelude.{min}
use Rattle.trac_text.specs.Framing.{argument_count, functions_of}
use Rattle.trac_text.proofs.framing.mark_count.Given as goal

abbrev pub invariant-loop-arguments : goal.invariant-loop-arguments
invariant-loop-arguments g l = l.total ≡ min (argument_count (functions_of (take l.arguments-index l.functions))) (2 ^ 64 - 1)
