use Rattle.std.proofs.Common.{◌≤◌, length, drop}
use Rattle.trac_text.specs.Cuts.{AreArguments}
use Rattle.trac_text.proofs.frames.innermost_in.Given as goal

-- none of the marks from this number on begins a function
abbrev pub invariant-loop-number : goal.invariant-loop-number
invariant-loop-number l = record { within : l.number ≤ length l.marks; after : AreArguments (drop l.number l.marks) }

abbrev pub decreases-loop-number : goal.decreases-loop-number
decreases-loop-number l = l.number
