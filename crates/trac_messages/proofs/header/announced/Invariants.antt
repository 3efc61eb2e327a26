use Rattle.std.proofs.Common.{◌≡◌, length}
use Rattle.trac_messages.specs.Headers.{announced}
use Rattle.trac_messages.proofs.header.announced.Given as goal

-- the lines so far announce nothing
abbrev pub invariant-loop-place : goal.invariant-loop-place
invariant-loop-place l = announced l.rest ≡ announced l.fn.header

abbrev pub decreases-loop-place : goal.decreases-loop-place
decreases-loop-place l = length l.rest
