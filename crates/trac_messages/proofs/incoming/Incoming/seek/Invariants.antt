use Rattle.std.specs.Prelude.{◌+◌, ◌-◌, length, if◌then◌else◌}
use Rattle.trac_messages.specs.Incoming.{Gathers, HELD_LIMIT}
use Rattle.trac_messages.proofs.incoming.Incoming.seek.Given as goal

-- what was read so far
abbrev pub invariant-loop-front : goal.invariant-loop-front
invariant-loop-front g l = Gathers (g.R.Read.remaining l.fn.input) (g.R.Read.remaining l.input) l.fn.self l.self

-- each read passes a byte over, or adds one to a frame that is not whole yet, or sees the end
abbrev pub decreases-loop-front : goal.decreases-loop-front
decreases-loop-front g l = l.self.skip + (HELD_LIMIT - length l.self.bytes) + (if l.self.ended then 0 else 1)
