use Rattle.std.specs.Prelude.{◌+◌, ◌-◌, length, if◌then◌else◌}
use Rattle.trac_streams.specs.declared.lines.TheConstants.{LINE_LIMIT}
use Rattle.trac_streams.specs.Reading.{GathersBy}
use Rattle.trac_streams.proofs.lines.Lines.seek_counted.Given as goal

-- what was read so far, and how often
abbrev pub invariant-loop-front : goal.invariant-loop-front
invariant-loop-front g l = GathersBy (g.R.Read.remaining l.fn.input) (g.R.Read.remaining l.input) l.fn.reads l.reads l.fn.self l.self

-- each read adds a byte to a line that is not too long yet, or sees the end
abbrev pub decreases-loop-front : goal.decreases-loop-front
decreases-loop-front g l = (LINE_LIMIT + 2 - length l.self.bytes) + (if l.self.ended then 0 else 1)
