use Rattle.std.proofs.Common.{◌-◌, ◌+◌, length}
use Rattle.trac_rules.specs.declared.limit.TheConstants.{TAPE_LIMIT}
use Rattle.trac_streams.proofs.Taped.{IsRead}
use Rattle.trac_streams.proofs.input.read_tape.Given as goal

abbrev pub invariant-loop-tape : goal.invariant-loop-tape
invariant-loop-tape g l = IsRead (g.R.Read.remaining l.fn.input) (g.R.Read.remaining l.input) l.tape.items

-- each read gives a byte at least
abbrev pub decreases-loop-tape : goal.decreases-loop-tape
decreases-loop-tape g l = TAPE_LIMIT + 1 - length l.tape.items
