-- What the names up to this one take is no more than what all take.
use Rattle.std.proofs.Common.{arith}
use Rattle.trac_prims.proofs.Listed.{names_beyond}
use Rattle.trac_prims.proofs.forms.list_len.Goals as goal

pub returns-then-len-total : goal.returns-then-len-total
returns-then-len-total c = λ fits.
    omega (arith, fits, names_beyond c.args.text.now c.args.names.now c.loop-name.name-index c.loop-name.total _ c.loop-name-test.true c.loop-name.invariant.0 c.if-len-total.true)
