use Rattle.std.proofs.Common.{arith}
use Rattle.trac_moves.proofs.Standing.{numbered}
use Rattle.trac_moves.proofs.walker.Walker.go_to.Goals as goal

pub returns-then-step-now : goal.returns-then-step-now
returns-then-step-now g c input width steps s =
    let here = c.step-now.ensures in
    let count = numbered input.bytes s.over.text steps _ _ _ s.over.is in
    let one = c.back.ensures input width steps s in
    (one.0, λ small none. omega (arith, here, count, one.1.2 none), one.2)

pub returns-else-step-now : goal.returns-else-step-now
returns-else-step-now g c input width steps s =
    let here = c.step-now.ensures in
    let count = numbered input.bytes s.over.text steps _ _ _ s.over.is in
    let one = c.forward.ensures input width steps s in
    (one.0, λ small none. omega (arith, here, count, one.1.2 none), one.2)
