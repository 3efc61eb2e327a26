use Rattle.std.proofs.Common.{refl}
use Rattle.trac_moves.proofs.walker.Walker.new.Goals as goal

pub returns-clause-stands : goal.returns-clause-stands
returns-clause-stands g c = record { over = c.in_ok-window.ensures.over; given = c.in-Ok.ensures.items; closed = refl }
