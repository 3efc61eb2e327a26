use Rattle.std.proofs.Common.{refl}
use Rattle.trac_moves.proofs.Standing.{over_ended}
use Rattle.trac_moves.proofs.walker.Walker.end_input.Goals as goal

pub returns : goal.returns
returns g c input width steps s =
    record { over = over_ended input width steps c.args.self.now.window c.end.new.self s.over c.end.ensures; given = s.given; closed = refl }
