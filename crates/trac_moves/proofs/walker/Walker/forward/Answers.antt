use Rattle.std.proofs.Common.{refl}
use Rattle.trac_moves.proofs.walker.Walker.forward.Goals as goal

pub returns : goal.returns
returns g c = c.go.ensures.all refl
