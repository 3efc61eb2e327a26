use Rattle.trac_moves.proofs.Standing.{moves_backed}
use Rattle.trac_moves.proofs.walker.Walker.back.Goals as goal

pub returns : goal.returns
returns g c = moves_backed c.args.steps c.back.result.done c.back.result.why c.args.self.now c.back.new.self c.back.ensures
