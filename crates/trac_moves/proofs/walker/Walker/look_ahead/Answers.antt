use Rattle.std.proofs.Common.{◌≤◌, arith}
use Rattle.trac_moves.proofs.Standing.{moves_on}
use Rattle.trac_moves.proofs.walker.Walker.look_ahead.Goals as goal

pub returns : goal.returns
returns g c = moves_on (λ steps after. steps ≤ after) c.walk_on.result.done c.args.self.now c.walk_on.new.session c.walk_on.ensures.walked (λ steps. omega arith)
