use Rattle.std.proofs.Common.{sym, subst}
use Rattle.trac_moves.specs.Walkers.{IsReturned, Moves}
use Rattle.trac_moves.proofs.Standing.{moves_returned}
use Rattle.trac_moves.proofs.walker.Walker.return_to.Goals as goal

pub returns : goal.returns
returns g c =
    subst (λ why. Moves (IsReturned why) c.args.self.now (record c.args.self.now { window = record c.args.self.now.window { session = c.return_to.new.self } })) (sym c.refusal_of.ensures)
    (moves_returned _ c.return_to.result c.args.self.now c.return_to.new.self c.return_to.ensures)
