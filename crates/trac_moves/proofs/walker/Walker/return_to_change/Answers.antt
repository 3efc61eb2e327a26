use Rattle.std.proofs.Common.{arith, sym, subst}
use Rattle.trac_moves.specs.Walkers.{IsReturned, Moves}
use Rattle.trac_moves.proofs.Standing.{moves_as, moves_none, moves_returned}
use Rattle.trac_moves.proofs.walker.Walker.return_to_change.Goals as goal

pub returns-in_default : goal.returns-in_default
returns-in_default g c = moves_as _ _ (moves_none c.args.self.now) (λ x y same. (omega (arith, same), λ why. same))

pub returns : goal.returns
returns g c =
    subst (λ why. Moves (IsReturned why) c.args.self.now (record c.args.self.now { window = record c.args.self.now.window { session = c.return_to.new.self } })) (sym c.refusal_of.ensures)
    (moves_returned _ c.return_to.result c.args.self.now c.return_to.new.self c.return_to.ensures)
