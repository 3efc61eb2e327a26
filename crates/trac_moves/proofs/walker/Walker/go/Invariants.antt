use Rattle.std.proofs.Common.{◌≡◌, ◌+◌, ◌-◌, ◌*◌, ◌≤◌, length}
use Rattle.trac_moves.specs.Walkers.{Moves}
use Rattle.trac_moves.proofs.walker.Walker.go.Given as goal

-- so many steps as are not left led from where it stood
abbrev pub invariant-loop-left : goal.invariant-loop-left
invariant-loop-left g l = (l.left ≤ l.fn.most) × Moves (λ steps after. after ≡ steps + (l.fn.most - l.left)) l.fn.self l.self

-- each walk takes some of the steps that are left, or some of those that are kept are forgotten
abbrev pub decreases-loop-left : goal.decreases-loop-left
decreases-loop-left g l = 2 * l.left + length l.self.window.session.earlier
