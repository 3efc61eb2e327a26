use Rattle.std.proofs.Common.{◌≡◌, ◌≤◌, length}
use Rattle.trac_moves.specs.Walkers.{Moves}
use Rattle.trac_moves.proofs.walker.Walker.make_room.Given as goal

-- it stands where it stood, and keeps no more steps
abbrev pub invariant-loop-turn : goal.invariant-loop-turn
invariant-loop-turn g l =
    Moves (λ steps after. after ≡ steps) l.fn.self l.self × (length l.self.window.session.earlier ≤ length l.fn.self.window.session.earlier)
