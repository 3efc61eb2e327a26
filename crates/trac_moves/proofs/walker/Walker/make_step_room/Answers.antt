use Rattle.std.proofs.Common.{arith}
use Rattle.trac_moves.proofs.Kept.{count_kept}
use Rattle.trac_moves.proofs.walker.Walker.make_step_room.Goals as goal

pub returns-clause-kept : goal.returns-clause-kept
returns-clause-kept g c = omega (arith, count_kept _ _ _ c.keep_steps.ensures.kept)
