use Rattle.std.proofs.Common.{arith}
use Rattle.trac_moves.proofs.Kept.{count_kept}
use Rattle.trac_moves.proofs.Standing.{moves_kept}
use Rattle.trac_moves.proofs.walker.Walker.make_output_room.Goals as goal

pub returns-clause-moved : goal.returns-clause-moved
returns-clause-moved g c = moves_kept c.args.self.now c.keep_steps.new.self _ c.keep_steps.ensures.over

pub returns-clause-less : goal.returns-clause-less
returns-clause-less g c = λ _. omega (arith, count_kept _ _ _ c.keep_steps.ensures.kept, c.len-len.ensures.count)
