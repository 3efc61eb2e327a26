use Rattle.trac_moves.proofs.SearchedAnew.{over_given}
use Rattle.trac_moves.proofs.Standing.{moves_none}
use Rattle.trac_moves.proofs.walker.Walker.search_far.Goals as goal

pub returns-in-Ok-clause-moved : goal.returns-in-Ok-clause-moved
returns-in-Ok-clause-moved g c input width steps s = c.search_in.ensures.moved input width steps s (over_given input width steps c.args.self.now _ s c.in-Ok.ensures)

pub returns-in-Err-clause-moved : goal.returns-in-Err-clause-moved
returns-in-Err-clause-moved g c = moves_none c.args.self.now
