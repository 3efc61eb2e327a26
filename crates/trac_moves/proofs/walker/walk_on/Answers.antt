use Rattle.trac_moves.proofs.Standing.{finds_some, takes_some}
use Rattle.trac_moves.proofs.walker.walk_on.Goals as goal

pub returns-in-Some-clause-some : goal.returns-in-Some-clause-some
returns-in-Some-clause-some g c = finds_some _ _ _ _ _ _ _ c.forward_to_within.ensures.search

pub returns-in-None-clause-some : goal.returns-in-None-clause-some
returns-in-None-clause-some g c = takes_some _ _ _ _ _ _ _ c.forward_within.ensures
