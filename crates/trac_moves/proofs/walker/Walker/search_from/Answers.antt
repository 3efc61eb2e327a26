use Rattle.trac_moves.proofs.SearchedAnew.{beyond}
use Rattle.trac_moves.proofs.Standing.{moves_as, moves_then}
use Rattle.trac_moves.proofs.walker.Walker.search_from.Goals as goal

pub returns-in-Some-clause-moved : goal.returns-in-Some-clause-moved
returns-in-Some-clause-moved g c = moves_as _ _ c.forward.ensures (λ x y first no. absurd (cc))

pub returns-in-None-clause-moved : goal.returns-in-None-clause-moved
returns-in-None-clause-moved g c = moves_as _ _
    (beyond c.args.start c.args.done c.args.most _ _ _ c.args.self.now _ _ c.saturating_add.ensures c.saturating_sub.ensures c.in_default.is c.forward.ensures c.forward_to.ensures.moved)
    (λ x y far met. far)

pub returns-in-Some-forward_to-clause-moved : goal.returns-in-Some-forward_to-clause-moved
returns-in-Some-forward_to-clause-moved g c = moves_then _ _ _ c.forward.ensures c.forward_to.ensures.moved (λ x y z one two no. absurd (cc))
