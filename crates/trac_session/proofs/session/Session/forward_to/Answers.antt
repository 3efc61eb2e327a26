use Rattle.trac_rules.specs.Session.{Step}
use Rattle.trac_session.specs.Goals.{goal_of}
use Rattle.trac_session.proofs.Heavy.{unweighed}
use Rattle.trac_session.proofs.Walked.{searched_walk}
use Rattle.trac_session.proofs.session.Session.forward_to.Goals as goal

pub returns-clause-search : goal.returns-clause-search
returns-clause-search g c =
    searched_walk Step (goal_of c.args.goal) c.args.n c.args.self.now c.walk-walk.new.self c.walk-walk.result.done c.searched.result.done c.walk-walk.result.why c.searched.result.why
    (unweighed c.walk-walk.ensures.walk) c.searched.ensures.done c.searched.ensures.why
