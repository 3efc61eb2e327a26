use Rattle.std.proofs.Common.{subst}
use Rattle.trac_rules.specs.Session.{Goal, Step}
use Rattle.trac_session.specs.Goals.{IsSearch}
use Rattle.trac_session.proofs.Looked.{one_name}
use Rattle.trac_session.proofs.session.Session.until.Goals as goal

pub returns-clause-search : goal.returns-clause-search
returns-clause-search g c =
    subst (λ (looked : Goal). IsSearch Step looked c.args.n c.args.self.now c.forward_to.result.done c.forward_to.result.why c.forward_to.new.self)
    (λ i s. one_name c.args.name.now s i) c.forward_to.ensures.search
