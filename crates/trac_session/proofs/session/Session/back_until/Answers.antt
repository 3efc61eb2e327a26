use Rattle.std.proofs.Common.{length, max, subst}
use Rattle.trac_rules.specs.Session.{Back, Goal}
use Rattle.trac_session.specs.Goals.{IsSearch}
use Rattle.trac_session.proofs.Looked.{one_name}
use Rattle.trac_session.proofs.session.Session.back_until.Goals as goal

pub returns : goal.returns
returns g c =
    subst (λ (looked : Goal). IsSearch Back looked (max 1 (length c.args.self.now.earlier)) c.args.self.now c.back_to.result.done c.back_to.result.why c.back_to.new.self)
    (λ i s. one_name c.args.name.now s i) c.back_to.ensures
