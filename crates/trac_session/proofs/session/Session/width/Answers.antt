use Rattle.trac_session.proofs.Trailed.{width_shown}
use Rattle.trac_session.proofs.session.Session.width.Goals as goal

pub returns : goal.returns
returns g c = width_shown c.self.inside.journal.records c.args.self.now c.self.invariant c.self.view_is
