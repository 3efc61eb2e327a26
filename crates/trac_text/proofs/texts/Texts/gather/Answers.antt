use Rattle.trac_text.proofs.Holding.{moved_now}
use Rattle.trac_text.proofs.texts.Texts.gather.Goals as goal

pub invariant_of-self : goal.invariant_of-self
invariant_of-self g c = (moved_now (record { sound = c.self.invariant; view = c.self.view_is }) c.args.n c.shift_left.ensures).sound

pub returns : goal.returns
returns g c = (moved_now (record { sound = c.self.invariant; view = c.self.view_is }) c.args.n c.shift_left.ensures).view
