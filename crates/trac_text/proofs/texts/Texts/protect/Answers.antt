use Rattle.trac_text.proofs.Holding.{protected_now}
use Rattle.trac_text.proofs.texts.Texts.protect.Goals as goal

pub invariant_of-self : goal.invariant_of-self
invariant_of-self g c = (protected_now (record { sound = c.self.invariant; view = c.self.view_is }) c.requires c.take_protected.ensures.taken).sound

pub returns-clause-protected : goal.returns-clause-protected
returns-clause-protected g c = (protected_now (record { sound = c.self.invariant; view = c.self.view_is }) c.requires c.take_protected.ensures.taken).view
