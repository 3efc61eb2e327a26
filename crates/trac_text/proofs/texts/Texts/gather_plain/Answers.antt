use Rattle.trac_text.proofs.Holding.{moved_now}
use Rattle.trac_text.proofs.texts.Texts.gather_plain.Goals as goal

pub invariant_of-self : goal.invariant_of-self
invariant_of-self g c = (moved_now (record { sound = c.self.invariant; view = c.self.view_is }) c.plain_front-count.result c.gather_some.ensures).sound

pub returns-clause-moved : goal.returns-clause-moved
returns-clause-moved g c = (moved_now (record { sound = c.self.invariant; view = c.self.view_is }) c.plain_front-count.result c.gather_some.ensures).view
