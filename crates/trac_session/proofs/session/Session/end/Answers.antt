use Rattle.std.proofs.Common.{refl}
use Rattle.trac_rules.specs.declared.reply.Reply.TheVariants.{Done}
use Rattle.trac_rules.specs.Session.{End}
use Rattle.trac_session.proofs.Journaled.{End_of_fields}
use Rattle.trac_session.proofs.Trailed.{answered}
use Rattle.trac_session.proofs.session.Session.end.Goals as goal

pub returns : goal.returns
returns g c = End_of_fields _ _ _ c.self.inside.journal.records _ _ c.self.view_is

pub invariant_of-self : goal.invariant_of-self
invariant_of-self g c =
    answered End Done c.self.invariant refl c.self.invariant.sound (End_of_fields _ _ _ c.self.inside.journal.records _ _ refl) c.self.invariant.names c.self.invariant.recent
