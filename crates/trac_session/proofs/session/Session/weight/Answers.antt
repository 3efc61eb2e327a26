use Rattle.std.proofs.Common.{◌∙◌, arith}
use Rattle.trac_rules.proofs.Bounded.{weights_within_losses}
use Rattle.trac_session.proofs.Summed.{journal_weighs}
use Rattle.trac_session.proofs.session.Session.weight.Goals as goal

pub returns-clause-together : goal.returns-clause-together
returns-clause-together g c = c.weight.ensures ∙ journal_weighs _ _ _ _ c.self.inside.journal.records _ _ c.self.view_is c.self.invariant.sound.records

pub returns-clause-within : goal.returns-clause-within
returns-clause-within g c =
    omega (arith, c.weight.ensures, journal_weighs _ _ _ _ c.self.inside.journal.records _ _ c.self.view_is c.self.invariant.sound.records, weights_within_losses c.args.self.now.earlier)
