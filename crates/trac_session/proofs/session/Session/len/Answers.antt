-- The journal is within the limit, and has as many records as there are earlier states.
use Rattle.std.proofs.Common.{◌≡◌, ◌∙◌, ap, sym, arith}
use Rattle.trac_rules.specs.Session.{PlainSession}
use Rattle.trac_session.proofs.Journaled.{length-earlier}
use Rattle.trac_session.proofs.session.Session.len.Goals as goal

pub returns-clause-count : goal.returns-clause-count
returns-clause-count g c = c.len.ensures ∙ sym (length-earlier _ _ _ _ c.self.inside.journal.records _ _ c.self.view_is c.self.invariant.sound.records)

pub returns-clause-within : goal.returns-clause-within
returns-clause-within g c =
    let limit : c.self.inside.limit ≡ c.args.self.now.limit = ap (λ (p : PlainSession). p.limit) c.self.view_is in
    omega (arith, limit, c.len.ensures, c.self.invariant.sound.within_limit)

pub returns-clause-most : goal.returns-clause-most
returns-clause-most g c =
    let limit : c.self.inside.limit ≡ c.args.self.now.limit = ap (λ (p : PlainSession). p.limit) c.self.view_is in
    omega (arith, limit, c.self.invariant.sound.not_too_many)
