use Rattle.std.proofs.Common.{◌≡◌, ap, sym, ◌∙◌, arith}
use Rattle.std.specs.Prelude.{Some}
use Rattle.trac_rules.specs.Session.{Back, Step, repeated}
use Rattle.trac_rules.proofs.TakenAgain.{repeated_trail}
use Rattle.trac_session.specs.declared.walking.Direction.{Direction}
use Rattle.trac_session.specs.Directions.{command_towards}
use Rattle.trac_session.proofs.Quiet.{quiet_back, quiet_forward}
use Rattle.trac_session.proofs.Trailed.{trail_shown}
use Rattle.trac_session.proofs.session.Session.pass.Goals as goal

pub returns-in-Forward-clause-quiet : goal.returns-in-Forward-clause-quiet
returns-in-Forward-clause-quiet g c = λ k p some less walked.
    let old = c.args.self.now in
    let new = c.pass_plain.new.self in
    let way : repeated Step k old ≡ Some p = ap (λ (d : Direction). repeated (command_towards d) k old) (sym c.in-Forward.is) ∙ walked in
    quiet_forward c.pass_plain.result k old new p c.pass_plain.ensures.moved
    (repeated_trail Step c.pass_plain.result old new (trail_shown c.self.inside.journal.records c.args.self.now c.self.invariant c.self.view_is) c.pass_plain.ensures.passed) less way

pub returns-in-Backward-clause-quiet : goal.returns-in-Backward-clause-quiet
returns-in-Backward-clause-quiet g c = λ k p some less walked.
    let old = c.args.self.now in
    let way : repeated Back k old ≡ Some p = ap (λ (d : Direction). repeated (command_towards d) k old) (sym c.in-Backward.is) ∙ walked in
    quiet_back c.pass_back.result k old c.pass_back.new.self p c.pass_back.ensures.moved (trail_shown c.self.inside.journal.records c.args.self.now c.self.invariant c.self.view_is) some (omega (arith, less)) way
