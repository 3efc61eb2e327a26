use Rattle.std.proofs.Common.{◌≤◌, IfOk, arith, subst}
use Rattle.trac_rules.specs.Weights.{loss, weight}
use Rattle.trac_rules.proofs.Bounded.{loss_bounded}
use Rattle.trac_step.specs.Record.{recorded_by}
use Rattle.trac_machine_tests.proofs.answers.next.Goals as goal

-- a record weighs no more than its step loses
pub returns-clause-weighs : goal.returns-clause-weighs
returns-clause-weighs g c proper =
    let within : IfOk c.step.result (λ r. weight (recorded_by r) ≤ loss c.args.machine.now.state) = c.step.ensures.weighs in
    omega (arith, loss_bounded c.args.machine.now.state proper, subst (λ r. IfOk r (λ it. weight (recorded_by it) ≤ loss c.args.machine.now.state)) c.expect.ensures within)
