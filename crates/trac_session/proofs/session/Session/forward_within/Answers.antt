use Rattle.std.proofs.Common.{arith}
use Rattle.trac_rules.specs.Session.{no_goal}
use Rattle.trac_session.proofs.Heavy.{light_further, within_heavy, within_refused, within_whole}
use Rattle.trac_session.proofs.session.Session.forward_within.Goals as goal

pub returns-in-Err : goal.returns-in-Err
returns-in-Err g c =
    rw c.refused.ensures
    (within_refused c.args.most no_goal c.args.n c.loop-done.done c.args.self.now c.loop-done.self c.step.new.self c.in-Err.refusal c.loop-done.invariant.1 c.loop-done-test.true c.in-Err.ensures)

pub returns-then-weight-most : goal.returns-then-weight-most
returns-then-weight-most g c =
    within_heavy c.args.most c.args.n c.loop-done.done c.args.self.now c.loop-done.self c.step.new.self
    c.loop-done.invariant.1 c.loop-done-test.true c.in_default.ensures (omega (arith, c.weight.ensures.together))

pub loop-done-preserved : goal.loop-done-preserved
loop-done-preserved g c = (
  omega (arith, c.pass_plain-done.ensures.most),
  light_further c.args.most c.loop-done.done c.pass_plain-done.result c.args.self.now c.loop-done.self c.step.new.self c.pass_plain-done.new.self
      c.loop-done.invariant.1 c.in_default.ensures (omega (arith, c.weight.ensures.together)) c.pass_plain-done.ensures.passed c.pass_plain-done.ensures.weight,
)

pub returns : goal.returns
returns g c = within_whole c.args.most no_goal c.args.n c.loop-done.done c.args.self.now c.loop-done.self c.loop-done.invariant.1 (omega arith)
