use Rattle.std.proofs.Common.{◌-◌, ◌<◌, ◌≤◌, length, ap, subst, ◌∙◌, arith}
use Rattle.trac_follow_step.proofs.Found.{argument_bare, argument_stands, function_bare, past_none, past_some}
use Rattle.trac_follow_step.proofs.standing.argument_len.Goals as goal

pub returns-in-Some-clause-there : goal.returns-in-Some-clause-there
returns-in-Some-clause-there g c = λ byte less.
    argument_stands c.args.machine.now.state c.args.function c.args.argument byte c.in-Some.field-0-0 c.in-Some.arguments c.in-Some.ensures
    (subst (λ text. byte < length text) c.get.ensures less)

pub returns-in-Some-clause-bare : goal.returns-in-Some-clause-bare
returns-in-Some-clause-bare g c = λ byte past.
    argument_bare c.args.machine.now.state c.args.function c.args.argument byte c.in-Some.field-0-0 c.in-Some.arguments c.in-Some.ensures
    (subst (λ text. length text ≤ byte) c.get.ensures past)

pub returns-in-Some-clause-past : goal.returns-in-Some-clause-past
returns-in-Some-clause-past g c = λ byte depth n at.
    ap (λ text. byte - length text) c.get.ensures
    ∙ past_some c.args.machine.now.state c.args.function c.args.argument byte depth n c.in-Some.field-0-0 c.in-Some.arguments c.in-Some.ensures at

pub returns-in-None-clause-bare : goal.returns-in-None-clause-bare
returns-in-None-clause-bare g c = λ byte past. function_bare c.args.machine.now.state c.args.function c.args.argument byte c.in-None.ensures

pub returns-in-None-clause-past : goal.returns-in-None-clause-past
returns-in-None-clause-past g c = λ byte depth n at.
    let same = past_none c.args.machine.now.state c.args.function c.args.argument byte depth n c.in-None.ensures at in
    omega (arith, same)
