use Rattle.std.proofs.Common.{length, ap, arith}
use Rattle.trac_follow_step.proofs.Staying.{call_leaves}
use Rattle.trac_follow_step.proofs.running.bytes_left.Goals as goal

pub overflow_sub-result : goal.overflow_sub-result
overflow_sub-result g c =
    let left = call_leaves c.args.before.now.state c.in-Some.field-0-0 c.in-Some.arguments c.in-Some.ensures in
    omega (arith, left, c.neutral_len.ensures, ap (λ text. length text) c.joined.ensures)

pub returns-in-Some : goal.returns-in-Some
returns-in-Some g c =
    let left = call_leaves c.args.before.now.state c.in-Some.field-0-0 c.in-Some.arguments c.in-Some.ensures in
    omega (arith, left, c.neutral_len.ensures, ap (λ text. length text) c.joined.ensures)
