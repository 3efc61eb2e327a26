use Rattle.std.proofs.Common.{arith}
use Rattle.trac_follow_step.proofs.CallsTold.{functions_left}
use Rattle.trac_follow_step.proofs.called.innermost.Goals as goal

pub returns : goal.returns
returns g c = λ call is. omega (arith, c.saturating_sub.ensures, c.depth.ensures, functions_left c.args.before.now.state call is)
