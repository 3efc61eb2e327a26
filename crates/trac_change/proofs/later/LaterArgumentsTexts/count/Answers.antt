use Rattle.std.proofs.Common.{arith, length, ap}
use Rattle.std.proofs.lemmas.List.{length-drop}
use Rattle.trac_change.proofs.later.LaterArgumentsTexts.count.Goals as goal

pub returns : goal.returns
returns c = omega (arith, c.saturating_sub.ensures, c.count.ensures, length-drop c.self.inside.passed c.self.inside.args.now, ap length c.self.view_is)
