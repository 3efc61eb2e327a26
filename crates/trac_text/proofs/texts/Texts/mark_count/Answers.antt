use Rattle.std.proofs.Common.{ap, length, arith}
use Rattle.trac_text.proofs.Holding.{held_now, mark_count}
use Rattle.trac_text.proofs.texts.Texts.mark_count.Goals as goal

pub returns : goal.returns
returns g c = omega (arith, ap length c.left.ensures.left, mark_count (held_now (record { sound = c.self.invariant; view = c.self.view_is })))
