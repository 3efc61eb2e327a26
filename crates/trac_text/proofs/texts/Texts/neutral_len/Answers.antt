use Rattle.std.proofs.Common.{ap, length, arith}
use Rattle.trac_text.proofs.Holding.{held_now, neutral_bytes}
use Rattle.trac_text.proofs.texts.Texts.neutral_len.Goals as goal

pub returns : goal.returns
returns g c = omega (arith, ap length c.left.ensures.left, neutral_bytes (held_now (record { sound = c.self.invariant; view = c.self.view_is })))
