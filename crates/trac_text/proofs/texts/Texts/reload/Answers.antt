use Rattle.std.proofs.Common.{ap, arith}
use Rattle.trac_rules.specs.Limits.{argument_bytes}
use Rattle.trac_text.specs.Neutral.{Neutral}
use Rattle.trac_text.proofs.Holding.{can_hold_now}
use Rattle.trac_text.proofs.texts.Texts.reload.Goals as goal

pub kept_of-requires : goal.kept_of-requires
kept_of-requires g c = omega (arith, (can_hold_now (record { sound = c.self.invariant; view = c.self.view_is })).text_limit, ap (λ (n : Neutral). argument_bytes n.frames) c.neutral.ensures)
