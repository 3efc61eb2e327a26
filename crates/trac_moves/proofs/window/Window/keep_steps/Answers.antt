use Rattle.std.proofs.Common.{arith}
use Rattle.trac_moves.proofs.Kept.{kept}
use Rattle.trac_moves.proofs.Standing.{over_kept}
use Rattle.trac_moves.proofs.window.Window.keep_steps.Goals as goal

pub returns-clause-output : goal.returns-clause-output
returns-clause-output g c input text steps w =
    kept c.args.keep _ _ _ _ _ _ input text steps w c.forget_before-released.ensures.kept
    (omega (arith, c.saturating_add-self-2.ensures, c.saturating_sub-steps.ensures, c.len.ensures.count))
    (omega (arith, c.saturating_add-self.ensures, c.forget_before-released.ensures.printed))

pub returns-clause-over : goal.returns-clause-over
returns-clause-over g c = over_kept c.args.keep _ _ c.forget_before-released.ensures.kept (returns-clause-output g c)
