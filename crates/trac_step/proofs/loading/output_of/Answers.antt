use Rattle.std.proofs.Common.{ℕ, ap, arith}
use Rattle.trac_gap.specs.Window.{Window}
use Rattle.trac_step.proofs.loading.output_of.Goals as goal

pub returns-clause-room : goal.returns-clause-room
returns-clause-room g c = omega (arith, c.put.ensures.grows, ap (λ (w : Window ℕ). w.capacity) c.in_ok-output.ensures.made)
