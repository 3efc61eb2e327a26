use Rattle.std.proofs.Common.{ℕ, ap, length, subst, sym, arith}
use Rattle.trac_gap.specs.Window.{Window}
use Rattle.trac_rules.specs.Proper.{IsProperStorage}
use Rattle.trac_rules.proofs.ProperStates.{initial_proper}
use Rattle.trac_forms.specs.Stored.{storage_in}
use Rattle.trac_step.proofs.engine.Core.new.Goals as goal

pub invariant_of-result : goal.invariant_of-result
invariant_of-result g c = record {
  storage_is = subst IsProperStorage (ap storage_in (sym c.new-2.ensures)) initial_proper.storage;
  output_limit = omega (arith, ap (λ (w : Window ℕ). length w.items) c.new-3.ensures);
}
