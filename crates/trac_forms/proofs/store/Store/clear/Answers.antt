use Rattle.std.proofs.Common.{arith}
use Rattle.trac_forms.proofs.Tables.{cleared}
use Rattle.trac_forms.proofs.store.Store.clear.Goals as goal

pub invariant_of-self : goal.invariant_of-self
invariant_of-self g c = record {
  parted = c.take_values.ensures.parted;
  forms_recent = omega (arith, c.self.invariant.forms_recent, c.take_values.ensures.none);
  within = omega (arith, c.self.invariant.within, c.take_values.ensures.long);
}

pub returns : goal.returns
returns g c = cleared c.self.inside.table.entries _ c.args.self.now c.self.view_is _ c.take_values.ensures.taken
