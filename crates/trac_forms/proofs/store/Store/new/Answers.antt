use Rattle.std.proofs.Common.{arith, [], List, ℕ}
use Rattle.trac_rules.specs.Form.{Form}
use Rattle.trac_forms.proofs.Parted.{parted_none}
use Rattle.trac_forms.proofs.store.Store.new.Goals as goal

pub invariant_of-result : goal.invariant_of-result
invariant_of-result g c = record { parted = parted_none {K = List ℕ} {X = Form} [] c.new.result.entries c.new.ensures.empty; forms_recent = omega arith; within = omega arith }
